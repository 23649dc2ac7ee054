use Rattle.std.proofs.Common.{sym, ap, ◌∙◌, subst}
use Rattle.ecore_outline.specs.Entries.{entries_of}
use Rattle.ecore_rows.specs.Runs.{IsRising}
use Rattle.ecore_rows.specs.CodeRows.{feature_rows_of}
use Rattle.ecore_rows.specs.Walks.{LeadWithin}
use Rattle.ecore_rows.proofs.Rising.{features_rise}
use Rattle.ecore_faults.proofs.first_fault.class_twice.Goals as goal

pub twice_seen-requires-clause-leads : goal.twice_seen-requires-clause-leads
twice_seen-requires-clause-leads c = subst LeadWithin (sym c.deref.ensures.value) c.requires.tables.leads

pub twice_seen-requires-clause-rising : goal.twice_seen-requires-clause-rising
twice_seen-requires-clause-rising c =
    subst (IsRising 0) (sym (ap feature_rows_of c.deref-2.ensures.value ∙ c.requires.tables.features)) (features_rise (entries_of c.args.file.now))
