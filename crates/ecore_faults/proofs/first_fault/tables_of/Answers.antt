use Rattle.std.proofs.Common.{sym, subst}
use Rattle.ecore_outline.specs.Entries.{entries_of}
use Rattle.ecore_rows.specs.Walks.{LeadWithin}
use Rattle.ecore_rows.proofs.SuperNumbers.{number_within}
use Rattle.ecore_faults.proofs.first_fault.tables_of.Goals as goal

pub returns : goal.returns
returns c = record {
  supers = c.in_ok-supers.ensures;
  leads = subst LeadWithin (sym c.in_ok-supers.ensures) (number_within (entries_of c.args.file.now));
  features = c.in_ok-features.ensures;
}
