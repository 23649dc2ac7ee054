use Rattle.std.proofs.Common.{sym, subst}
use Rattle.ecore_rows.specs.Walks.{LeadWithin}
use Rattle.ecore_faults.proofs.first_fault.cycle_fault.Goals as goal

pub is_own_super-requires-clause-leads : goal.is_own_super-requires-clause-leads
is_own_super-requires-clause-leads c = subst LeadWithin (sym c.deref.ensures.value) c.requires.tables.leads
