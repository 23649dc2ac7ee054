use Rattle.std.proofs.Common.{length, sym, ap, ◌∙◌, arith}
use Rattle.ecore_outline.specs.Entries.{entry_of, entries_of}
use Rattle.ecore_faults.specs.FoundFaults.{fault_in}
use Rattle.ecore_faults.proofs.Places.{class_inside, last_kind, number_same}
use Rattle.ecore_faults.proofs.first_fault.fault_in_file.Goals as goal

pub twice_fault-requires-clause-class : goal.twice_fault-requires-clause-class
twice_fault-requires-clause-class c = λ r. omega (
  arith,
  class_inside (entries_of c.args.file.now) (entries_of c.args.before.now) (entry_of c.args.entry.now) (entries_of c.args.behind.now) c.requires.whole r,
  c.requires.counts.classes,
  ap length c.requires.tables.supers,
)

pub cycle_fault-requires-clause-class : goal.cycle_fault-requires-clause-class
cycle_fault-requires-clause-class c = λ r. omega (
  arith,
  class_inside (entries_of c.args.file.now) (entries_of c.args.before.now) (entry_of c.args.entry.now) (entries_of c.args.behind.now) c.requires.whole r,
  c.requires.counts.classes,
  ap length c.requires.tables.supers,
)

pub returns : goal.returns
returns c = last_kind _ _ _ _ _ _
    (ap fault_in (sym c.in_default.is) ∙ c.in_ok-fault.ensures)
    (ap fault_in (sym c.in_default-2.is) ∙ c.in_ok-fault-2.ensures)
    (ap fault_in (sym c.in_default-3.is) ∙ c.in_ok-fault-3.ensures)
    (ap fault_in (sym c.in_default-opposite_fault.is) ∙ c.opposite_fault.ensures)
    (c.number_fault.ensures ∙ number_same (entries_of c.args.file.now) c.args.entry.now.role _ _ c.args.entry.now.element.now c.type_at-typed.ensures)
