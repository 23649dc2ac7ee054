use Rattle.std.proofs.Common.{◌≡◌, drop}
use Rattle.std.specs.Prelude.{find}
use Rattle.ecore_faults.specs.Faults.{is_bad_number}
use Rattle.ecore_outline.specs.Entries.{entries_of}
use Rattle.ecore_rows.specs.CodeRows.{typed_of}
use Rattle.ecore_faults.proofs.number_fault.number_fault.Given as goal

abbrev pub invariant-loop-i : goal.invariant-loop-i
invariant-loop-i l = find (is_bad_number (entries_of l.file) l.role (typed_of l.typed)) (drop l.i l.attributes) ≡ find (is_bad_number (entries_of l.file) l.role (typed_of l.typed)) l.attributes
