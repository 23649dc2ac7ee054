use Rattle.std.proofs.Common.{◌≡◌, drop, map}
use Rattle.std.specs.Prelude.{find, is_none}
use Rattle.ecore_names.specs.References.{class_named}
use Rattle.ecore_outline.specs.Entries.{entries_of}
use Rattle.ecore_faults.proofs.type_fault.no_class.Given as goal

abbrev pub invariant-loop-i : goal.invariant-loop-i
invariant-loop-i l =
    find (λ w. is_none (class_named (entries_of l.file) w)) (map (λ w. w.now) (drop l.i l.words))
    ≡ find (λ w. is_none (class_named (entries_of l.file) w)) (map (λ w. w.now) l.words)
