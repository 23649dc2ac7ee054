use Rattle.std.proofs.Common.{◌≡◌, drop, map}
use Rattle.ecore_rows.specs.Rows.{foreign_word}
use Rattle.ecore_faults.proofs.type_fault.foreign_word.Given as goal

abbrev pub invariant-loop-i : goal.invariant-loop-i
invariant-loop-i l = foreign_word (map (λ w. w.now) (drop l.i l.words)) ≡ foreign_word (map (λ w. w.now) l.words)
