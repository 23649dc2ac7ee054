use Rattle.std.proofs.Common.{◌≡◌, drop, map}
use Rattle.ecore_rows.specs.Rows.{or_foreign}
use Rattle.ecore_rows.proofs.typed.or_foreign.Given as goal

abbrev pub invariant-loop-i : goal.invariant-loop-i
invariant-loop-i l = or_foreign (map (λ w. w.now) (drop l.i l.words)) l.text ≡ or_foreign (map (λ w. w.now) l.words) l.text
