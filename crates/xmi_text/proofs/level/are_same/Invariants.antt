use Rattle.std.proofs.Common.{◌≡◌, drop}
use Rattle.xmi_text.proofs.level.are_same.Given as goal

-- what is left decides it
abbrev pub invariant-loop-i : goal.invariant-loop-i
invariant-loop-i l = drop l.i l.left ≡ drop l.i l.right → l.left ≡ l.right
