use Rattle.std.proofs.Common.{◌≡◌, drop}
use Rattle.xmi_write.specs.Values.{are_same}
use Rattle.xmi_write.proofs.values.are_same.Given as goal

-- those before are the same
abbrev pub invariant-loop-at : goal.invariant-loop-at
invariant-loop-at l = are_same l.a l.b ≡ are_same (drop l.at l.a) (drop l.at l.b)
