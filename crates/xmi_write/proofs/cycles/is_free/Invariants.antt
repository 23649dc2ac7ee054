use Rattle.std.proofs.Common.{◌≡◌, take, None}
use Rattle.std.specs.Prelude.{All}
use Rattle.xmi_write.proofs.cycles.is_free.Given as goal

-- nothing so far
abbrev pub invariant-loop-o : goal.invariant-loop-o
invariant-loop-o l = All (λ o. o ≡ None) (take l.o-index l.above)
