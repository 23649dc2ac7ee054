use Rattle.std.proofs.Common.{ℕ, ◌<◌, get_or}
use Rattle.atl_base.specs.declared.numbers.ObjId.{ObjId}
use Rattle.model_store.proofs.roots.rise.Given as goal

-- they rise so far
abbrev pub invariant-loop-at : goal.invariant-loop-at
invariant-loop-at l = (i j : ℕ) (d : ObjId) → i < j → j < l.at → (get_or l.roots i d).0 < (get_or l.roots j d).0
