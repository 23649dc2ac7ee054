use Rattle.std.proofs.Common.{ℕ, ◌<◌, get_or}
use Rattle.atl_base.specs.declared.numbers.ObjId.{ObjId}
use Rattle.model_store.proofs.Rising.{RisesAt}
use Rattle.model_store.proofs.tests.rises.Given as goal

-- the objects so far
abbrev pub invariant-loop-n : goal.invariant-loop-n
invariant-loop-n l = (k : ℕ) → k < l.n → RisesAt l.model k

-- and the contents so far
abbrev pub invariant-loop-q : goal.invariant-loop-q
invariant-loop-q l = (i : ℕ) (d : ObjId) → i < l.q-index → l.n < (get_or l.q-items i d).0
