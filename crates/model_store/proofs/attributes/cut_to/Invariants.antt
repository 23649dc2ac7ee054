use Rattle.std.proofs.Common.{◌≡◌, length, take}
use Rattle.model_store.proofs.attributes.cut_to.Given as goal

abbrev pub invariant-back : goal.invariant-back
invariant-back l = take l.n l.row ≡ take l.n l.initial.row

abbrev pub decreases-back : goal.decreases-back
decreases-back l = length l.row
