use Rattle.std.proofs.Common.{◌≡◌, ◌++◌, reverse, length}
use Rattle.model_store.proofs.held.moved.Given as goal

-- the slots that are left, and those that were moved, the last first
abbrev pub invariant-back : goal.invariant-back
invariant-back l = l.slots ++ reverse l.list.items ≡ l.initial.slots

abbrev pub decreases-back : goal.decreases-back
decreases-back l = length l.slots
