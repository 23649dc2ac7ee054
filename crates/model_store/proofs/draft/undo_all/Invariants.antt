use Rattle.std.proofs.Common.{◌≡◌, length}
use Rattle.model_store.specs.Drafts.{undone}
use Rattle.model_store.proofs.draft.undo_all.Given as goal

-- the changes that are left give the same
abbrev pub invariant-back : goal.invariant-back
invariant-back l = undone l.changes.items l.store ≡ undone l.initial.changes.items l.initial.store

abbrev pub decreases-back : goal.decreases-back
decreases-back l = length l.changes.items
