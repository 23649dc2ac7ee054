use Rattle.std.proofs.Common.{◌≡◌, ◌<◌, ℕ, length, drop, None}
use Rattle.std.specs.Prelude.{slice_index_or}
use Rattle.model_store.specs.HolderTables.{or_else}
use Rattle.model_store.proofs.Noting.{by_features}
use Rattle.model_store.proofs.containing.note_object.Given as goal

-- what is noted, or else found by the features that are left
abbrev pub invariant-loop-at : goal.invariant-loop-at
invariant-loop-at l = (k : ℕ) → k < length l.initial.holders
    → or_else (slice_index_or l.holders k None) (by_features l.meta l.o (record { 0 = k }) (drop l.at l.features) (drop l.at l.slots))
    ≡ or_else (slice_index_or l.initial.holders k None) (by_features l.meta l.o (record { 0 = k }) l.features l.slots)
