use Rattle.std.proofs.Common.{◌≡◌, ◌<◌, ℕ, length, drop, None}
use Rattle.std.specs.Prelude.{slice_index_or}
use Rattle.model_store.specs.Contents.{holds}
use Rattle.model_store.specs.HolderTables.{or_else}
use Rattle.model_store.proofs.Noting.{where_true}
use Rattle.model_store.proofs.containing.note_slot.Given as goal

-- what is noted, or else found in the values that are left
abbrev pub invariant-loop-value : goal.invariant-loop-value
invariant-loop-value l = (k : ℕ) → k < length l.initial.holders
    → or_else (slice_index_or l.holders k None) (where_true (l.o, l.f) (record { 0 = k }) (holds (record { 0 = k }) (drop l.value-index l.cells)))
    ≡ or_else (slice_index_or l.initial.holders k None) (where_true (l.o, l.f) (record { 0 = k }) (holds (record { 0 = k }) l.cells))
