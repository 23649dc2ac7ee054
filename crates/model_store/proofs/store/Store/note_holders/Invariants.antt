use Rattle.std.proofs.Common.{◌≡◌, ◌<◌, ℕ, length, drop, None}
use Rattle.std.specs.Prelude.{slice_index_or}
use Rattle.model_store.specs.Contents.{holder_from}
use Rattle.model_store.specs.HolderTables.{or_else}
use Rattle.model_store.proofs.store.Store.note_holders.Given as goal

-- what is noted, or else found in the objects that are left
abbrev pub invariant-loop-at : goal.invariant-loop-at
invariant-loop-at l = (k : ℕ) → k < length l.initial.holders
    → or_else (slice_index_or l.holders k None) (holder_from l.self-inside.meta.value (record { 0 = k }) l.at (drop l.at l.self-inside.objects.items))
    ≡ holder_from l.self-inside.meta.value (record { 0 = k }) 0 l.self-inside.objects.items
