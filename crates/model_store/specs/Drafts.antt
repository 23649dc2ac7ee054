-- A write to a reference while it is made. The slots are changed where they stand, with a journal from which the old values
-- can be put back; what the roots go through is noted, and is done at the end.
use Rattle.std.specs.Prelude.{ℕ, ◌-◌, List, [], ◌∷◌, length, take, slice_set, Option, Some, None, if◌then◌else◌}
use Rattle.std.specs.Option.{option_map_or}
use Rattle.atl_base.specs.declared.numbers.FeatId.{FeatId}
use Rattle.atl_base.specs.declared.numbers.ObjId.{ObjId}
use Rattle.ecore_meta.specs.declared.parts.Parts.{Parts}
use Rattle.model_store.specs.declared.draft.Change.{Change}
use Rattle.model_store.specs.declared.draft.Change.TheVariants.{Replaced, Appended}
use Rattle.model_store.specs.declared.draft.Draft.{Draft}
use Rattle.model_store.specs.declared.roots.RootStep.{RootStep}
use Rattle.model_store.specs.declared.roots.RootStep.TheVariants.{Freed, TakenIn}
use Rattle.model_store.specs.Contents.{Contents, contains, opposite, set_slot, slot}
use Rattle.model_store.specs.HolderTables.{AreHolders}
use Rattle.model_store.specs.Valid.{IsValid}
use Rattle.model_store.specs.Writes.{with_root, without_root}

-- the roots after steps
abbrev pub settled : List RootStep → List ObjId → List ObjId
settled [] roots = roots
settled (Freed o ∷ steps) roots = settled steps (with_root o roots)
settled (TakenIn o ∷ steps) roots = settled steps (without_root o roots)

-- before a change
abbrev pub undo : Change → Contents → Contents
undo (Replaced o f cells) m = set_slot m o f cells
undo (Appended o f) m = set_slot m o f (take (length (slot m o f) - 1) (slot m o f))

-- before all of them: the last is undone first
abbrev pub undone : List Change → Contents → Contents
undone [] m = m
undone (change ∷ changes) m = undo change (undone changes m)

-- what has been reached
abbrev pub current : Draft → Contents
current d = record d.store { roots = settled d.pending.items d.store.roots }

-- what is gone back to where memory is refused, and how many places the table of containers has
abbrev pub restored : Draft → Contents × ℕ
restored d = (undone d.journal.items d.store, length d.holders.items)

-- A model, and the table of its containers.
pub record IsReady (m : Contents) (holders : List (Option (ObjId × FeatId))) : Type 0 where
  pub valid : IsValid m
  pub table : AreHolders m holders

-- the table after the pair of q in o.f is gone, and after it has come
abbrev pub without_ends : Parts → ObjId → FeatId → ObjId → List (Option (ObjId × FeatId)) → List (Option (ObjId × FeatId))
without_ends meta o f q holders = if contains meta f
    then slice_set holders q.0 None
    else option_map_or (λ g. if contains meta g then slice_set holders o.0 None else holders) (opposite meta f) holders

abbrev pub with_ends : Parts → ObjId → FeatId → ObjId → List (Option (ObjId × FeatId)) → List (Option (ObjId × FeatId))
with_ends meta o f q holders = if contains meta f
    then slice_set holders q.0 (Some (o, f))
    else option_map_or (λ g. if contains meta g then slice_set holders o.0 (Some (q, g)) else holders) (opposite meta f) holders
