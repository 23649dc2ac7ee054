-- A table of where each object is contained, by number.
use Rattle.std.specs.Prelude.{◌≡◌, ℕ, ◌<◌, List, length, slice_index_or, Option, Some, None}
use Rattle.atl_base.specs.declared.numbers.FeatId.{FeatId}
use Rattle.atl_base.specs.declared.numbers.ObjId.{ObjId}
use Rattle.model_store.specs.Contents.{Contents, holder}

pub record AreHolders (m : Contents) (holders : List (Option (ObjId × FeatId))) : Type 0 where
  pub size : length holders ≡ length m.objects
  pub each : (k : ℕ) → k < length holders → slice_index_or holders k None ≡ holder m (record { 0 = k })

-- a container and its feature
abbrev pub pair_with : ObjId → FeatId → ObjId × FeatId
pair_with o f = (o, f)

-- what is known, or else another answer
abbrev pub or_else : Option (ObjId × FeatId) → Option (ObjId × FeatId) → Option (ObjId × FeatId)
or_else None other = other
or_else (Some at) other = Some at
