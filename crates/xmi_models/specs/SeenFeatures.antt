-- What the code keeps of the elements before one: which features of which objects have a value there.
use Rattle.std.specs.Prelude.{◌≡◌, ℕ, ◌==◌, ◌&&◌, ◌||◌, Bool, List}
use Rattle.std.specs.List.{list_any}
use Rattle.std.specs.HashSet.{contains_by}
use Rattle.atl_base.specs.declared.numbers.FeatId.{FeatId}
use Rattle.ecore_meta.specs.declared.parts.Parts.{Parts}
use Rattle.xmi_models.specs.declared.seen.Seen.{Seen}
use Rattle.xmi_models.specs.Outline.{Entry}
use Rattle.xmi_models.specs.Faults.{gives, has_attribute}
use Rattle.xmi_models.specs.Entries.{object_no}

abbrev pub feature_no : ℕ → FeatId
feature_no f = record { 0 = f }

-- a feature of an object is kept
abbrev pub is_given : Seen → ℕ → ℕ → Bool
is_given s o f = contains_by (λ k. o == k.0 && f == k.1) s.given

-- an element gives a value of it, or an attribute of the object does
abbrev pub has_value : Parts → List Entry → ℕ → ℕ → Bool
has_value meta before o f = list_any (gives (object_no o) (feature_no f)) before || has_attribute meta before (object_no o) (feature_no f)

abbrev pub AreSeen : Parts → List Entry → Seen → Type 0
AreSeen meta before s = (o f : ℕ) → is_given s o f ≡ has_value meta before o f
