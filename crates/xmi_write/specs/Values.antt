-- Which slots are written as attributes, and how several values stand in one. (After EMF, which leaves out what is at its default.)
use Rattle.std.specs.Prelude.{ℕ, ◌&&◌, ◌||◌, not, Bool, true, false, List, [], ◌∷◌, ◌++◌, if◌then◌else◌}
use Rattle.atl_base.specs.declared.numbers.FeatId.{FeatId}
use Rattle.ecore_meta.specs.declared.parts.Parts.{Parts}
use Rattle.model_store.specs.declared.parts.Cellv.{Cellv}
use Rattle.model_store.specs.Contents.{is_many, refers, contains, is_contained_by}
use Rattle.model_store.specs.Writes.{initial, same_value}

-- a text, behind a blank unless it is the first
abbrev pub behind : Bool → List ℕ → List ℕ
behind is_first text = if is_first then text else 32 ∷ text

-- texts with a blank between
abbrev pub joined_from : Bool → List (List ℕ) → List ℕ
joined_from is_first [] = []
joined_from is_first (text ∷ texts) = behind is_first text ++ joined_from false texts

abbrev pub joined : List (List ℕ) → List ℕ
joined = joined_from true

-- the same values in the same order
abbrev pub are_same : List Cellv → List Cellv → Bool
are_same [] [] = true
are_same (v ∷ vs) (w ∷ ws) = same_value v w && are_same vs ws
are_same vs ws = false

-- whether a slot holds what it would if nothing had been written to it
abbrev pub is_untouched : Parts → FeatId → List Cellv → Bool
is_untouched meta f cells = are_same cells (initial meta f)

-- A single-valued attribute stands in an XML attribute, and so does a reference to objects elsewhere: one that neither contains
-- them nor is the other end of one that does.
abbrev pub may_be_attribute : Parts → FeatId → Bool
may_be_attribute meta f = if refers meta f then not (contains meta f || is_contained_by meta f) else not (is_many meta f)

abbrev pub is_attribute : Parts → FeatId → List Cellv → Bool
is_attribute meta f cells = may_be_attribute meta f && not (is_untouched meta f cells)
