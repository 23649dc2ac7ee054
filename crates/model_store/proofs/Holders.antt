-- The search for the slot that contains an object, step by step.
use Rattle.std.proofs.Common.{◌≡◌, ℕ, ◌+◌, ◌<◌, Bool, false, List, [], ◌∷◌, length, drop, sym, ap, ◌∙◌, Option, Some, None, cond}
use Rattle.std.specs.Prelude.{slice_index_or, if◌then◌else◌}
use Rattle.std.specs.Option.{option_map_or}
use Rattle.std.proofs.lemmas.List.{drop_more, get_or_default}
use Rattle.atl_base.specs.declared.numbers.FeatId.{FeatId}
use Rattle.atl_base.specs.declared.numbers.ObjId.{ObjId}
use Rattle.ecore_meta.specs.declared.parts.Parts.{Parts}
use Rattle.model_store.specs.declared.parts.Cellv.{Cellv}
use Rattle.model_store.specs.declared.parts.Object.{Object}
use Rattle.model_store.specs.Contents.{IsShaped, AreShaped, contains, holds, holding_feature, holding_place, holder_from}

module _ (meta : Parts) (p : ObjId) where
  -- the answer at a feature and its slot
  abbrev pub holds_here : FeatId → List Cellv → Bool
  holds_here f cells = if contains meta f then holds p cells else false

  pub holding_at : (fs : List FeatId) (slots : List (List Cellv)) (at : ℕ) (d : FeatId) → at < length fs → at < length slots
      → holding_feature meta p (drop at fs) (drop at slots) ≡ cond (holds_here (slice_index_or fs at d) (slice_index_or slots at [])) (Some (slice_index_or fs at d)) (holding_feature meta p (drop (at + 1) fs) (drop (at + 1) slots))
  holding_at fs slots at d h k =
      ap (λ xs. holding_feature meta p xs (drop at slots)) (drop_more fs at d h)
      ∙ ap (holding_feature meta p (slice_index_or fs at d ∷ drop (at + 1) fs)) (drop_more slots at [] k)

  -- past a slot that does not contain it
  pub holding_more : (fs : List FeatId) (slots : List (List Cellv)) (at : ℕ) (d : FeatId) (cells : List Cellv) (here : Bool) → at < length fs → at < length slots
      → cells ≡ slice_index_or slots at cells → here ≡ holds_here (slice_index_or fs at d) cells → here ≡ false
      → holding_feature meta p (drop (at + 1) fs) (drop (at + 1) slots) ≡ holding_feature meta p (drop at fs) (drop at slots)
  holding_more fs slots at d cells here h k e is missing =
      let same : cells ≡ slice_index_or slots at [] = e ∙ get_or_default slots at cells [] k in
      let missed : holds_here (slice_index_or fs at d) (slice_index_or slots at []) ≡ false = ap (holds_here (slice_index_or fs at d)) (sym same) ∙ sym is ∙ missing in
      sym (holding_at fs slots at d h k ∙ ap (λ b. cond b (Some (slice_index_or fs at d)) (holding_feature meta p (drop (at + 1) fs) (drop (at + 1) slots))) missed)

  pub holder_at : (objects : List (Option Object)) (at : ℕ) (d : Option Object) → at < length objects
      → holder_from meta p at (drop at objects) ≡ option_map_or (λ f. Some (record { 0 = at }, f)) (holding_place meta p (slice_index_or objects at d)) (holder_from meta p (at + 1) (drop (at + 1) objects))
  holder_at objects at d h = ap (holder_from meta p at) (drop_more objects at d h)

  -- past a place whose object does not contain it
  pub holder_more : (objects : List (Option Object)) (at : ℕ) (place : Option Object) (found : Option FeatId) → at < length objects → place ≡ slice_index_or objects at place
      → found ≡ holding_place meta p place → found ≡ None → holder_from meta p (at + 1) (drop (at + 1) objects) ≡ holder_from meta p at (drop at objects)
  holder_more objects at place found h e is missing =
      sym (holder_at objects at place h
      ∙ ap (λ x. option_map_or (λ f. Some (record { 0 = at }, f)) (holding_place meta p x) (holder_from meta p (at + 1) (drop (at + 1) objects))) (sym e)
      ∙ ap (λ r. option_map_or (λ f. Some (record { 0 = at }, f)) r (holder_from meta p (at + 1) (drop (at + 1) objects))) (sym is ∙ missing))

pub shaped_at : (meta : Parts) (objects : List (Option Object)) (n : ℕ) (x : Option Object) (object : Object) → AreShaped meta objects → n < length objects
    → x ≡ slice_index_or objects n x → x ≡ Some object → IsShaped meta object
shaped_at meta objects n x object shaped h e is = shaped n object (get_or_default objects n None x h ∙ sym e ∙ is)
