-- The draft of a model's file, whose references are not yet followed: its objects, roots, attributes and contents are the model's, with
-- the new numbers.
use Rattle.std.proofs.Common.{◌≡◌, ◌≤◌, List, [], ◌∷◌, ◌++◌, length, map, refl, sym, ap, ◌∙◌, subst, append-nil, arith, Some}
use Rattle.std.specs.Prelude.{◌&&◌, ◌||◌, not, Bool, true, false, Contains, if◌then◌else◌}
use Rattle.atl_base.specs.declared.numbers.FeatId.{FeatId}
use Rattle.atl_base.specs.declared.numbers.ObjId.{ObjId}
use Rattle.ecore_meta.specs.Inheritance.{features}
use Rattle.model_store.specs.declared.parts.Cellv.{Cellv}
use Rattle.model_store.specs.declared.parts.Object.{Object}
use Rattle.model_store.specs.Contents.{Contents, contains, is_contained_by, is_many, object_at, refers, slot}
use Rattle.model_store.specs.Order.{HasNoCycle}
use Rattle.model_store.specs.Texts.{value_text}
use Rattle.model_store.specs.Valid.{IsValid}
use Rattle.model_store.specs.Writes.{initial}
use Rattle.xmi_write.specs.Values.{is_untouched, joined, may_be_attribute}
use Rattle.xmi_links.specs.References.{attribute_values, child_values, children_from, drafted_slot, or_initial, value_of}
use Rattle.xmi_round_trip.specs.Renumbered.{number, renumbered_value}
use Rattle.xmi_round_trip.specs.RoundTrip.{IsInBounds}
use Rattle.xmi_round_trip.proofs.Drafts.{IsDrafted}
use Rattle.xmi_round_trip.proofs.Filed.{IsFiled, IsOrdered, file, object_entry}
use Rattle.xmi_round_trip.proofs.DraftedAttributes.{its_attribute, no_attribute}
use Rattle.xmi_round_trip.proofs.DraftedContents.{contents_drafted}
use Rattle.xmi_round_trip.proofs.DraftedObjects.{objects_drafted, roots_drafted}
use Rattle.xmi_round_trip.proofs.Parts.{has_it, slot_fits}
use Rattle.xmi_round_trip.proofs.DraftedSame.{same_values}
use Rattle.xmi_round_trip.proofs.DraftedValues.{cell_back, many_values, no_values}
use Rattle.xmi_round_trip.proofs.Defaults.{many_initial, empty_touched}

module _ (m : Contents) (valid : IsValid m) (bounds : IsInBounds m) (known : IsOrdered m) (filed : IsFiled m) (o : ObjId) (object : Object) (is : object_at m.objects o ≡ Some object) (f : FeatId)
    (sees : Contains (features m.meta.classes object.class) f) where
  -- ## Attributes

  module _ (outside : contains m.meta f ≡ false) (plain : refers m.meta f ≡ false) where
    -- what the attributes of the element give
    abbrev attributes : List Cellv
    attributes = attribute_values m.meta (file m) (object_entry m o) f

    -- what its child elements give
    abbrev children : List Cellv
    children = child_values m.meta (file m) (number m o) f (file m)

    -- an attribute stands in an XML attribute where it is single-valued
    may_be : (b : Bool) → is_many m.meta f ≡ b → may_be_attribute m.meta f ≡ not b
    may_be b e = ap (λ r. if r then not (contains m.meta f || is_contained_by m.meta f) else not (is_many m.meta f)) plain ∙ ap not e

    -- where nothing is there at first, what is given is what is read
    or_first : (cells : List Cellv) → initial m.meta f ≡ [] → or_initial m.meta (file m) f cells ≡ cells
    or_first [] e = e
    or_first (v ∷ cells) e = refl

    -- a many-valued attribute is read from child elements
    many_drafted : is_many m.meta f ≡ true → or_initial m.meta (file m) f (attributes ++ children) ≡ slot m o f
    many_drafted many =
        ap (λ xs. or_initial m.meta (file m) f (xs ++ children)) (no_attribute m valid known o object is (file m) f (ap (λ b. b && not (is_untouched m.meta f (slot m o f))) (may_be true many)))
        ∙ ap (or_initial m.meta (file m) f) (many_values m valid bounds known filed o object is f sees outside plain many)
        ∙ or_first (slot m o f) (many_initial m.meta f many)

    module _ (single : is_many m.meta f ≡ false) where
      -- what is left out is at its default
      untouched_drafted : is_untouched m.meta f (slot m o f) ≡ true → or_initial m.meta (file m) f attributes ≡ slot m o f
      untouched_drafted u =
          ap (or_initial m.meta (file m) f) (no_attribute m valid known o object is (file m) f (ap (λ b. b && not (is_untouched m.meta f (slot m o f))) (may_be false single) ∙ ap not u))
          ∙ sym (same_values (slot m o f) (initial m.meta f) u)

      -- what is not stands in an attribute
      attribute_there : is_untouched m.meta f (slot m o f) ≡ false → attributes ≡ value_of m.meta (file m) f (joined (map (value_text m f) (slot m o f)))
      attribute_there u = its_attribute m valid known o object is (file m) f (ap (λ b. b && not (is_untouched m.meta f (slot m o f))) (may_be false single) ∙ ap not u) sees

      -- and that holds the one value of the slot
      touched_drafted : is_untouched m.meta f (slot m o f) ≡ false → or_initial m.meta (file m) f attributes ≡ slot m o f
      touched_drafted u = ap (or_initial m.meta (file m) f) (attribute_there u) ∙ on (slot m o f) refl
        where
          on : (cells : List Cellv) → slot m o f ≡ cells → or_initial m.meta (file m) f (value_of m.meta (file m) f (joined (map (value_text m f) cells))) ≡ cells
          on [] e = absurd (valid.model.defaults o f (has_it m valid o object is f sees) plain single (empty_touched m.meta f (ap (is_untouched m.meta f) (sym e) ∙ u)) e)
          on (v ∷ []) e =
              ap (λ text. or_initial m.meta (file m) f (value_of m.meta (file m) f text)) (append-nil (value_text m f v))
              ∙ ap (or_initial m.meta (file m) f) (cell_back m valid bounds known filed o object is f sees outside plain v (subst (λ (xs : List Cellv). Contains xs v) (sym e) (0, omega arith, refl)))
          on (v ∷ w ∷ cells) e = absurd (let short : length (slot m o f) ≤ 1 = (slot_fits m valid o object is f sees).single single in omega (arith, short, ap length e))

      -- a single-valued attribute
      single_drafted : or_initial m.meta (file m) f (attributes ++ children) ≡ slot m o f
      single_drafted =
          ap (λ xs. or_initial m.meta (file m) f (attributes ++ xs)) (no_values m valid bounds known filed o object is f sees outside plain single)
          ∙ ap (or_initial m.meta (file m) f) (append-nil attributes)
          ∙ on (is_untouched m.meta f (slot m o f)) refl
        where
          on : (b : Bool) → is_untouched m.meta f (slot m o f) ≡ b → or_initial m.meta (file m) f attributes ≡ slot m o f
          on true u = untouched_drafted u
          on false u = touched_drafted u

    -- any attribute
    attribute_drafted : or_initial m.meta (file m) f (attributes ++ children) ≡ slot m o f
    attribute_drafted = on (is_many m.meta f) refl
      where
        on : (b : Bool) → is_many m.meta f ≡ b → or_initial m.meta (file m) f (attributes ++ children) ≡ slot m o f
        on true e = many_drafted e
        on false e = single_drafted e

  -- ## Each slot

  -- any feature that the object has
  slot_drafted : drafted_slot m.meta (file m) (number m o) (object_entry m o) f ≡ (if contains m.meta f then map (renumbered_value (number m)) (slot m o f) else if refers m.meta f then [] else slot m o f)
  slot_drafted = on (contains m.meta f) refl (refers m.meta f) refl
    where
      found : Bool → Bool → List Cellv
      found a b = if a then children_from m.meta (file m) 0 (number m o) f (file m) else if b then [] else or_initial m.meta (file m) f (attribute_values m.meta (file m) (object_entry m o) f ++ child_values m.meta (file m) (number m o) f (file m))

      on : (a : Bool) → contains m.meta f ≡ a → (b : Bool) → refers m.meta f ≡ b → found a b ≡ (if a then map (renumbered_value (number m)) (slot m o f) else if b then [] else slot m o f)
      on true i b j = contents_drafted m valid known filed o object is f sees i
      on false i true j = refl
      on false i false j = attribute_drafted i j

-- what is drafted of a file is what its model holds
pub drafted : (m : Contents) → IsValid m → HasNoCycle m → IsInBounds m → IsOrdered m → IsFiled m → IsDrafted m
drafted m valid acyclic bounds known filed = record {
  roots = roots_drafted m known filed;
  objects = λ S. objects_drafted m S known filed;
  slots = λ o object f is sees. slot_drafted m valid bounds known filed o object is f sees;
}
