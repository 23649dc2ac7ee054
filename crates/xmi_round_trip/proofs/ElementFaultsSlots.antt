-- What is written of a slot: which values stand in elements, and that an attribute's text is right for its feature.
use Rattle.std.proofs.Common.{◌≡◌, ℕ, ◌≤◌, List, [], ◌∷◌, length, map, refl, sym, ap, ◌∙◌, subst, append-nil, arith, Option, Some, None}
use Rattle.std.specs.Prelude.{Bool, true, false, ◌||◌, not, Contains, find, if◌then◌else◌}
use Rattle.std.specs.Option.{option_map_or}
use Rattle.std.proofs.lemmas.Bool.{and_parts, true≢false, false_from_ne_true}
use Rattle.std.proofs.lemmas.List.{length-map}
use Rattle.atl_base.specs.declared.numbers.FeatId.{FeatId}
use Rattle.atl_base.specs.declared.numbers.ObjId.{ObjId}
use Rattle.ecore_meta.specs.declared.parts.Parts.{Parts}
use Rattle.model_store.specs.declared.parts.Cellv.{Cellv}
use Rattle.model_store.specs.declared.parts.Cellv.TheVariants.{Obj}
use Rattle.model_store.specs.declared.parts.Object.{Object}
use Rattle.model_store.specs.Contents.{Contents, contains, is_contained_by, is_many, object_at, refers, slot}
use Rattle.model_store.specs.Texts.{value_text}
use Rattle.model_store.specs.Valid.{HasSlot, IsOfType, IsValid}
use Rattle.model_store.proofs.Added.{object_of_type, contains_refers}
use Rattle.model_store.proofs.Thinned.{Contains_first, Contains_none}
use Rattle.xmi_text.specs.Markup.{words_of}
use Rattle.xmi_text.specs.Fragments.{names_file}
use Rattle.xmi_models.specs.Faults.{bad_text, is_value_of, second}
use Rattle.xmi_write.specs.Values.{is_attribute, is_untouched, joined, may_be_attribute}
use Rattle.xmi_write.specs.Xmi.{Value, parts_of}
use Rattle.xmi_round_trip.specs.RoundTrip.{IsInBounds}
use Rattle.xmi_round_trip.proofs.Filed.{IsOrdered, own_parts}
use Rattle.xmi_round_trip.proofs.ElementFaultsTyped.{value_passes}
use Rattle.xmi_round_trip.proofs.Parts.{slot_typed, part_is}
use Rattle.xmi_round_trip.proofs.Paths.{no_file_named, reference_words}
use Rattle.xmi_round_trip.proofs.Defaults.{empty_touched}

-- ## Features

-- what is no reference is no containment
outside : (meta : Parts) (f : FeatId) → refers meta f ≡ false → contains meta f ≡ false
outside meta f h = false_from_ne_true (contains meta f) (λ c. true≢false (sym (contains_refers meta f c) ∙ h))

-- what stands in an attribute contains nothing
pub attribute_plain : (meta : Parts) (f : FeatId) → may_be_attribute meta f ≡ true → contains meta f ≡ false
attribute_plain meta f h = on (refers meta f) refl (contains meta f) refl h
  where
    on : (r : Bool) → refers meta f ≡ r → (c : Bool) → contains meta f ≡ c → (if r then not (c || is_contained_by meta f) else not (is_many meta f)) ≡ true → contains meta f ≡ false
    on true a false b h = b
    on true a true b h = absurd (true≢false (sym h))
    on false a c b h = outside meta f a

-- and where it is no reference it has one value
pub attribute_single : (meta : Parts) (f : FeatId) → may_be_attribute meta f ≡ true → refers meta f ≡ false → is_many meta f ≡ false
attribute_single meta f h r = on (is_many meta f) (ap (λ b. if b then not (contains meta f || is_contained_by meta f) else not (is_many meta f)) (sym r) ∙ h)
  where
    on : (b : Bool) → not b ≡ true → b ≡ false
    on true e = absurd (true≢false (sym e))
    on false e = refl

-- ## Values in elements

module _ (m : Contents) (known : IsOrdered m) where
  -- a value of an object that stands in an element
  pub record IsValueOf (o : ObjId) (f : FeatId) (v : Cellv) : Type 0 where
    pub inside : contains m.meta f ≡ false
    pub plain : refers m.meta f ≡ false
    pub many : is_many m.meta f ≡ true
    pub it : Contains (slot m o f) v

  -- each value among an object's parts is such a one
  pub value_of_part : (o : ObjId) (f : FeatId) (v : Cellv) → Contains (own_parts m o) (Value f v) → IsValueOf o f v
  value_of_part o f v h = on (object_at m.objects o) refl h
    where
      on : (x : Option Object) → object_at m.objects o ≡ x → Contains (option_map_or (parts_of m.meta) x []) (Value f v) → IsValueOf o f v
      on None e k = absurd (Contains_none (Value f v) k)
      on (Some object) e k =
          let x = part_is m o object (known.slots o object e) (Value f v) k in
          record { inside = x.1; plain = x.2; many = x.3; it = x.4 }

-- ## Texts of attributes

module _ (m : Contents) (valid : IsValid m) (bounds : IsInBounds m) (o : ObjId) (f : FeatId) where
  -- the values of the slot
  abbrev cells : List Cellv
  cells = slot m o f

  -- their texts, with blanks between
  abbrev text : List ℕ
  text = joined (map (value_text m f) cells)

  -- each value is of the feature's type
  of_type : (v : Cellv) → Contains cells v → IsOfType m f v
  of_type v h = slot_typed m valid.model o f v h

  -- the text of an attribute's value is one of its type
  pub value_good : (v : Cellv) → Contains cells v → refers m.meta f ≡ false → is_value_of m.meta f (value_text m f v) ≡ true
  value_good v h r = value_passes m f v r (of_type v h) (bounds.values o f v h)

  module _ (r : refers m.meta f ≡ true) where
    -- a reference's values are objects
    an_object : (v : Cellv) → Contains cells v → (q : ObjId) × (Obj q ≡ v)
    an_object v h = object_of_type m f v r (of_type v h)

    -- no word of the text names another file
    pub no_file : (b : Bool) → (if b then option_map_or (λ w. w ∷ []) (find names_file (words_of text)) [] else []) ≡ []
    no_file true = ap (λ x. option_map_or (λ w. w ∷ []) x []) (no_file_named m valid bounds.numbers f cells an_object)
    no_file false = refl

    -- of at most one text there is no second
    no_second : (ts : List (List ℕ)) → length ts ≤ 1 → second ts ≡ None
    no_second [] l = refl
    no_second (t ∷ []) l = refl
    no_second (t ∷ u ∷ ts) l = absurd (omega (arith, l))

    -- so the text of a single-valued reference has no second word
    one_word : is_many m.meta f ≡ false → HasSlot m o f → second (words_of text) ≡ None
    one_word single there =
        let l : length (map (value_text m f) cells) ≤ 1 = omega (arith, length-map cells (value_text m f), (valid.model.fits o f there).single single) in
        ap second (reference_words m valid bounds.numbers f cells an_object) ∙ no_second (map (value_text m f) cells) l

  -- an attribute's text is one of its type
  one_text : refers m.meta f ≡ false → is_many m.meta f ≡ false → HasSlot m o f → is_untouched m.meta f cells ≡ false → is_value_of m.meta f text ≡ true
  one_text r single there touched = on cells refl
    where
      on : (l : List Cellv) → cells ≡ l → is_value_of m.meta f (joined (map (value_text m f) l)) ≡ true
      on [] e = absurd (valid.model.defaults o f there r single (empty_touched m.meta f (ap (is_untouched m.meta f) (sym e) ∙ touched)) e)
      on (v ∷ []) e =
          ap (is_value_of m.meta f) (append-nil (value_text m f v))
          ∙ value_good v (subst (λ l. Contains l v) (sym e) (Contains_first v [])) r
      on (v ∷ w ∷ l) e = absurd (omega (arith, ap length e, (valid.model.fits o f there).single single))

  -- what stands in an attribute is right
  pub attribute_good : is_attribute m.meta f cells ≡ true → HasSlot m o f → bad_text m.meta f text ≡ None
  attribute_good h there =
      let parts = and_parts (may_be_attribute m.meta f) (not (is_untouched m.meta f cells)) h in
      ap (λ b. if b then Some text else if refers m.meta f then (if is_many m.meta f then None else second (words_of text)) else (if is_value_of m.meta f text then None else Some text))
      (attribute_plain m.meta f parts.0)
      ∙ by_reference (refers m.meta f) refl (is_many m.meta f) refl parts.0 (touched (is_untouched m.meta f cells) parts.1)
    where
      touched : (b : Bool) → not b ≡ true → b ≡ false
      touched true e = absurd (true≢false (sym e))
      touched false e = refl

      by_reference : (r : Bool) → refers m.meta f ≡ r → (k : Bool) → is_many m.meta f ≡ k → may_be_attribute m.meta f ≡ true → is_untouched m.meta f cells ≡ false
          → (if r then (if k then None else second (words_of text)) else (if is_value_of m.meta f text then None else Some text)) ≡ None
      by_reference true a true b p q = refl
      by_reference true a false b p q = one_word a b there
      by_reference false a k b p q = ap (λ c. if c then None else Some text) (one_text a (attribute_single m.meta f p a) there q)
