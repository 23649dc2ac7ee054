-- The elements of a model's file, from an object down: each has a good tag, and elements alone or one text in it.
use Rattle.std.proofs.Common.{◌≡◌, ◌≢◌, ℕ, zero, suc, ◌≤◌, inl, inr, Bool, true, false, List, [], ◌∷◌, map, refl, sym, ap, subst, Option, Some, None}
use Rattle.std.specs.Prelude.{bytes_eq, if◌then◌else◌, All}
use Rattle.std.specs.Option.{option_map_or}
use Rattle.std.proofs.lemmas.Bool.{false≢true}
use Rattle.std.proofs.lemmas.List.Elements.{All-append, All-cons, All-head, All-nil, All-tail}
use Rattle.atl_base.specs.declared.numbers.FeatId.{FeatId}
use Rattle.atl_base.specs.declared.numbers.ObjId.{ObjId}
use Rattle.atl_base.specs.XmlText.{IsXmlText}
use Rattle.doc_text.specs.ReadBack.{AreChildren, IsBelow, IsPlainName}
use Rattle.doc_text.specs.declared.tree.Attribute.{Attribute}
use Rattle.doc_text.specs.declared.tree.Child.TheVariants as child
use Rattle.doc_text.specs.declared.tree.Element.{Element}
use Rattle.ecore_meta.specs.declared.parts.Parts.{Parts}
use Rattle.ecore_meta.specs.Inheritance.{features, name_of}
use Rattle.model_store.specs.declared.parts.Cellv.{Cellv}
use Rattle.model_store.specs.declared.parts.Object.{Object}
use Rattle.model_store.specs.Contents.{Contents, contains, is_many, object_at, objects_of, refers}
use Rattle.model_store.specs.Texts.{value_text}
use Rattle.model_store.specs.Valid.{IsValid}
use Rattle.xmi_write.specs.declared.named.Named.{Named}
use Rattle.xmi_write.specs.declared.named.Named.TheVariants.{Inside}
use Rattle.xmi_write.specs.Xmi.{Part, Content, Value, attributes_of, by_slot, declared, element_named, element_within, part_child, parts_of, slot_parts, value_element, words}
use Rattle.xmi_round_trip.specs.RoundTrip.{IsInBounds, IsInRange, opened}
use Rattle.xmi_round_trip.proofs.WritableAttributes.{attributes_are_own}
use Rattle.xmi_round_trip.proofs.WritableDepth.{opened_below, opened_some}
use Rattle.xmi_round_trip.proofs.WritableNamed.{IsGoodNamed, inside_good}
use Rattle.xmi_round_trip.proofs.WritableSlots.{AllSlots, IsGoodSlot, slots_are_good}
use Rattle.xmi_round_trip.proofs.WritableTags.{AreOwn, own_none, own_tag}
use Rattle.xmi_round_trip.proofs.WritableTexts.{value_is_text}

-- ## Parts

-- its feature's name is plain, and a value may stand in a file
abbrev pub IsGoodPart : Parts → Part → Type 0
IsGoodPart meta (Content f o) = IsPlainName (name_of meta.features f)
IsGoodPart meta (Value f v) = IsPlainName (name_of meta.features f) × IsInRange v

module _ (meta : Parts) where
  -- contents by a feature of plain name are good
  contents_good : (f : FeatId) → IsPlainName (name_of meta.features f) → (os : List ObjId) → All (IsGoodPart meta) (map (Content f) os)
  contents_good f h [] = All-nil (IsGoodPart meta)
  contents_good f h (o ∷ os) = All-cons (IsGoodPart meta) (Content f o) (map (Content f) os) h (contents_good f h os)

  -- so are values that may stand in a file
  values_good : (f : FeatId) → IsPlainName (name_of meta.features f) → (cells : List Cellv) → All IsInRange cells → All (IsGoodPart meta) (map (Value f) cells)
  values_good f h [] r = All-nil (IsGoodPart meta)
  values_good f h (v ∷ cells) r = All-cons (IsGoodPart meta) (Value f v) (map (Value f) cells) (h, All-head IsInRange v cells r) (values_good f h cells (All-tail IsInRange v cells r))

  -- and the parts of good slots
  parts_good : (fs : List FeatId) (slots : List (List Cellv)) → AllSlots (IsGoodSlot meta) fs slots → All (IsGoodPart meta) (by_slot (slot_parts meta) fs slots)
  parts_good [] slots h = All-nil (IsGoodPart meta)
  parts_good (f ∷ fs) [] h = All-nil (IsGoodPart meta)
  parts_good (f ∷ fs) (cells ∷ slots) h =
      All-append (IsGoodPart meta) (slot_parts meta f cells) (by_slot (slot_parts meta) fs slots) (on (contains meta f) (refers meta f) (is_many meta f)) (parts_good fs slots h.1)
    where
      on : (a b c : Bool) → All (IsGoodPart meta) (if a then map (Content f) (objects_of cells) else if b then [] else if c then map (Value f) cells else [])
      on true b c = contents_good f h.0.name (objects_of cells)
      on false true c = All-nil (IsGoodPart meta)
      on false false true = values_good f h.0.name cells h.0.values
      on false false false = All-nil (IsGoodPart meta)

-- the element of a part
abbrev part_element : (Named → ObjId → Element) → Contents → Part → Element
part_element below m (Content f o) = below (Inside f) o
part_element below m (Value f v) = value_element m f v

-- parts are these elements
parts_are : (below : Named → ObjId → Element) (m : Contents) (ps : List Part) → map (part_child below m) ps ≡ map child.Sub (map (part_element below m) ps)
parts_are below m [] = refl
parts_are below m (Content f o ∷ ps) = ap (λ l. child.Sub (below (Inside f) o) ∷ l) (parts_are below m ps)
parts_are below m (Value f v ∷ ps) = ap (λ l. child.Sub (value_element m f v) ∷ l) (parts_are below m ps)

-- ## An object's element, by what stands in it

-- its attributes, if there is a level left
own_within : ℕ → Contents → Named → ObjId → List Attribute
own_within zero m named o = []
own_within (suc k) m named o = option_map_or (attributes_of m named) (object_at m.objects o) []

-- the elements in it, down to so many levels
inner : ℕ → Contents → ObjId → List Element
inner zero m o = []
inner (suc k) m o = option_map_or (λ object. map (part_element (element_within k m) m) (parts_of m.meta object)) (object_at m.objects o) []

-- it is made of these
element_parts : (k : ℕ) (m : Contents) (named : Named) (o : ObjId) → element_within k m named o ≡ element_named m.meta named (own_within k m named o) (map child.Sub (inner k m o))
unfolding element_within own_within inner
element_parts zero m named o = refl
element_parts (suc k) m named o = on (object_at m.objects o)
  where
    on : (x : Option Object) → option_map_or (λ object. element_named m.meta named (attributes_of m named object) (map (part_child (element_within k m) m) (parts_of m.meta object))) x (element_named m.meta named [] [])
        ≡ element_named m.meta named (option_map_or (attributes_of m named) x []) (map child.Sub (option_map_or (λ object. map (part_element (element_within k m) m) (parts_of m.meta object)) x []))
    on None = refl
    on (Some object) = ap (element_named m.meta named (attributes_of m named object)) (parts_are (element_within k m) m (parts_of m.meta object))

-- a text with a byte in it is not empty
some_text : (c : ℕ) (cs : List ℕ) → c ∷ cs ≢ []
some_text c cs e = absurd (false≢true (ap (λ l. bytes_eq l []) e))

module _ (m : Contents) (valid : IsValid m) (bounds : IsInBounds m) where
  -- its attributes are good, differ, and are none of XMI's
  own_is : (k : ℕ) (named : Named) (o : ObjId) → AreOwn (declared m.meta) (own_within k m named o)
  unfolding own_within
  own_is zero named o = own_none (declared m.meta)
  own_is (suc k) named o = on (object_at m.objects o) refl
    where
      on : (x : Option Object) → object_at m.objects o ≡ x → AreOwn (declared m.meta) (option_map_or (attributes_of m named) x [])
      on None e = own_none (declared m.meta)
      on (Some object) e =
          attributes_are_own m bounds.texts named object (slots_are_good m valid bounds o object e) (valid.metamodel.seen_differ object.class (valid.model.shaped o.0 object e).class_within)

  -- a value's element has its text alone, if any
  value_below : (n : ℕ) (f : FeatId) (v : Cellv) → IsPlainName (name_of m.meta.features f) → IsInRange v → IsBelow (declared m.meta) (suc n) (value_element m f v)
  value_below n f v name range =
      (refl, own_tag (declared m.meta) (value_element m f v) name refl (own_none (declared m.meta)), on (value_text m f v) (value_is_text m bounds.texts f v range))
    where
      on : (text : List ℕ) → IsXmlText text → AreChildren (λ x. IsBelow (declared m.meta) n x) (words text)
      on [] h = inl ([], refl, All-nil (λ x. IsBelow (declared m.meta) n x))
      on (c ∷ cs) h = inr (c ∷ cs, refl, some_text c cs, h)

  -- where what stands in objects is good, so are their elements
  object_below : (k n : ℕ) (named : Named) (o : ObjId) → IsGoodNamed m.meta named
      → ((j : ℕ) → All (λ e. opened e ≤ j) (inner k m o) → All (λ x. IsBelow (declared m.meta) j x) (inner k m o))
      → opened (element_within k m named o) ≤ n → IsBelow (declared m.meta) n (element_within k m named o)
  object_below k zero named o good again h = absurd (opened_some (element_within k m named o) h)
  object_below k (suc n) named o good again h =
      let whole : Element = element_named m.meta named (own_within k m named o) (map child.Sub (inner k m o)) in
      let low : opened whole ≤ suc n = subst (λ e. opened e ≤ suc n) (element_parts k m named o) h in
      subst (λ e. IsBelow (declared m.meta) (suc n) e) (sym (element_parts k m named o))
      (refl, own_tag (declared m.meta) whole good.name good.space (own_is k named o), inl (inner k m o, refl, again n (opened_below whole (inner k m o) n refl low)))

  -- and so are those of good parts
  parts_below : (k n : ℕ) → ((j : ℕ) (o : ObjId) → All (λ e. opened e ≤ j) (inner k m o) → All (λ x. IsBelow (declared m.meta) j x) (inner k m o))
      → (ps : List Part) → All (IsGoodPart m.meta) ps → All (λ e. opened e ≤ n) (map (part_element (element_within k m) m) ps)
      → All (λ x. IsBelow (declared m.meta) n x) (map (part_element (element_within k m) m) ps)
  parts_below k n again [] good h = All-nil (λ x. IsBelow (declared m.meta) n x)
  parts_below k n again (Content f o ∷ ps) good h =
      All-cons (λ x. IsBelow (declared m.meta) n x) (element_within k m (Inside f) o) (map (part_element (element_within k m) m) ps)
      (object_below k n (Inside f) o (inside_good m.meta f (All-head (IsGoodPart m.meta) (Content f o) ps good)) (λ j. again j o)
      (All-head (λ e. opened e ≤ n) (element_within k m (Inside f) o) (map (part_element (element_within k m) m) ps) h))
      (parts_below k n again ps (All-tail (IsGoodPart m.meta) (Content f o) ps good) (All-tail (λ e. opened e ≤ n) (element_within k m (Inside f) o) (map (part_element (element_within k m) m) ps) h))
  parts_below k zero again (Value f v ∷ ps) good h =
      absurd (opened_some (value_element m f v) (All-head (λ e. opened e ≤ 0) (value_element m f v) (map (part_element (element_within k m) m) ps) h))
  parts_below k (suc n) again (Value f v ∷ ps) good h =
      let here = All-head (IsGoodPart m.meta) (Value f v) ps good in
      All-cons (λ x. IsBelow (declared m.meta) (suc n) x) (value_element m f v) (map (part_element (element_within k m) m) ps)
      (value_below n f v here.0 here.1)
      (parts_below k (suc n) again ps (All-tail (IsGoodPart m.meta) (Value f v) ps good) (All-tail (λ e. opened e ≤ suc n) (value_element m f v) (map (part_element (element_within k m) m) ps) h))

  -- so are all elements in an object's
  inner_below : (k n : ℕ) (o : ObjId) → All (λ e. opened e ≤ n) (inner k m o) → All (λ x. IsBelow (declared m.meta) n x) (inner k m o)
  unfolding inner
  inner_below zero n o h = All-nil (λ x. IsBelow (declared m.meta) n x)
  inner_below (suc k) n o h = on (object_at m.objects o) refl (λ j p. inner_below k j p) h
    where
      on : (x : Option Object) → object_at m.objects o ≡ x → ((j : ℕ) (p : ObjId) → All (λ e. opened e ≤ j) (inner k m p) → All (λ x. IsBelow (declared m.meta) j x) (inner k m p))
          → All (λ e. opened e ≤ n) (option_map_or (λ object. map (part_element (element_within k m) m) (parts_of m.meta object)) x [])
          → All (λ x. IsBelow (declared m.meta) n x) (option_map_or (λ object. map (part_element (element_within k m) m) (parts_of m.meta object)) x [])
      on None e again g = All-nil (λ x. IsBelow (declared m.meta) n x)
      on (Some object) e again g =
          parts_below k n again (parts_of m.meta object) (parts_good m.meta (features m.meta.classes object.class) object.slots (slots_are_good m valid bounds o object e)) g

  -- an object's element with no more open in it
  pub element_below : (k n : ℕ) (named : Named) (o : ObjId) → IsGoodNamed m.meta named → opened (element_within k m named o) ≤ n → IsBelow (declared m.meta) n (element_within k m named o)
  element_below k n named o good h = object_below k n named o good (λ j. inner_below k j o) h

  -- and how it is made, for the first of a file
  pub record IsMadeOf (e : Element) (named : Named) : Type 0 where
    pub attributes : List Attribute
    pub elements : List Element
    pub whole : e ≡ element_named m.meta named attributes (map child.Sub elements)
    pub own : AreOwn (declared m.meta) attributes
    pub below : (n : ℕ) → All (λ x. opened x ≤ n) elements → All (λ x. IsBelow (declared m.meta) n x) elements

  -- an object's element is made so
  pub made_of : (k : ℕ) (named : Named) (o : ObjId) → IsMadeOf (element_within k m named o) named
  made_of k named o = record {
    attributes = own_within k m named o;
    elements = inner k m o;
    whole = element_parts k m named o;
    own = own_is k named o;
    below = λ n. inner_below k n o;
  }
