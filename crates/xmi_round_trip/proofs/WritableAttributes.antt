-- The attributes of an object's element are good ones: their names are plain and differ, and their values are texts.
use Rattle.std.proofs.Common.{◌≡◌, ◌≢◌, ℕ, suc, Bool, true, false, List, [], ◌∷◌, ◌++◌, map, refl, ap, ◌∙◌, arith, Option, Some, None}
use Rattle.std.specs.Prelude.{◌==◌, slice_get, bytes_eq, if◌then◌else◌, All, AllPairs}
use Rattle.std.specs.Option.{option_map_or}
use Rattle.std.proofs.lemmas.Bool.{false≢true}
use Rattle.std.proofs.lemmas.List.Elements.{All-append, All-cons, All-head, All-nil, All-tail, All-weaker}
use Rattle.std.proofs.lemmas.List.Kept.{AllPairs-cons}
use Rattle.atl_base.specs.declared.numbers.ClassId.{ClassId}
use Rattle.atl_base.specs.declared.numbers.FeatId.{FeatId}
use Rattle.atl_base.specs.XmlText.{IsXmlText}
use Rattle.atl_base.proofs.XmlTexts.{IsXmlText-append, IsXmlText-nil}
use Rattle.doc_text.specs.Names.{xmi_space}
use Rattle.doc_text.specs.ReadBack.{Differ, IsAttribute}
use Rattle.doc_text.specs.declared.tree.Attribute.{Attribute}
use Rattle.ecore_meta.specs.declared.parts.Class.{Class}
use Rattle.ecore_meta.specs.declared.parts.Parts.{Parts}
use Rattle.ecore_meta.specs.Inheritance.{features, name_of}
use Rattle.ecore_meta.specs.Valid.{AllDiffer}
use Rattle.model_store.specs.declared.parts.Cellv.{Cellv}
use Rattle.model_store.specs.declared.parts.Object.{Object}
use Rattle.model_store.specs.Contents.{Contents}
use Rattle.model_store.specs.Texts.{value_text}
use Rattle.xmi_write.specs.declared.named.Named.{Named}
use Rattle.xmi_write.specs.declared.named.Named.TheVariants.{Around, Root, Inside}
use Rattle.xmi_write.specs.Values.{behind, is_attribute, joined_from}
use Rattle.xmi_write.specs.Xmi.{attributes_of, by_slot, class_name, declared, package_of, said_class, slot_attribute, slot_attributes, type_attribute, type_text}
use Rattle.xmi_round_trip.specs.RoundTrip.{AreTexts, IsInRange}
use Rattle.xmi_round_trip.proofs.WritableSlots.{AllSlots, IsGoodSlot}
use Rattle.xmi_round_trip.proofs.WritableTags.{AreOwn, type_is_plain, xsi_is_declared}
use Rattle.xmi_round_trip.proofs.WritableTexts.{text_after, text_at, value_is_text}
use Rattle.xmi_text.proofs.Lists.{pairs_rest}

-- ## Pairs that differ

-- the first one, with each of the others
pub pairs_first : {X : Type 0} (R : X → X → Type 0) (x : X) (xs : List X) → AllPairs R (x ∷ xs) → All (R x) xs
pairs_first R x xs h = λ k d low. h 0 (suc k) d (omega arith) (omega (arith, low))

-- ## Texts

-- a text, behind a blank unless it is the first
behind_is_text : (is_first : Bool) (text : List ℕ) → IsXmlText text → IsXmlText (behind is_first text)
behind_is_text true text h = h
behind_is_text false text h = text_after 32 text refl h

module _ (m : Contents) (texts : AreTexts m.meta) (f : FeatId) where
  -- the texts of a slot's values, with blanks between
  joined_is_text : (is_first : Bool) (cells : List Cellv) → All IsInRange cells → IsXmlText (joined_from is_first (map (value_text m f) cells))
  joined_is_text is_first [] h = IsXmlText-nil
  joined_is_text is_first (v ∷ cells) h =
      IsXmlText-append (behind is_first (value_text m f v)) (joined_from false (map (value_text m f) cells))
      (behind_is_text is_first (value_text m f v) (value_is_text m texts f v (All-head IsInRange v cells h)))
      (joined_is_text false cells (All-tail IsInRange v cells h))

module _ (meta : Parts) (texts : AreTexts meta) where
  -- the prefix of a class's package
  prefix_is_text : (c : ClassId) → IsXmlText (option_map_or (λ p. p.prefix) (package_of meta c) [])
  prefix_is_text c = on (slice_get meta.classes c.0)
    where
      on : (x : Option Class) → IsXmlText (option_map_or (λ p. p.prefix) (option_map_or (λ class. slice_get meta.packages class.«package») x None) [])
      on None = IsXmlText-nil
      on (Some class) = text_at (λ p. p.prefix) meta.packages class.«package» (λ k d low. (texts.packages k d low).0)

  -- what a type says
  type_is_text : (c : ClassId) → IsXmlText (type_text meta c)
  type_is_text c =
      IsXmlText-append (option_map_or (λ p. p.prefix) (package_of meta c) []) (58 ∷ class_name meta c) (prefix_is_text c)
      (text_after 58 (class_name meta c) refl (text_at (λ class. class.name) meta.classes c.0 texts.classes))

  -- an attribute that says a type is a good one
  type_is_good : (c : ClassId) → IsAttribute (declared meta) (type_attribute meta c)
  type_is_good c = record { name = type_is_plain; space = xsi_is_declared meta; value = type_is_text c }

-- ## Slots

module _ (m : Contents) (texts : AreTexts m.meta) where
  -- each of them is in no space
  spaceless : (fs : List FeatId) (slots : List (List Cellv)) → All (λ a. a.space ≡ []) (by_slot (slot_attributes m) fs slots)
  spaceless [] slots = All-nil (λ a. a.space ≡ [])
  spaceless (f ∷ fs) [] = All-nil (λ a. a.space ≡ [])
  spaceless (f ∷ fs) (cells ∷ slots) = All-append (λ a. a.space ≡ []) (slot_attributes m f cells) (by_slot (slot_attributes m) fs slots) (on (is_attribute m.meta f cells)) (spaceless fs slots)
    where
      on : (b : Bool) → All (λ a. a.space ≡ []) (if b then slot_attribute m f cells ∷ [] else [])
      on true = All-cons (λ a. a.space ≡ []) (slot_attribute m f cells) [] refl (All-nil (λ a. a.space ≡ []))
      on false = All-nil (λ a. a.space ≡ [])

  -- a name that no feature has is no attribute's
  names_apart : (name : List ℕ) (fs : List FeatId) (slots : List (List Cellv)) → All (λ n. name ≢ n) (map (name_of m.meta.features) fs) → All (λ a. name ≢ a.name) (by_slot (slot_attributes m) fs slots)
  names_apart name [] slots h = All-nil (λ a. name ≢ a.name)
  names_apart name (f ∷ fs) [] h = All-nil (λ a. name ≢ a.name)
  names_apart name (f ∷ fs) (cells ∷ slots) h =
      All-append (λ a. name ≢ a.name) (slot_attributes m f cells) (by_slot (slot_attributes m) fs slots) (on (is_attribute m.meta f cells))
      (names_apart name fs slots (All-tail (λ n. name ≢ n) (name_of m.meta.features f) (map (name_of m.meta.features) fs) h))
    where
      on : (b : Bool) → All (λ a. name ≢ a.name) (if b then slot_attribute m f cells ∷ [] else [])
      on true = All-cons (λ a. name ≢ a.name) (slot_attribute m f cells) [] (All-head (λ n. name ≢ n) (name_of m.meta.features f) (map (name_of m.meta.features) fs) h) (All-nil (λ a. name ≢ a.name))
      on false = All-nil (λ a. name ≢ a.name)

  -- each of them is a good one
  slots_good : (fs : List FeatId) (slots : List (List Cellv)) → AllSlots (IsGoodSlot m.meta) fs slots → All (IsAttribute (declared m.meta)) (by_slot (slot_attributes m) fs slots)
  slots_good [] slots h = All-nil (IsAttribute (declared m.meta))
  slots_good (f ∷ fs) [] h = All-nil (IsAttribute (declared m.meta))
  slots_good (f ∷ fs) (cells ∷ slots) h =
      All-append (IsAttribute (declared m.meta)) (slot_attributes m f cells) (by_slot (slot_attributes m) fs slots) (on (is_attribute m.meta f cells)) (slots_good fs slots h.1)
    where
      good : IsAttribute (declared m.meta) (slot_attribute m f cells)
      good = record { name = h.0.name; space = refl; value = joined_is_text m texts f true cells h.0.values }

      on : (b : Bool) → All (IsAttribute (declared m.meta)) (if b then slot_attribute m f cells ∷ [] else [])
      on true = All-cons (IsAttribute (declared m.meta)) (slot_attribute m f cells) [] good (All-nil (IsAttribute (declared m.meta)))
      on false = All-nil (IsAttribute (declared m.meta))

  -- and they differ, where the names of the features do
  slots_differ : (fs : List FeatId) (slots : List (List Cellv)) → AllDiffer (map (name_of m.meta.features) fs) → AllPairs Differ (by_slot (slot_attributes m) fs slots)
  slots_differ [] slots h = λ i j d lt low. absurd (omega (arith, low))
  slots_differ (f ∷ fs) [] h = λ i j d lt low. absurd (omega (arith, low))
  slots_differ (f ∷ fs) (cells ∷ slots) h = on (is_attribute m.meta f cells) (slots_differ fs slots (pairs_rest (λ x y. x ≢ y) (name_of m.meta.features f) (map (name_of m.meta.features) fs) h))
    where
      apart : All (λ a. name_of m.meta.features f ≢ a.name) (by_slot (slot_attributes m) fs slots)
      apart = names_apart (name_of m.meta.features f) fs slots (pairs_first (λ x y. x ≢ y) (name_of m.meta.features f) (map (name_of m.meta.features) fs) h)

      on : (b : Bool) → AllPairs Differ (by_slot (slot_attributes m) fs slots) → AllPairs Differ ((if b then slot_attribute m f cells ∷ [] else []) ++ by_slot (slot_attributes m) fs slots)
      on true rest = AllPairs-cons Differ (slot_attribute m f cells) (by_slot (slot_attributes m) fs slots) (λ k d low same. apart k d low) rest
      on false rest = rest

  -- ## Objects

  -- what is in no space is not in XMI's
  no_xmi : (a : Attribute) → a.space ≡ [] → bytes_eq a.space xmi_space ≡ false
  no_xmi a e = ap (λ l. bytes_eq l xmi_space) e

  -- and differs from a type
  apart_from_type : (c : ClassId) (a : Attribute) → a.space ≡ [] → Differ (type_attribute m.meta c) a
  apart_from_type c a e = λ same. absurd (false≢true (ap (λ l. bytes_eq l []) (same ∙ e)))

  -- the attributes of slots are good, differ, and are none of XMI's
  of_slots_own : (fs : List FeatId) (slots : List (List Cellv)) → AllSlots (IsGoodSlot m.meta) fs slots → AllDiffer (map (name_of m.meta.features) fs) → AreOwn (declared m.meta) (by_slot (slot_attributes m) fs slots)
  of_slots_own fs slots h d = record {
    good = slots_good fs slots h;
    differ = slots_differ fs slots d;
    others = All-weaker (λ a. a.space ≡ []) (λ a. bytes_eq a.space xmi_space ≡ false) no_xmi (by_slot (slot_attributes m) fs slots) (spaceless fs slots);
  }

  -- so they are with a type before them
  with_type : (c : ClassId) (fs : List FeatId) (slots : List (List Cellv)) → AreOwn (declared m.meta) (by_slot (slot_attributes m) fs slots) → AreOwn (declared m.meta) (type_attribute m.meta c ∷ by_slot (slot_attributes m) fs slots)
  with_type c fs slots own = record {
    good = All-cons (IsAttribute (declared m.meta)) (type_attribute m.meta c) (by_slot (slot_attributes m) fs slots) (type_is_good m.meta texts c) own.good;
    differ = AllPairs-cons Differ (type_attribute m.meta c) (by_slot (slot_attributes m) fs slots)
        (All-weaker (λ a. a.space ≡ []) (Differ (type_attribute m.meta c)) (apart_from_type c) (by_slot (slot_attributes m) fs slots) (spaceless fs slots)) own.differ;
    others = All-cons (λ a. bytes_eq a.space xmi_space ≡ false) (type_attribute m.meta c) (by_slot (slot_attributes m) fs slots) refl own.others;
  }

  -- so are all attributes of an object's element
  pub attributes_are_own : (named : Named) (object : Object) → AllSlots (IsGoodSlot m.meta) (features m.meta.classes object.class) object.slots
      → AllDiffer (map (name_of m.meta.features) (features m.meta.classes object.class)) → AreOwn (declared m.meta) (attributes_of m named object)
  attributes_are_own Around object h d = of_slots_own (features m.meta.classes object.class) object.slots h d
  attributes_are_own (Root c) object h d = of_slots_own (features m.meta.classes object.class) object.slots h d
  attributes_are_own (Inside f) object h d = on (option_map_or (λ said. said.0 == object.class.0) (said_class m.meta f) false)
    where
      own : AreOwn (declared m.meta) (by_slot (slot_attributes m) (features m.meta.classes object.class) object.slots)
      own = of_slots_own (features m.meta.classes object.class) object.slots h d

      on : (b : Bool) → AreOwn (declared m.meta) ((if b then [] else type_attribute m.meta object.class ∷ []) ++ by_slot (slot_attributes m) (features m.meta.classes object.class) object.slots)
      on true = own
      on false = with_type object.class (features m.meta.classes object.class) object.slots own
