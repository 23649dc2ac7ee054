-- The texts of a model's values are texts of XML: a file may hold them.
use Rattle.std.proofs.Common.{◌≡◌, ℕ, zero, suc, ◌+◌, ◌<◌, ◌%◌, ◌/◌, ℤ, pos, negsuc, Bool, true, false, List, [], ◌∷◌, ◌++◌, length, refl, ap, ◌∙◌, arith, Option, Some, None}
use Rattle.std.specs.Prelude.{◌==◌, slice_get, flat_map, if◌then◌else◌, All, codes}
use Rattle.std.specs.Fmt.{decimal, digit_glyph, digits, digits_onto, signed_decimal}
use Rattle.std.specs.Int.{is_in_range}
use Rattle.std.specs.List.{list_all, position_or_len}
use Rattle.std.specs.Option.{option_map_or}
use Rattle.std.proofs.lemmas.Bool.{and_from, lt-ltb, le-leb, or_left, or_right}
use Rattle.std.proofs.lemmas.Nat.{mod_below}
use Rattle.atl_base.specs.declared.numbers.FeatId.{FeatId}
use Rattle.atl_base.specs.declared.numbers.ObjId.{ObjId}
use Rattle.atl_base.specs.XmlText.{is_ascii_text, IsXmlText}
use Rattle.atl_base.proofs.XmlTexts.{IsXmlText-append, IsXmlText-ascii, IsXmlText-nil}
use Rattle.ecore_meta.specs.declared.parts.EnumDef.{EnumDef}
use Rattle.ecore_meta.specs.declared.parts.Feature.{Feature}
use Rattle.ecore_meta.specs.declared.parts.FeatKind.{FeatKind}
use Rattle.ecore_meta.specs.declared.parts.FeatKind.TheVariants as Kind
use Rattle.ecore_meta.specs.declared.parts.Parts.{Parts}
use Rattle.ecore_meta.specs.Inheritance.{name_of}
use Rattle.model_store.specs.declared.parts.Cellv.{Cellv}
use Rattle.model_store.specs.declared.parts.Cellv.TheVariants.{Words, Int, Truth, Literal, Obj}
use Rattle.model_store.specs.Contents.{Contents, is_many, is_object_no, refers_to, slot}
use Rattle.model_store.specs.Paths.{path, root_text, step_text, steps_within, top_within}
use Rattle.model_store.specs.Texts.{literal_text, truth_text, value_text}
use Rattle.xmi_round_trip.specs.RoundTrip.{AreTexts, IsInRange}
use Rattle.xmi_round_trip.proofs.Lists.{at_place}

-- ## Texts put together

-- a text behind a character of ASCII
pub text_after : (c : ℕ) (text : List ℕ) → is_ascii_text c ≡ true → IsXmlText text → IsXmlText (c ∷ text)
text_after c text h t = IsXmlText-append (c ∷ []) text (IsXmlText-ascii (c ∷ []) (and_from (is_ascii_text c) true h refl)) t

-- texts one behind another
texts_joined : {X : Type 0} (text : X → List ℕ) → ((x : X) → IsXmlText (text x)) → (xs : List X) → IsXmlText (flat_map text xs)
texts_joined text h [] = IsXmlText-nil
texts_joined text h (x ∷ xs) = IsXmlText-append (text x) (flat_map text xs) (h x) (texts_joined text h xs)

-- ## Numbers in decimal

-- a digit is a character of ASCII that a text may have
digit_is_text : (d : ℕ) → d < 10 → is_ascii_text (digit_glyph false d) ≡ true
digit_is_text d h =
    let range : is_in_range 0x20 0xD7FF (48 + d) ≡ true = and_from _ _ (le-leb 0x20 (48 + d) (omega arith)) (le-leb (48 + d) 0xD7FF (omega (arith, h))) in
    ap (λ b. is_ascii_text (if b then 48 + d else 87 + d)) (lt-ltb d 10 h)
    ∙ and_from _ _ (lt-ltb (48 + d) 128 (omega (arith, h))) (or_left _ _ (or_left _ _ (or_right _ _ range)))

-- so is each of a number's digits, before others such
digits_are_text : (k n : ℕ) (after : List ℕ) → list_all is_ascii_text after ≡ true → list_all is_ascii_text (digits_onto k 10 false n after) ≡ true
digits_are_text zero n after h = h
digits_are_text (suc k) n after h = on (n / 10 == 0) (digits_are_text k (n / 10) (digit_glyph false (n % 10) ∷ after))
  where
    longer : list_all is_ascii_text (digit_glyph false (n % 10) ∷ after) ≡ true
    longer = and_from _ _ (digit_is_text (n % 10) (mod_below n 10 (omega arith))) h

    on : (b : Bool) → (list_all is_ascii_text (digit_glyph false (n % 10) ∷ after) ≡ true → list_all is_ascii_text (digits_onto k 10 false (n / 10) (digit_glyph false (n % 10) ∷ after)) ≡ true)
        → list_all is_ascii_text (if b then digit_glyph false (n % 10) ∷ after else digits_onto k 10 false (n / 10) (digit_glyph false (n % 10) ∷ after)) ≡ true
    on true more = longer
    on false more = more longer

-- so a number in decimal is a text
number_is_text : (n : ℕ) → IsXmlText (decimal n)
unfolding digits
number_is_text n = IsXmlText-ascii (decimal n) (digits_are_text 64 n [] refl)

-- and so with its sign
signed_is_text : (z : ℤ) → IsXmlText (signed_decimal z)
signed_is_text (pos n) = number_is_text n
signed_is_text (negsuc n) = text_after 45 (decimal (suc n)) refl (number_is_text (suc n))

-- ## What a metamodel says

-- a text at a place, which is empty where there is none
pub text_at : {X : Type 0} (text : X → List ℕ) (xs : List X) (n : ℕ) → All (λ x. IsXmlText (text x)) xs → IsXmlText (option_map_or text (slice_get xs n) [])
text_at {X} text xs n h = on (slice_get xs n) refl
  where
    on : (x : Option X) → slice_get xs n ≡ x → IsXmlText (option_map_or text x [])
    on None e = IsXmlText-nil
    on (Some x) e = at_place (λ x. IsXmlText (text x)) xs n x h e

module _ (meta : Parts) (texts : AreTexts meta) where
  -- the name of a feature
  pub name_is_text : (f : FeatId) → IsXmlText (name_of meta.features f)
  name_is_text f = text_at (λ feature. feature.name) meta.features f.0 texts.features

  -- the text of a literal of a kind
  literal_of_kind : (kind : FeatKind) (l : ℕ) → IsXmlText (literal_text meta kind l)
  literal_of_kind (Kind.Enum e) l = on (slice_get meta.enums e) refl
    where
      on : (x : Option EnumDef) → slice_get meta.enums e ≡ x → IsXmlText (option_map_or (λ d. option_map_or (λ literal. literal.text) (slice_get d.literals l) []) x [])
      on None h = IsXmlText-nil
      on (Some d) h = text_at (λ literal. literal.text) d.literals l (at_place (λ e. All (λ l. IsXmlText l.text) e.literals) meta.enums e d texts.literals h)
  literal_of_kind Kind.Str l = IsXmlText-nil
  literal_of_kind Kind.Int l = IsXmlText-nil
  literal_of_kind Kind.Truth l = IsXmlText-nil
  literal_of_kind Kind.Opaque l = IsXmlText-nil
  literal_of_kind (Kind.Refer class inside back) l = IsXmlText-nil

  -- and of a feature's kind
  literal_is_text : (l : ℕ) (x : Option Feature) → IsXmlText (option_map_or (λ feature. literal_text meta feature.kind l) x [])
  literal_is_text l None = IsXmlText-nil
  literal_is_text l (Some feature) = literal_of_kind feature.kind l

-- ## Values

-- `true` and `false`
truth_is_text : (b : Bool) → IsXmlText (truth_text b)
truth_is_text true = IsXmlText-ascii (codes "true") refl
truth_is_text false = IsXmlText-ascii (codes "false") refl

module _ (m : Contents) (texts : AreTexts m.meta) where
  -- the part of a path that names a root
  root_is_text : (o : ObjId) → IsXmlText (root_text m o)
  root_is_text o = text_after 47 (if length m.roots == 1 then [] else decimal (position_or_len (is_object_no o) m.roots)) refl (on (length m.roots == 1))
    where
      on : (b : Bool) → IsXmlText (if b then [] else decimal (position_or_len (is_object_no o) m.roots))
      on true = IsXmlText-nil
      on false = number_is_text (position_or_len (is_object_no o) m.roots)

  -- a step of a path
  step_is_text : (from to : ObjId) (f : FeatId) → IsXmlText (47 ∷ 64 ∷ (name_of m.meta.features f ++ (if is_many m.meta f then 46 ∷ decimal (position_or_len (refers_to to) (slot m from f)) else [])))
  step_is_text from to f =
      let name : List ℕ = name_of m.meta.features f in
      let place : List ℕ = if is_many m.meta f then 46 ∷ decimal (position_or_len (refers_to to) (slot m from f)) else [] in
      text_after 47 (64 ∷ (name ++ place)) refl (text_after 64 (name ++ place) refl (IsXmlText-append name place (name_is_text m.meta texts f) (on (is_many m.meta f))))
    where
      on : (b : Bool) → IsXmlText (if b then 46 ∷ decimal (position_or_len (refers_to to) (slot m from f)) else [])
      on true = text_after 46 (decimal (position_or_len (refers_to to) (slot m from f))) refl (number_is_text (position_or_len (refers_to to) (slot m from f)))
      on false = IsXmlText-nil

  -- a whole path
  path_is_text : (o : ObjId) → IsXmlText (path m o)
  unfolding path
  path_is_text o =
      let top : ObjId = top_within (suc (length m.objects)) m o in
      IsXmlText-append (root_text m top) (flat_map (step_text m) (steps_within (suc (length m.objects)) m o)) (root_is_text top)
      (texts_joined (step_text m) (λ s. step_is_text s.from s.to s.feature) (steps_within (suc (length m.objects)) m o))

  -- the text of a value that may stand in a file
  pub value_is_text : (f : FeatId) (v : Cellv) → IsInRange v → IsXmlText (value_text m f v)
  value_is_text f (Words text) h = h
  value_is_text f (Int n) h = signed_is_text n
  value_is_text f (Truth b) h = truth_is_text b
  value_is_text f (Literal l) h = literal_is_text m.meta texts l (slice_get m.meta.features f.0)
  value_is_text f (Obj o) h = path_is_text o
