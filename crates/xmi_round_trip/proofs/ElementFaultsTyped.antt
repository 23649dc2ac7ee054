-- The text of a value of an attribute's type is a text of that type.
use Rattle.std.proofs.Common.{◌≡◌, ℕ, zero, suc, ◌<◌, ◌≤◌, ◌^◌, List, [], ◌∷◌, length, refl, sym, ap, ◌∙◌, subst, arith, ℤ, pos, negsuc, FitsSigned, w64}
use Rattle.std.specs.Prelude.{Bool, true, false, ◌&&◌, ◌||◌, nat_le, nat_lt, bytes_eq, codes, slice_get, Option, Some, None, if◌then◌else◌}
use Rattle.std.specs.Fmt.{decimal, signed_decimal}
use Rattle.std.specs.Int.{is_in_range}
use Rattle.std.specs.List.{list_all, list_any}
use Rattle.std.specs.Option.{option_map_or, IsSomeAnd}
use Rattle.std.proofs.lemmas.Bool.{and_from, and_parts, le-leb, leb-true, lt-ltb, ne_eqb, or_left, or_right, true≢false}
use Rattle.std.proofs.lemmas.Slice.Eq.{bytes_eq-Decides}
use Rattle.atl_base.specs.declared.numbers.FeatId.{FeatId}
use Rattle.ecore_meta.specs.declared.parts.EnumDef.{EnumDef}
use Rattle.ecore_meta.specs.declared.parts.Feature.{Feature}
use Rattle.ecore_meta.specs.declared.parts.FeatKind.{FeatKind}
use Rattle.ecore_meta.specs.declared.parts.FeatKind.TheVariants as holds
use Rattle.ecore_meta.specs.declared.parts.Literal.{Literal as SomeLiteral}
use Rattle.ecore_meta.specs.Valid.{is_reference, number_of}
use Rattle.model_store.specs.declared.parts.Cellv.{Cellv}
use Rattle.model_store.specs.declared.parts.Cellv.TheVariants.{Words, Int, Truth, Literal, Obj}
use Rattle.model_store.specs.Contents.{Contents, refers}
use Rattle.model_store.specs.Paths.{are_digits}
use Rattle.model_store.specs.Texts.{truth_text, value_text}
use Rattle.model_store.specs.Valid.{IsOfKind, IsOfType}
use Rattle.model_store.proofs.PathDigits.{digits_read, number_read}
use Rattle.xmi_text.specs.Numbers.{is_digits, is_int_text}
use Rattle.xmi_models.specs.Faults.{is_text_of, is_value_of}
use Rattle.xmi_round_trip.specs.RoundTrip.{IsInRange}
use Rattle.xmi_round_trip.proofs.Texts.{kind_text, text_is}

-- ## Whole numbers

-- digits in paths and digits in whole numbers are the same
same_digits : (ds : List ℕ) → are_digits ds ≡ is_digits ds
same_digits [] = refl
same_digits (d ∷ ds) = refl

-- the digits of a number below 2 ^ 63 are the text of a whole number
unsigned_text : (ds : List ℕ) → are_digits ds ≡ true → number_of ds < 9223372036854775808 → is_int_text ds ≡ true
unsigned_text [] h l = absurd (true≢false (sym h))
unsigned_text (c ∷ cs) h l =
    let first = and_parts (is_in_range 48 57 c) (list_all (is_in_range 48 57) cs) h in
    let low : 48 ≤ c = leb-true 48 c (and_parts (nat_le 48 c) (nat_le c 57) first.0).0 in
    ap (λ b. if b then is_digits cs && nat_le (number_of cs) 9223372036854775808 else is_digits (c ∷ cs) && nat_lt (number_of (c ∷ cs)) 9223372036854775808)
    (ne_eqb c 45 (λ s. let no : ⊥ = omega (arith, s, low) in no))
    ∙ and_from (is_digits (c ∷ cs)) (nat_lt (number_of (c ∷ cs)) 9223372036854775808) h (lt-ltb (number_of (c ∷ cs)) 9223372036854775808 l)

-- so are those of one up to 2 ^ 63 behind a `-`
negative_text : (ds : List ℕ) → are_digits ds ≡ true → number_of ds ≤ 9223372036854775808 → is_int_text (45 ∷ ds) ≡ true
negative_text ds h l = and_from (is_digits ds) (nat_le (number_of ds) 9223372036854775808) (sym (same_digits ds) ∙ h) (le-leb (number_of ds) 9223372036854775808 l)

-- so a whole number of 64 bits has such a text
int_text : (z : ℤ) → FitsSigned w64 z → is_int_text (signed_decimal z) ≡ true
int_text (pos n) h =
    let low : n < 9223372036854775808 = omega (arith, h.sfits) in
    let wide : n < 2 ^ 64 = omega (arith, low) in
    unsigned_text (decimal n) (digits_read n wide) (subst (λ k. k < 9223372036854775808) (sym (number_read n wide)) low)
int_text (negsuc n) h =
    let low : suc n ≤ 9223372036854775808 = omega (arith, h.sfits) in
    let wide : suc n < 2 ^ 64 = omega (arith, low) in
    negative_text (decimal (suc n)) (digits_read (suc n) wide) (subst (λ k. k ≤ 9223372036854775808) (sym (number_read (suc n) wide)) low)

-- ## Truth and literals

-- the text of a truth is `true` or `false`
truth_passes : (b : Bool) → (bytes_eq (truth_text b) (codes "true") || bytes_eq (truth_text b) (codes "false")) ≡ true
truth_passes true = refl
truth_passes false = refl

-- the literal at a place is among them
literal_among : (ls : List SomeLiteral) (l : ℕ) → l < length ls → list_any (λ x. bytes_eq x.text (option_map_or (λ literal. literal.text) (slice_get ls l) [])) ls ≡ true
literal_among [] l h = absurd (omega (arith, h))
literal_among (x ∷ ls) zero h = or_left (bytes_eq x.text x.text) (list_any (λ y. bytes_eq y.text x.text) ls) ((bytes_eq-Decides x.text x.text).1 refl)
literal_among (x ∷ ls) (suc l) h =
    or_right (bytes_eq x.text (option_map_or (λ literal. literal.text) (slice_get ls l) [])) (list_any (λ y. bytes_eq y.text (option_map_or (λ literal. literal.text) (slice_get ls l) [])) ls) (literal_among ls l (omega (arith, h)))

-- ## Values

module _ (m : Contents) where
  -- the text of a literal is one of its enumeration's
  enum_passes : (x : Option EnumDef) (l : ℕ) → l < option_map_or (λ d. length d.literals) x 0
      → list_any (λ y. bytes_eq y.text (option_map_or (λ d. option_map_or (λ literal. literal.text) (slice_get d.literals l) []) x [])) (option_map_or (λ d. d.literals) x []) ≡ true
  enum_passes None l h = absurd (omega (arith, h))
  enum_passes (Some d) l h = literal_among d.literals l h

  -- the text of a value is one of its kind, where that is no reference
  kind_passes : (kind : FeatKind) (v : Cellv) → is_reference kind ≡ false → IsOfKind m kind v → IsInRange v → is_text_of m.meta kind (kind_text m kind v) ≡ true
  kind_passes holds.Str v r t i = refl
  kind_passes holds.Opaque v r t i = refl
  kind_passes holds.Int (Int n) r t i = int_text n i
  kind_passes holds.Int (Words text) r t i = absurd t
  kind_passes holds.Int (Truth b) r t i = absurd t
  kind_passes holds.Int (Literal l) r t i = absurd t
  kind_passes holds.Int (Obj o) r t i = absurd t
  kind_passes holds.Truth (Truth b) r t i = truth_passes b
  kind_passes holds.Truth (Words text) r t i = absurd t
  kind_passes holds.Truth (Int n) r t i = absurd t
  kind_passes holds.Truth (Literal l) r t i = absurd t
  kind_passes holds.Truth (Obj o) r t i = absurd t
  kind_passes (holds.Enum e) (Literal l) r t i = enum_passes (slice_get m.meta.enums e) l t
  kind_passes (holds.Enum e) (Words text) r t i = absurd t
  kind_passes (holds.Enum e) (Int n) r t i = absurd t
  kind_passes (holds.Enum e) (Truth b) r t i = absurd t
  kind_passes (holds.Enum e) (Obj o) r t i = absurd t
  kind_passes (holds.Refer class inside back) v r t i = absurd (true≢false r)

  -- the text of an attribute's value is one of its type
  pub value_passes : (f : FeatId) (v : Cellv) → refers m.meta f ≡ false → IsOfType m f v → IsInRange v → is_value_of m.meta f (value_text m f v) ≡ true
  value_passes f v r t i = on (slice_get m.meta.features f.0) refl r t
    where
      on : (x : Option Feature) → slice_get m.meta.features f.0 ≡ x → option_map_or (λ feature. is_reference feature.kind) x false ≡ false → IsSomeAnd x (λ feature. IsOfKind m feature.kind v)
          → option_map_or (λ feature. is_text_of m.meta feature.kind (value_text m f v)) x false ≡ true
      on None e r t = absurd t
      on (Some feature) e r t = ap (is_text_of m.meta feature.kind) (text_is m f feature e r v t) ∙ kind_passes feature.kind v r t i
