-- The text of an attribute's value stands for that value.
use Rattle.std.proofs.Common.{◌≡◌, ℕ, suc, ◌<◌, ◌^◌, List, [], ◌∷◌, length, drop, map, refl, sym, ap, ◌∙◌, subst, arith, cond, Option, Some, None, ℤ, pos, negsuc, neg_ℤ, FitsSigned, w64, append-nil}
use Rattle.std.specs.Prelude.{◌==◌, Bool, true, false, bytes_eq, position, slice_get, if◌then◌else◌}
use Rattle.std.specs.Char.{digit_value}
use Rattle.std.specs.Fmt.{signed_decimal}
use Rattle.std.specs.Option.{option_map_or, IsSomeAnd}
use Rattle.std.specs.Str.Parse.{IsNumeral, digits_value, signed_digits_value}
use Rattle.std.proofs.lemmas.Bool.{lt-ltb, ne_eqb, true≢false}
use Rattle.std.proofs.lemmas.Fmt.{decimal_is_IsNumeral}
use Rattle.std.proofs.lemmas.List.Elements.{All-contains}
use Rattle.std.proofs.lemmas.Option.{get_or_from_slice_get, slice_get_within}
use Rattle.atl_base.specs.declared.numbers.FeatId.{FeatId}
use Rattle.ecore_meta.specs.declared.parts.EnumDef.{EnumDef}
use Rattle.ecore_meta.specs.declared.parts.FeatKind.{FeatKind}
use Rattle.ecore_meta.specs.declared.parts.FeatKind.TheVariants as holds
use Rattle.ecore_meta.specs.declared.parts.Feature.{Feature}
use Rattle.ecore_meta.specs.declared.parts.Literal.{Literal as SomeLiteral}
use Rattle.ecore_meta.specs.Valid.{AllDiffer, IsMetamodel, is_reference}
use Rattle.model_store.specs.declared.parts.Cellv.{Cellv}
use Rattle.model_store.specs.declared.parts.Cellv.TheVariants.{Words, Int, Truth, Literal}
use Rattle.model_store.specs.Contents.{Contents, refers}
use Rattle.model_store.specs.Texts.{literal_text, value_text}
use Rattle.model_store.specs.Valid.{IsOfKind, IsOfType}
use Rattle.model_store.specs.Writes.{literal_number, literal_of, value_of_text}
use Rattle.xmi_links.specs.References.{value_of}
use Rattle.xmi_models.specs.Outline.{Entry}
use Rattle.xmi_round_trip.specs.RoundTrip.{IsInRange}
use Rattle.xmi_round_trip.proofs.Texts.{kind_text, text_is}
use Rattle.xmi_round_trip.proofs.Names.{position_here, names_before}
use Rattle.xmi_round_trip.proofs.Lists.{some_at}
use Rattle.doc_text.proofs.ScopesAgain.{same_bytes}

-- ## Whole numbers

-- digits without a sign
digits_read : (ds : List ℕ) (n : ℕ) → IsNumeral 10 ds → digits_value 10 ds ≡ n → signed_digits_value 10 ds ≡ pos n
digits_read [] n d e = absurd (omega (arith, d.0))
digits_read (c ∷ cs) n d e = on (c == 45) (ne_eqb c 45 (no_minus d.1.0)) (c == 43) (ne_eqb c 43 (no_plus d.1.0))
  where
    no_minus : digit_value c < 10 → c ≡ 45 → ⊥
    no_minus l i = absurd (omega (arith, subst (λ k. digit_value k < 10) i l))

    no_plus : digit_value c < 10 → c ≡ 43 → ⊥
    no_plus l i = absurd (omega (arith, subst (λ k. digit_value k < 10) i l))

    read : Bool → Bool → List ℕ
    read a b = cond a (drop 1 (c ∷ cs)) (drop (cond b 1 0) (c ∷ cs))

    on : (a : Bool) → a ≡ false → (b : Bool) → b ≡ false → cond a (neg_ℤ (pos (digits_value 10 (read a b)))) (pos (digits_value 10 (read a b))) ≡ pos n
    on false i false j = ap pos e
    on true i b j = absurd (true≢false i)
    on false i true j = absurd (true≢false j)

-- a whole number is read back
number_back : (z : ℤ) → FitsSigned w64 z → signed_digits_value 10 (signed_decimal z) ≡ z
number_back (pos n) h = let k = decimal_is_IsNumeral n (omega (arith, h.sfits)) in digits_read (signed_decimal (pos n)) n k.0 k.1
number_back (negsuc n) h = let k = decimal_is_IsNumeral (suc n) (omega (arith, h.sfits)) in ap (λ i. neg_ℤ (pos i)) k.1

-- ## Literals

module _ (ls : List SomeLiteral) (differ : AllDiffer (map (λ l. l.text) ls)) (n : ℕ) (low : n < length ls) (small : n < 2 ^ 32) where
  -- so its number is read back from its text
  literal_back : literal_number (position (λ l. bytes_eq l.text (option_map_or (λ (l : SomeLiteral). l.text) (slice_get ls n) [])) ls) ≡ n
  literal_back =
      let x = some_at ls n low in
      ap (λ y. literal_number (position (λ l. bytes_eq l.text (option_map_or (λ (l : SomeLiteral). l.text) y [])) ls)) x.1
      ∙ ap literal_number (position_here (λ l. bytes_eq l.text x.0.text) ls n x.0 x.1 (same_bytes x.0.text)
      (names_before (λ l. l.text) ls [] n x.0 (subst AllDiffer (sym (append-nil (map (λ l. l.text) ls))) differ) x.1))
      ∙ ap (λ (b : Bool). if b then n else 0) (lt-ltb n 4294967296 (omega (arith, small)))

-- ## Values

module _ (m : Contents) (valid : IsMetamodel m.meta) where
  -- a literal is read back
  enum_back : (e l : ℕ) → IsOfKind m (holds.Enum e) (Literal l) → l < 2 ^ 32 → literal_of m.meta e (literal_text m.meta (holds.Enum e) l) ≡ l
  enum_back e l h small = on (slice_get m.meta.enums e) refl h
    where
      on : (x : Option EnumDef) → slice_get m.meta.enums e ≡ x → l < option_map_or (λ d. length d.literals) x 0
          → literal_number (position (λ y. bytes_eq y.text (option_map_or (λ d. option_map_or (λ (literal : SomeLiteral). literal.text) (slice_get d.literals l) []) x [])) (option_map_or (λ d. d.literals) x [])) ≡ l
      on None i h = absurd (omega (arith, h))
      on (Some d) i h = literal_back d.literals differ l h small
        where
          differ : AllDiffer (map (λ y. y.text) d.literals)
          differ = (All-contains (λ (x : EnumDef). AllDiffer (map (λ y. y.name) x.literals) × AllDiffer (map (λ y. y.text) x.literals)) m.meta.enums d valid.literals_differ (e, slice_get_within m.meta.enums e d i, get_or_from_slice_get m.meta.enums e d d i)).1

  -- a value is read back from its text
  kind_back : (kind : FeatKind) (v : Cellv) → is_reference kind ≡ false → IsOfKind m kind v → IsInRange v → value_of_text m.meta kind (kind_text m kind v) ≡ v
  kind_back holds.Str (Words t) r h i = refl
  kind_back holds.Opaque (Words t) r h i = refl
  kind_back holds.Int (Int n) r h i = ap Int (number_back n i)
  kind_back holds.Truth (Truth true) r h i = refl
  kind_back holds.Truth (Truth false) r h i = refl
  kind_back (holds.Enum e) (Literal l) r h i = ap Literal (enum_back e l h i)
  kind_back (holds.Refer class contains opposite) v r h i = absurd (true≢false r)
  kind_back kind v r h i = absurd h

  -- the text of a value of an attribute's type stands for it again
  pub value_back : (entries : List Entry) (f : FeatId) (v : Cellv) → refers m.meta f ≡ false → IsOfType m f v → IsInRange v → value_of m.meta entries f (value_text m f v) ≡ v ∷ []
  value_back entries f v r h i = on (slice_get m.meta.features f.0) refl r h
    where
      on : (x : Option Feature) → slice_get m.meta.features f.0 ≡ x → option_map_or (λ feature. is_reference feature.kind) x false ≡ false → IsSomeAnd x (λ feature. IsOfKind m feature.kind v)
          → option_map_or (λ feature. value_of_text m.meta feature.kind (value_text m f v) ∷ []) x [] ≡ v ∷ []
      on None e r h = absurd h
      on (Some feature) e r h = ap (λ text. value_of_text m.meta feature.kind text ∷ []) (text_is m f feature e r v h) ∙ ap (λ w. w ∷ []) (kind_back feature.kind v r h i)
