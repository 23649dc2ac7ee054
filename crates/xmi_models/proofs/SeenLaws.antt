-- What is kept of the elements before one, as one more is passed.
use Rattle.std.proofs.Common.{◌≡◌, ℕ, zero, suc, List, [], ◌∷◌, ◌++◌, length, refl, sym, ap, ◌∙◌, append-nil, arith}
use Rattle.std.specs.Prelude.{Bool, true, false, ◌==◌, ◌&&◌, ◌||◌, slice_get, if◌then◌else◌}
use Rattle.std.specs.Option.{option_map_or}
use Rattle.std.specs.List.{list_any}
use Rattle.std.proofs.lemmas.Bool.{eqb-true, eq-eqb, ne_eqb}
use Rattle.std.proofs.lemmas.List.Folds.{list_any-append}
use Rattle.ecore_meta.specs.declared.parts.Parts.{Parts}
use Rattle.xmi_models.specs.Outline.{Entry, is_object, objects_in}
use Rattle.xmi_models.specs.Faults.{attribute_feature, gives, objects, has_attribute}
use Rattle.xmi_models.specs.Entries.{object_no}
use Rattle.xmi_models.specs.SeenFeatures.{feature_no, has_value}
use Rattle.xmi_names.proofs.Inheriting.{agree}

-- ## Tests

pub cond_or : (b x : Bool) → (if b then true else x) ≡ (x || b)
cond_or true true = refl
cond_or true false = refl
cond_or false true = refl
cond_or false false = refl

pub or_and_false : (a b : Bool) → a ≡ (a || (b && false))
or_and_false true b = refl
or_and_false false true = refl
or_and_false false false = refl

pub or_false : (a : Bool) → a ≡ (a || false)
or_false true = refl
or_false false = refl

-- one more of those that are asked for behind a test
pub or_more : (a b x y : Bool) → ((a || (b && x)) || (b && y)) ≡ (a || (b && (x || y)))
or_more true b x y = refl
or_more false true true y = refl
or_more false true false y = refl
or_more false false x y = refl

-- two kinds of values, each with one more
pub or_both : (g h x y : Bool) → (((g || h) || x) || y) ≡ ((g || (x || false)) || (h || y))
or_both true h x y = refl
or_both false true true y = refl
or_both false true false y = refl
or_both false false true y = refl
or_both false false false y = refl

next_same : (n o : ℕ) → (n == o) ≡ (suc n == suc o)
next_same n o = agree (n == o) (suc n == suc o) (λ e. eq-eqb (suc n) (suc o) (ap suc (eqb-true n o e))) (λ e. eq-eqb n o (omega (arith, eqb-true (suc n) (suc o) e)))

-- ## Objects by their numbers

module _ (test : Entry → Bool) (e : Entry) where
  at_end : (xs : List Entry) (o : ℕ) → option_map_or test (slice_get (xs ++ (e ∷ [])) o) false ≡ (option_map_or test (slice_get xs o) false || (length xs == o && test e))
  at_end [] zero = refl
  at_end [] (suc o) = ap (λ b. b && test e) (sym (ne_eqb 0 (suc o) (λ h. absurd (omega (arith, h)))))
  at_end (x ∷ xs) zero = or_false (test x) ∙ ap (λ b. test x || (b && test e)) (sym (ne_eqb (suc (length xs)) 0 (λ h. absurd (omega (arith, h)))))
  at_end (x ∷ xs) (suc o) = at_end xs o ∙ ap (λ b. option_map_or test (slice_get xs o) false || (b && test e)) (next_same (length xs) o)

objects_more : (es : List Entry) (e : Entry) → objects (es ++ (e ∷ [])) ≡ objects es ++ (if is_object e.part then e ∷ [] else [])
objects_more [] e = refl
objects_more (x ∷ es) e = by (is_object x.part) (objects_more es e)
  where
    by : (b : Bool) → objects (es ++ (e ∷ [])) ≡ objects es ++ (if is_object e.part then e ∷ [] else [])
        → (if b then x ∷ objects (es ++ (e ∷ [])) else objects (es ++ (e ∷ []))) ≡ (if b then x ∷ objects es else objects es) ++ (if is_object e.part then e ∷ [] else [])
    by true h = ap (λ l. x ∷ l) h
    by false h = h

counted : (es : List Entry) → length (objects es) ≡ objects_in es
counted [] = refl
counted (x ∷ es) = by (is_object x.part) (counted es)
  where
    by : (b : Bool) → length (objects es) ≡ objects_in es → length (if b then x ∷ objects es else objects es) ≡ (if b then suc (objects_in es) else objects_in es)
    by true h = ap suc h
    by false h = h

module _ (meta : Parts) where
  -- whether an attribute of the element gives a feature
  abbrev pub given_by : ℕ → Entry → Bool
  given_by f e = list_any (λ a. option_map_or (λ g. g.0 == f) (attribute_feature meta e.part a) false) e.tag.attributes

  attribute_more : (before : List Entry) (e : Entry) (o f : ℕ) → has_attribute meta (before ++ (e ∷ [])) (object_no o) (feature_no f)
      ≡ (has_attribute meta before (object_no o) (feature_no f) || (if is_object e.part then objects_in before == o && given_by f e else false))
  attribute_more before e o f =
      ap (λ l. option_map_or (given_by f) (slice_get l o) false) (objects_more before e) ∙ by (is_object e.part)
    where
      by : (b : Bool) → option_map_or (given_by f) (slice_get (objects before ++ (if b then e ∷ [] else [])) o) false
          ≡ (option_map_or (given_by f) (slice_get (objects before) o) false || (if b then objects_in before == o && given_by f e else false))
      by true = at_end (given_by f) e (objects before) o ∙ ap (λ n. option_map_or (given_by f) (slice_get (objects before) o) false || (n == o && given_by f e)) (counted before)
      by false = ap (λ l. option_map_or (given_by f) (slice_get l o) false) (append-nil (objects before)) ∙ or_false (option_map_or (given_by f) (slice_get (objects before) o) false)

  pub value_more : (before : List Entry) (e : Entry) (o f : ℕ) → has_value meta (before ++ (e ∷ [])) o f
      ≡ ((has_value meta before o f || gives (object_no o) (feature_no f) e) || (if is_object e.part then objects_in before == o && given_by f e else false))
  value_more before e o f =
      let test = gives (object_no o) (feature_no f) in
      let late = if is_object e.part then objects_in before == o && given_by f e else false in
      ap (λ g. g || has_attribute meta (before ++ (e ∷ [])) (object_no o) (feature_no f)) (list_any-append test before (e ∷ []))
      ∙ ap (λ h. (list_any test before || (test e || false)) || h) (attribute_more before e o f)
      ∙ sym (or_both (list_any test before) (has_attribute meta before (object_no o) (feature_no f)) (test e) late)
