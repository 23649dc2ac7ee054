-- A list of features that keeps each where it stands first, grown at its end.
use Rattle.std.proofs.Common.{◌≡◌, ℕ, ◌+◌, ◌<◌, ◌||◌, Bool, true, false, not, cond, eqb, List, [], ◌∷◌, ◌++◌, length, get_or, take, refl, sym, ap, ◌∙◌}
use Rattle.std.proofs.lemmas.Bool.{ne_eqb, eqb-true, eqb-false, true≢false, eq-eqb}
use Rattle.std.proofs.lemmas.List.{append-nil, take_more, flat_map_more}
use Rattle.std.proofs.lemmas.List.Elements.{filter-append}
use Rattle.std.specs.List.{filter, list_any, flat_map}
use Rattle.atl_base.specs.declared.numbers.FeatId.{FeatId}
use Rattle.ecore_meta.specs.Inheritance.{distinct}

-- what passes a test is found among those that another test leaves in
list_any-filter : (test p : FeatId → Bool) → ((g : FeatId) → test g ≡ true → p g ≡ true) → (xs : List FeatId) → list_any test (filter p xs) ≡ list_any test xs
list_any-filter test p h [] = refl
list_any-filter test p h (x ∷ xs) = by (p x) (test x) refl refl (list_any-filter test p h xs)
  where
    by : (b d : Bool) → p x ≡ b → test x ≡ d → list_any test (filter p xs) ≡ list_any test xs → list_any test (cond (p x) (x ∷ filter p xs) (filter p xs)) ≡ (test x || list_any test xs)
    by true d e f rest = ap (λ b. list_any test (cond b (x ∷ filter p xs) (filter p xs))) e ∙ ap (λ r. test x || r) rest
    by false true e f rest = absurd (true≢false (sym (h x f) ∙ e))
    by false false e f rest = ap (λ b. list_any test (cond b (x ∷ filter p xs) (filter p xs))) e ∙ rest ∙ ap (λ b. b || list_any test xs) (sym f)

in_both : (p : FeatId → Bool) (seen more : List FeatId) (b : Bool) → filter p more ≡ filter p seen → filter p (cond b seen more) ≡ filter p seen
in_both p seen more true d = refl
in_both p seen more false d = d

in_each : (p : FeatId → Bool) (x f : FeatId) (seen more : List FeatId) (b : Bool) → filter p more ≡ filter p seen ++ f ∷ []
    → x ∷ filter p (cond b seen more) ≡ cond b (x ∷ filter p seen) (x ∷ filter p seen ++ f ∷ [])
in_each p x f seen more true d = refl
in_each p x f seen more false d = ap (λ l. x ∷ l) d

module _ (f : FeatId) (test : FeatId → Bool) (tells : (g : FeatId) → test g ≡ eqb f.0 g.0) where
  -- one more at the end: it stays away if it is there
  pub distinct-push : (xs : List FeatId) → distinct (xs ++ f ∷ []) ≡ cond (list_any test (distinct xs)) (distinct xs) (distinct xs ++ f ∷ [])
  distinct-push [] = refl
  distinct-push (x ∷ xs) = by (test x) refl (ap (λ l. x ∷ filter others l) (distinct-push xs))
    where
      others : FeatId → Bool
      others = λ g. not (eqb g.0 x.0)

      seen : List FeatId
      seen = distinct xs

      by : (b : Bool) → test x ≡ b → x ∷ filter others (distinct (xs ++ f ∷ [])) ≡ x ∷ filter others (cond (list_any test seen) seen (seen ++ f ∷ []))
          → x ∷ filter others (distinct (xs ++ f ∷ [])) ≡ cond (test x || list_any test (filter others seen)) (x ∷ filter others seen) (x ∷ filter others seen ++ f ∷ [])
      by true e first =
          let same : f.0 ≡ x.0 = eqb-true f.0 x.0 (sym (tells x) ∙ e) in
          let out : others f ≡ false = ap not (eq-eqb f.0 x.0 same) in
          let dropped : filter others (seen ++ f ∷ []) ≡ filter others seen =
          filter-append others seen (f ∷ []) ∙ ap (λ b. filter others seen ++ cond b (f ∷ []) []) out ∙ append-nil (filter others seen) in
          first ∙ ap (λ l. x ∷ l) (in_both others seen (seen ++ f ∷ []) (list_any test seen) dropped)
          ∙ ap (λ b. cond (b || list_any test (filter others seen)) (x ∷ filter others seen) (x ∷ filter others seen ++ f ∷ [])) (sym e)
      by false e first =
          let apart : eqb f.0 x.0 ≡ false = sym (tells x) ∙ e in
          let stays : others f ≡ true = ap not apart in
          let kept : filter others (seen ++ f ∷ []) ≡ filter others seen ++ f ∷ [] =
          filter-append others seen (f ∷ []) ∙ ap (λ b. filter others seen ++ cond b (f ∷ []) []) stays in
          let found : list_any test (filter others seen) ≡ list_any test seen = list_any-filter test others (λ g t.
          let same : f.0 ≡ g.0 = eqb-true f.0 g.0 (sym (tells g) ∙ t) in
          ap not (ne_eqb g.0 x.0 (λ k. eqb-false f.0 x.0 apart (same ∙ k)))) seen in
          first ∙ in_each others x f seen (seen ++ f ∷ []) (list_any test seen) kept
          ∙ ap (λ b. cond b (x ∷ filter others seen) (x ∷ filter others seen ++ f ∷ [])) (sym found)
          ∙ ap (λ b. cond (b || list_any test (filter others seen)) (x ∷ filter others seen) (x ∷ filter others seen ++ f ∷ [])) (sym e)

  -- the same of a set that keeps its items in order
  pub distinct_more : (xs old new : List FeatId) → old ≡ distinct xs → new ≡ cond (list_any test old) old (old ++ f ∷ []) → new ≡ distinct (xs ++ f ∷ [])
  distinct_more xs old new e h = h ∙ ap (λ l. cond (list_any test l) l (l ++ f ∷ [])) e ∙ sym (distinct-push xs)

-- the lists of one element more
pub flat_map-take_more : {X A : Type 0} (g : X → List A) (xs : List X) (i : ℕ) (d : X) → i < length xs → flat_map g (take i xs) ++ g (get_or xs i d) ≡ flat_map g (take (i + 1) xs)
flat_map-take_more g xs i d h = flat_map_more g [] (take i xs) (get_or xs i d) ∙ ap (flat_map g) (sym (take_more xs i d h))
