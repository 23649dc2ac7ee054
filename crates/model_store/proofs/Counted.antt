-- The first place of a value in a list, and how long a list of different values can be.
use Rattle.std.proofs.Common.{◌≡◌, ℕ, ◌<◌, ◌≤◌, Bool, true, eqb, List, length, map, get_or, sym, ap, ◌∙◌, subst, ⊎_elim, arith, Some}
use Rattle.std.specs.Prelude.{slice_get, Contains}
use Rattle.std.specs.List.{position_or_len}
use Rattle.std.proofs.lemmas.Bool.{cases_lt, ne_eqb, eqb-true, true≢false}
use Rattle.std.proofs.lemmas.List.{get_or-map, get_or_default, length-map}
use Rattle.std.proofs.lemmas.List.Folds.{Any-from_list_any}
use Rattle.std.proofs.lemmas.List.Sums.{fails_before_first, passes_at_first}
use Rattle.std.proofs.lemmas.Map.Keys.{IsDistinct-from_apart}
use Rattle.std.proofs.lemmas.Map.Steps.{length-le_from_distinct_below}
use Rattle.std.proofs.lemmas.Option.{slice_get-get_or}
use Rattle.ecore_meta.specs.Valid.{AllDiffer}

-- of a value that alone passes a test
module _ {X : Type 0} (test : X → Bool) (x : X) (passes : test x ≡ true) (alone : (y : X) → test y ≡ true → y ≡ x) where
  pub placed_within : (xs : List X) → Contains xs x → position_or_len test xs < length xs
  placed_within xs h = ⊎_elim
      (λ (low : position_or_len test xs < length xs). low)
      (λ (past : length xs ≤ position_or_len test xs).
      let before : h.0 < position_or_len test xs = omega (arith, h.1, past) in
      absurd (true≢false (sym passes ∙ ap test (sym h.2) ∙ fails_before_first test xs h.0 x before)))
      (cases_lt (position_or_len test xs) (length xs))

  pub placed_at : (xs : List X) → Contains xs x → slice_get xs (position_or_len test xs) ≡ Some x
  placed_at xs h =
      let low = placed_within xs h in
      slice_get-get_or xs (position_or_len test xs) x low
      ∙ ap Some (alone (get_or xs (position_or_len test xs) x) (passes_at_first test xs x low))

-- of values that differ in a number below n
module _ {X : Type 0} (number : X → ℕ) (n : ℕ) (d : X) where
  pub at_most : (xs : List X) → AllDiffer xs → ((x y : X) → Contains xs x → Contains xs y → number x ≡ number y → x ≡ y) → ((x : X) → Contains xs x → number x < n) → length xs ≤ n
  at_most xs differ one below =
      subst (λ k. k ≤ n) (length-map xs number)
      (length-le_from_distinct_below (map number xs) n
      (IsDistinct-from_apart eqb (map number xs) (λ i j e lt low.
      let there : j < length xs = omega (arith, low, length-map xs number) in
      let here : i < length xs = omega (arith, lt, there) in
      ne_eqb (get_or (map number xs) i e) (get_or (map number xs) j e) (λ same.
      differ i j d lt there
      (one (get_or xs i d) (get_or xs j d) (inside i here) (inside j there)
      (sym (get_or-map number xs i d e here) ∙ same ∙ get_or-map number xs j d e there)))))
      (λ q h.
      let found = Any-from_list_any (eqb q) (map number xs) h in
      let low : found.0 < length xs = omega (arith, found.2, length-map xs number) in
      let is : q ≡ number (get_or xs found.0 d) = eqb-true q found.1 found.4 ∙ sym found.3 ∙ get_or-map number xs found.0 d found.1 low in
      subst (λ k. k < n) (sym is) (below (get_or xs found.0 d) (inside found.0 low))))
    where
      inside : (i : ℕ) → i < length xs → Contains xs (get_or xs i d)
      inside i h = (i, h, sym (get_or_default xs i d (get_or xs i d) h))
