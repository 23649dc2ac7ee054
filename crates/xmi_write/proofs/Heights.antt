-- What stands above an object by at least as many containers as there are objects lies on a cycle: of so many objects two are the same.
use Rattle.std.proofs.Common.{◌≡◌, ◌≢◌, ℕ, zero, suc, ◌+◌, ◌-◌, ◌<◌, ◌≤◌, ◌⊎◌, inl, inr, true, eqb, List, [], ◌∷◌, ◌++◌, length, get_or, refl, sym, ap, subst, ◌∙◌, ⊎_elim, arith, Option, Some, None}
use Rattle.std.specs.List.{list_any}
use Rattle.std.specs.Option.{option_map_or, option_and_then}
use Rattle.std.proofs.lemmas.Bool.{cases_eq, cases_lt, eqb-true, ne_eqb}
use Rattle.std.proofs.lemmas.List.{get_or_append_left, get_or_push, get_or_default, length_push}
use Rattle.std.proofs.lemmas.List.Folds.{Any-from_list_any}
use Rattle.std.proofs.lemmas.Map.Keys.{IsDistinct-from_apart}
use Rattle.std.proofs.lemmas.Map.Steps.{length-le_from_distinct_below}
use Rattle.std.proofs.lemmas.Option.{none-some, same_Some}
use Rattle.atl_base.specs.declared.numbers.ObjId.{ObjId}
use Rattle.ecore_meta.specs.Valid.{IsMetamodel}
use Rattle.model_store.specs.Contents.{Contents}
use Rattle.model_store.specs.Order.{IsOnCycle}
use Rattle.model_store.specs.Valid.{IsModel}
use Rattle.xmi_write.specs.Climbs.{climb}
use Rattle.xmi_write.proofs.Cyclic.{back_again, climb_add, climb_within, cycle_above}

-- ## Of numbers below a bound, as many as that and one more, two are the same

module _ (at : ℕ → ℕ) where
  abbrev Twice : ℕ → Type 0
  Twice n = (i : ℕ) × (k : ℕ) × (i < k) × (k < n) × (at i ≡ at k)

  abbrev Apart : ℕ → Type 0
  Apart n = (i k : ℕ) → i < k → k < n → at i ≢ at k

  abbrev Meets : ℕ → ℕ → Type 0
  Meets k n = (i : ℕ) × (i < n) × (at i ≡ at k)

  row : (k n : ℕ) → Meets k n ⊎ ((i : ℕ) → i < n → at i ≢ at k)
  row k zero = inr (λ i l e. absurd (omega (arith, l)))
  row k (suc n) = ⊎_elim
      (λ (found : Meets k n). inl (found.0, omega (arith, found.1), found.2))
      (λ (none : (i : ℕ) → i < n → at i ≢ at k). ⊎_elim
      (λ (same : at n ≡ at k). inl (n, omega arith, same))
      (λ (other : at n ≢ at k). inr (λ i l e. ⊎_elim
      (λ (low : i < n). none i low e)
      (λ (high : n ≤ i). let last : n ≡ i = omega (arith, l, high) in other (ap at last ∙ e))
      (cases_lt i n)))
      (cases_eq (at n) (at k)))
      (row k n)

  twice_or_apart : (n : ℕ) → Twice n ⊎ Apart n
  twice_or_apart zero = inr (λ i k l h e. absurd (omega (arith, h)))
  twice_or_apart (suc n) = ⊎_elim
      (λ (found : Twice n). inl (found.0, found.1, found.2, omega (arith, found.3), found.4))
      (λ (apart : Apart n). ⊎_elim
      (λ (found : Meets n n). inl (found.0, n, found.1, omega arith, found.2))
      (λ (none : (i : ℕ) → i < n → at i ≢ at n). inr (λ i k l h e. ⊎_elim
      (λ (low : k < n). apart i k l low e)
      (λ (high : n ≤ k). let last : k ≡ n = omega (arith, h, high) in none i (omega (arith, l, last)) (e ∙ ap at last))
      (cases_lt k n)))
      (row n n))
      (twice_or_apart n)

  numbers : ℕ → List ℕ
  numbers zero = []
  numbers (suc n) = numbers n ++ at n ∷ []

  length-numbers : (n : ℕ) → length (numbers n) ≡ n
  unfolding numbers
  length-numbers zero = refl
  length-numbers (suc n) = omega (arith, length_push (numbers n) (at n), length-numbers n)

  number_at : (n i d : ℕ) → i < n → get_or (numbers n) i d ≡ at i
  unfolding numbers
  number_at zero i d l = absurd (omega (arith, l))
  number_at (suc n) i d l = ⊎_elim
      (λ (low : i < n). get_or_append_left (numbers n) (at n ∷ []) d i (omega (arith, low, length-numbers n)) ∙ number_at n i d low)
      (λ (high : n ≤ i). let last : i ≡ n = omega (arith, l, high) in get_or_push (numbers n) (at n) d i (length-numbers n ∙ sym last) ∙ ap at (sym last))
      (cases_lt i n)

  pub some_twice : (bound n : ℕ) → bound < n → ((i : ℕ) → i < n → at i < bound) → Twice n
  some_twice bound n few below = ⊎_elim
      (λ (found : Twice n). found)
      (λ (apart : Apart n).
      let size : length (numbers n) ≡ n = length-numbers n in
      let short : length (numbers n) ≤ bound = length-le_from_distinct_below (numbers n) bound
      (IsDistinct-from_apart eqb (numbers n) (λ i j d h k. ne_eqb (get_or (numbers n) i d) (get_or (numbers n) j d)
      (λ same. apart i j h (omega (arith, k, size)) (sym (number_at n i d (omega (arith, h, k, size))) ∙ same ∙ number_at n j d (omega (arith, k, size))))))
      (λ q h.
      let found = Any-from_list_any (eqb q) (numbers n) h in
      let low : found.0 < n = omega (arith, found.2, size) in
      let here : at found.0 ≡ q = sym (number_at n found.0 0 low) ∙ get_or_default (numbers n) found.0 0 found.1 found.2 ∙ found.3 ∙ sym (eqb-true q found.1 found.4) in
      subst (λ k. k < bound) here (below found.0 low)) in
      absurd (omega (arith, few, short, size)))
      (twice_or_apart n)

-- ## Climbs

module _ (m : Contents) (valid : IsMetamodel m.meta) (model : IsModel m) (n : ℕ) (o p : ObjId) (high : length m.objects ≤ n) (within : o.0 < length m.objects) (there : climb n m o ≡ Some p) where
  -- each climb of fewer steps leads somewhere
  passed : (k : ℕ) → k ≤ n → (x : ObjId) × (climb k m o ≡ Some x)
  passed k l = on (climb k m o) refl
    where
      split : climb n m o ≡ option_and_then (climb (n - k) m) (climb k m o)
      split = let sum : k + (n - k) ≡ n = omega (arith, l) in ap (λ j. climb j m o) (sym sum) ∙ climb_add m valid model k (n - k) o

      on : (x : Option ObjId) → climb k m o ≡ x → (x : ObjId) × (climb k m o ≡ Some x)
      on None e = absurd (none-some p (sym (ap (option_and_then (climb (n - k) m)) e) ∙ sym split ∙ there))
      on (Some x) e = (x, e)

  abbrev number : ℕ → ℕ
  number k = option_map_or (λ (x : ObjId). x.0) (climb k m o) 0

  number_is : (k : ℕ) (x : ObjId) → climb k m o ≡ Some x → number k ≡ x.0
  number_is k x e = ap (λ y. option_map_or (λ (x : ObjId). x.0) y 0) e

  below : (k : ℕ) → k < suc n → number k < length m.objects
  below k l =
      let x = passed k (omega (arith, l)) in
      let low : x.0.0 < length m.objects = climb_within m valid model k o x.0 within x.1 in
      subst (λ j. j < length m.objects) (sym (number_is k x.0 x.1)) low

  pub high_is_cyclic : IsOnCycle m p
  high_is_cyclic =
      let found = some_twice number (length m.objects) (suc n) (omega (arith, high)) below in
      let i : ℕ = found.0 in
      let k : ℕ = found.1 in
      let x = passed i (omega (arith, found.2, found.3)) in
      let y = passed k (omega (arith, found.3)) in
      let same : x.0 ≡ y.0 = ap (λ j. record { 0 = j }) (sym (number_is i x.0 x.1) ∙ found.4 ∙ number_is k y.0 y.1) in
      let more : i + suc (k - suc i) ≡ k = omega (arith, found.2) in
      let round : climb (suc (k - suc i)) m x.0 ≡ Some x.0 =
      sym (ap (option_and_then (climb (suc (k - suc i)) m)) x.1) ∙ sym (climb_add m valid model i (suc (k - suc i)) o) ∙ ap (λ j. climb j m o) more ∙ y.1 ∙ ap Some (sym same) in
      cycle_above m valid model i n o x.0 p (omega (arith, found.2, found.3)) x.1 (back_again m valid model (k - suc i) x.0 round) there
