-- Lists of roots with one more, and with one less.
use Rattle.std.proofs.Common.{◌≡◌, ◌≢◌, ℕ, zero, suc, ◌⊎◌, inl, inr, List, [], ◌∷◌, refl, sym, ap, ◌∙◌, subst, ⊎_elim, arith}
use Rattle.std.specs.Prelude.{◌==◌, Bool, true, false, not, slice_index_or, if◌then◌else◌, Contains, All}
use Rattle.std.specs.List.{insert}
use Rattle.std.proofs.lemmas.Bool.{eqb-true, eq-eqb, true≢false}
use Rattle.std.proofs.lemmas.List.{get_or_default}
use Rattle.std.proofs.lemmas.List.Kept.{AllPairs-cons, AllPairs-filter}
use Rattle.atl_base.specs.declared.numbers.ObjId.{ObjId}
use Rattle.ecore_meta.specs.Valid.{AllDiffer}
use Rattle.model_store.specs.Writes.{without_root}
use Rattle.model_store.proofs.Slots.{same_object}
use Rattle.model_store.proofs.Thinned.{Contains_first, Contains_later, Contains_none, Contains_cases}

module _ {X : Type 0} where
  pub inserted : (xs : List X) (i : ℕ) (x y : X) → Contains (insert xs i x) y → (x ≡ y) ⊎ Contains xs y
  inserted [] zero x y h = Contains_cases x y [] h
  inserted [] (suc i) x y h = Contains_cases x y [] h
  inserted (z ∷ xs) zero x y h = Contains_cases x y (z ∷ xs) h
  inserted (z ∷ xs) (suc i) x y h = ⊎_elim
      (λ (e : z ≡ y). inr (subst (Contains (z ∷ xs)) e (Contains_first z xs)))
      (λ (g : Contains (insert xs i x) y). ⊎_elim (λ (e : x ≡ y). inl e) (λ (k : Contains xs y). inr (Contains_later z y xs k)) (inserted xs i x y g))
      (Contains_cases z y (insert xs i x) h)

  pub inserted_new : (xs : List X) (i : ℕ) (x : X) → Contains (insert xs i x) x
  inserted_new [] zero x = Contains_first x []
  inserted_new [] (suc i) x = Contains_first x []
  inserted_new (z ∷ xs) zero x = Contains_first x (z ∷ xs)
  inserted_new (z ∷ xs) (suc i) x = Contains_later z x (insert xs i x) (inserted_new xs i x)

  pub inserted_old : (xs : List X) (i : ℕ) (x y : X) → Contains xs y → Contains (insert xs i x) y
  inserted_old [] i x y h = absurd (Contains_none y h)
  inserted_old (z ∷ xs) zero x y h = Contains_later x y (z ∷ xs) h
  inserted_old (z ∷ xs) (suc i) x y h = ⊎_elim
      (λ (e : z ≡ y). subst (Contains (z ∷ insert xs i x)) e (Contains_first z (insert xs i x)))
      (λ (k : Contains xs y). Contains_later z y (insert xs i x) (inserted_old xs i x y k))
      (Contains_cases z y xs h)

  all_from : (P : X → Type 0) (xs : List X) → ((x : X) → Contains xs x → P x) → All P xs
  all_from P xs f k d l = f (slice_index_or xs k d) (k, l, sym (get_or_default xs k d (slice_index_or xs k d) l))

  pub inserted_differ : (xs : List X) (i : ℕ) (x : X) → AllDiffer xs → (Contains xs x → ⊥) → AllDiffer (insert xs i x)
  inserted_differ [] zero x h n = AllPairs-cons (λ a b. a ≢ b) x [] (λ k d l. absurd (omega (arith, l))) h
  inserted_differ [] (suc i) x h n = AllPairs-cons (λ a b. a ≢ b) x [] (λ k d l. absurd (omega (arith, l))) h
  inserted_differ (z ∷ xs) zero x h n = AllPairs-cons (λ a b. a ≢ b) x (z ∷ xs) (all_from (λ b. x ≢ b) (z ∷ xs) (λ y k e. n (subst (Contains (z ∷ xs)) (sym e) k))) h
  inserted_differ (z ∷ xs) (suc i) x h n = AllPairs-cons (λ a b. a ≢ b) z (insert xs i x)
      (all_from (λ b. z ≢ b) (insert xs i x) (λ y k e. ⊎_elim
      (λ (s : x ≡ y). n (subst (Contains (z ∷ xs)) (e ∙ sym s) (Contains_first z xs)))
      (λ (c : Contains xs y). h 0 (suc c.0) y (omega arith) (omega (arith, c.1)) (e ∙ sym c.2))
      (inserted xs i x y k)))
      (inserted_differ xs i x (λ a b d lt l. h (suc a) (suc b) d (omega (arith, lt)) (omega (arith, l))) (λ k. n (Contains_later z x xs k)))

abbrev is_other : ObjId → ObjId → Bool
is_other o r = not (r.0 == o.0)

pub left_root : (o p : ObjId) (roots : List ObjId) → Contains (without_root o roots) p → Contains roots p × (p ≢ o)
left_root o p [] h = absurd (Contains_none p h)
left_root o p (r ∷ roots) h = on (r.0 == o.0) refl h (λ k. left_root o p roots k)
  where
    later : Contains roots p × (p ≢ o) → Contains (r ∷ roots) p × (p ≢ o)
    later x = (Contains_later r p roots x.0, x.1)

    on : (b : Bool) → (r.0 == o.0) ≡ b → Contains (if not b then r ∷ without_root o roots else without_root o roots) p → (Contains (without_root o roots) p → Contains roots p × (p ≢ o)) → Contains (r ∷ roots) p × (p ≢ o)
    on true e h again = later (again h)
    on false e h again = ⊎_elim
        (λ (s : r ≡ p). (subst (Contains (r ∷ roots)) s (Contains_first r roots), λ z. true≢false (sym (eq-eqb r.0 o.0 (ap (λ x. x.0) (s ∙ z))) ∙ e)))
        (λ (k : Contains (without_root o roots) p). later (again k))
        (Contains_cases r p (without_root o roots) h)

pub root_left : (o p : ObjId) (roots : List ObjId) → Contains roots p → p ≢ o → Contains (without_root o roots) p
root_left o p [] h n = absurd (Contains_none p h)
root_left o p (r ∷ roots) h n = on (r.0 == o.0) refl (λ k. root_left o p roots k n)
  where
    on : (b : Bool) → (r.0 == o.0) ≡ b → (Contains roots p → Contains (without_root o roots) p) → Contains (if not b then r ∷ without_root o roots else without_root o roots) p
    on true e again = ⊎_elim (λ (s : r ≡ p). absurd (n (sym s ∙ same_object r o (eqb-true r.0 o.0 e)))) again (Contains_cases r p roots h)
    on false e again = ⊎_elim
        (λ (s : r ≡ p). subst (Contains (r ∷ without_root o roots)) s (Contains_first r (without_root o roots)))
        (λ (k : Contains roots p). Contains_later r p (without_root o roots) (again k))
        (Contains_cases r p roots h)

pub left_differ : (o : ObjId) (roots : List ObjId) → AllDiffer roots → AllDiffer (without_root o roots)
left_differ o roots h = AllPairs-filter (λ a b. a ≢ b) (is_other o) roots h
