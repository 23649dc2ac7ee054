-- What lists that are joined, filtered or kept once hold.
use Rattle.std.proofs.Common.{◌≡◌, ◌≢◌, ℕ, zero, suc, ◌<◌, ◌⊎◌, Bool, true, false, not, cond, eqb, List, [], ◌∷◌, length, get_or, refl, sym, ap, subst, ◌∙◌, inl, inr, ⊎_elim, arith}
use Rattle.std.proofs.lemmas.Bool.{cases_eq, ne_eqb}
use Rattle.std.proofs.lemmas.List.Elements.{Contains-append_left, Contains-append_right, Contains-append_cases, All-filter, All-contains, All-contains_itself}
use Rattle.std.specs.List.{Contains, filter, flat_map}
use Rattle.atl_base.specs.declared.numbers.FeatId.{FeatId}
use Rattle.ecore_meta.specs.Inheritance.{distinct}

pub head_or : {X : Type 0} (x : X) (xs : List X) (y : X) (k : ℕ) → k < length (x ∷ xs) → get_or (x ∷ xs) k y ≡ y → (x ≡ y) ⊎ Contains xs y
head_or x xs y zero h e = inl e
head_or x xs y (suc k) h e = inr (k, omega arith, e)

pub Contains-from_flat_map : {X A : Type 0} (f : X → List A) (xs : List X) (y : A) → Contains (flat_map f xs) y → (x : X) × Contains xs x × Contains (f x) y
Contains-from_flat_map f [] y m = absurd (omega (arith, m.1))
Contains-from_flat_map f (x ∷ xs) y m = ⊎_elim
    (λ (here : Contains (f x) y). (x, (0, omega arith, refl), here))
    (λ (later : Contains (flat_map f xs) y).
    let r = Contains-from_flat_map f xs y later in
    (r.0, (suc r.1.0, omega (arith, r.1.1), r.1.2), r.2))
    (Contains-append_cases (f x) (flat_map f xs) y m)

pub Contains-flat_map : {X A : Type 0} (f : X → List A) (xs : List X) (x : X) (y : A) → Contains xs x → Contains (f x) y → Contains (flat_map f xs) y
Contains-flat_map f [] x y m h = absurd (omega (arith, m.1))
Contains-flat_map f (z ∷ xs) x y m h = ⊎_elim
    (λ (here : z ≡ x). Contains-append_left (f z) (flat_map f xs) y (subst (λ w. Contains (f w) y) (sym here) h))
    (λ (later : Contains xs x). Contains-append_right (f z) (flat_map f xs) y (Contains-flat_map f xs x y later h))
    (head_or z xs x m.0 m.1 m.2)

-- a filter keeps what passes, and nothing else
Contains-from_filter : {X : Type 0} (p : X → Bool) (xs : List X) (y : X) → Contains (filter p xs) y → Contains xs y
Contains-from_filter p xs y m = All-contains (Contains xs) (filter p xs) y (All-filter p (Contains xs) xs (All-contains_itself xs)) m

Contains-filter : {X : Type 0} (p : X → Bool) (xs : List X) (y : X) → p y ≡ true → Contains xs y → Contains (filter p xs) y
Contains-filter p [] y h m = m
Contains-filter p (x ∷ xs) y h m = ⊎_elim
    (λ (here : x ≡ y).
    subst (λ b. Contains (cond b (x ∷ filter p xs) (filter p xs)) y) (sym (ap p here ∙ h)) (0, omega arith, here))
    (λ (later : Contains xs y). by (p x) (Contains-filter p xs y h later))
    (head_or x xs y m.0 m.1 m.2)
  where
    by : (b : Bool) → Contains (filter p xs) y → Contains (cond b (x ∷ filter p xs) (filter p xs)) y
    by true r = Contains-append_right (x ∷ []) (filter p xs) y r
    by false r = r

-- each feature stands in the list that keeps it once
pub Contains-from_distinct : (xs : List FeatId) (f : FeatId) → Contains (distinct xs) f → Contains xs f
Contains-from_distinct [] f m = m
Contains-from_distinct (x ∷ xs) f m = ⊎_elim
    (λ (here : x ≡ f). (0, omega arith, here))
    (λ (later : Contains (filter (λ g. not (eqb g.0 x.0)) (distinct xs)) f).
    Contains-append_right (x ∷ []) xs f (Contains-from_distinct xs f (Contains-from_filter (λ g. not (eqb g.0 x.0)) (distinct xs) f later)))
    (head_or x (filter (λ g. not (eqb g.0 x.0)) (distinct xs)) f m.0 m.1 m.2)

pub Contains-distinct : (xs : List FeatId) (f : FeatId) → Contains xs f → Contains (distinct xs) f
Contains-distinct [] f m = m
Contains-distinct (x ∷ xs) f m = ⊎_elim
    (λ (same : f.0 ≡ x.0). (0, omega arith, ap (λ n. let g : FeatId = record { 0 = n } in g) (sym same)))
    (λ (other : f.0 ≢ x.0).
    Contains-append_right (x ∷ []) (filter (λ g. not (eqb g.0 x.0)) (distinct xs)) f
    (Contains-filter (λ g. not (eqb g.0 x.0)) (distinct xs) f (ap not (ne_eqb f.0 x.0 other))
    (Contains-distinct xs f (⊎_elim
    (λ (here : x ≡ f). absurd (other (ap (λ g. g.0) (sym here))))
    (λ (later : Contains xs f). later)
    (head_or x xs f m.0 m.1 m.2)))))
    (cases_eq f.0 x.0)
