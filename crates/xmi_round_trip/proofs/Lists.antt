-- Lists that are made element by element, what tests leave of them, and what stands at a place of one.
use Rattle.std.proofs.Common.{◌≡◌, ℕ, zero, suc, ◌<◌, ◌≤◌, List, [], ◌∷◌, ◌++◌, length, map, refl, sym, ap, ap₂, ◌∙◌, subst, ⊎_elim, arith, Option, Some, None}
use Rattle.std.specs.Prelude.{◌&&◌, Bool, true, false, find, filter, filter_map, flat_map, slice_get, slice_index_or, All, Contains, IsSome, if◌then◌else◌}
use Rattle.std.specs.List.{cons_option, list_any}
use Rattle.std.proofs.lemmas.Bool.{cond-false, cond-true, false≢true, or_from}
use Rattle.std.proofs.lemmas.List.{map-append}
use Rattle.std.proofs.lemmas.List.Concat.{flat_map-append}
use Rattle.std.proofs.lemmas.List.Elements.{filter-append, filter_map-append}
use Rattle.std.proofs.lemmas.Option.{get_or_from_slice_get, slice_get_cases, slice_get_within}
use Rattle.model_store.proofs.Thinned.{Contains_cases, Contains_first, Contains_later, Contains_none}

-- ## Elements

-- what is there
pub some_there : {X : Type 0} (x : Option X) → IsSome x → (y : X) × (x ≡ Some y)
some_there None h = absurd (false≢true h)
some_there (Some y) h = (y, refl)

-- of a list of at most one
pub one_only : {X : Type 0} (xs : List X) (x y : X) → length xs ≤ 1 → Contains xs x → Contains xs y → x ≡ y
one_only [] x y l h k = absurd (Contains_none x h)
one_only (z ∷ []) x y l h k = ⊎_elim (λ e. ⊎_elim (λ i. sym e ∙ i) (λ n. absurd (Contains_none y n)) (Contains_cases z y [] k)) (λ n. absurd (Contains_none x n)) (Contains_cases z x [] h)
one_only (z ∷ w ∷ xs) x y l h k = absurd (omega (arith, l))

-- the one of one
pub only : {X : Type 0} (x y : X) → Contains (x ∷ []) y → x ≡ y
only x y h = one_only (x ∷ []) x y (omega arith) (Contains_first x []) h

-- where nothing is in a list
pub none_in : {X : Type 0} (xs : List X) → ((x : X) → Contains xs x → ⊥) → xs ≡ []
none_in [] h = refl
none_in (x ∷ xs) h = absurd (h x (Contains_first x xs))

-- what stands at a place is in the list
pub found_in : {X : Type 0} (xs : List X) (n : ℕ) (x : X) → slice_get xs n ≡ Some x → Contains xs x
found_in xs n x e = (n, slice_get_within xs n x e, get_or_from_slice_get xs n x x e)

-- below the length something stands
pub some_at : {X : Type 0} (xs : List X) (n : ℕ) → n < length xs → (x : X) × (slice_get xs n ≡ Some x)
some_at {X} xs n low = ⊎_elim
    (λ (h : (x : X) × (n < length xs) × (slice_get xs n ≡ Some x) × (slice_index_or xs n x ≡ x)). (h.0, h.2))
    (λ (h : (length xs ≤ n) × (slice_get xs n ≡ None)). absurd (omega (arith, low, h.0)))
    (slice_get_cases xs n).1

-- what is true of all is true of the one at a place
pub at_place : {X : Type 0} (P : X → Type 0) (xs : List X) (n : ℕ) (x : X) → All P xs → slice_get xs n ≡ Some x → P x
at_place P xs n x h e = subst P (get_or_from_slice_get xs n x x e) (h n x (slice_get_within xs n x e))

-- what stands at a place
pub element : {X : Type 0} (xs : List X) (k : ℕ) → k < length xs → (x : X) × (slice_index_or xs k x ≡ x)
element [] k l = absurd (omega (arith, l))
element (x ∷ xs) zero l = (x, refl)
element (x ∷ xs) (suc k) l = element xs k (omega (arith, l))

-- what stands before and after a place
pub split_there : {X : Type 0} (xs : List X) (k : ℕ) (d : X) → k < length xs → (before : List X) × (after : List X) × (xs ≡ before ++ slice_index_or xs k d ∷ after) × (length before ≡ k)
split_there [] k d l = absurd (omega (arith, l))
split_there (x ∷ xs) zero d l = ([], xs, refl, refl)
split_there (x ∷ xs) (suc k) d l =
    let r = split_there xs k d (omega (arith, l)) in
    (x ∷ r.0, r.1, ap (λ l. x ∷ l) r.2, ap suc r.3)

-- ## Tests

-- where all pass
pub all_pass : {X : Type 0} (p : X → Bool) (xs : List X) → ((x : X) → Contains xs x → p x ≡ true) → filter p xs ≡ xs
all_pass p [] h = refl
all_pass p (x ∷ xs) h =
    cond-true (p x) (x ∷ filter p xs) (filter p xs) (h x (Contains_first x xs))
    ∙ ap (λ l. x ∷ l) (all_pass p xs (λ y m. h y (Contains_later x y xs m)))

-- where none passes
pub none_pass : {X : Type 0} (p : X → Bool) (xs : List X) → ((x : X) → Contains xs x → p x ≡ false) → filter p xs ≡ []
none_pass p [] h = refl
none_pass p (x ∷ xs) h =
    cond-false (p x) (x ∷ filter p xs) (filter p xs) (h x (Contains_first x xs))
    ∙ none_pass p xs (λ y m. h y (Contains_later x y xs m))

-- one test behind another
pub filter_twice : {X : Type 0} (p q : X → Bool) (xs : List X) → filter p (filter q xs) ≡ filter (λ x. p x && q x) xs
filter_twice p q [] = refl
filter_twice p q (x ∷ xs) = on (p x) refl (q x) (filter_twice p q xs)
  where
    on : (a : Bool) → p x ≡ a → (b : Bool) → filter p (filter q xs) ≡ filter (λ x. p x && q x) xs
        → filter p (if b then x ∷ filter q xs else filter q xs) ≡ (if p x && b then x ∷ filter (λ x. p x && q x) xs else filter (λ x. p x && q x) xs)
    on true e true again =
        cond-true (p x) (x ∷ filter p (filter q xs)) (filter p (filter q xs)) e ∙ ap (λ l. x ∷ l) again
        ∙ ap (λ a. if a && true then x ∷ filter (λ x. p x && q x) xs else filter (λ x. p x && q x) xs) (sym e)
    on true e false again = again ∙ ap (λ a. if a && false then x ∷ filter (λ x. p x && q x) xs else filter (λ x. p x && q x) xs) (sym e)
    on false e true again =
        cond-false (p x) (x ∷ filter p (filter q xs)) (filter p (filter q xs)) e ∙ again
        ∙ ap (λ a. if a && true then x ∷ filter (λ x. p x && q x) xs else filter (λ x. p x && q x) xs) (sym e)
    on false e false again = again ∙ ap (λ a. if a && false then x ∷ filter (λ x. p x && q x) xs else filter (λ x. p x && q x) xs) (sym e)

-- what a test leaves passes it
pub in_filter : {X : Type 0} (p : X → Bool) (xs : List X) (y : X) → Contains (filter p xs) y → (p y ≡ true) × Contains xs y
in_filter p [] y m = absurd (Contains_none y m)
in_filter p (x ∷ xs) y m = on (p x) refl m (λ g. in_filter p xs y g)
  where
    on : (b : Bool) → p x ≡ b → Contains (if b then x ∷ filter p xs else filter p xs) y → (Contains (filter p xs) y → (p y ≡ true) × Contains xs y) → (p y ≡ true) × Contains (x ∷ xs) y
    on true i m again = ⊎_elim
        (λ (s : x ≡ y). (ap p (sym s) ∙ i, subst (λ z. Contains (x ∷ xs) z) s (Contains_first x xs)))
        (λ (g : Contains (filter p xs) y). let r = again g in (r.0, Contains_later x y xs r.1))
        (Contains_cases x y (filter p xs) m)
    on false i m again = let r = again m in (r.0, Contains_later x y xs r.1)

-- where no element passes a test
pub none_passes : {X : Type 0} (p : X → Bool) (xs : List X) → ((x : X) → Contains xs x → p x ≡ false) → list_any p xs ≡ false
none_passes p [] n = refl
none_passes p (x ∷ xs) n = or_from (p x) (list_any p xs) (n x (Contains_first x xs)) (none_passes p xs (λ y m. n y (Contains_later x y xs m)))

-- it finds none
pub none_found : {X : Type 0} (p : X → Bool) (xs : List X) → ((x : X) → Contains xs x → p x ≡ false) → find p xs ≡ None
none_found p [] n = refl
none_found p (x ∷ xs) n = ap (λ b. if b then Some x else find p xs) (n x (Contains_first x xs)) ∙ none_found p xs (λ y m. n y (Contains_later x y xs m))

-- ## Elements of elements

-- what changes no element changes nothing
pub map_same : {X : Type 0} (g : X → X) (xs : List X) → ((x : X) → Contains xs x → g x ≡ x) → map g xs ≡ xs
map_same g [] h = refl
map_same g (x ∷ xs) h = ap (λ y. y ∷ map g xs) (h x (Contains_first x xs)) ∙ ap (λ l. x ∷ l) (map_same g xs (λ y m. h y (Contains_later x y xs m)))

-- where nothing is kept
pub none_kept : {X Y : Type 0} (h : X → Option Y) (xs : List X) → ((x : X) → Contains xs x → h x ≡ None) → filter_map h xs ≡ []
none_kept h [] n = refl
none_kept h (x ∷ xs) n = ap (λ o. cons_option o (filter_map h xs)) (n x (Contains_first x xs)) ∙ none_kept h xs (λ y m. n y (Contains_later x y xs m))

-- where all is kept
pub kept_all : {X Y : Type 0} (g : X → Y) (xs : List X) → filter_map (λ x. Some (g x)) xs ≡ map g xs
kept_all g [] = refl
kept_all g (x ∷ xs) = ap (λ l. g x ∷ l) (kept_all g xs)

-- what is kept of a mapped list
pub kept_map : {X Y Z : Type 0} (h : Y → Option Z) (g : X → Y) (xs : List X) → filter_map h (map g xs) ≡ filter_map (λ x. h (g x)) xs
kept_map h g [] = refl
kept_map h g (x ∷ xs) = ap (cons_option (h (g x))) (kept_map h g xs)

-- where nothing is made of any element
pub flat_map_none : {X A : Type 0} (f : X → List A) (xs : List X) → ((x : X) → Contains xs x → f x ≡ []) → flat_map f xs ≡ []
flat_map_none f [] h = refl
flat_map_none f (x ∷ xs) h = ap (λ ys. ys ++ flat_map f xs) (h x (Contains_first x xs)) ∙ flat_map_none f xs (λ y m. h y (Contains_later x y xs m))

-- what is made of what is made
pub flat_map_twice : {X Y A : Type 0} (f : Y → List A) (g : X → List Y) (xs : List X) → flat_map f (flat_map g xs) ≡ flat_map (λ x. flat_map f (g x)) xs
flat_map_twice f g [] = refl
flat_map_twice f g (x ∷ xs) = flat_map-append f (g x) (flat_map g xs) ∙ ap (λ ys. flat_map f (g x) ++ ys) (flat_map_twice f g xs)

-- what a test leaves of joined lists
pub filter_flat : {X Y : Type 0} (p : Y → Bool) (f : X → List Y) (xs : List X) → filter p (flat_map f xs) ≡ flat_map (λ x. filter p (f x)) xs
filter_flat p f [] = refl
filter_flat p f (x ∷ xs) = filter-append p (f x) (flat_map f xs) ∙ ap (λ l. filter p (f x) ++ l) (filter_flat p f xs)

-- what is kept of joined lists
pub filter_map_flat : {X Y Z : Type 0} (h : Y → Option Z) (f : X → List Y) (xs : List X) → filter_map h (flat_map f xs) ≡ flat_map (λ x. filter_map h (f x)) xs
filter_map_flat h f [] = refl
filter_map_flat h f (x ∷ xs) = filter_map-append h (f x) (flat_map f xs) ∙ ap (λ l. filter_map h (f x) ++ l) (filter_map_flat h f xs)

-- a map of joined pieces
pub joined_mapped : {X Y A B : Type 0} (f : X → List A) (new : X → Y) (h : Y → List B) (on : A → B) (xs : List X) → ((x : X) → Contains xs x → h (new x) ≡ map on (f x))
    → flat_map h (map new xs) ≡ map on (flat_map f xs)
joined_mapped f new h on [] each = refl
joined_mapped {B = B} f new h on (x ∷ xs) each =
    ap₂ (λ (a b : List B). a ++ b) (each x (Contains_first x xs)) (joined_mapped f new h on xs (λ y c. each y (Contains_later x y xs c)))
    ∙ sym (map-append on (f x) (flat_map f xs))
