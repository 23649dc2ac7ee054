-- Look-ups in lists: by number, by a test, and in what is made of a list.
use Rattle.std.proofs.Common.{◌≡◌, ℕ, zero, suc, ◌<◌, List, [], ◌∷◌, length, get_or, map, refl, sym, ap, ◌∙◌, subst, arith}
use Rattle.std.specs.Prelude.{Bool, true, false, cond, Option, Some, None, option_map, slice_get, find, filter_map, Contains, AllPairs}
use Rattle.std.specs.List.{cons_option}
use Rattle.std.specs.Option.{option_map_or}
use Rattle.std.proofs.lemmas.List.{length-map}
use Rattle.std.proofs.lemmas.Option.{none-some, same_Some}

-- what is read at a number, or a default, of a list of other items
pub get_mapped : {X Y : Type 0} (f : X → Y) (xs : List X) (i : ℕ) (d : Y) → option_map_or f (slice_get xs i) d ≡ get_or (map f xs) i d
get_mapped f [] i d = refl
get_mapped f (x ∷ xs) zero d = refl
get_mapped f (x ∷ xs) (suc i) d = get_mapped f xs i d

pub get_or_map : {X Y : Type 0} (f : X → Y) (xs : List X) (i : ℕ) (d : X) → get_or (map f xs) i (f d) ≡ f (get_or xs i d)
get_or_map f [] i d = refl
get_or_map f (x ∷ xs) zero d = refl
get_or_map f (x ∷ xs) (suc i) d = get_or_map f xs i d

pub get_of_map : {X Y : Type 0} (f : X → Y) (xs : List X) (i : ℕ) → slice_get (map f xs) i ≡ option_map f (slice_get xs i)
get_of_map f [] i = refl
get_of_map f (x ∷ xs) zero = refl
get_of_map f (x ∷ xs) (suc i) = get_of_map f xs i

-- what is in a list of other items
pub in_map : {X Y : Type 0} (f : X → Y) (xs : List X) (y : Y) → Contains (map f xs) y → (x : X) × Contains xs x × (f x ≡ y)
in_map f [] y m = absurd (omega (arith, m.1))
in_map {X = X} f (x ∷ xs) y m = by m.0 m.1 m.2 (in_map f xs y)
  where
    by : (k : ℕ) → k < length (map f (x ∷ xs)) → get_or (map f (x ∷ xs)) k y ≡ y → (Contains (map f xs) y → (x : X) × Contains xs x × (f x ≡ y)) → (z : X) × Contains (x ∷ xs) z × (f z ≡ y)
    by zero l e later = (x, (0, omega arith, refl), e)
    by (suc k) l e later =
        let r = later (k, omega arith, e) in
        (r.0, (suc r.1.0, omega (arith, r.1.1), r.1.2), r.2)

pub to_map : {X Y : Type 0} (f : X → Y) (xs : List X) (x : X) → Contains xs x → Contains (map f xs) (f x)
to_map f xs x m = (m.0, omega (arith, m.1, length-map xs f), get_or_map f xs m.0 x ∙ ap f m.2)

-- the first that passes a test
pub found_passes : {X : Type 0} (p : X → Bool) (xs : List X) (x : X) → find p xs ≡ Some x → p x ≡ true
found_passes p [] x h = absurd (none-some x h)
found_passes p (y ∷ ys) x h = by (p y) refl h (found_passes p ys x)
  where
    by : (b : Bool) → p y ≡ b → cond b (Some y) (find p ys) ≡ Some x → (find p ys ≡ Some x → p x ≡ true) → p x ≡ true
    by true e h later = subst (λ z. p z ≡ true) (same_Some y x h) e
    by false e h later = later h

-- where none passes another test, it does not either
pub found_fails : {X : Type 0} (p q : X → Bool) (xs : List X) (x : X) → find p xs ≡ Some x → find q xs ≡ None → q x ≡ false
found_fails p q [] x h k = absurd (none-some x h)
found_fails p q (y ∷ ys) x h k = by (p y) (q y) refl h k (found_fails p q ys x)
  where
    by : (b c : Bool) → q y ≡ c → cond b (Some y) (find p ys) ≡ Some x → cond c (Some y) (find q ys) ≡ None → (find p ys ≡ Some x → find q ys ≡ None → q x ≡ false) → q x ≡ false
    by b true e h k later = absurd (none-some y (sym k))
    by true false e h k later = subst (λ z. q z ≡ false) (same_Some y x h) e
    by false false e h k later = later h k

-- one item in front
pub pairs_cons : {X : Type 0} (R : X → X → Type 0) (x : X) (xs : List X) → ((k : ℕ) (d : X) → k < length xs → R x (get_or xs k d)) → AllPairs R xs → AllPairs R (x ∷ xs)
pairs_cons R x xs f h zero zero d l n = absurd (omega (arith, l))
pairs_cons R x xs f h (suc i) zero d l n = absurd (omega (arith, l))
pairs_cons R x xs f h zero (suc j) d l n = f j d (omega arith)
pairs_cons R x xs f h (suc i) (suc j) d l n = h i j d (omega arith) (omega arith)

-- what is kept of a list
pub in_filter_map : {X Y : Type 0} (h : X → Option Y) (xs : List X) (y : Y) → Contains (filter_map h xs) y → (x : X) × Contains xs x × (h x ≡ Some y)
in_filter_map h [] y m = absurd (omega (arith, m.1))
in_filter_map {X = X} {Y = Y} h (x ∷ xs) y m = by (h x) refl m (in_filter_map h xs y)
  where
    on : (x : X) × Contains xs x × (h x ≡ Some y) → (z : X) × Contains (x ∷ xs) z × (h z ≡ Some y)
    on r = (r.0, (suc r.1.0, omega (arith, r.1.1), r.1.2), r.2)

    first : (z : Y) → h x ≡ Some z → (k : ℕ) → k < length (z ∷ filter_map h xs) → get_or (z ∷ filter_map h xs) k y ≡ y → (Contains (filter_map h xs) y → (x : X) × Contains xs x × (h x ≡ Some y)) → (w : X) × Contains (x ∷ xs) w × (h w ≡ Some y)
    first z e zero l q later = (x, (0, omega arith, refl), e ∙ ap (λ z. Some z) q)
    first z e (suc k) l q later = on (later (k, omega arith, q))

    by : (o : Option Y) → h x ≡ o → Contains (cons_option o (filter_map h xs)) y → (Contains (filter_map h xs) y → (x : X) × Contains xs x × (h x ≡ Some y)) → (z : X) × Contains (x ∷ xs) z × (h z ≡ Some y)
    by None e m later = on (later m)
    by (Some z) e m later = first z e m.0 m.1 m.2 later

pub map-map : {X Y Z : Type 0} (g : Y → Z) (f : X → Y) (xs : List X) → map g (map f xs) ≡ map (λ x. g (f x)) xs
map-map g f [] = refl
map-map g f (x ∷ xs) = ap (λ l. g (f x) ∷ l) (map-map g f xs)

pub pairs_rest : {X : Type 0} (R : X → X → Type 0) (x : X) (xs : List X) → AllPairs R (x ∷ xs) → AllPairs R xs
pairs_rest R x xs h i j d l n = h (suc i) (suc j) d (omega arith) (omega arith)
