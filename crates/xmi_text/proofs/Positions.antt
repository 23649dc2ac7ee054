-- Where a test passes first, in a list and in what is made of it.
use Rattle.std.proofs.Common.{◌≡◌, ℕ, suc, ◌+◌, ◌-◌, ◌≤◌, List, [], ◌∷◌, map, refl, sym, ap, ◌∙◌, arith}
use Rattle.std.specs.Prelude.{Bool, true, false, cond, ◌||◌, min, Option, Some, None, option_map, is_some, slice_get, find}
use Rattle.std.specs.List.{position_from, list_any}
use Rattle.std.proofs.lemmas.Option.{none-some, same_Some}
use Rattle.xmi_text.specs.Options.{then_, earlier}

pub position_same : {X : Type 0} (t u : X → Bool) → ((x : X) → t x ≡ u x) → (i : ℕ) (xs : List X) → position_from t i xs ≡ position_from u i xs
position_same t u h i [] = refl
position_same t u h i (x ∷ xs) = ap (λ b. cond b (Some i) (position_from t (i + 1) xs)) (h x) ∙ ap (cond (u x) (Some i)) (position_same t u h (i + 1) xs)

pub position_map : {X Y : Type 0} (t : Y → Bool) (f : X → Y) (i : ℕ) (xs : List X) → position_from t i (map f xs) ≡ position_from (λ x. t (f x)) i xs
position_map t f i [] = refl
position_map t f i (x ∷ xs) = ap (cond (t (f x)) (Some i)) (position_map t f (i + 1) xs)

pub position_none : {X : Type 0} (i : ℕ) (xs : List X) → position_from (λ x. false) i xs ≡ None
position_none i [] = refl
position_none i (x ∷ xs) = position_none (i + 1) xs

pub position_past : {X : Type 0} (t : X → Bool) (i : ℕ) (xs : List X) (k : ℕ) → position_from t i xs ≡ Some k → i ≤ k
position_past t i [] k h = absurd (none-some k h)
position_past t i (x ∷ xs) k h = by (t x) h (position_past t (i + 1) xs k)
  where
    by : (b : Bool) → cond b (Some i) (position_from t (i + 1) xs) ≡ Some k → (position_from t (i + 1) xs ≡ Some k → i + 1 ≤ k) → i ≤ k
    by true e later = omega (arith, same_Some i k e)
    by false e later = omega (arith, later e)

pub position_at : {X : Type 0} (t : X → Bool) (i : ℕ) (xs : List X) (k : ℕ) → position_from t i xs ≡ Some k → (x : X) × (slice_get xs (k - i) ≡ Some x) × (t x ≡ true)
position_at t i [] k h = absurd (none-some k h)
position_at {X = X} t i (x ∷ xs) k h = by (t x) refl h (position_at t (i + 1) xs k) (position_past t (i + 1) xs k)
  where
    by : (b : Bool) → t x ≡ b → cond b (Some i) (position_from t (i + 1) xs) ≡ Some k → (position_from t (i + 1) xs ≡ Some k → (x : X) × (slice_get xs (k - (i + 1)) ≡ Some x) × (t x ≡ true)) → (position_from t (i + 1) xs ≡ Some k → i + 1 ≤ k)
        → (y : X) × (slice_get (x ∷ xs) (k - i) ≡ Some y) × (t y ≡ true)
    by true e h later past =
        let first : 0 ≡ k - i = omega (arith, same_Some i k h) in
        (x, sym (ap (slice_get (x ∷ xs)) first), e)
    by false e h later past =
        let r = later h in
        let next : suc (k - (i + 1)) ≡ k - i = omega (arith, past h) in
        (r.0, sym (ap (slice_get (x ∷ xs)) next) ∙ r.1, r.2)

-- of two tests
lesser : (i k : ℕ) → i ≤ k → i ≡ min i k
lesser i k h = omega arith

pub position_either : {X : Type 0} (t u : X → Bool) (i : ℕ) (xs : List X) → position_from (λ x. t x || u x) i xs ≡ earlier (position_from t i xs) (position_from u i xs)
position_either t u i [] = refl
position_either {X = X} t u i (x ∷ xs) = by (t x) (u x) (position_either t u (i + 1) xs)
  where
    first : (o : Option ℕ) → ((k : ℕ) → o ≡ Some k → i ≤ k) → Some i ≡ earlier (Some i) o
    first None h = refl
    first (Some k) h = ap Some (lesser i k (h k refl))

    second : (o : Option ℕ) → ((k : ℕ) → o ≡ Some k → i ≤ k) → Some i ≡ earlier o (Some i)
    second None h = refl
    second (Some k) h = ap Some (by (h k refl))
      where
        by : i ≤ k → i ≡ min k i
        by l = omega arith

    later : (t : X → Bool) (k : ℕ) → position_from t (i + 1) xs ≡ Some k → i ≤ k
    later t k h = omega (arith, position_past t (i + 1) xs k h)

    by : (a b : Bool) → position_from (λ x. t x || u x) (i + 1) xs ≡ earlier (position_from t (i + 1) xs) (position_from u (i + 1) xs)
        → cond (a || b) (Some i) (position_from (λ x. t x || u x) (i + 1) xs) ≡ earlier (cond a (Some i) (position_from t (i + 1) xs)) (cond b (Some i) (position_from u (i + 1) xs))
    by true true h = ap Some (lesser i i (omega arith))
    by true false h = first (position_from u (i + 1) xs) (later u)
    by false true h = second (position_from t (i + 1) xs) (later t)
    by false false h = h

-- ## What stands there

next : {X : Type 0} (t : X → Bool) (i : ℕ) (xs : List X) → position_from t (i + 1) xs ≡ option_map suc (position_from t i xs)
next t i [] = refl
next t i (x ∷ xs) = by (t x) (next t (i + 1) xs)
  where
    one : Some (i + 1) ≡ Some (suc i)
    one = ap Some (omega arith)

    by : (b : Bool) → position_from t (i + 1 + 1) xs ≡ option_map suc (position_from t (i + 1) xs) → cond b (Some (i + 1)) (position_from t (i + 1 + 1) xs) ≡ option_map suc (cond b (Some i) (position_from t (i + 1) xs))
    by true h = one
    by false h = h

pub found_at : {X Y : Type 0} (t : X → Bool) (g : X → Y) (xs : List X) → option_map g (find t xs) ≡ then_ (position_from t 0 xs) (slice_get (map g xs))
found_at t g [] = refl
found_at t g (x ∷ xs) = by (t x) (found_at t g xs)
  where
    later : (o : Option ℕ) → then_ o (slice_get (map g xs)) ≡ then_ (option_map suc o) (slice_get (g x ∷ map g xs))
    later None = refl
    later (Some k) = refl

    by : (b : Bool) → option_map g (find t xs) ≡ then_ (position_from t 0 xs) (slice_get (map g xs))
        → option_map g (cond b (Some x) (find t xs)) ≡ then_ (cond b (Some 0) (position_from t 1 xs)) (slice_get (g x ∷ map g xs))
    by true h = refl
    by false h = h ∙ later (position_from t 0 xs) ∙ ap (λ o. then_ o (slice_get (g x ∷ map g xs))) (sym (next t 0 xs))

pub first_at : {X : Type 0} (t : X → Bool) (xs : List X) → find t xs ≡ then_ (position_from t 0 xs) (slice_get xs)
first_at t [] = refl
first_at t (x ∷ xs) = by (t x) (first_at t xs)
  where
    later : (o : Option ℕ) → then_ o (slice_get xs) ≡ then_ (option_map suc o) (slice_get (x ∷ xs))
    later None = refl
    later (Some k) = refl

    by : (b : Bool) → find t xs ≡ then_ (position_from t 0 xs) (slice_get xs) → cond b (Some x) (find t xs) ≡ then_ (cond b (Some 0) (position_from t 1 xs)) (slice_get (x ∷ xs))
    by true h = refl
    by false h = h ∙ later (position_from t 0 xs) ∙ ap (λ o. then_ o (slice_get (x ∷ xs))) (sym (next t 0 xs))

-- whether there is one
pub position_any : {X : Type 0} (t : X → Bool) (i : ℕ) (xs : List X) → is_some (position_from t i xs) ≡ list_any t xs
position_any t i [] = refl
position_any t i (x ∷ xs) = by (t x) (position_any t (i + 1) xs)
  where
    by : (b : Bool) → is_some (position_from t (i + 1) xs) ≡ list_any t xs → is_some (cond b (Some i) (position_from t (i + 1) xs)) ≡ (b || list_any t xs)
    by true h = refl
    by false h = h
