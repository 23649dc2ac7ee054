-- What is found in a list, and in what a function makes of it.
use Rattle.std.proofs.Common.{◌≡◌, ◌<◌, ℕ, List, [], ◌∷◌, length, get_or, map, refl, sym, ap, subst, ◌∙◌}
use Rattle.std.specs.Prelude.{Bool, true, false, All, find, Some, None, option_map, if◌then◌else◌}
use Rattle.std.proofs.lemmas.List.Elements.{All-head, All-tail, All-get_or}
use Rattle.std.proofs.lemmas.List.{get_or-map, length-map}
use Rattle.std.proofs.lemmas.Option.{none-some, same_Some}

module _ {A B : Type 0} (f : A → B) where
  find_map : (p : B → Bool) (xs : List A) → find p (map f xs) ≡ option_map f (find (λ x. p (f x)) xs)
  find_map p [] = refl
  find_map p (x ∷ xs) = by (p (f x)) (find_map p xs)
    where
      by : (b : Bool) → find p (map f xs) ≡ option_map f (find (λ x. p (f x)) xs)
          → (if b then Some (f x) else find p (map f xs)) ≡ option_map f (if b then Some x else find (λ x. p (f x)) xs)
      by true h = refl
      by false h = h

  pub found_of : (p : B → Bool) (xs : List A) (x : A) → Some x ≡ find (λ x. p (f x)) xs → find p (map f xs) ≡ Some (f x)
  found_of p xs x h = find_map p xs ∙ ap (option_map f) (sym h)

  pub none_of : (p : B → Bool) (xs : List A) → None ≡ find (λ x. p (f x)) xs → find p (map f xs) ≡ None
  none_of p xs h = find_map p xs ∙ ap (option_map f) (sym h)

  pub found_holds : (P : B → Type 0) (q : A → Bool) (xs : List A) (x : A) → All P (map f xs) → Some x ≡ find q xs → P (f x)
  found_holds P q [] x h e = absurd (none-some x (sym e))
  found_holds P q (y ∷ ys) x h e = by (q y) e (found_holds P q ys x (All-tail P (f y) (map f ys) h))
    where
      by : (b : Bool) → Some x ≡ (if b then Some y else find q ys) → (Some x ≡ find q ys → P (f x)) → P (f x)
      by true e k = subst (λ z. P (f z)) (sym (same_Some x y e)) (All-head P (f y) (map f ys) h)
      by false e k = k e

  -- one of all
  pub holds_at : (P : B → Type 0) (xs : List A) (i : ℕ) (x : A) → All P (map f xs) → i < length xs → x ≡ get_or xs i x → P (f x)
  holds_at P xs i x h l is =
      subst P (get_or-map f xs i x (f x) l ∙ ap f (sym is))
      (All-get_or P (map f xs) i (f x) (subst (λ n. i < n) (sym (length-map xs f)) l) h)
