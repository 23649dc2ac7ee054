-- One element more of a list that a loop goes over.
use Rattle.std.proofs.Common.{◌≡◌, ℕ, ◌+◌, ◌<◌, List, [], ◌∷◌, ◌++◌, length, take, drop, get_or, map, refl, sym, ap, ◌∙◌}
use Rattle.std.specs.Prelude.{Bool, true, false, ◌||◌, filter, flat_map, Result, Ok, Err, IfOk, OnOk}
use Rattle.std.proofs.lemmas.List.Concat.{flat_map-append}
use Rattle.std.proofs.lemmas.List.Elements.{filter-append}
use Rattle.std.proofs.lemmas.List.{append-nil, append_assoc, take-append-drop, drop_more, take_more, map-append}

pub taken : {A B : Type 0} (f : A → B) (xs : List A) (i : ℕ) (x : A) → i < length xs → x ≡ get_or xs i x → map f (take (i + 1) xs) ≡ map f (take i xs) ++ (f x ∷ [])
taken f xs i x l h =
    ap (map f) (take_more xs i x l) ∙ map-append f (take i xs) (get_or xs i x ∷ [])
    ∙ ap (λ y. map f (take i xs) ++ (f y ∷ [])) (sym h)

pub left : {A B : Type 0} (f : A → B) (xs : List A) (i : ℕ) (x : A) → i < length xs → x ≡ get_or xs i x → map f (drop i xs) ≡ f x ∷ map f (drop (i + 1) xs)
left f xs i x l h = ap (map f) (drop_more xs i x l) ∙ ap (λ y. f y ∷ map f (drop (i + 1) xs)) (sym h)

-- ## Tests

pub or_false : (a : Bool) → (a || false) ≡ a
or_false true = refl
or_false false = refl

pub or_assoc : (a b c : Bool) → (a || (b || c)) ≡ ((a || b) || c)
or_assoc true b c = refl
or_assoc false b c = refl

pub or_true : (a : Bool) → (a || true) ≡ true
or_true true = refl
or_true false = refl

-- ## Results

pub on_ok : {A E P Q : Type 0} (r : Result A E) → (P → Q) → OnOk r P → OnOk r Q
on_ok (Ok x) f p = f p
on_ok (Err e) f p = p

pub if_ok : {A E : Type 0} {P Q : A → Type 0} (r : Result A E) → ((x : A) → P x → Q x) → IfOk r P → IfOk r Q
if_ok (Ok x) f p = f x p
if_ok (Err e) f p = p

-- ## Lists that grow

-- by what a function gives of lists, part by part
pub grown : {A B : Type 0} (F : List A → List B) → ((xs ys : List A) → F (xs ++ ys) ≡ F xs ++ F ys) → (xs : List A) (i : ℕ) (x : A) → i < length xs → x ≡ get_or xs i x → (old mid new : List B)
    → mid ≡ old ++ F (take i xs) → new ≡ mid ++ F (x ∷ []) → new ≡ old ++ F (take (i + 1) xs)
grown F joins xs i x l h old mid new before more =
    more ∙ ap (λ k. k ++ F (x ∷ [])) before
    ∙ append_assoc old (F (take i xs)) (F (x ∷ []))
    ∙ ap (λ k. old ++ k) (sym (ap F (take_more xs i x l ∙ ap (λ y. take i xs ++ y ∷ []) (sym h)) ∙ joins (take i xs) (x ∷ [])))

-- by what a filter keeps
pub told_more : {A B : Type 0} (p : A → Bool) (f : A → B) (xs : List A) (i : ℕ) (x : A) → i < length xs → x ≡ get_or xs i x → (old mid new : List B)
    → mid ≡ old ++ map f (filter p (take i xs)) → new ≡ mid ++ map f (filter p (x ∷ [])) → new ≡ old ++ map f (filter p (take (i + 1) xs))
told_more p f = grown (λ l. map f (filter p l)) (λ xs ys. ap (map f) (filter-append p xs ys) ∙ map-append f (filter p xs) (filter p ys))

-- ## What a function gives of each, end to end

module _ {A B C : Type 0} (g : B → List C) (f : A → B) (xs : List A) (i : ℕ) (x : A) (l : i < length xs) (is : x ≡ get_or xs i x) where
  pub single_more : flat_map g (map f (take (i + 1) xs)) ≡ flat_map g (map f (take i xs)) ++ g (f x)
  single_more =
      ap (flat_map g) (taken f xs i x l is) ∙ flat_map-append g (map f (take i xs)) (f x ∷ [])
      ∙ ap (λ k. flat_map g (map f (take i xs)) ++ k) (append-nil (g (f x)))

  pub whole_cut : flat_map g (map f xs) ≡ (flat_map g (map f (take i xs)) ++ g (f x)) ++ flat_map g (map f (drop (i + 1) xs))
  whole_cut =
      ap (λ k. flat_map g (map f k)) (sym (take-append-drop (i + 1) xs))
      ∙ ap (flat_map g) (map-append f (take (i + 1) xs) (drop (i + 1) xs))
      ∙ flat_map-append g (map f (take (i + 1) xs)) (map f (drop (i + 1) xs))
      ∙ ap (λ k. k ++ flat_map g (map f (drop (i + 1) xs))) single_more
