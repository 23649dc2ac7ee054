-- Lists in which no two elements are the same.
use Rattle.std.proofs.Common.{◌≡◌, ◌≢◌, suc, ◌<◌, List, [], ◌∷◌, ◌++◌, length, map, get_or, refl, sym, ap, ◌∙◌, subst, ⊎_elim, append-nil, arith}
use Rattle.std.specs.Prelude.{Contains, flat_map}
use Rattle.std.proofs.lemmas.List.{get_or-map, get_or_default, length-map}
use Rattle.std.proofs.lemmas.List.Elements.{Contains-append_cases, Contains-append_right, Contains-get_or}
use Rattle.std.proofs.lemmas.List.Kept.{AllPairs-cons}
use Rattle.ecore_meta.specs.Valid.{AllDiffer}
use Rattle.ecore_meta.proofs.Membership.{Contains-from_flat_map}
use Rattle.model_store.proofs.Thinned.{Contains_cases, Contains_first, Contains_later, Contains_none}
use Rattle.xmi_text.proofs.Lists.{get_or_map, pairs_rest}
use Rattle.xmi_round_trip.proofs.Lists.{flat_map_none, none_in}

module _ {X : Type 0} where
  -- no elements
  pub differ_none : AllDiffer {X = X} []
  differ_none i j d lt l = absurd (omega (arith, l))

  -- one more, that was not among them
  pub differ_cons : (x : X) (xs : List X) → (Contains xs x → ⊥) → AllDiffer xs → AllDiffer (x ∷ xs)
  differ_cons x xs n h = AllPairs-cons (λ a b. a ≢ b) x xs (λ k d l e. n (k, l, get_or_default xs k x d l ∙ sym e)) h

  -- all but the first
  pub differ_tail : (x : X) (xs : List X) → AllDiffer (x ∷ xs) → AllDiffer xs
  differ_tail x xs h = pairs_rest (λ a b. a ≢ b) x xs h

  -- the first is none of the others
  pub first_apart : (x : X) (xs : List X) → AllDiffer (x ∷ xs) → (y : X) → Contains xs y → x ≢ y
  first_apart x xs h y m e = h 0 (suc m.0) y (omega arith) (omega (arith, m.1)) (e ∙ sym m.2)

  -- so it is not among them
  pub differ_head : (x : X) (xs : List X) → AllDiffer (x ∷ xs) → Contains xs x → ⊥
  differ_head x xs h c = first_apart x xs h x c refl

  -- two lists that have nothing in common
  pub differ_append : (xs ys : List X) → AllDiffer xs → AllDiffer ys → ((x : X) → Contains xs x → Contains ys x → ⊥) → AllDiffer (xs ++ ys)
  differ_append [] ys h k n = k
  differ_append (x ∷ xs) ys h k n = differ_cons x (xs ++ ys)
      (λ c. ⊎_elim (λ (a : Contains xs x). differ_head x xs h a) (λ (b : Contains ys x). n x (Contains_first x xs) b) (Contains-append_cases xs ys x c))
      (differ_append xs ys (differ_tail x xs h) k (λ z a b. n z (Contains_later x z xs a) b))

-- what differs from all before it is not among them
pub apart_from_later : {X : Type 0} (xs : List X) (x : X) (ys : List X) → AllDiffer (xs ++ (x ∷ ys)) → Contains xs x → ⊥
apart_from_later [] x ys d h = Contains_none x h
apart_from_later (z ∷ xs) x ys d h = ⊎_elim
    (λ (s : z ≡ x).
    let c = Contains-append_right xs (x ∷ ys) x (Contains_first x ys) in
    d 0 (suc c.0) x (omega arith) (omega (arith, c.1)) (s ∙ sym c.2))
    (λ (k : Contains xs x). apart_from_later xs x ys (differ_tail z (xs ++ (x ∷ ys)) d) k)
    (Contains_cases z x xs h)

-- what differs, and is the same, is one
pub one_in : {X : Type 0} (xs : List X) (y : X) → AllDiffer xs → Contains xs y → ((x : X) → Contains xs x → x ≡ y) → xs ≡ y ∷ []
one_in [] y apart i h = absurd (omega (arith, i.1))
one_in (x ∷ xs) y apart i h =
    ap (λ l. x ∷ l) (none_in xs (λ z m. first_apart x xs apart z m (h x (Contains_first x xs) ∙ sym (h z (Contains_later x z xs m)))))
    ∙ ap (λ z. z ∷ []) (h x (Contains_first x xs))

-- ## Maps

-- what differs once it is mapped differs
pub differ_before : {X Y : Type 0} (f : X → Y) (xs : List X) → AllDiffer (map f xs) → AllDiffer xs
differ_before f xs h i j d lt l e = h i j (f d) lt (omega (arith, l, length-map xs f)) (get_or_map f xs i d ∙ ap f e ∙ sym (get_or_map f xs j d))

-- a function that keeps the items of a list apart
pub map_differ : {X Y : Type 0} (g : X → Y) (xs : List X) → AllDiffer xs → ((x y : X) → Contains xs x → Contains xs y → g x ≡ g y → x ≡ y) → AllDiffer (map g xs)
map_differ g [] h apart i j d lt l e = absurd (omega (arith, l))
map_differ g (x ∷ xs) h apart i j d lt l e =
    let size = length-map (x ∷ xs) g in
    let j_in : j < length (x ∷ xs) = omega (arith, l, size) in
    let i_in : i < length (x ∷ xs) = omega (arith, lt, j_in) in
    h i j x lt j_in (apart (get_or (x ∷ xs) i x) (get_or (x ∷ xs) j x) (Contains-get_or (x ∷ xs) i x i_in) (Contains-get_or (x ∷ xs) j x j_in)
    (sym (get_or-map g (x ∷ xs) i x d i_in) ∙ e ∙ get_or-map g (x ∷ xs) j x d j_in))

-- ## Joined lists

-- where only one adds anything
pub flat_map_one : {X Y : Type 0} (f : X → List Y) (xs : List X) (x : X) → AllDiffer xs → Contains xs x → ((y : X) → Contains xs y → (y ≡ x → ⊥) → f y ≡ []) → flat_map f xs ≡ f x
flat_map_one f [] x apart m h = absurd (Contains_none x m)
flat_map_one f (y ∷ xs) x apart m h = ⊎_elim
    (λ (s : y ≡ x).
    ap (λ l. f y ++ l) (flat_map_none f xs (λ z k. h z (Contains_later y z xs k) (λ e. first_apart y xs apart z k (s ∙ sym e))))
    ∙ append-nil (f y) ∙ ap f s)
    (λ (k : Contains xs x).
    ap (λ l. l ++ flat_map f xs) (h y (Contains_first y xs) (λ e. first_apart y xs apart x k e))
    ∙ flat_map_one f xs x (differ_tail y xs apart) k (λ z i. h z (Contains_later y z xs i)))
    (Contains_cases y x xs m)

-- pieces that have nothing in common
pub joined_differ : {X Y : Type 0} (f : X → List Y) (xs : List X) → AllDiffer xs → ((x : X) → Contains xs x → AllDiffer (f x))
    → ((x z : X) (y : Y) → Contains xs x → Contains xs z → Contains (f x) y → Contains (f z) y → x ≡ z) → AllDiffer (flat_map f xs)
joined_differ f [] h k n = differ_none
joined_differ f (x ∷ xs) h k n = differ_append (f x) (flat_map f xs) (k x (Contains_first x xs))
    (joined_differ f xs (differ_tail x xs h) (λ z c. k z (Contains_later x z xs c)) (λ z w y a b. n z w y (Contains_later x z xs a) (Contains_later x w xs b)))
    (λ y a b.
    let r = Contains-from_flat_map f xs y b in
    differ_head x xs h (subst (Contains xs) (sym (n x r.0 y (Contains_first x xs) (Contains_later x r.0 xs r.1) a r.2)) r.1))
