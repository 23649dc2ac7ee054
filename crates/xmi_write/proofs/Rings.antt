-- From an object on a cycle up to it again: there are no more containers than objects on the way, each stands there once, and read
-- downwards they are the cycle.
use Rattle.std.proofs.Common.{◌≡◌, ◌≢◌, ℕ, zero, suc, ◌+◌, ◌-◌, ◌<◌, ◌≤◌, List, [], ◌∷◌, ◌++◌, length, get_or, reverse, refl, sym, ap, subst, ◌∙◌, append_assoc, ⊎_elim, arith, Option, Some, None}
use Rattle.std.specs.Prelude.{Contains}
use Rattle.std.specs.Option.{option_and_then}
use Rattle.std.proofs.lemmas.Bool.{cases_lt}
use Rattle.std.proofs.lemmas.List.{get_or-reverse, get_or_append_left, get_or_default, get_or_push, length-reverse, length_push, reverse-append}
use Rattle.std.proofs.lemmas.Option.{none-some, same_Some}
use Rattle.atl_base.specs.declared.numbers.ObjId.{ObjId}
use Rattle.ecore_meta.specs.Valid.{AllDiffer, IsMetamodel}
use Rattle.model_store.specs.Contents.{Contents, container}
use Rattle.model_store.specs.Order.{contents, Encloses, itself, by_content, IsOnCycle}
use Rattle.model_store.specs.Valid.{IsModel}
use Rattle.xmi_write.specs.Climbs.{climb}
use Rattle.xmi_write.specs.Cycles.{IsChainTo, IsCycle, IsRingFrom}
use Rattle.xmi_write.proofs.Cyclic.{climb_add, contained, contained_in, cycle_up, cycle_within, forever}
use Rattle.xmi_write.proofs.Heights.{some_twice}

-- each is the container of the one before
abbrev pub IsRise : Contents → ObjId → List ObjId → ObjId → Type 0
IsRise m o [] top = o ≡ top
IsRise m o (x ∷ xs) top = (container m o ≡ Some x) × IsRise m x xs top

-- none of them is this object
abbrev pub IsApart : ObjId → List ObjId → Type 0
IsApart o xs = (k : ℕ) → k < length xs → get_or xs k o ≢ o

module _ (m : Contents) (valid : IsMetamodel m.meta) (model : IsModel m) where
  pub rise_push : (o : ObjId) (xs : List ObjId) (t y : ObjId) → IsRise m o xs t → container m t ≡ Some y → IsRise m o (xs ++ y ∷ []) y
  rise_push o [] t y h c = (subst (λ z. container m z ≡ Some y) (sym h) c, refl)
  rise_push o (x ∷ xs) t y h c = (h.0, rise_push x xs t y h.1 c)

  rise_at : (o : ObjId) (xs : List ObjId) (t d : ObjId) (k : ℕ) → IsRise m o xs t → k < length xs → climb (suc k) m o ≡ Some (get_or xs k d)
  unfolding climb
  rise_at o [] t d k h l = absurd (omega (arith, l))
  rise_at o (x ∷ xs) t d zero h l = ap (option_and_then (climb zero m)) h.0
  rise_at o (x ∷ xs) t d (suc k) h l = ap (option_and_then (climb (suc k) m)) h.0 ∙ rise_at x xs t d k h.1 (omega (arith, l))

  rise_top : (o : ObjId) (xs : List ObjId) (t : ObjId) → IsRise m o xs t → climb (length xs) m o ≡ Some t
  unfolding climb
  rise_top o [] t h = ap Some h
  rise_top o (x ∷ xs) t h = ap (option_and_then (climb (length xs) m)) h.0 ∙ rise_top x xs t h.1

  -- ## Back to an object of a cycle

  one_more : (a : ℕ) (p q o : ObjId) → climb a m p ≡ Some q → container m q ≡ Some o → climb (a + 1) m p ≡ Some o
  unfolding climb
  one_more a p q o h c = climb_add m valid model a 1 p ∙ ap (option_and_then (climb 1 m)) h ∙ ap (option_and_then (climb zero m)) c

  climbs_back : {q p : ObjId} → Encloses m q p → (a : ℕ) × (climb a m p ≡ Some q)
  unfolding climb
  climbs_back itself = (zero, refl)
  climbs_back {q} {p} (by_content {q = r} c e) =
      let below = climbs_back e in
      (below.0 + 1, one_more below.0 p r q below.1 (contained_in m valid model r q c))

  module _ (o : ObjId) (cyclic : IsOnCycle m o) where
    turn : (a : ℕ) × (climb (a + 1) m o ≡ Some o)
    turn = let below = climbs_back cyclic.2 in (below.0, one_more below.0 o cyclic.0 o below.1 (contained_in m valid model cyclic.0 o cyclic.1))

    turns : (i : ℕ) → (t : ℕ) × (i ≤ t) × (climb t m o ≡ Some o)
    unfolding climb
    turns zero = (zero, omega arith, refl)
    turns (suc i) =
        let before = turns i in
        let once = turn in
        let there : climb (before.0 + (once.0 + 1)) m o ≡ Some o = climb_add m valid model before.0 (once.0 + 1) o ∙ ap (option_and_then (climb (once.0 + 1) m)) before.2 ∙ once.1 in
        (before.0 + (once.0 + 1), omega (arith, before.1), there)

    abbrev number : ℕ → ℕ
    number k = (forever m valid model k o cyclic).0.0

    pub back_within : (n : ℕ) × (n < length m.objects) × (climb (suc n) m o ≡ Some o)
    back_within =
        let size : ℕ = length m.objects in
        let found = some_twice number size (suc size) (omega arith) (λ k l. let q = forever m valid model k o cyclic in cycle_within m valid model q.0 q.2) in
        let i : ℕ = found.0 in
        let k : ℕ = found.1 in
        let x = forever m valid model i o cyclic in
        let y = forever m valid model k o cyclic in
        let same : y.0 ≡ x.0 = ap (λ (j : ℕ). let r : ObjId = record { 0 = j } in r) (sym found.4) in
        let far = turns i in
        let rest : ℕ = far.0 - i in
        let down : climb rest m x.0 ≡ Some o =
        let sum : i + rest ≡ far.0 = omega (arith, far.1) in
        sym (climb_add m valid model i rest o ∙ ap (option_and_then (climb rest m)) x.1) ∙ ap (λ j. climb j m o) sum ∙ far.2 in
        let step : ℕ = k - i in
        let round : climb step m o ≡ Some o =
        let sum : k + rest ≡ far.0 + step = omega (arith, far.1, found.2) in
        sym (climb_add m valid model far.0 step o ∙ ap (option_and_then (climb step m)) far.2)
        ∙ ap (λ j. climb j m o) (sym sum)
        ∙ climb_add m valid model k rest o
        ∙ ap (option_and_then (climb rest m)) y.1
        ∙ ap (climb rest m) same
        ∙ down in
        let more : suc (step - 1) ≡ step = omega (arith, found.2) in
        (step - 1, omega (arith, found.2, found.3), ap (λ j. climb j m o) more ∙ round)

    -- who has climbed as often as there are objects was there
    pub not_apart : (xs : List ObjId) (t : ObjId) → IsRise m o xs t → length m.objects ≤ length xs → IsApart o xs → ⊥
    not_apart xs t h l apart =
        let back = back_within in
        let low : back.0 < length xs = omega (arith, back.1, l) in
        apart back.0 low (same_Some (get_or xs back.0 o) o (sym (rise_at o xs t o back.0 h low) ∙ back.2))

    -- there is no end above
    pub no_end : (xs : List ObjId) (t : ObjId) → IsRise m o xs t → container m t ≡ None → ⊥
    no_end xs t h none =
        let q = forever m valid model (length xs) o cyclic in
        let same : q.0 ≡ t = same_Some q.0 t (sym q.1 ∙ rise_top o xs t h) in
        let up = cycle_up m valid model q.0 q.2 in
        none-some up.0 (sym none ∙ ap (container m) (sym same) ∙ up.1)

  -- ## The cycle downwards

  chain_down : (last x : ObjId) (xs acc : List ObjId) (t p : ObjId) → IsRise m x xs t → container m t ≡ Some p → IsChainTo m last x acc → IsChainTo m last p (reverse xs ++ x ∷ acc)
  chain_down last x [] acc t p h c k = (contained m valid model x p (subst (λ z. container m z ≡ Some p) (sym h) c), k)
  chain_down last x (y ∷ xs) acc t p h c k =
      let turned : reverse (y ∷ xs) ++ x ∷ acc ≡ reverse xs ++ y ∷ x ∷ acc = ap (λ l. l ++ x ∷ acc) (reverse-append (y ∷ []) xs) ∙ append_assoc (reverse xs) (y ∷ []) (x ∷ acc) in
      subst (IsChainTo m last p) (sym turned) (chain_down last y xs (x ∷ acc) t p h.1 c (contained m valid model x y h.0, k))

  module _ (o top : ObjId) (up : List ObjId) (rise : IsRise m o up top) (apart : IsApart o up) (closed : container m top ≡ Some o) where
    chain : IsChainTo m o o (reverse up)
    chain = on up rise
      where
        on : (xs : List ObjId) → IsRise m o xs top → IsChainTo m o o (reverse xs)
        on [] h = contained m valid model o o (subst (λ z. container m z ≡ Some o) (sym h) closed)
        on (x ∷ xs) h =
            subst (IsChainTo m o o) (sym (reverse-append (x ∷ []) xs))
            (chain_down o x xs [] top o h.1 closed (contained m valid model o x h.0))

    whole : climb (suc (length up)) m o ≡ Some o
    whole =
        let size : suc (length up) ≡ length (up ++ o ∷ []) = omega (arith, length_push up o) in
        ap (λ n. climb n m o) size ∙ rise_top o (up ++ o ∷ []) o (rise_push o up top o rise closed)

    -- of two on the way the same would come before the end
    up_differs : (a b : ℕ) (d : ObjId) → a < b → b < length up → get_or up a d ≢ get_or up b d
    up_differs a b d l h same =
        let rest : ℕ = length up - b in
        let early : ℕ = a + rest in
        let low : early < length up = omega (arith, l, h) in
        let late : suc b + rest ≡ suc (length up) = omega (arith, h) in
        let soon : suc a + rest ≡ suc early = omega arith in
        let from_b : climb rest m (get_or up b d) ≡ Some o =
        sym (climb_add m valid model (suc b) rest o ∙ ap (option_and_then (climb rest m)) (rise_at o up top d b rise h)) ∙ ap (λ n. climb n m o) late ∙ whole in
        let from_a : climb (suc early) m o ≡ climb rest m (get_or up a d) =
        ap (λ n. climb n m o) (sym soon) ∙ climb_add m valid model (suc a) rest o ∙ ap (option_and_then (climb rest m)) (rise_at o up top d a rise (omega (arith, l, h))) in
        apart early low (same_Some (get_or up early o) o (sym (rise_at o up top o early rise low) ∙ from_a ∙ ap (climb rest m) same ∙ from_b))

    differs : AllDiffer (o ∷ reverse up)
    differs i zero d l h = absurd (omega (arith, l))
    differs zero (suc j) d l h =
        let low : j < length up = omega (arith, h, length-reverse up) in
        let there : length up - 1 - j < length up = omega (arith, low) in
        λ same. apart (length up - 1 - j) there (sym (same ∙ get_or-reverse up j d low ∙ get_or_default up (length up - 1 - j) d o there))
    differs (suc i) (suc j) d l h =
        let high : j < length up = omega (arith, h, length-reverse up) in
        let low : i < length up = omega (arith, l, high) in
        λ same. up_differs (length up - 1 - j) (length up - 1 - i) d (omega (arith, l, high)) (omega (arith, low)) (sym (get_or-reverse up j d high) ∙ sym same ∙ get_or-reverse up i d low)

    pub ring_is : IsRingFrom m o (o ∷ reverse up)
    ring_is = (refl, chain, differs)

  -- what is pushed last is the object itself
  pub ring_end : (o top next : ObjId) (up pushed list : List ObjId) → IsRise m o up top → IsApart o up → container m top ≡ Some next → next.0 ≡ o.0 → pushed ≡ up ++ next ∷ [] → list ≡ reverse pushed → IsRingFrom m o list
  ring_end o top next up pushed list rise apart up' number p l =
      let same : next ≡ o = ap (λ (j : ℕ). let r : ObjId = record { 0 = j } in r) number in
      let turned : list ≡ o ∷ reverse up = l ∙ ap reverse p ∙ reverse-append up (next ∷ []) ∙ ap (λ (x : ObjId). x ∷ reverse up) same in
      subst (IsRingFrom m o) (sym turned) (ring_is o top up rise apart (up' ∙ ap Some same))

pub apart_push : (o y : ObjId) (xs : List ObjId) → IsApart o xs → (y.0 ≡ o.0 → ⊥) → IsApart o (xs ++ y ∷ [])
apart_push o y xs h n k l = ⊎_elim
    (λ (low : k < length xs). λ e. h k low (sym (get_or_append_left xs (y ∷ []) o k low) ∙ e))
    (λ (high : length xs ≤ k).
    let last : length xs ≡ k = omega (arith, l, high, length_push xs y) in
    λ e. n (ap (λ (x : ObjId). x.0) (sym (get_or_push xs y o k last) ∙ e)))
    (cases_lt k (length xs))

-- the cycle of the least object
pub ring_cycle : (m : Contents) (o : ObjId) (list : List ObjId) → IsRingFrom m o list → ((p : ObjId) → IsOnCycle m p → o.0 ≤ p.0) → IsCycle m list
ring_cycle m o [] h l = h
ring_cycle m o (q ∷ qs) h l = (subst (λ x. IsRingFrom m x (q ∷ qs)) (sym h.0) h, λ p c. subst (λ (x : ObjId). x.0 ≤ p.0) (sym h.0) (l p c))
