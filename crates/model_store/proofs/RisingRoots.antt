-- Lists of roots whose numbers rise: a root more, a root less, and several less in one walk.
use Rattle.std.proofs.Common.{◌≡◌, ◌≢◌, ℕ, zero, suc, ◌+◌, ◌-◌, ◌<◌, ◌≤◌, List, [], ◌∷◌, ◌++◌, length, get_or, take, drop, map, cond, leb, refl, sym, ap, ◌∙◌, subst, ⊎_elim, arith}
use Rattle.std.specs.Prelude.{◌==◌, ◌&&◌, ◌||◌, Bool, true, false, not, filter, Result, Ok, Err, MatchResult, is_ok}
use Rattle.std.specs.List.{insert, remove, position_or_len, list_any, Any}
use Rattle.std.specs.List.Sorted.{IsPermutation, IsNonDecreasingBy}
use Rattle.std.specs.Prelude.{nat_lt}
use Rattle.std.proofs.Math.Path.{fun_ext}
use Rattle.std.proofs.lemmas.Bool.{cases_lt, cases_eq, eq-eqb, ne_eqb, leb-true, leb-false, le-ltb, lt-ltb, ltb-true, true≢false, eqb-true, false_from_ne_true}
use Rattle.std.proofs.lemmas.List.{get_or_default, get_or-drop, drop_at, length-drop, length-take-le, same_lists, take-append-drop}
use Rattle.std.proofs.lemmas.List.Sums.{position_or_len_is, prefix_len_stops}
use Rattle.std.proofs.lemmas.List.Folds.{Any-from_list_any, list_any-from_Any}
use Rattle.std.proofs.lemmas.List.Edits.{length-insert, length-remove, get_or-insert_at, get_or-insert_below, get_or-insert_above, get_or-remove_below, get_or-remove_above, insert-append_right, remove-append_right}
use Rattle.std.proofs.lemmas.List.Kept.{AllPairs-filter}
use Rattle.std.proofs.lemmas.List.Sorted.{list_any-IsPermutation}
use Rattle.atl_base.specs.declared.numbers.ObjId.{ObjId}
use Rattle.model_store.specs.declared.roots.RootStep.{RootStep}
use Rattle.model_store.specs.declared.roots.RootStep.TheVariants.{TakenIn}
use Rattle.model_store.specs.Drafts.{settled}
use Rattle.model_store.specs.Roots.{is_among, without_all, Rise}
use Rattle.model_store.specs.Writes.{without_root}

-- ## Filters

filter_all : {X : Type 0} (p : X → Bool) (xs : List X) → ((k : ℕ) (d : X) → k < length xs → p (get_or xs k d) ≡ true) → filter p xs ≡ xs
filter_all p [] h = refl
filter_all p (x ∷ xs) h =
    ap (λ b. cond b (x ∷ filter p xs) (filter p xs)) (h zero x (omega arith))
    ∙ ap (λ l. x ∷ l) (filter_all p xs (λ k d l. h (suc k) d (omega (arith, l))))

filter_but : {X : Type 0} (p : X → Bool) (xs : List X) (i : ℕ) → i < length xs → ((d : X) → p (get_or xs i d) ≡ false) → ((k : ℕ) (d : X) → k < length xs → k ≢ i → p (get_or xs k d) ≡ true)
    → filter p xs ≡ take i xs ++ drop (suc i) xs
filter_but p [] i l out h = absurd (omega (arith, l))
filter_but p (x ∷ xs) zero l out h =
    ap (λ b. cond b (x ∷ filter p xs) (filter p xs)) (out x)
    ∙ filter_all p xs (λ k d low. h (suc k) d (omega (arith, low)) (λ e. omega (arith, e)))
filter_but p (x ∷ xs) (suc i) l out h =
    ap (λ b. cond b (x ∷ filter p xs) (filter p xs)) (h zero x (omega arith) (λ e. omega (arith, e)))
    ∙ ap (λ l. x ∷ l) (filter_but p xs i (omega (arith, l)) out (λ k d low other. h (suc k) d (omega (arith, low)) (λ e. other (omega (arith, e)))))

filter_one : {X : Type 0} (p : X → Bool) (xs : List X) (i : ℕ) → i < length xs → ((d : X) → p (get_or xs i d) ≡ false) → ((k : ℕ) (d : X) → k < length xs → k ≢ i → p (get_or xs k d) ≡ true)
    → filter p xs ≡ remove xs i
filter_one p xs i l out h = filter_but p xs i l out h

-- one filter after another
filter_twice : {X : Type 0} (p q s : X → Bool) → ((x : X) → s x ≡ (q x && p x)) → (xs : List X) → filter p (filter q xs) ≡ filter s xs
filter_twice p q s both [] = refl
filter_twice {X} p q s both (x ∷ xs) = on (filter_twice p q s both xs) (q x) refl
  where
    on : filter p (filter q xs) ≡ filter s xs → (b : Bool) → q x ≡ b → filter p (filter q (x ∷ xs)) ≡ filter s (x ∷ xs)
    on rest true e =
        ap (λ b. filter p (cond b (x ∷ filter q xs) (filter q xs))) e
        ∙ ap (λ l. cond (p x) (x ∷ l) l) rest
        ∙ ap (λ b. cond b (x ∷ filter s xs) (filter s xs)) (sym (both x ∙ ap (λ b. b && p x) e))
    on rest false e =
        ap (λ b. filter p (cond b (x ∷ filter q xs) (filter q xs))) e
        ∙ rest
        ∙ ap (λ b. cond b (x ∷ filter s xs) (filter s xs)) (sym (both x ∙ ap (λ b. b && p x) e))

-- ## Places by halves

pub not_falling : (roots : List ObjId) → Rise roots → IsNonDecreasingBy (λ (r : ObjId). r.0) roots
not_falling roots rise = λ i j d b l. ⊎_elim
    (λ (lt : i < j). let up = rise i j d lt l in omega (arith, up))
    (λ (ge : j ≤ i). let same : i ≡ j = omega (arith, b, ge) in let e = ap (λ n. (get_or roots n d).0) same in omega (arith, e))
    (cases_lt i j)

pub place_by_halves : (o : ObjId) (roots : List ObjId) (at : ℕ) → at ≤ length roots
    → ((k : ℕ) (d : ObjId) → k < at → leb (get_or roots k d).0 o.0 ≡ true)
    → ((k : ℕ) (d : ObjId) → at ≤ k → k < length roots → leb (get_or roots k d).0 o.0 ≡ false)
    → at ≡ position_or_len (λ r. nat_lt o.0 r.0) roots
place_by_halves o roots at within low high =
    let none : ObjId = record { 0 = 0 } in
    sym (position_or_len_is (λ r. nat_lt o.0 r.0) roots at none within
    (λ k l. le-ltb o.0 (get_or roots k none).0 (leb-true (get_or roots k none).0 o.0 (low k none l)))
    (λ l. lt-ltb o.0 (get_or roots at none).0 (leb-false (get_or roots at none).0 o.0 (high at none (omega arith) l))))

-- the root at the place for another one is of greater number
pub at_place : (o : ObjId) (roots : List ObjId) (at : ℕ) → at ≡ position_or_len (λ r. nat_lt o.0 r.0) roots → (d : ObjId) → at < length roots → o.0 < (get_or roots at d).0
at_place o roots at e d l =
    let greater : ObjId → Bool = λ r. nat_lt o.0 r.0 in
    let passes : not (greater (get_or roots at d)) ≡ false =
    ap (λ n. not (greater (get_or roots n d))) e ∙ prefix_len_stops (λ r. not (greater r)) roots d (subst (λ n. n < length roots) e l) in
    ltb-true o.0 (get_or roots at d).0 (of_not (greater (get_or roots at d)) passes)
  where
    of_not : (b : Bool) → not b ≡ false → b ≡ true
    of_not true e = refl
    of_not false e = absurd (true≢false e)

-- ## A root less

abbrev other : ObjId → ObjId → Bool
other o r = not (r.0 == o.0)

is_other : (o r : ObjId) → r.0 ≢ o.0 → other o r ≡ true
is_other o r d = ap not (ne_eqb r.0 o.0 d)

pub one_less : (o : ObjId) (roots : List ObjId) → Rise roots → (at : ℕ) (e : ObjId) → at < length roots → (get_or roots at e).0 ≡ o.0 → remove roots at ≡ without_root o roots
one_less o roots rise at e l is = sym (filter_one (other o) roots at l
    (λ d. ap not (eq-eqb (get_or roots at d).0 o.0 (ap (λ r. r.0) (get_or_default roots at d e l) ∙ is)))
    (λ k d low apart. is_other o (get_or roots k d) (λ same.
    let there : (get_or roots at d).0 ≡ o.0 = ap (λ r. r.0) (get_or_default roots at d e l) ∙ is in
    ⊎_elim
    (λ (before : k < at). let up = rise k at d before l in omega (arith, up, there, same))
    (λ (behind : at ≤ k). let up = rise at k d (omega (arith, behind, apart)) low in omega (arith, up, there, same))
    (cases_lt k at))))

pub none_less : (o : ObjId) (roots : List ObjId) → Rise roots → (at : ℕ)
    → ((k : ℕ) (d : ObjId) → k < at → (get_or roots k d).0 < o.0)
    → ((k : ℕ) (d : ObjId) → at ≤ k → k < length roots → o.0 ≤ (get_or roots k d).0)
    → ((d : ObjId) → at < length roots → (get_or roots at d).0 ≢ o.0)
    → without_root o roots ≡ roots
none_less o roots rise at below rest not_there = filter_all (other o) roots (λ k d l. is_other o (get_or roots k d) (λ same.
    ⊎_elim
    (λ (before : k < at). let up = below k d before in omega (arith, up, same))
    (λ (behind : at ≤ k). ⊎_elim
    (λ (here : k ≡ at). not_there d (omega (arith, here, l)) (ap (λ n. (get_or roots n d).0) (sym here) ∙ same))
    (λ (past : k ≢ at).
    let first = rest at d (omega arith) (omega (arith, l, behind)) in
    let up = rise at k d (omega (arith, behind, past)) l in
    omega (arith, first, up, same))
    (cases_eq k at))
    (cases_lt k at)))

-- ## A root more

module _ (o : ObjId) (roots : List ObjId) (at : ℕ) (rise : Rise roots) (within : at ≤ length roots)
    (above : (d : ObjId) → 0 < at → (get_or roots (at - 1) d).0 < o.0)
    (below : (d : ObjId) → at < length roots → o.0 < (get_or roots at d).0) where
  abbrev more : List ObjId
  more = insert roots at o

  low : (i : ℕ) (d : ObjId) → i < at → (get_or roots i d).0 < o.0
  low i d l = ⊎_elim
      (λ (e : i ≡ at - 1). subst (λ n. (get_or roots n d).0 < o.0) (sym e) (above d (omega (arith, l))))
      (λ (n : i ≢ at - 1). let last = above d (omega (arith, l)) in let up = rise i (at - 1) d (omega (arith, l, n)) (omega (arith, l, within)) in omega (arith, last, up))
      (cases_eq i (at - 1))

  high : (j : ℕ) (d : ObjId) → at ≤ j → j < length roots → o.0 < (get_or roots j d).0
  high j d b l = ⊎_elim
      (λ (e : j ≡ at). subst (λ n. o.0 < (get_or roots n d).0) (sym e) (below d (omega (arith, e, l))))
      (λ (n : j ≢ at). let first = below d (omega (arith, b, l)) in let up = rise at j d (omega (arith, b, n)) l in omega (arith, first, up))
      (cases_eq j at)

  -- what stands before the place, at it, and after it
  before : (k : ℕ) (d : ObjId) → k < at → (get_or more k d).0 ≡ (get_or roots k d).0
  before k d l = ap (λ r. r.0) (get_or-insert_below roots at o d k l within)

  there : (k : ℕ) (d : ObjId) → k ≡ at → (get_or more k d).0 ≡ o.0
  there k d e = ap (λ n. (get_or more n d).0) e ∙ ap (λ r. r.0) (get_or-insert_at roots at o d within)

  after : (k : ℕ) (d : ObjId) → at < k → (get_or more k d).0 ≡ (get_or roots (k - 1) d).0
  after k d l =
      let next : k ≡ (k - 1) + 1 = omega (arith, l) in
      ap (λ n. (get_or more n d).0) next ∙ ap (λ r. r.0) (get_or-insert_above roots at o d (k - 1) (omega (arith, l)) within)

  -- an element before one at the place or after it
  to_place : (i j : ℕ) (d : ObjId) → i < j → j ≡ at → (get_or more i d).0 < (get_or more j d).0
  to_place i j d lt e =
      let l : i < at = omega (arith, lt, e) in
      let x = before i d l in let y = there j d e in let up = low i d l in
      omega (arith, x, y, up)

  past_place : (i j : ℕ) (d : ObjId) → i < j → at < j → j - 1 < length roots → (get_or more i d).0 < (get_or more j d).0
  past_place i j d lt l h = ⊎_elim
      (λ (b : i < at).
      let x = before i d b in let y = after j d l in let up = rise i (j - 1) d (omega (arith, b, l)) h in
      omega (arith, x, y, up))
      (λ (b : at ≤ i). ⊎_elim
      (λ (e : i ≡ at).
      let x = there i d e in let y = after j d l in let up = high (j - 1) d (omega (arith, l)) h in
      omega (arith, x, y, up))
      (λ (n : i ≢ at).
      let x = after i d (omega (arith, b, n)) in let y = after j d l in let up = rise (i - 1) (j - 1) d (omega (arith, lt, b, n)) h in
      omega (arith, x, y, up))
      (cases_eq i at))
      (cases_lt i at)

  pub one_more : Rise more
  one_more = λ i j d lt h.
      let size : length more ≡ length roots + 1 = length-insert roots at o within in
      ⊎_elim
      (λ (l : j < at).
      let x = before i d (omega (arith, lt, l)) in let y = before j d l in let up = rise i j d lt (omega (arith, l, within)) in
      omega (arith, x, y, up))
      (λ (b : at ≤ j). ⊎_elim
      (λ (e : j ≡ at). to_place i j d lt e)
      (λ (n : j ≢ at). past_place i j d lt (omega (arith, b, n)) (omega (arith, size, h, b, n)))
      (cases_eq j at))
      (cases_lt j at)

-- a loop's step, where the next number is greater than the last
pub rise_more : (roots : List ObjId) (at : ℕ) (e : ObjId) → 0 < at → at < length roots
    → ((i j : ℕ) (d : ObjId) → i < j → j < at → (get_or roots i d).0 < (get_or roots j d).0)
    → (get_or roots (at - 1) e).0 < (get_or roots at e).0
    → (i j : ℕ) (d : ObjId) → i < j → j < at + 1 → (get_or roots i d).0 < (get_or roots j d).0
rise_more roots at e some within so_far next i j d lt l = ⊎_elim
    (λ (b : j < at). so_far i j d lt b)
    (λ (b : at ≤ j).
    let here : j ≡ at = omega (arith, b, l) in
    let top : (get_or roots j d).0 ≡ (get_or roots at e).0 = ap (λ n. (get_or roots n d).0) here ∙ ap (λ r. r.0) (get_or_default roots at d e within) in
    let last : (get_or roots (at - 1) d).0 ≡ (get_or roots (at - 1) e).0 = ap (λ r. r.0) (get_or_default roots (at - 1) d e (omega (arith, within))) in
    ⊎_elim
    (λ (same : i ≡ at - 1). let low : (get_or roots i d).0 ≡ (get_or roots (at - 1) d).0 = ap (λ n. (get_or roots n d).0) same in omega (arith, low, last, top, next))
    (λ (before : i ≢ at - 1). let up = so_far i (at - 1) d (omega (arith, lt, here, before)) (omega (arith, some)) in omega (arith, up, last, top, next))
    (cases_eq i (at - 1)))
    (cases_lt j at)

-- what is known of the roots without some of them
pub fewer : (p : ObjId → Bool) (roots : List ObjId) → Rise roots → Rise (filter p roots)
fewer p roots rise = AllPairs-filter (λ x y. x.0 < y.0) p roots rise

-- ## The roots from a place on

parts : {X : Type 0} (from : ℕ) (xs : List X) → xs ≡ take from xs ++ drop from xs
parts from xs = sym (take-append-drop from xs)

pub drop_insert : {X : Type 0} (from at : ℕ) (xs : List X) (y : X) → from ≤ length xs → drop from (insert xs (from + at) y) ≡ insert (drop from xs) at y
drop_insert {X} from at xs y l =
    let front : length (take from xs) ≡ from = length-take-le from xs l in
    ap (λ (z : List X). drop from (insert z (from + at) y)) (parts from xs)
    ∙ ap (drop from) (insert-append_right (take from xs) (drop from xs) from (from + at) y front (omega arith))
    ∙ drop_at (take from xs) (insert (drop from xs) ((from + at) - from) y) from front
    ∙ ap (λ k. insert (drop from xs) k y) (let e : (from + at) - from ≡ at = omega arith in e)

pub drop_remove : {X : Type 0} (from at : ℕ) (xs : List X) → from ≤ length xs → drop from (remove xs (from + at)) ≡ remove (drop from xs) at
drop_remove {X} from at xs l =
    let front : length (take from xs) ≡ from = length-take-le from xs l in
    ap (λ (z : List X). drop from (remove z (from + at))) (parts from xs)
    ∙ ap (drop from) (remove-append_right (take from xs) (drop from xs) from (from + at) front (omega arith))
    ∙ drop_at (take from xs) (remove (drop from xs) ((from + at) - from)) from front
    ∙ ap (remove (drop from xs)) (let e : (from + at) - from ≡ at = omega arith in e)

-- the head moves over the element at a place
pub drop_shifted : {X : Type 0} (from at : ℕ) (xs ys : List X) → from + at < length xs → length ys ≡ length xs
    → ((k : ℕ) (d : X) → from + 1 ≤ k → k < from + 1 + at → get_or ys k d ≡ get_or xs (from + (k - (from + 1))) d)
    → ((k : ℕ) (d : X) → from + 1 + at ≤ k → get_or ys k d ≡ get_or xs k d)
    → drop (from + 1) ys ≡ remove (drop from xs) at
drop_shifted {X} from at xs ys l same moved stay =
    let size : length (drop from xs) ≡ length xs - from = length-drop from xs in
    let within : at < length (drop from xs) = omega (arith, size, l) in
    let less : length (remove (drop from xs) at) + 1 ≡ length (drop from xs) = length-remove (drop from xs) at within in
    let left : length (drop (from + 1) ys) ≡ length ys - (from + 1) = length-drop (from + 1) ys in
    same_lists (drop (from + 1) ys) (remove (drop from xs) at) (omega (arith, size, less, left, same, l)) (λ k d h.
    get_or-drop (from + 1) ys k d ∙ ⊎_elim
    (λ (b : k < at).
    moved ((from + 1) + k) d (omega arith) (omega (arith, b))
    ∙ ap (λ n. get_or xs n d) (let e : from + (((from + 1) + k) - (from + 1)) ≡ from + k = omega arith in e)
    ∙ sym (get_or-drop from xs k d)
    ∙ sym (get_or-remove_below (drop from xs) at d k b within))
    (λ (b : at ≤ k).
    stay ((from + 1) + k) d (omega (arith, b))
    ∙ ap (λ n. get_or xs n d) (let e : (from + 1) + k ≡ from + (k + 1) = omega arith in e)
    ∙ sym (get_or-drop from xs (k + 1) d)
    ∙ sym (get_or-remove_above (drop from xs) at d k b within))
    (cases_lt k at))

-- ## Several roots less

eqb-swap : (a b : ℕ) → (a == b) ≡ (b == a)
eqb-swap a b = ⊎_elim (λ e. eq-eqb a b e ∙ sym (eq-eqb b a (sym e))) (λ d. ne_eqb a b d ∙ sym (ne_eqb b a (λ e. d (sym e)))) (cases_eq a b)

-- not one of several numbers
is_apart : (n : ℕ) (ns : List ℕ) (r : ObjId) → not (is_among (n ∷ ns) r) ≡ (other (record { 0 = n }) r && not (is_among ns r))
is_apart n ns r = ap (λ b. not (b || is_among ns r)) (eqb-swap n r.0) ∙ both (r.0 == n) (is_among ns r)
  where
    both : (a b : Bool) → not (a || b) ≡ (not a && not b)
    both true b = refl
    both false b = refl

pub settled_all : (ns : List ℕ) (roots : List ObjId) → settled (map (λ n. TakenIn (record { 0 = n })) ns) roots ≡ without_all ns roots
settled_all [] roots = sym (filter_all (λ r. true) roots (λ k d l. refl))
settled_all (n ∷ ns) roots = settled_all ns (without_root (record { 0 = n }) roots)
    ∙ filter_twice (λ r. not (is_among ns r)) (other (record { 0 = n })) (λ r. not (is_among (n ∷ ns) r)) (is_apart n ns) roots

-- in whatever order they stand
pub without_permuted : (ns ms : List ℕ) → IsPermutation ns ms → (roots : List ObjId) → without_all ns roots ≡ without_all ms roots
without_permuted ns ms p roots = ap (λ t. filter t roots) (fun_ext (λ (r : ObjId). ap not (list_any-IsPermutation (λ n. n == r.0) ns ms p)))

-- what a search among rising numbers tells
pub found_among : (ns : List ℕ) (r : ObjId) (answer : Result ℕ ℕ)
    → MatchResult answer (λ i. (i < length ns) × (get_or ns i 0 ≡ r.0)) (λ i. (i ≤ length ns) × ((k : ℕ) → k < i → get_or ns k 0 < r.0) × ((k : ℕ) → i ≤ k → k < length ns → r.0 < get_or ns k 0))
    → is_ok answer ≡ is_among ns r
found_among ns r (Ok i) h = sym (list_any-from_Any (λ n. n == r.0) ns
    (i, get_or ns i 0, h.0, get_or_default ns i (get_or ns i 0) 0 h.0, eq-eqb (get_or ns i 0) r.0 h.1))
found_among ns r (Err i) h = sym (false_from_ne_true (is_among ns r) (λ t. none (Any-from_list_any (λ n. n == r.0) ns t)))
  where
    none : Any (λ n. (n == r.0) ≡ true) ns → ⊥
    none a =
        let is : a.1 ≡ r.0 = eqb-true a.1 r.0 a.4 in
        let there : get_or ns a.0 0 ≡ r.0 = get_or_default ns a.0 0 a.1 a.2 ∙ a.3 ∙ is in
        ⊎_elim
        (λ (l : a.0 < i). let x = h.1 a.0 l in omega (arith, x, there))
        (λ (b : i ≤ a.0). let x = h.2 a.0 b a.2 in omega (arith, x, there))
        (cases_lt a.0 i)
