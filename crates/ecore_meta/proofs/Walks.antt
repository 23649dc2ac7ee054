-- The steps of the walk that finds an order of the classes.
use Rattle.std.proofs.Common.{◌≡◌, ◌≢◌, ℕ, ◌+◌, ◌-◌, ◌<◌, ◌≤◌, Bool, true, false, cond, List, [], ◌∷◌, ◌++◌, length, get_or, set, take, refl, sym, ap, subst, ◌∙◌, ⊎_elim, arith}
use Rattle.std.proofs.lemmas.List.{get_or_append_left, get_or_push, length_push, get_or_default, length-set, get_or-set_same, get_or-set_other, take-append-le, take_at, take_more, take_all}
use Rattle.std.proofs.lemmas.List.Elements.{Contains-push, Contains-append_left}
use Rattle.std.proofs.lemmas.List.Sums.{sum_by-set}
use Rattle.std.proofs.lemmas.Option.{slice_get-get_or}
use Rattle.std.proofs.lemmas.Bool.{cases_lt, cases_eq}
use Rattle.std.specs.List.{Contains, AllWithin, sum_by}
use Rattle.std.specs.Option.{option_map_or}
use Rattle.atl_base.specs.declared.numbers.ClassId.{ClassId}
use Rattle.ecore_meta.specs.declared.parts.Class.{Class}
use Rattle.ecore_meta.specs.Inheritance.{supers_of, IsAcyclic}
use Rattle.ecore_meta.specs.Order.{class_no, HasSuper, AreWithin, IsClimb, is_done, IsOrder, IsWalk, work_left}
use Rattle.ecore_meta.proofs.Climbs.{IsClimb-push, IsClimb-pop, length-climb, climb_apart}

-- what the code reads at a class
pub supers_at : (classes : List Class) (c : ℕ) (d : Class) → c < length classes → supers_of classes (class_no c) ≡ (get_or classes c d).supers
supers_at classes c d h = ap (λ o. option_map_or (λ k. k.supers) o []) (slice_get-get_or classes c d h)

-- what is done stays done
pub is_done-set_kept : (done : List Bool) (c x : ℕ) → c < length done → is_done done x ≡ true → is_done (set done c true) x ≡ true
is_done-set_kept done c x h d = ⊎_elim
    (λ (same : x ≡ c). subst (λ i. is_done (set done c true) i ≡ true) (sym same) (get_or-set_same done c true false h))
    (λ (other : x ≢ c). get_or-set_other done c x true false other ∙ d)
    (cases_eq x c)

-- the last class of a path, apart
pub path_split : (path below : List ℕ) (n c : ℕ) → n ≡ length path → below ≡ take (n - 1) path → 0 < length path → ((k : ℕ) → k + 1 ≡ length path → get_or path k 0 ≡ c) → path ≡ below ++ c ∷ []
path_split path below n c e front some last =
    let k : ℕ = n - 1 in
    let there : k + 1 ≡ length path = omega arith in
    sym (take_all (k + 1) path (omega arith)) ∙ take_more path k 0 (omega arith) ∙ ap (λ x. take k path ++ x ∷ []) (last k there) ∙ ap (λ (l : List ℕ). l ++ c ∷ []) (sym front)

-- what the search for the next supertype says, of the class's supertypes
pub passed_from : (supers read : List ClassId) (done seen : List Bool) (next : List ℕ) (c from at : ℕ) → supers ≡ read → seen ≡ done → from ≡ get_or next c from → c < length next
    → AllWithin (λ s. is_done seen s.0 ≡ true) read from at → AllWithin (λ s. is_done done s.0 ≡ true) supers (get_or next c 0) at
passed_from supers read done seen next c from at e f g h passed k d low high =
    let begins : from ≡ get_or next c 0 = g ∙ get_or_default next c from 0 h in
    subst (λ (l : List ClassId). is_done done (get_or l k d).0 ≡ true) (sym e)
    (subst (λ (b : List Bool). is_done b (get_or read k d).0 ≡ true) f (passed k d (omega arith) high))

module _ (classes : List Class) (done : List Bool) (next path order : List ℕ) (w : IsWalk classes done next path order) (c at : ℕ)
    (passed : AllWithin (λ s. is_done done s.0 ≡ true) (supers_of classes (class_no c)) (get_or next c 0) at)
    (ends : at ≤ length (supers_of classes (class_no c))) (here : c < length classes) where
  -- the supertypes before the new next one are done too
  passed_on : (x k : ℕ) (d : ClassId) → x < length classes → k < get_or (set next c at) x 0 → is_done done (get_or (supers_of classes (class_no x)) k d).0 ≡ true
  passed_on x k d h l = ⊎_elim
      (λ (same : x ≡ c).
      let at_c : get_or (set next c at) x 0 ≡ at = subst (λ i. get_or (set next c at) i 0 ≡ at) (sym same) (get_or-set_same next c at 0 (omega (arith, w.nexts))) in
      let below : k < at = omega (arith, at_c) in
      subst (λ i. is_done done (get_or (supers_of classes (class_no i)) k d).0 ≡ true) (sym same)
      (⊎_elim (λ (old : k < get_or next c 0). w.passed c k d here old)
      (λ (new : get_or next c 0 ≤ k). passed k d new below)
      (cases_lt k (get_or next c 0))))
      (λ (other : x ≢ c). w.passed x k d h (subst (λ n. k < n) (get_or-set_other next c x at 0 other) l))
      (cases_eq x c)

  next_on : (x : ℕ) → x < length classes → get_or (set next c at) x 0 ≤ length (supers_of classes (class_no x))
  next_on x h = ⊎_elim
      (λ (same : x ≡ c). subst (λ i. get_or (set next c at) i 0 ≤ length (supers_of classes (class_no i))) (sym same)
      (subst (λ n. n ≤ length (supers_of classes (class_no c))) (sym (get_or-set_same next c at 0 (omega (arith, w.nexts)))) ends))
      (λ (other : x ≢ c). subst (λ n. n ≤ length (supers_of classes (class_no x))) (sym (get_or-set_other next c x at 0 other)) (w.next_within x h))
      (cases_eq x c)

  -- a supertype that is not done goes on the path
  pub IsWalk-push : (s : ℕ) → AreWithin classes → ((k : ℕ) → k + 1 ≡ length path → get_or path k 0 ≡ c) → HasSuper classes c s → is_done done s ≡ false
      → IsWalk classes done (set next c at) (path ++ s ∷ []) order
  IsWalk-push s within last up undone = record {
    dones = w.dones;
    nexts = length-set next c at ∙ w.nexts;
    climb = IsClimb-push classes path s w.climb (within (class_no c) (class_no s) up) (λ k e. subst (λ n. HasSuper classes n s) (sym (last k e)) up);
    pending = λ k l. ⊎_elim
        (λ (old : k < length path). ap (is_done done) (get_or_append_left path (s ∷ []) 0 k old) ∙ w.pending k old)
        (λ (new : length path ≤ k). ap (is_done done) (get_or_push path s 0 k (omega (arith, length_push path s))) ∙ undone)
        (cases_lt k (length path));
    passed = passed_on;
    next_within = next_on;
    ordered = w.ordered;
  }

  -- where all supertypes are done, each of them stands in the order
  supers_in : length (supers_of classes (class_no c)) ≤ at → (s : ℕ) → HasSuper classes c s → Contains order s
  supers_in all s m =
      let at_c : get_or (set next c at) c 0 ≡ at = get_or-set_same next c at 0 (omega (arith, w.nexts)) in
      let found : is_done done (get_or (supers_of classes (class_no c)) m.0 (class_no s)).0 ≡ true =
      passed_on c m.0 (class_no s) here (omega (arith, at_c, m.1)) in
      w.ordered.complete s (subst (λ i. is_done done i.0 ≡ true) m.2 found)

  IsOrder-push : length (supers_of classes (class_no c)) ≤ at → IsOrder classes (set done c true) (order ++ c ∷ [])
  IsOrder-push all = record {
    within = λ k l. ⊎_elim
        (λ (old : k < length order). subst (λ n. n < length classes) (sym (get_or_append_left order (c ∷ []) 0 k old)) (w.ordered.within k old))
        (λ (new : length order ≤ k). subst (λ n. n < length classes) (sym (get_or_push order c 0 k (omega (arith, length_push order c)))) here)
        (cases_lt k (length order));
    complete = λ x d. ⊎_elim
        (λ (same : x ≡ c). subst (λ i. Contains (order ++ c ∷ []) i) (sym same) (Contains-push order c))
        (λ (other : x ≢ c). Contains-append_left order (c ∷ []) x (w.ordered.complete x (sym (get_or-set_other done c x true false other) ∙ d)))
        (cases_eq x c);
    first = λ k s l up. ⊎_elim
        (λ (old : k < length order). subst (λ (t : List ℕ). Contains t s) (sym (take-append-le k order (c ∷ []) (omega arith)))
        (w.ordered.first k s old (subst (λ n. HasSuper classes n s) (get_or_append_left order (c ∷ []) 0 k old) up)))
        (λ (new : length order ≤ k).
        let last : length order ≡ k = omega (arith, length_push order c) in
        subst (λ (t : List ℕ). Contains t s) (sym (take_at order (c ∷ []) k last))
        (supers_in all s (subst (λ n. HasSuper classes n s) (get_or_push order c 0 k last) up)))
        (cases_lt k (length order));
  }

  -- a class whose supertypes are done leaves the path, and is done
  pub IsWalk-finish : IsAcyclic classes → (below : List ℕ) → path ≡ below ++ c ∷ [] → length (supers_of classes (class_no c)) ≤ at
      → IsWalk classes (set done c true) (set next c at) below (order ++ c ∷ [])
  IsWalk-finish acyclic below split all =
      let whole : IsClimb classes (below ++ c ∷ []) = subst (IsClimb classes) split w.climb in
      record {
        dones = length-set done c true ∙ w.dones;
        nexts = length-set next c at ∙ w.nexts;
        climb = IsClimb-pop classes below c whole;
        pending = λ k l.
            let low = get_or_append_left below (c ∷ []) 0 k l in
            let apart : get_or below k 0 ≢ c = λ e. climb_apart classes (below ++ c ∷ []) acyclic whole k (length below) l (omega (arith, length_push below c))
            (low ∙ e ∙ sym (get_or_push below c 0 (length below) refl)) in
            get_or-set_other done c (get_or below k 0) true false apart
            ∙ ap (is_done done) (sym low ∙ ap (λ (p : List ℕ). get_or p k 0) (sym split)) ∙ w.pending k (omega (arith, ap length split, length_push below c));
        passed = λ x k d h l. is_done-set_kept done c _ (omega (arith, w.dones)) (passed_on x k d h l);
        next_within = next_on;
        ordered = IsOrder-push all;
      }

-- each step leaves less to do
pub work_left-push : (classes : List Class) (done : List Bool) (path : List ℕ) (s : ℕ) → IsAcyclic classes → IsClimb classes (path ++ s ∷ []) → work_left classes done (path ++ s ∷ []) < work_left classes done path
work_left-push classes done path s acyclic p = omega (arith, length-climb classes (path ++ s ∷ []) acyclic p, length_push path s)

pub work_left-finish : (classes : List Class) (done : List Bool) (path below : List ℕ) (c : ℕ) → IsAcyclic classes → IsClimb classes path → path ≡ below ++ c ∷ [] → c < length done → is_done done c ≡ false
    → work_left classes (set done c true) below < work_left classes done path
work_left-finish classes done path below c acyclic p split h undone =
    let counted : sum_by (λ b. cond b 0 1) (set done c true) + 1 ≡ sum_by (λ b. cond b 0 1) done + 0 =
    subst (λ b. sum_by (λ b. cond b 0 1) (set done c true) + cond b 0 1 ≡ sum_by (λ b. cond b 0 1) done + 0) undone
    (sum_by-set (λ b. cond b 0 1) done c true false h) in
    omega (arith, length-climb classes path acyclic p, ap length split, length_push below c, counted)
