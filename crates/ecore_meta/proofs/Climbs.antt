-- Paths that climb from class to supertype. Where no class is its own proper supertype they are never longer than there are classes.
use Rattle.std.proofs.Common.{◌≡◌, ◌≢◌, ℕ, zero, suc, ◌+◌, ◌-◌, ◌<◌, ◌≤◌, true, eqb, List, [], ◌∷◌, ◌++◌, length, get_or, sym, ap, subst, ◌∙◌, ⊎_elim, arith, add-zero}
use Rattle.std.proofs.lemmas.List.{get_or_append_left, get_or_push, length_push, get_or_default}
use Rattle.std.proofs.lemmas.List.Folds.{Any-from_list_any}
use Rattle.std.proofs.lemmas.Bool.{ne_eqb, eqb-true, cases_lt}
use Rattle.std.proofs.lemmas.Map.Keys.{IsDistinct-from_apart}
use Rattle.std.proofs.lemmas.Map.Steps.{length-le_from_distinct_below}
use Rattle.std.specs.List.{list_any}
use Rattle.ecore_meta.specs.declared.parts.Class.{Class}
use Rattle.ecore_meta.specs.Order.{class_no, HasSuper, IsClimb}
use Rattle.ecore_meta.specs.Inheritance.{Conforms, itself, by_super, IsAcyclic}

-- what stands lower conforms to what stands higher
Conforms-climb : (classes : List Class) (path : List ℕ) → IsClimb classes path → (n i : ℕ) → i + n < length path → Conforms classes (class_no (get_or path i 0)) (class_no (get_or path (i + n) 0))
Conforms-climb classes path p zero i h = subst (λ j. Conforms classes (class_no (get_or path i 0)) (class_no (get_or path j 0))) (sym (add-zero i)) itself
Conforms-climb classes path p (suc n) i h =
    let same : (i + 1) + n ≡ i + suc n = omega arith in
    by_super (p.rises i (omega arith))
    (subst (λ j. Conforms classes (class_no (get_or path (i + 1) 0)) (class_no (get_or path j 0))) same (Conforms-climb classes path p n (i + 1) (omega arith)))

pub climb_apart : (classes : List Class) (path : List ℕ) → IsAcyclic classes → IsClimb classes path → (i j : ℕ) → i < j → j < length path → get_or path i 0 ≢ get_or path j 0
climb_apart classes path acyclic p i j h k same =
    let there : (i + 1) + (j - (i + 1)) ≡ j = omega arith in
    let up : Conforms classes (class_no (get_or path (i + 1) 0)) (class_no (get_or path j 0)) =
    subst (λ n. Conforms classes (class_no (get_or path (i + 1) 0)) (class_no (get_or path n 0))) there (Conforms-climb classes path p (j - (i + 1)) (i + 1) (omega arith)) in
    acyclic (class_no (get_or path i 0)) (class_no (get_or path (i + 1) 0)) (p.rises i (omega arith))
    (subst (λ n. Conforms classes (class_no (get_or path (i + 1) 0)) (class_no n)) (sym same) up)

below_from_any : (classes : List Class) (path : List ℕ) → IsClimb classes path → (q : ℕ) → list_any (eqb q) path ≡ true → q < length classes
below_from_any classes path p q h =
    let found = Any-from_list_any (eqb q) path h in
    let here : get_or path found.0 0 ≡ q = get_or_default path found.0 0 found.1 found.2 ∙ found.3 ∙ sym (eqb-true q found.1 found.4) in
    subst (λ n. n < length classes) here (p.within found.0 found.2)

pub length-climb : (classes : List Class) (path : List ℕ) → IsAcyclic classes → IsClimb classes path → length path ≤ length classes
length-climb classes path acyclic p =
    length-le_from_distinct_below path (length classes)
    (IsDistinct-from_apart eqb path (λ i j d h k. ne_eqb (get_or path i d) (get_or path j d)
    (λ e. climb_apart classes path acyclic p i j h k (get_or_default path i 0 d (omega arith) ∙ e ∙ get_or_default path j d 0 k))))
    (below_from_any classes path p)

-- a path of one class
pub IsClimb-one : (classes : List Class) (c : ℕ) → c < length classes → IsClimb classes (c ∷ [])
IsClimb-one classes c h = record {
  within = λ k l. subst (λ n. n < length classes) (ap (λ i. get_or (c ∷ []) i 0) (zero_from k l)) h;
  rises = λ k l. absurd (omega (arith, l));
} where
  zero_from : (k : ℕ) → k < 1 → 0 ≡ k
  zero_from k l = omega arith

-- one class more at the end, which the last one names as a supertype
pub IsClimb-push : (classes : List Class) (path : List ℕ) (s : ℕ) → IsClimb classes path → s < length classes
    → ((k : ℕ) → k + 1 ≡ length path → HasSuper classes (get_or path k 0) s) → IsClimb classes (path ++ s ∷ [])
IsClimb-push classes path s p h up = record {
  within = λ k l. ⊎_elim
      (λ (old : k < length path). subst (λ n. n < length classes) (sym (get_or_append_left path (s ∷ []) 0 k old)) (p.within k old))
      (λ (new : length path ≤ k). subst (λ n. n < length classes) (sym (get_or_push path s 0 k (omega (arith, length_push path s)))) h)
      (cases_lt k (length path));
  rises = λ k l. ⊎_elim
      (λ (old : k + 1 < length path).
      let here : k < length path = omega arith in
      subst (λ n. HasSuper classes n (get_or (path ++ s ∷ []) (k + 1) 0)) (sym (get_or_append_left path (s ∷ []) 0 k here))
      (subst (λ n. HasSuper classes (get_or path k 0) n) (sym (get_or_append_left path (s ∷ []) 0 (k + 1) old)) (p.rises k old)))
      (λ (new : length path ≤ k + 1).
      let last : k + 1 ≡ length path = omega (arith, length_push path s) in
      let here : k < length path = omega arith in
      subst (λ n. HasSuper classes n (get_or (path ++ s ∷ []) (k + 1) 0)) (sym (get_or_append_left path (s ∷ []) 0 k here))
      (subst (λ n. HasSuper classes (get_or path k 0) n) (sym (get_or_push path s 0 (k + 1) (sym last))) (up k last)))
      (cases_lt (k + 1) (length path));
}

-- without its last class
pub IsClimb-pop : (classes : List Class) (path : List ℕ) (s : ℕ) → IsClimb classes (path ++ s ∷ []) → IsClimb classes path
IsClimb-pop classes path s p = record {
  within = λ k l. subst (λ n. n < length classes) (get_or_append_left path (s ∷ []) 0 k l) (p.within k (omega (arith, length_push path s)));
  rises = λ k l.
      let here : k < length path = omega arith in
      subst (λ n. HasSuper classes n (get_or path (k + 1) 0)) (get_or_append_left path (s ∷ []) 0 k here)
      (subst (λ n. HasSuper classes (get_or (path ++ s ∷ []) k 0) n) (get_or_append_left path (s ∷ []) 0 (k + 1) l) (p.rises k (omega (arith, length_push path s))));
}
