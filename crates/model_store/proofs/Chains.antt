-- Chains of objects, each among the contents of the one before. Without a cycle they have at most one object more than there are.
use Rattle.std.proofs.Common.{◌≡◌, ◌≢◌, ℕ, zero, suc, ◌+◌, ◌-◌, ◌<◌, ◌≤◌, true, eqb, List, [], ◌∷◌, ◌++◌, length, get_or, take, sym, subst, ◌∙◌, ⊎_elim, arith, add-zero, Option, Some, None}
use Rattle.std.specs.Option.{option_map_or}
use Rattle.std.proofs.lemmas.List.{get_or_append_left, get_or_push, length_push, get_or_default, length-take, get_or-take}
use Rattle.std.proofs.lemmas.List.Folds.{Any-from_list_any}
use Rattle.std.proofs.lemmas.Bool.{ne_eqb, eqb-true, cases_lt}
use Rattle.std.proofs.lemmas.Map.Keys.{IsDistinct-from_apart}
use Rattle.std.proofs.lemmas.Map.Steps.{length-le_from_distinct_below}
use Rattle.std.specs.List.{list_any, Contains}
use Rattle.atl_base.specs.declared.numbers.ObjId.{ObjId}
use Rattle.model_store.specs.declared.parts.Object.{Object}
use Rattle.model_store.specs.Contents.{Contents, object_at}
use Rattle.model_store.specs.Order.{contents, contents_of, Encloses, itself, by_content, HasNoCycle}
use Rattle.model_store.proofs.Updates.{found_within}

abbrev pub object_no : ℕ → ObjId
object_no n = record { 0 = n }

abbrev pub HasContent : Contents → ℕ → ℕ → Type 0
HasContent m o q = Contains (contents m (object_no o)) (object_no q)

-- each is among the contents of the one before
pub record IsChain (m : Contents) (path : List ℕ) : Type 0 where
  pub falls : (k : ℕ) → k + 1 < length path → HasContent m (get_or path k 0) (get_or path (k + 1) 0)

-- what has contents is an object
has_object : (m : Contents) (o q : ℕ) (x : Option Object) → object_at m.objects (object_no o) ≡ x → HasContent m o q → o < length m.objects
has_object m o q None e h = let none : Contains [] (object_no q) = subst (λ x. Contains (option_map_or (contents_of m.meta) x []) (object_no q)) e h in absurd (omega (arith, none.1))
has_object m o q (Some object) e h = found_within m.objects o object e

-- what stands earlier encloses what stands later
Encloses-chain : (m : Contents) (path : List ℕ) → IsChain m path → (n i : ℕ) → i + n < length path → Encloses m (object_no (get_or path i 0)) (object_no (get_or path (i + n) 0))
Encloses-chain m path p zero i h = subst (λ j. Encloses m (object_no (get_or path i 0)) (object_no (get_or path j 0))) (sym (add-zero i)) itself
Encloses-chain m path p (suc n) i h =
    let same : (i + 1) + n ≡ i + suc n = omega arith in
    by_content (p.falls i (omega arith))
    (subst (λ j. Encloses m (object_no (get_or path (i + 1) 0)) (object_no (get_or path j 0))) same (Encloses-chain m path p n (i + 1) (omega arith)))

chain_apart : (m : Contents) (path : List ℕ) → HasNoCycle m → IsChain m path → (i j : ℕ) → i < j → j < length path → get_or path i 0 ≢ get_or path j 0
chain_apart m path acyclic p i j h k same =
    let there : (i + 1) + (j - (i + 1)) ≡ j = omega arith in
    let down : Encloses m (object_no (get_or path (i + 1) 0)) (object_no (get_or path j 0)) =
    subst (λ n. Encloses m (object_no (get_or path (i + 1) 0)) (object_no (get_or path n 0))) there (Encloses-chain m path p (j - (i + 1)) (i + 1) (omega arith)) in
    acyclic (object_no (get_or path i 0)) (
      object_no (get_or path (i + 1) 0),
      p.falls i (omega arith),
      subst (λ n. Encloses m (object_no (get_or path (i + 1) 0)) (object_no n)) (sym same) down,
    )

-- all but the last of a chain
below_from_any : (m : Contents) (path : List ℕ) (n : ℕ) → IsChain m path → n + 1 ≡ length path → (q : ℕ) → list_any (eqb q) (take n path) ≡ true → q < length m.objects
below_from_any m path n p e q h =
    let found = Any-from_list_any (eqb q) (take n path) h in
    let low : found.0 < n = omega (arith, found.2, length-take n path) in
    let here : get_or path found.0 0 ≡ q = sym (get_or-take n path found.0 0 low) ∙ get_or_default (take n path) found.0 0 found.1 found.2 ∙ found.3 ∙ sym (eqb-true q found.1 found.4) in
    subst (λ k. k < length m.objects) here (has_object m (get_or path found.0 0) (get_or path (found.0 + 1) 0) (object_at m.objects (object_no (get_or path found.0 0))) (λ i. object_at m.objects (object_no (get_or path found.0 0))) (p.falls found.0 (omega arith)))

pub length-chain : (m : Contents) (path : List ℕ) (n : ℕ) → HasNoCycle m → IsChain m path → n + 1 ≡ length path → n ≤ length m.objects
length-chain m path n acyclic p e =
    let size : length (take n path) ≡ n = omega (arith, length-take n path) in
    let bound : length (take n path) ≤ length m.objects = length-le_from_distinct_below (take n path) (length m.objects)
    (IsDistinct-from_apart eqb (take n path) (λ i j d h k. ne_eqb (get_or (take n path) i d) (get_or (take n path) j d)
    (λ same.
    let jn : j < n = omega (arith, k, size) in
    let inn : i < n = omega arith in
    chain_apart m path acyclic p i j h (omega arith)
    (get_or_default path i 0 d (omega arith) ∙ sym (get_or-take n path i d inn) ∙ same ∙ get_or-take n path j d jn ∙ get_or_default path j d 0 (omega arith)))))
    (below_from_any m path n p e) in
    omega arith

pub IsChain-one : (m : Contents) (o : ℕ) → IsChain m (o ∷ [])
IsChain-one m o = record { falls = λ k l. absurd (omega (arith, l)) }

pub IsChain-push : (m : Contents) (path : List ℕ) (s : ℕ) → IsChain m path → ((k : ℕ) → k + 1 ≡ length path → HasContent m (get_or path k 0) s) → IsChain m (path ++ s ∷ [])
IsChain-push m path s p down = record {
  falls = λ k l. ⊎_elim
      (λ (old : k + 1 < length path).
      let here : k < length path = omega arith in
      subst (λ n. HasContent m n (get_or (path ++ s ∷ []) (k + 1) 0)) (sym (get_or_append_left path (s ∷ []) 0 k here))
      (subst (λ n. HasContent m (get_or path k 0) n) (sym (get_or_append_left path (s ∷ []) 0 (k + 1) old)) (p.falls k old)))
      (λ (new : length path ≤ k + 1).
      let last : k + 1 ≡ length path = omega (arith, length_push path s) in
      let here : k < length path = omega arith in
      subst (λ n. HasContent m n (get_or (path ++ s ∷ []) (k + 1) 0)) (sym (get_or_append_left path (s ∷ []) 0 k here))
      (subst (λ n. HasContent m (get_or path k 0) n) (sym (get_or_push path s 0 (k + 1) (sym last))) (down k last)))
      (cases_lt (k + 1) (length path));
}
