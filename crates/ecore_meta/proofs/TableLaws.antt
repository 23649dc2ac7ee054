-- The tables of what each class inherits, filled class by class, each after its supertypes.
use Rattle.std.proofs.Common.{◌≡◌, ◌≢◌, ℕ, ◌+◌, ◌<◌, ◌⊎◌, List, [], ◌∷◌, ◌++◌, length, get_or, set, take, refl, sym, ap, subst, ◌∙◌, inl, inr, ⊎_elim, arith, eqb}
use Rattle.std.specs.Prelude.{◌↔◌}
use Rattle.std.proofs.lemmas.Bool.{cases_eq}
use Rattle.std.proofs.lemmas.List.{get_or-set_same, get_or-set_other, take_more}
use Rattle.std.proofs.lemmas.List.Elements.{Contains-append_right, Contains-push_cases}
use Rattle.std.proofs.lemmas.List.Filters.{dedup_is}
use Rattle.std.proofs.lemmas.List.Kept.{Contains-dedup_nat, Contains-from_dedup}
use Rattle.std.proofs.lemmas.List.Sorted.{Contains-permutation, IsPermutation-sym}
use Rattle.std.proofs.lemmas.Map.Keys.{IsStrictlyIncreasing-dedup}
use Rattle.std.proofs.lemmas.Option.{slice_get-get_or}
use Rattle.std.specs.List.{Contains, flat_map, dedup}
use Rattle.std.specs.List.Retain.{IsFiltered, DiffersFromLast}
use Rattle.std.specs.List.Sorted.{IsPermutation, IsSorted, IsStrictlyIncreasing}
use Rattle.std.specs.Ordering.{nat_cmp}
use Rattle.std.specs.Option.{option_map_or}
use Rattle.atl_base.specs.declared.numbers.ClassId.{ClassId}
use Rattle.atl_base.specs.declared.numbers.FeatId.{FeatId}
use Rattle.ecore_meta.specs.declared.parts.Class.{Class}
use Rattle.ecore_meta.specs.Inheritance.{supers_of, own_of, Conforms, itself, by_super, IsAcyclic, distinct, features}
use Rattle.ecore_meta.specs.Order.{class_no, AreWithin, IsSupersFirst}
use Rattle.ecore_meta.proofs.Membership.{head_or, Contains-from_flat_map, Contains-flat_map}
use Rattle.ecore_meta.proofs.Walks.{supers_at}
use Rattle.ecore_meta.proofs.FeatureLaws.{flat_map-agree, features-is}

-- what the code reads at a class
pub own_at : (classes : List Class) (c : ℕ) (d : Class) → c < length classes → own_of classes (class_no c) ≡ (get_or classes c d).own
own_at classes c d h = ap (λ o. option_map_or (λ k. k.own) o []) (slice_get-get_or classes c d h)

-- ---- a table's row
-- of a table whose rows hold for the classes so far, with the row of the next class
pub row_more : {X : Type 0} (P : ℕ → X → Type 0) (rows : List X) (order : List ℕ) (i : ℕ) (row d : X) → i < length order → get_or order i 0 < length rows
    → ((c : ℕ) → Contains (take i order) c → P c (get_or rows c d)) → P (get_or order i 0) row
    → (c : ℕ) → Contains (take (i + 1) order) c → P c (get_or (set rows (get_or order i 0) row) c d)
row_more P rows order i row d inside here each new c m = ⊎_elim
    (λ (same : c ≡ get_or order i 0). subst (λ n. P n (get_or (set rows (get_or order i 0) row) n d)) (sym same)
    (subst (P (get_or order i 0)) (sym (get_or-set_same rows (get_or order i 0) row d here)) new))
    (λ (other : c ≢ get_or order i 0). subst (P c) (sym (get_or-set_other rows (get_or order i 0) c row d other))
    (each c (⊎_elim (λ (old : Contains (take i order) c). old) (λ (e : get_or order i 0 ≡ c). absurd (other (sym e)))
    (Contains-push_cases (take i order) (get_or order i 0) c (subst (λ (l : List ℕ). Contains l c) (take_more order i 0 inside) m)))))
    (cases_eq c (get_or order i 0))

-- ---- features
-- the features of a class from the lists of its supertypes
pub features_row : (classes : List Class) (rows : List (List FeatId)) (order : List ℕ) (i : ℕ) → IsAcyclic classes → AreWithin classes → IsSupersFirst classes order → i < length order
    → ((c : ℕ) → Contains (take i order) c → get_or rows c [] ≡ features classes (class_no c)) → (d : Class) (row : List FeatId)
    → row ≡ distinct (flat_map (λ s. get_or rows s.0 []) (get_or classes (get_or order i 0) d).supers) ++ (get_or classes (get_or order i 0) d).own
    → row ≡ features classes (class_no (get_or order i 0))
features_row classes rows order i acyclic within o inside each d row e =
    let c : ℕ = get_or order i 0 in
    let here : c < length classes = o.within i inside in
    let supers : supers_of classes (class_no c) ≡ (get_or classes c d).supers = supers_at classes c d here in
    let above : flat_map (λ s. get_or rows s.0 []) (supers_of classes (class_no c)) ≡ flat_map (features classes) (supers_of classes (class_no c)) =
    flat_map-agree (λ s. get_or rows s.0 []) (features classes) (supers_of classes (class_no c)) (λ s m. each s.0 (o.first i s.0 inside m)) in
    e ∙ ap (λ l. distinct (flat_map (λ s. get_or rows s.0 []) l) ++ (get_or classes c d).own) (sym supers)
    ∙ ap (λ l. distinct l ++ (get_or classes c d).own) above
    ∙ ap (λ l. distinct (flat_map (features classes) (supers_of classes (class_no c))) ++ l) (sym (own_at classes c d here))
    ∙ sym (features-is classes acyclic within (class_no c) here)

-- ---- conformance
-- the last step of a conformance: none, or a supertype
last_step : {classes : List Class} {c d : ClassId} → Conforms classes c d → (c ≡ d) ⊎ ((s : ClassId) × Contains (supers_of classes c) s × Conforms classes s d)
last_step itself = inl refl
last_step (by_super {s = s} m h) = inr (s, m, h)

-- a class, and what its supertypes conform to
pub conformed_is : (classes : List Class) (rows : ClassId → List ℕ) (c d : ℕ)
    → ((s : ClassId) → Contains (supers_of classes (class_no c)) s → Contains (rows s) d ↔ Conforms classes s (class_no d))
    → Contains (c ∷ flat_map rows (supers_of classes (class_no c))) d ↔ Conforms classes (class_no c) (class_no d)
conformed_is classes rows c d each = (to, from)
  where
    to : Contains (c ∷ flat_map rows (supers_of classes (class_no c))) d → Conforms classes (class_no c) (class_no d)
    to m = ⊎_elim
        (λ (same : c ≡ d). subst (λ n. Conforms classes (class_no c) (class_no n)) same itself)
        (λ (above : Contains (flat_map rows (supers_of classes (class_no c))) d).
        let r = Contains-from_flat_map rows (supers_of classes (class_no c)) d above in
        by_super r.1 ((each r.0 r.1).0 r.2))
        (head_or c (flat_map rows (supers_of classes (class_no c))) d m.0 m.1 m.2)

    from : Conforms classes (class_no c) (class_no d) → Contains (c ∷ flat_map rows (supers_of classes (class_no c))) d
    from h = ⊎_elim
        (λ (same : class_no c ≡ class_no d). (0, omega arith, ap (λ x. x.0) same))
        (λ (up : (s : ClassId) × Contains (supers_of classes (class_no c)) s × Conforms classes s (class_no d)).
        Contains-append_right (c ∷ []) (flat_map rows (supers_of classes (class_no c))) d
        (Contains-flat_map rows (supers_of classes (class_no c)) up.0 d up.1 ((each up.0 up.1).1 up.2)))
        (last_step h)

-- after a sort and a `dedup`
pub Contains-sorted : (xs sorted kept : List ℕ) (d : ℕ) → IsPermutation xs sorted → IsFiltered (DiffersFromLast eqb) [] sorted kept → Contains kept d ↔ Contains xs d
Contains-sorted xs sorted kept d p f =
    let e : kept ≡ dedup eqb sorted = dedup_is eqb sorted kept f in (
      λ m. Contains-permutation sorted xs d (IsPermutation-sym xs sorted p) (Contains-from_dedup eqb sorted d (subst (λ (l : List ℕ). Contains l d) e m)),
      λ m. subst (λ (l : List ℕ). Contains l d) (sym e) (Contains-dedup_nat sorted d (Contains-permutation xs sorted d p m)),
    )

pub rising_sorted : (sorted kept : List ℕ) → IsSorted nat_cmp sorted → IsFiltered (DiffersFromLast eqb) [] sorted kept → IsStrictlyIncreasing kept
rising_sorted sorted kept s f = subst IsStrictlyIncreasing (sym (dedup_is eqb sorted kept f)) (IsStrictlyIncreasing-dedup sorted s)
