-- That a class conforms to another one, as a relation and as a test by steps.
use Rattle.std.proofs.Common.{◌≡◌, ℕ, zero, suc, ◌<◌, ◌≤◌, List, [], length, get_or, map, refl, sym, ap, ◌∙◌, subst, ⊎_elim, arith}
use Rattle.std.specs.Prelude.{Bool, true, false, ◌==◌, ◌↔◌, Option, Some, None, slice_get, Contains, IsTrue}
use Rattle.std.specs.Option.{option_map_or}
use Rattle.std.specs.List.{list_any}
use Rattle.std.proofs.lemmas.Bool.{eqb-true, eq-eqb, or_left, or_cases, cases_lt}
use Rattle.std.proofs.lemmas.List.{length-map}
use Rattle.std.proofs.lemmas.List.Folds.{Any-from_list_any}
use Rattle.std.proofs.lemmas.Option.{slice_get_past}
use Rattle.atl_base.specs.declared.numbers.ClassId.{ClassId}
use Rattle.ecore_meta.specs.declared.parts.Class.{Class}
use Rattle.ecore_meta.specs.Inheritance.{supers_of, Conforms, itself, by_super}
use Rattle.xmi_text.specs.Inheriting.{inherits, conforms}
use Rattle.xmi_text.proofs.Lists.{get_mapped, in_map, to_map}
use Rattle.xmi_text.proofs.Paths.{Simple, one, further, conforms_from}

abbrev no : ClassId → ℕ
no c = c.0

pub agree : (a b : Bool) → (a ≡ true → b ≡ true) → (b ≡ true → a ≡ true) → a ≡ b
agree true b f g = sym (f refl)
agree false true f g = g refl
agree false false f g = refl

same_class : (c d : ClassId) → c.0 ≡ d.0 → c ≡ d
same_class c d e = ap (λ (n : ℕ). let k : ClassId = record { 0 = n } in k) e

nothing : {X : Type 0} (x : X) → Contains [] x → ⊥
nothing x m = omega (arith, m.1)

module _ (classes : List Class) where
  abbrev pub numbers : List (List ℕ)
  numbers = map (λ class. map no class.supers) classes

  supers_numbers : (c : ClassId) → get_or numbers c.0 [] ≡ map no (supers_of classes c)
  supers_numbers c = sym (get_mapped (λ class. map no class.supers) classes c.0 []) ∙ by (slice_get classes c.0)
    where
      by : (o : Option Class) → option_map_or (λ class. map no class.supers) o [] ≡ map no (option_map_or (λ class. class.supers) o [])
      by (Some k) = refl
      by None = refl

  up : (c s : ClassId) → Contains (supers_of classes c) s → Contains (get_or numbers c.0 []) s.0
  up c s m = subst (λ l. Contains l s.0) (sym (supers_numbers c)) (to_map no (supers_of classes c) s m)

  down : (c : ClassId) (n : ℕ) → Contains (get_or numbers c.0 []) n → (s : ClassId) × Contains (supers_of classes c) s × (no s ≡ n)
  down c n m = in_map no (supers_of classes c) n (subst (λ l. Contains l n) (supers_numbers c) m)

  simple : {c d : ClassId} → Conforms classes c d → Simple numbers c.0 d.0
  simple {c} itself = one numbers c.0
  simple {c} {d} (by_super {s = s} m rest) = further numbers c.0 s.0 d.0 (up c s m) (simple rest)

  pub related : (n : ℕ) (c d : ClassId) → inherits n numbers c.0 d.0 ≡ true → Conforms classes c d
  related zero c d h = subst (λ x. Conforms classes c x) (same_class c d (eqb-true c.0 d.0 h)) itself
  related (suc n) c d h = ⊎_elim
      (λ (e : (c.0 == d.0) ≡ true). subst (λ x. Conforms classes c x) (same_class c d (eqb-true c.0 d.0 e)) itself)
      (λ (k : list_any (λ s. inherits n numbers s d.0) (get_or numbers c.0 []) ≡ true).
      let found = Any-from_list_any (λ s. inherits n numbers s d.0) (get_or numbers c.0 []) k in
      let s = down c found.1 (found.0, found.2, found.3) in
      by_super s.1 (related n s.0 d (subst (λ x. inherits n numbers x d.0 ≡ true) (sym s.2) found.4)))
      (or_cases (c.0 == d.0) (list_any (λ s. inherits n numbers s d.0) (get_or numbers c.0 [])) h)

  itself_is : (n c d : ℕ) → (c == d) ≡ true → inherits n numbers c d ≡ true
  itself_is zero c d h = h
  itself_is (suc n) c d h = or_left (c == d) (list_any (λ s. inherits n numbers s d) (get_or numbers c [])) h

  module _ (within : (c s : ClassId) → Contains (supers_of classes c) s → s.0 < length classes) where
    all_within : (c s : ℕ) → Contains (get_or numbers c []) s → s < length numbers
    all_within c s m =
        let r = down (record { 0 = c }) s m in
        omega (arith, within (record { 0 = c }) r.0 r.1, r.2, length-map classes (λ class. map no class.supers))

    tested : (c d : ClassId) → c.0 < length classes → Conforms classes c d → conforms numbers c.0 d.0 ≡ true
    tested c d l h = conforms_from numbers all_within c.0 d.0 (omega (arith, l, length-map classes (λ class. map no class.supers))) (simple h)

    stays : {c d : ClassId} → Conforms classes c d → c.0 < length classes → d.0 < length classes
    stays itself l = l
    stays {c} (by_super {s = s} m rest) l = stays rest (within c s m)

    outside : (c d : ClassId) → length classes ≤ c.0 → Conforms classes c d → c.0 ≡ d.0
    outside c d l itself = refl
    outside c d l (by_super {s = s} m rest) = absurd (nothing s (subst (λ o. Contains (option_map_or (λ class. class.supers) o []) s) (slice_get_past classes c.0 l) m))

    pub sub_inside : (c d : ClassId) (r : Bool) → c.0 < length classes → IsTrue r ↔ Conforms classes c d → r ≡ conforms numbers c.0 d.0
    sub_inside c d r l h = agree r (conforms numbers c.0 d.0) (λ t. tested c d l (h.0 t)) (λ t. h.1 (related (length numbers) c d t))

    pub sub_first : (c d : ClassId) → length classes ≤ c.0 → (c.0 == d.0) ≡ conforms numbers c.0 d.0
    sub_first c d l = agree (c.0 == d.0) (conforms numbers c.0 d.0) (itself_is (length numbers) c.0 d.0)
        (λ t. eq-eqb c.0 d.0 (outside c d l (related (length numbers) c d t)))

    pub sub_second : (c d : ClassId) → length classes ≤ d.0 → (c.0 == d.0) ≡ conforms numbers c.0 d.0
    sub_second c d l = ⊎_elim
        (λ (i : c.0 < length classes). agree (c.0 == d.0) (conforms numbers c.0 d.0) (itself_is (length numbers) c.0 d.0)
        (λ t. absurd (omega (arith, l, stays (related (length numbers) c d t) i))))
        (λ (o : length classes ≤ c.0). sub_first c d o)
        (cases_lt c.0 (length classes))
