-- The features of a class are those of its supertypes and its own: more room above a class changes nothing.
use Rattle.std.proofs.Common.{◌≡◌, ℕ, zero, suc, ◌+◌, ◌<◌, List, [], ◌∷◌, ◌++◌, length, refl, sym, ap, subst, ⊎_elim, arith}
use Rattle.std.proofs.lemmas.List.{length_push, get_or_push}
use Rattle.std.proofs.lemmas.List.Elements.{Contains-append_left, Contains-append_right, Contains-append_cases}
use Rattle.std.specs.List.{Contains, flat_map}
use Rattle.atl_base.specs.declared.numbers.ClassId.{ClassId}
use Rattle.atl_base.specs.declared.numbers.FeatId.{FeatId}
use Rattle.ecore_meta.specs.declared.parts.Class.{Class}
use Rattle.ecore_meta.specs.Inheritance.{supers_of, own_of, Conforms, itself, by_super, IsAcyclic, distinct, features_within, features, IsFeaturesLaw, IsSeenLaw}
use Rattle.ecore_meta.specs.Order.{class_no, HasSuper, IsClimb, AreWithin}
use Rattle.ecore_meta.proofs.Membership.{Contains-from_flat_map, Contains-flat_map, Contains-from_distinct, Contains-distinct}
use Rattle.ecore_meta.proofs.Climbs.{IsClimb-one, IsClimb-push, length-climb}

-- two functions that agree at each element
pub flat_map-agree : {X A : Type 0} (f g : X → List A) (xs : List X) → ((x : X) → Contains xs x → f x ≡ g x) → flat_map f xs ≡ flat_map g xs
flat_map-agree f g [] h = refl
flat_map-agree f g (x ∷ xs) h =
    let first : f x ≡ g x = h x (0, omega arith, refl) in
    let rest : flat_map f xs ≡ flat_map g xs = flat_map-agree f g xs (λ y m. h y (suc m.0, omega (arith, m.1), m.2)) in
    cc

module _ (classes : List Class) (acyclic : IsAcyclic classes) (within : AreWithin classes) where
  same_features : (a b : ℕ) (path : List ℕ) (c : ℕ) → IsClimb classes (path ++ c ∷ []) → length classes < a + length (path ++ c ∷ []) → length classes < b + length (path ++ c ∷ [])
      → features_within a classes (class_no c) ≡ features_within b classes (class_no c)
  unfolding features_within
  same_features zero b path c p h k = absurd (omega (arith, length-climb classes (path ++ c ∷ []) acyclic p))
  same_features (suc a) zero path c p h k = absurd (omega (arith, length-climb classes (path ++ c ∷ []) acyclic p))
  same_features (suc a) (suc b) path c p h k =
      let above : flat_map (features_within a classes) (supers_of classes (class_no c)) ≡ flat_map (features_within b classes) (supers_of classes (class_no c)) =
      flat_map-agree (features_within a classes) (features_within b classes) (supers_of classes (class_no c)) (λ s m.
      same_features a b (path ++ c ∷ []) s.0
      (IsClimb-push classes (path ++ c ∷ []) s.0 p (within (class_no c) s m)
      (λ i e. subst (λ n. HasSuper classes n s.0) (sym (get_or_push path c 0 i (omega (arith, length_push path c)))) m))
      (omega (arith, length_push (path ++ c ∷ []) s.0))
      (omega (arith, length_push (path ++ c ∷ []) s.0))) in
      ap (λ l. distinct l ++ own_of classes (class_no c)) above

  pub features-is : IsFeaturesLaw classes
  unfolding features features_within
  features-is c h = same_features (length classes) (suc (length classes)) [] c.0 (IsClimb-one classes c.0 h) (omega arith) (omega arith)

  -- what is seen in a class is declared by one that it conforms to
  declared_by : (n : ℕ) (c : ClassId) (f : FeatId) → Contains (features_within n classes c) f → (d : ClassId) × Conforms classes c d × Contains (own_of classes d) f
  unfolding features_within
  declared_by zero c f m = absurd (omega (arith, m.1))
  declared_by (suc n) c f m = ⊎_elim
      (λ (above : Contains (distinct (flat_map (features_within n classes) (supers_of classes c))) f).
      let r = Contains-from_flat_map (features_within n classes) (supers_of classes c) f (Contains-from_distinct (flat_map (features_within n classes) (supers_of classes c)) f above) in
      let from = declared_by n r.0 f r.2 in
      (from.0, by_super r.1 from.1, from.2))
      (λ (own : Contains (own_of classes c) f). (c, itself, own))
      (Contains-append_cases (distinct (flat_map (features_within n classes) (supers_of classes c))) (own_of classes c) f m)

  -- and the other way round
  seen_from : {c d : ClassId} (f : FeatId) → Conforms classes c d → c.0 < length classes → Contains (own_of classes d) f → Contains (features classes c) f
  seen_from {c} f itself h m =
      subst (λ l. Contains l f) (sym (features-is c h)) (Contains-append_right (distinct (flat_map (features classes) (supers_of classes c))) (own_of classes c) f m)
  seen_from {c} f (by_super {s = s} up rest) h m =
      subst (λ l. Contains l f) (sym (features-is c h)) (Contains-append_left (distinct (flat_map (features classes) (supers_of classes c))) (own_of classes c) f
      (Contains-distinct (flat_map (features classes) (supers_of classes c)) f
      (Contains-flat_map (features classes) (supers_of classes c) s f up (seen_from f rest (within c s up) m))))

  pub seen-is : IsSeenLaw classes
  unfolding features
  seen-is c f h = (declared_by (length classes) c f, λ r. seen_from f r.1 h r.2)
