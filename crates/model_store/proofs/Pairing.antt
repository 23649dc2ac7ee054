-- Whether a pair is there, seen from its other end or by the table of containers.
use Rattle.std.proofs.Common.{◌≡◌, [], ◌∷◌, ◌++◌, refl, sym, ap, ◌∙◌, subst, ⊎_elim, Option, Some, None}
use Rattle.std.specs.Prelude.{◌==◌, ◌&&◌, Bool, true, false, Contains}
use Rattle.std.specs.Option.{option_map_or}
use Rattle.std.proofs.lemmas.Bool.{cases_eq, true≢false, eq-eqb, ne_eqb, eqb-true, and_left, and_right, and_from, and_parts}
use Rattle.std.proofs.lemmas.List.Elements.{Contains-append_right}
use Rattle.std.proofs.lemmas.Option.{none-some, same_Some}
use Rattle.atl_base.specs.declared.numbers.FeatId.{FeatId}
use Rattle.atl_base.specs.declared.numbers.ObjId.{ObjId}
use Rattle.model_store.specs.declared.parts.Cellv.TheVariants.{Obj}
use Rattle.model_store.specs.Contents.{Contents, contains, holds, holder, opposite, slot}
use Rattle.model_store.specs.Valid.{HasSlot, IsValid, Refers}
use Rattle.model_store.specs.Writes.{join}
use Rattle.model_store.proofs.Removing.{IsChanged, join_changes}
use Rattle.model_store.proofs.SameHolders.{by_holder, holder_is}
use Rattle.model_store.proofs.Slots.{same_object, same_feature}
use Rattle.model_store.proofs.Thinned.{Contains_first, held, holding}
use Rattle.model_store.proofs.Wired.{opposite_back}

-- two truths that imply each other
same_truth : (a b : Bool) → (a ≡ true → b ≡ true) → (b ≡ true → a ≡ true) → a ≡ b
same_truth true b to from = sym (to refl)
same_truth false true to from = from refl
same_truth false false to from = refl

module _ (m : Contents) (valid : IsValid m) (o : ObjId) (f : FeatId) (p : ObjId) where
  -- the other end has o just where this one has p
  pub both_ends : (g : FeatId) → opposite m.meta f ≡ Some g → holds p (slot m o f) ≡ holds o (slot m p g)
  both_ends g e = same_truth (holds p (slot m o f)) (holds o (slot m p g))
      (λ h. holding o (slot m p g) (valid.model.opposites o p f g e (held p (slot m o f) h)))
      (λ h. holding p (slot m o f) (valid.model.opposites p o g f (opposite_back m.meta valid.metamodel f g e) (held o (slot m p g) h)))

  -- what contains p is o by f just where this slot has p
  pub by_container : contains m.meta f ≡ true → (x : Option (ObjId × FeatId)) → holder m p ≡ x → option_map_or (λ at. at.0.0 == o.0 && at.1.0 == f.0) x false ≡ holds p (slot m o f)
  by_container c None e = same_truth false (holds p (slot m o f)) (λ h. absurd (true≢false (sym h)))
      (λ h. absurd (none-some (o, f) (sym e ∙ holder_is m valid p o f c (held p (slot m o f) h))))
  by_container c (Some at) e = same_truth (at.0.0 == o.0 && at.1.0 == f.0) (holds p (slot m o f))
      (λ h.
      let b = and_parts (at.0.0 == o.0) (at.1.0 == f.0) h in
      let x = (by_holder m valid p at.0 at.1 e).1 in
      holding p (slot m o f) (subst (λ z. Refers m z f p) (same_object at.0 o (eqb-true at.0.0 o.0 b.0)) (subst (λ z. Refers m at.0 z p) (same_feature at.1 f (eqb-true at.1.0 f.0 b.1)) x)))
      (λ h.
      let same : (o, f) ≡ at = same_Some (o, f) at (sym (holder_is m valid p o f c (held p (slot m o f) h)) ∙ e) in
      and_from (at.0.0 == o.0) (at.1.0 == f.0) (eq-eqb at.0.0 o.0 (ap (λ z. z.0.0) (sym same))) (eq-eqb at.1.0 f.0 (ap (λ z. z.1.0) (sym same))))

  -- after this end has got p, the other has o only if it is the same slot
  pub end_apart : HasSlot m o f → holds p (slot m o f) ≡ false → (g : FeatId) → opposite m.meta f ≡ Some g → holds o (slot (join o f p m) p g) ≡ (p.0 == o.0 && g.0 == f.0)
  end_apart has n g e = by (join_changes m valid.model.shaped o f p has n)
    where
      apart : IsChanged m (join o f p m) o f (slot m o f ++ Obj p ∷ []) → (p ≡ o → g ≡ f → ⊥) → holds o (slot (join o f p m) p g) ≡ false
      apart c d = ap (holds o) (c.others p g d) ∙ sym (both_ends g e) ∙ n

      last : IsChanged m (join o f p m) o f (slot m o f ++ Obj p ∷ []) → p.0 ≡ o.0 → Refers (join o f p m) o f o
      last c i = subst (λ z. Refers (join o f p m) o f z) (same_object p o i)
          (subst (λ l. Contains l (Obj p)) (sym c.changed) (Contains-append_right (slot m o f) (Obj p ∷ []) (Obj p) (Contains_first (Obj p) [])))

      by : IsChanged m (join o f p m) o f (slot m o f ++ Obj p ∷ []) → holds o (slot (join o f p m) p g) ≡ (p.0 == o.0 && g.0 == f.0)
      by c = ⊎_elim
          (λ i. ⊎_elim
          (λ j. holding o (slot (join o f p m) p g)
          (subst (λ z. Refers (join o f p m) z g o) (sym (same_object p o i)) (subst (λ z. Refers (join o f p m) o z o) (sym (same_feature g f j))
          (last c i)))
          ∙ sym (and_from (p.0 == o.0) (g.0 == f.0) (eq-eqb p.0 o.0 i) (eq-eqb g.0 f.0 j)))
          (λ d. apart c (λ _ z. d (ap (λ z. z.0) z)) ∙ sym (and_right (p.0 == o.0) (g.0 == f.0) (ne_eqb g.0 f.0 d)))
          (cases_eq g.0 f.0))
          (λ d. apart c (λ z _. d (ap (λ z. z.0) z)) ∙ sym (and_left (p.0 == o.0) (g.0 == f.0) (ne_eqb p.0 o.0 d)))
          (cases_eq p.0 o.0)
