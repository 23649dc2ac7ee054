-- A container reference of the model that is read is said by where the object's element stands, and holds what it held.
use Rattle.std.proofs.Common.{◌≡◌, List, [], ◌∷◌, map, refl, sym, ap, ◌∙◌, Option, Some, None}
use Rattle.std.specs.Prelude.{◌==◌, Bool, true, false, Contains, if◌then◌else◌}
use Rattle.std.specs.Option.{option_map_or}
use Rattle.std.proofs.lemmas.Bool.{eq-eqb, true≢false}
use Rattle.std.proofs.lemmas.Option.{none-some, same_Some}
use Rattle.atl_base.specs.declared.numbers.FeatId.{FeatId}
use Rattle.atl_base.specs.declared.numbers.ObjId.{ObjId}
use Rattle.model_store.specs.Contents.{Contents, contains, holder, is_contained_by, objects_of, opposite, refers, slot}
use Rattle.model_store.specs.Valid.{IsValid}
use Rattle.model_store.proofs.Wired.{opposite_back, opposite_refers}
use Rattle.xmi_links.specs.ModelOf.{container_by}
use Rattle.xmi_round_trip.specs.Renumbered.{number}
use Rattle.xmi_round_trip.proofs.Filed.{object_part}
use Rattle.xmi_round_trip.proofs.Targets.{refers_target, target_refers, targets_differ, said_feature}
use Rattle.xmi_round_trip.proofs.Differing.{one_in}
use Rattle.xmi_round_trip.proofs.Lists.{none_in}
use Rattle.xmi_round_trip.proofs.Holders.{holder_is, held_by}
use Rattle.xmi_round_trip.proofs.Entries.{by_part}

-- ## Containers

module _ (m : Contents) (valid : IsValid m) (o : ObjId) (f : FeatId) (held : is_contained_by m.meta f ≡ true) where
  -- the containment at the other end
  pub record IsOtherEnd : Type 0 where
    pub feature : FeatId
    pub named : opposite m.meta f ≡ Some feature
    pub back : opposite m.meta feature ≡ Some f
    pub contains_it : contains m.meta feature ≡ true
    pub refers_it : refers m.meta f ≡ true

  -- each container reference has one
  other_end : IsOtherEnd
  other_end = on (opposite m.meta f) refl held
    where
      on : (x : Option FeatId) → opposite m.meta f ≡ x → option_map_or (contains m.meta) x false ≡ true → IsOtherEnd
      on None e h = absurd (true≢false (sym h))
      on (Some g) e h =
          let back : opposite m.meta g ≡ Some f = opposite_back m.meta valid.metamodel f g e in
          record { feature = g; named = e; back = back; contains_it = h; refers_it = opposite_refers m.meta valid.metamodel g f back }

  -- the objects of the slot
  abbrev targets : List ObjId
  targets = objects_of (slot m o f)

  -- what stands in the slot holds the object
  target_holds : (q : ObjId) → Contains targets q → holder m o ≡ Some (q, other_end.feature)
  target_holds q i =
      let x = other_end in
      holder_is m valid.metamodel valid.model q o x.feature x.contains_it (valid.model.opposites o q f x.feature x.named (target_refers m valid.model o f x.refers_it q i))

  -- two pairs of an object and a feature that are the same have the same object and feature
  same_pair : (p q : ObjId) (g h : FeatId) → ◌≡◌ {A = Option (ObjId × FeatId)} (Some (p, g)) (Some (q, h)) → (p ≡ q) × (g ≡ h)
  same_pair p q g h e = let s = same_Some (p, g) (q, h) e in (ap (λ (x : ObjId × FeatId). x.0) s, ap (λ (x : ObjId × FeatId). x.1) s)

  -- whether the container reference is the opposite of a feature
  abbrev says : FeatId → Bool
  says h = option_map_or (λ g. g.0 == f.0) (opposite m.meta h) false

  -- what holds the object stands in the slot, where it does so by the opposite, and else nothing stands there
  by_holding : (p : ObjId) (h : FeatId) → holder m o ≡ Some (p, h) → (b : Bool) → says h ≡ b → (if b then number m p ∷ [] else []) ≡ map (number m) targets
  by_holding p h e true s =
      let x = other_end in
      let k = held_by m valid.metamodel valid.model o p h e in
      let among : Contains targets p = refers_target m valid.model o f x.refers_it p (valid.model.opposites p o h f (said_feature (opposite m.meta h) f s) k.1) in
      ap (map (number m)) (sym (one_in targets p (targets_differ m valid.model o f x.refers_it) among (λ q i. (same_pair q p x.feature h (sym (target_holds q i) ∙ e)).0)))
  by_holding p h e false s = ap (map (number m)) (sym (none_in targets (λ q i.
      let same : other_end.feature ≡ h = (same_pair q p other_end.feature h (sym (target_holds q i) ∙ e)).1 in
      let named : opposite m.meta h ≡ Some f = ap (opposite m.meta) (sym same) ∙ other_end.back in
      true≢false (sym (ap (λ x. option_map_or (λ g. g.0 == f.0) x false) named ∙ eq-eqb f.0 f.0 refl) ∙ s))))

  -- so where the object's element stands says what the slot holds
  pub container_is : container_by m.meta f (object_part m o) ≡ map (number m) targets
  container_is = by_part m (λ x. container_by m.meta f x ≡ map (number m) targets) o
      (λ e. ap (map (number m)) (sym (none_in targets (λ q i. none-some (q, other_end.feature) (sym e ∙ target_holds q i)))))
      (λ p h e. by_holding p h e (says h) refl)

  -- a container reference is a reference
  pub container_refers : refers m.meta f ≡ true
  container_refers = other_end.refers_it
