-- Of the links of a written file, those of an object's reference are what stands in its slot; those that lead to it the other way
-- come from objects that stand there too. So a reference of the model that is read holds what it held.
use Rattle.std.proofs.Common.{◌≡◌, List, [], ◌++◌, map, refl, sym, ap, ◌∙◌, subst, Option, Some, None}
use Rattle.std.specs.Prelude.{◌==◌, ◌&&◌, Bool, true, false, Contains, IsSome, filter, flat_map, if◌then◌else◌}
use Rattle.std.specs.Option.{option_map_or}
use Rattle.std.proofs.lemmas.Bool.{and_from, and_parts, eq-eqb, eqb-true, ne_eqb}
use Rattle.atl_base.specs.declared.numbers.FeatId.{FeatId}
use Rattle.atl_base.specs.declared.numbers.ObjId.{ObjId}
use Rattle.ecore_meta.specs.Inheritance.{features}
use Rattle.ecore_meta.proofs.Membership.{Contains-from_flat_map}
use Rattle.model_store.specs.declared.parts.Object.{Object}
use Rattle.model_store.specs.Contents.{Contents, object_at, objects_of, opposite, slot}
use Rattle.model_store.specs.Order.{preorder}
use Rattle.model_store.specs.Valid.{IsValid, Refers}
use Rattle.model_store.proofs.Slots.{same_feature, same_object}
use Rattle.model_store.proofs.Thinned.{Contains_none}
use Rattle.xmi_text.proofs.Lists.{in_map, map-map, to_map}
use Rattle.xmi_links.specs.References.{Link, link}
use Rattle.xmi_links.specs.ModelOf.{distinct, is_of, is_to, referred}
use Rattle.xmi_round_trip.specs.Renumbered.{number}
use Rattle.xmi_round_trip.proofs.Filed.{IsOrdered}
use Rattle.xmi_round_trip.proofs.LinkedFile.{object_links}
use Rattle.xmi_round_trip.proofs.LinkedLinks.{IsCrossing, crosses, crossing, is_cross, slot_links}
use Rattle.xmi_round_trip.proofs.Targets.{numbers_differ, refers_target, target_refers, target_there, said_feature}
use Rattle.xmi_round_trip.proofs.RejoinedDistinct.{distinct_first}
use Rattle.xmi_round_trip.proofs.Differing.{flat_map_one}
use Rattle.xmi_round_trip.proofs.Lists.{in_filter, all_pass, none_pass, filter_flat}
use Rattle.xmi_round_trip.proofs.Parts.{seen_differ}

-- a link of an object's slot
pub record IsSlotLink (m : Contents) (o : ObjId) (f : FeatId) (l : Link) : Type 0 where
  pub cross : IsCrossing m.meta f
  pub to : ObjId
  pub to_in : Contains (objects_of (slot m o f)) to
  pub is : link (number m o) f (number m to) ≡ l

-- each link of a slot is such a one
slot_link : (m : Contents) (o : ObjId) (f : FeatId) (l : Link) → Contains (slot_links m o f) l → IsSlotLink m o f l
slot_link m o f l h = on (is_cross m.meta f) refl h
  where
    on : (b : Bool) → is_cross m.meta f ≡ b → Contains (if b then map (λ q. link (number m o) f (number m q)) (objects_of (slot m o f)) else []) l → IsSlotLink m o f l
    on true e h =
        let x = in_map (λ q. link (number m o) f (number m q)) (objects_of (slot m o f)) l h in
        record { cross = crossing m.meta f e; to = x.0; to_in = x.1; is = x.2 }
    on false e h = absurd (Contains_none l h)

-- each link of an object is such a one of some slot
object_link : (m : Contents) (o : ObjId) (l : Link) → Contains (object_links m o) l → (f : FeatId) × IsSlotLink m o f l
object_link m o l h = on (object_at m.objects o) h
  where
    on : (x : Option Object) → Contains (option_map_or (λ object. flat_map (slot_links m o) (features m.meta.classes object.class)) x []) l → (f : FeatId) × IsSlotLink m o f l
    on None h = absurd (Contains_none l h)
    on (Some object) h = let x = Contains-from_flat_map (slot_links m o) (features m.meta.classes object.class) l h in (x.0, slot_link m o x.0 l x.2)

module _ (m : Contents) (valid : IsValid m) (known : IsOrdered m) where
  -- the links of all objects, in preorder
  abbrev pub all_links : List Link
  all_links = flat_map (object_links m) (preorder m)

  module _ (o : ObjId) (object : Object) (there : object_at m.objects o ≡ Some object) (f : FeatId) (sees : Contains (features m.meta.classes object.class) f) where
    -- whether a link is the object's own, by this feature
    abbrev test : Link → Bool
    test = is_of (number m o) f

    -- the object is there
    o_there : IsSome (object_at m.objects o)
    o_there = subst IsSome (sym there) refl

    -- ## Its own links

    -- those of other objects are none
    others_none : (p : ObjId) → Contains (preorder m) p → (p ≡ o → ⊥) → filter test (object_links m p) ≡ []
    others_none p i apart = none_pass test (object_links m p) (λ l h.
        let x = object_link m p l h in
        let from : number m p ≡ l.from = ap (λ (k : Link). k.from) x.1.is in
        ap (λ b. b && l.by.0 == f.0) (ne_eqb l.from.0 (number m o).0 (λ e. apart (known.apart p o (known.there p i) o_there (from ∙ same_object l.from (number m o) e)))))

    -- those of other slots are none
    other_slots_none : (g : FeatId) → (g ≡ f → ⊥) → filter test (slot_links m o g) ≡ []
    other_slots_none g apart = none_pass test (slot_links m o g) (λ l h.
        let x = slot_link m o g l h in
        let by : g ≡ l.by = ap (λ (k : Link). k.by) x.is in
        no (l.from.0 == (number m o).0) (ne_eqb l.by.0 f.0 (λ e. apart (by ∙ same_feature l.by f e))))
      where
        no : (a : Bool) {b : Bool} → b ≡ false → (a && b) ≡ false
        no true e = e
        no false e = refl

    -- those of the slot are all its own
    own_all : filter test (slot_links m o f) ≡ slot_links m o f
    own_all = all_pass test (slot_links m o f) (λ l h.
        let x = slot_link m o f l h in
        and_from (l.from.0 == (number m o).0) (l.by.0 == f.0)
        (eq-eqb l.from.0 (number m o).0 (ap (λ (k : Link). k.from.0) (sym x.is)))
        (eq-eqb l.by.0 f.0 (ap (λ (k : Link). k.by.0) (sym x.is))))

    -- so of all links its own are those of the slot
    pub own_links : filter test all_links ≡ slot_links m o f
    own_links =
        filter_flat test (object_links m) (preorder m)
        ∙ flat_map_one (λ p. filter test (object_links m p)) (preorder m) o known.differ (known.has o o_there) others_none
        ∙ ap (λ x. filter test (option_map_or (λ object. flat_map (slot_links m o) (features m.meta.classes object.class)) x [])) there
        ∙ filter_flat test (slot_links m o) (features m.meta.classes object.class)
        ∙ flat_map_one (λ g. filter test (slot_links m o g)) (features m.meta.classes object.class) f (seen_differ m valid o object there) sees (λ g i apart. other_slots_none g apart)
        ∙ own_all

    -- ## The slot

    module _ (cross : IsCrossing m.meta f) where
      -- the objects of the slot
      abbrev targets : List ObjId
      targets = objects_of (slot m o f)

      -- whether a link leads to the object by the opposite
      abbrev back : Link → Bool
      back = is_to m.meta (number m o) f

      -- what refers to it by the opposite stands in its slot
      back_target : (l : Link) (p : ObjId) (g : FeatId) → IsSlotLink m p g l → back l ≡ true → Contains (map (number m) targets) l.from
      back_target l p g w h =
          let t = and_parts (l.to.0 == (number m o).0) (option_map_or (λ g. g.0 == f.0) (opposite m.meta l.by) false) h in
          let s = w.cross.refers_it in
          let there : IsSome (object_at m.objects w.to) = target_there m valid.model p g s w.to w.to_in in
          let to : number m w.to ≡ number m o = ap (λ (k : Link). k.to) w.is ∙ same_object l.to (number m o) (eqb-true l.to.0 (number m o).0 t.0) in
          let named : opposite m.meta g ≡ Some f = ap (λ (k : Link). opposite m.meta k.by) w.is ∙ said_feature (opposite m.meta l.by) f t.1 in
          let it : Refers m p g o = subst (λ q. Refers m p g q) (known.apart w.to o there o_there to) (target_refers m valid.model p g s w.to w.to_in) in
          let among : Contains targets p = refers_target m valid.model o f cross.refers_it p (valid.model.opposites p o g f named it) in
          subst (Contains (map (number m) targets)) (ap (λ (k : Link). k.from) w.is) (to_map (number m) targets p among)

      -- so does all from which such links come
      back_among : (p : ObjId) → Contains (map (λ (l : Link). l.from) (filter back all_links)) p → Contains (map (number m) targets) p
      back_among p h =
          let x = in_map (λ (l : Link). l.from) (filter back all_links) p h in
          let y = in_filter back all_links x.0 x.1 in
          let z = Contains-from_flat_map (object_links m) (preorder m) x.0 y.1 in
          let w = object_link m z.0 x.0 z.2 in
          subst (Contains (map (number m) targets)) x.2 (back_target x.0 z.0 w.0 w.1 y.0)

      -- its own links lead to what stands in its slot
      own_targets : map (λ (l : Link). l.to) (filter test all_links) ≡ map (number m) targets
      own_targets =
          ap (map (λ (l : Link). l.to)) own_links
          ∙ ap (λ b. map (λ (l : Link). l.to) (if b then map (λ q. link (number m o) f (number m q)) targets else [])) (crosses m.meta f cross)
          ∙ map-map (λ (l : Link). l.to) (λ q. link (number m o) f (number m q)) targets

      -- what the slot of the model that is read holds
      pub referred_is : referred m.meta all_links (number m o) f ≡ map (number m) targets
      referred_is =
          ap (λ l. distinct (l ++ map (λ (l : Link). l.from) (filter back all_links))) own_targets
          ∙ distinct_first (map (number m) targets) (map (λ (l : Link). l.from) (filter back all_links))
          (numbers_differ m valid.model o f cross.refers_it (number m) known.apart) back_among
