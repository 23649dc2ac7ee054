-- The references of a written object link its slots, and nothing is wrong in their tokens.
use Rattle.std.proofs.Common.{◌≡◌, List, [], ◌∷◌, map, refl, sym, ap, ◌∙◌, subst, append-nil, Option, Some, None}
use Rattle.std.specs.Prelude.{◌&&◌, ◌||◌, not, Bool, true, false, Contains, IsSome, flat_map, if◌then◌else◌}
use Rattle.std.specs.Option.{option_map_or}
use Rattle.atl_base.specs.declared.numbers.FeatId.{FeatId}
use Rattle.atl_base.specs.declared.numbers.ObjId.{ObjId}
use Rattle.ecore_meta.proofs.FeatureLaws.{flat_map-agree}
use Rattle.ecore_meta.proofs.Membership.{Contains-from_flat_map}
use Rattle.model_store.specs.declared.parts.Cellv.TheVariants.{Obj}
use Rattle.model_store.specs.declared.parts.Object.{Object}
use Rattle.model_store.specs.Contents.{Contents, contains, is_contained_by, object_at, objects_of, refers, slot}
use Rattle.model_store.specs.Valid.{IsOfType}
use Rattle.model_store.proofs.Thinned.{Contains_first, Contains_later, Contains_none}
use Rattle.xmi_text.proofs.Lists.{in_map, map-map}
use Rattle.xmi_models.specs.Outline.{Part, class_said, is_sub}
use Rattle.xmi_models.specs.Faults.{Fault, first_of}
use Rattle.xmi_models.specs.declared.fault.Kind.{Kind}
use Rattle.xmi_models.specs.declared.fault.Kind.TheVariants.{BadPath, NoId, TwiceId, BadType, TwoContainers}
use Rattle.xmi_links.specs.References.{Link, One, Reference, Token, both_ways, ends_of, fault_of_kind, is_held_by, is_unfit, is_wrong, link, links_of, object_named, tokens_fault, value_told}
use Rattle.xmi_write.specs.Values.{is_attribute}
use Rattle.xmi_round_trip.specs.Renumbered.{number}
use Rattle.xmi_round_trip.proofs.LinkedEnds.{AreFacts, IsFact, both_facts}
use Rattle.xmi_round_trip.proofs.LinkedLinks.{IsCrossing, IsFollowed, crosses, is_cross, slot_links, slot_reference, slot_references, token_at, unwritten_empty, written_crosses}
use Rattle.xmi_round_trip.proofs.Targets.{target_refers, target_there, fits_class}
use Rattle.xmi_round_trip.proofs.Lists.{none_found, kept_all, kept_map, flat_map_twice, some_there, only}
use Rattle.xmi_round_trip.proofs.Parts.{slot_typed}
use Rattle.xmi_round_trip.proofs.Entries.{class_is}
use Rattle.xmi_round_trip.proofs.Faults.{one_past}

-- ## Links

-- a reference links what its slot holds
pub links_said : (m : Contents) (o : ObjId) (f : FeatId) → links_of (slot_reference m o f) ≡ map (λ q. link (number m o) f (number m q)) (objects_of (slot m o f))
links_said m o f =
    ap (map (link (number m o) f)) (kept_map (λ (t : Token). object_named t.named) (token_at m) (objects_of (slot m o f)) ∙ kept_all (number m) (objects_of (slot m o f)))
    ∙ map-map (link (number m o) f) (number m) (objects_of (slot m o f))

-- what a slot's references link are the slot's links
slot_linked : (m : Contents) (o : ObjId) (f : FeatId) → flat_map links_of (slot_references m o f) ≡ slot_links m o f
slot_linked m o f = on (is_attribute m.meta f (slot m o f)) refl (refers m.meta f) refl
  where
    empty : (c : Bool) → is_cross m.meta f ≡ c → is_attribute m.meta f (slot m o f) ≡ false → [] ≡ (if c then map (λ q. link (number m o) f (number m q)) (objects_of (slot m o f)) else [])
    empty true e h = ap (λ cells. map (λ q. link (number m o) f (number m q)) (objects_of cells)) (sym (unwritten_empty m.meta f (slot m o f) h e))
    empty false e h = refl

    on : (a : Bool) → is_attribute m.meta f (slot m o f) ≡ a → (b : Bool) → refers m.meta f ≡ b → flat_map links_of (if a && b then slot_reference m o f ∷ [] else []) ≡ slot_links m o f
    on true i true j =
        append-nil (links_of (slot_reference m o f)) ∙ links_said m o f
        ∙ ap (λ c. if c then map (λ q. link (number m o) f (number m q)) (objects_of (slot m o f)) else []) (sym (crosses m.meta f (written_crosses m.meta f (slot m o f) i j)))
    on true i false j = ap (λ b. if b && not (contains m.meta f || is_contained_by m.meta f) then map (λ q. link (number m o) f (number m q)) (objects_of (slot m o f)) else []) (sym j)
    on false i b j = empty (is_cross m.meta f) refl i

-- and so for the slots of all these features
pub all_linked : (m : Contents) (o : ObjId) (fs : List FeatId) → flat_map links_of (flat_map (slot_references m o) fs) ≡ flat_map (slot_links m o) fs
all_linked m o fs = flat_map_twice links_of (slot_references m o) fs ∙ flat_map-agree (λ f. flat_map links_of (slot_references m o f)) (slot_links m o) fs (λ f i. slot_linked m o f)

-- ## Which references there are

-- a reference is that of one of an object's slots
pub record IsSaid (m : Contents) (o : ObjId) (r : Reference) : Type 0 where
  pub feature : FeatId
  pub cross : IsCrossing m.meta feature
  pub is : slot_reference m o feature ≡ r

-- so is each of the references of its slots
pub said_of : (m : Contents) (o : ObjId) (fs : List FeatId) (r : Reference) → Contains (flat_map (slot_references m o) fs) r → IsSaid m o r
said_of m o fs r h = let x = Contains-from_flat_map (slot_references m o) fs r h in on x.0 (is_attribute m.meta x.0 (slot m o x.0)) refl (refers m.meta x.0) refl x.2
  where
    on : (f : FeatId) (a : Bool) → is_attribute m.meta f (slot m o f) ≡ a → (b : Bool) → refers m.meta f ≡ b → Contains (if a && b then slot_reference m o f ∷ [] else []) r → IsSaid m o r
    on f true i true j h = record { feature = f; cross = written_crosses m.meta f (slot m o f) i j; is = only (slot_reference m o f) r h }
    on f true i false j h = absurd (Contains_none r h)
    on f false i b j h = absurd (Contains_none r h)

-- ## Faults of tokens

-- there is no fault of a kind, where no token is wrong in this way
none_of_kind : (d : Contents) (part : Part) (kind : Kind) (rs : List Reference) → ((r : Reference) (t : Token) → Contains rs r → Contains r.tokens t → is_wrong d kind part r.feature t.named ≡ false) → fault_of_kind d part kind rs ≡ None
none_of_kind d part kind [] h = refl
none_of_kind d part kind (r ∷ rs) h =
    ap (λ x. option_map_or (λ t. Some (kind, value_told d kind r.feature t.text)) x (fault_of_kind d part kind rs)) (none_found (λ t. is_wrong d kind part r.feature t.named) r.tokens (λ t i. h r t (Contains_first r rs) i))
    ∙ none_of_kind d part kind rs (λ s t i. h s t (Contains_later r s rs i))

-- of five faults, none of which is there, there is no first
first_none : (a b c d e : Option Fault) → a ≡ None → b ≡ None → c ≡ None → d ≡ None → e ≡ None → first_of (a ∷ b ∷ c ∷ d ∷ e ∷ []) ≡ None
first_none a b c d e g h i j k = one_past a _ g (one_past b _ h (one_past c _ i (one_past d _ j (one_past e [] k refl))))

module _ (m : Contents) (there : List (Option Object)) (tops : List ObjId) (k : IsFollowed m there tops) where
  -- the model of these objects and roots
  abbrev drafted : Contents
  drafted = record { meta = m.meta; objects = there; roots = tops }

  -- an object in a slot is of the class that the reference says
  fits : (f : FeatId) (q : ObjId) → IsOfType m f (Obj q) → IsSome (object_at m.objects q) → is_unfit drafted f (number m q) ≡ false
  fits f q t h =
      let x = some_there (object_at m.objects q) h in
      ap (λ x. option_map_or (λ c. option_map_or (λ d. not (is_sub m.meta c d)) (class_said m.meta f) false) x false) (k.classes q h ∙ class_is m q x.0 x.1)
      ∙ fits_class m k.valid q x.0 x.1 f t

  module _ (o : ObjId) (h : IsSome (object_at m.objects o)) (part : Part) (rs : List Reference) (said : (r : Reference) → Contains rs r → IsSaid m o r) where
    -- a token names an object that fits its reference, which is no container reference
    pub record IsTokenOf (r : Reference) (t : Token) : Type 0 where
      pub target : ObjId
      pub unfit_not : is_unfit drafted r.feature (number m target) ≡ false
      pub contained_not : is_contained_by m.meta r.feature ≡ false
      pub is : One (number m target) ≡ t.named

    -- so does each token of these references
    token_of_slot : (r : Reference) (t : Token) → Contains rs r → Contains r.tokens t → IsTokenOf r t
    token_of_slot r t i j =
        let s = said r i in
        subst (λ (x : Reference). Contains x.tokens t → IsTokenOf x t) s.is (λ j.
        let x = in_map (token_at m) (objects_of (slot m o s.feature)) t j in
        let f = s.cross.refers_it in
        record {
          target = x.0;
          unfit_not = fits s.feature x.0 (slot_typed m k.valid.model o s.feature (Obj x.0) (target_refers m k.valid.model o s.feature f x.0 x.1)) (target_there m k.valid.model o s.feature f x.0 x.1);
          contained_not = s.cross.contained_not;
          is = ap (λ (y : Token). y.named) x.2;
        }) j

    -- there is no fault of a kind in which no such token is wrong
    right : (kind : Kind) → ((f : FeatId) (q : ObjId) → is_unfit drafted f q ≡ false → is_contained_by m.meta f ≡ false → is_wrong drafted kind part f (One q) ≡ false) → fault_of_kind drafted part kind rs ≡ None
    right kind g = none_of_kind drafted part kind rs (λ r t i j.
        let x = token_of_slot r t i j in
        subst (λ n. is_wrong drafted kind part r.feature n ≡ false) x.is (g r.feature (number m x.target) x.unfit_not x.contained_not))

    -- so nothing is wrong in their tokens
    pub no_tokens_fault : tokens_fault drafted part rs ≡ None
    no_tokens_fault = first_none
        (fault_of_kind drafted part BadPath rs) (fault_of_kind drafted part NoId rs) (fault_of_kind drafted part TwiceId rs) (fault_of_kind drafted part BadType rs) (fault_of_kind drafted part TwoContainers rs)
        (right BadPath (λ f q u c. refl)) (right NoId (λ f q u c. refl)) (right TwiceId (λ f q u c. refl)) (right BadType (λ f q u c. u))
        (right TwoContainers (λ f q u c. ap (λ b. b && not (is_held_by m.meta part f q)) c))

    -- ## Ends

    -- their links say, both ways, what stands in slots
    pub ends_said : (r : Reference) → Contains rs r → AreFacts m (ends_of m.meta r)
    ends_said r i =
        let s = said r i in
        subst (λ x. AreFacts m (ends_of m.meta x)) s.is (λ l j.
        let x = Contains-from_flat_map (both_ways m.meta) (links_of (slot_reference m o s.feature)) l j in
        both_facts m k.valid k.known x.0 (fact s.feature s.cross.refers_it x.0 (subst (λ ls. Contains ls x.0) (links_said m o s.feature) x.1)) l x.2)
      where
        fact : (f : FeatId) → refers m.meta f ≡ true → (l : Link) → Contains (map (λ q. link (number m o) f (number m q)) (objects_of (slot m o f))) l → IsFact m l
        fact f c l j =
            let x = in_map (λ q. link (number m o) f (number m q)) (objects_of (slot m o f)) l j in
            subst (IsFact m) x.2 (record {
              from = o;
              to = x.0;
              from_is = refl;
              to_is = refl;
              from_there = h;
              to_there = target_there m k.valid.model o f c x.0 x.1;
              refers_it = c;
              it = target_refers m k.valid.model o f c x.0 x.1;
            })
