-- What the slots of references hold is of the class that the reference asks for, and the other end agrees.
use Rattle.std.proofs.Common.{◌≡◌, ◌+◌, ◌<◌, ◌≤◌, List, [], ◌∷◌, ◌++◌, length, map, refl, sym, ap, ◌∙◌, subst, ⊎_elim, arith, Option, Some, None}
use Rattle.std.specs.Prelude.{◌==◌, ◌&&◌, not, Bool, true, false, slice_get, slice_index_or, option_map, All, Contains, if◌then◌else◌}
use Rattle.std.specs.Option.{option_map_or, IsSomeAnd}
use Rattle.std.proofs.lemmas.Bool.{eq-eqb, eqb-true, true≢false, not-false}
use Rattle.std.proofs.lemmas.List.Elements.{Contains-get_or}
use Rattle.std.proofs.lemmas.List.{length-map}
use Rattle.std.proofs.lemmas.Option.{none-some, same_Some}
use Rattle.atl_base.specs.declared.numbers.ClassId.{ClassId}
use Rattle.atl_base.specs.declared.numbers.FeatId.{FeatId}
use Rattle.atl_base.specs.declared.numbers.ObjId.{ObjId}
use Rattle.ecore_meta.specs.declared.parts.Feature.{Feature}
use Rattle.ecore_meta.specs.declared.parts.FeatKind.{FeatKind}
use Rattle.ecore_meta.specs.declared.parts.FeatKind.TheVariants as holds
use Rattle.ecore_meta.specs.declared.parts.Parts.{Parts}
use Rattle.ecore_meta.specs.Inheritance.{Conforms}
use Rattle.ecore_meta.specs.Valid.{IsMetamodel, class_of, is_reference}
use Rattle.model_store.specs.declared.parts.Cellv.{Cellv}
use Rattle.model_store.specs.declared.parts.Cellv.TheVariants.{Obj}
use Rattle.model_store.specs.Contents.{contains, is_contained_by, opposite, refers}
use Rattle.model_store.specs.Valid.{Fits, IsOfKind, IsOfType}
use Rattle.model_store.proofs.Slots.{same_feature}
use Rattle.model_store.proofs.Thinned.{Contains_cases, Contains_first, Contains_none}
use Rattle.xmi_text.proofs.Lists.{in_map}
use Rattle.xmi_models.specs.Outline.{Entry, Part, Around, Root, Content, Value, Cross, Unknown, Inner, class_said, is_sub}
use Rattle.xmi_models.specs.Faults.{fault_from, is_misplaced, objects, own_class}
use Rattle.xmi_links.specs.References.{Link, both_ways, attribute_values, child_values, children_from, drafted_slot, or_initial, reference_fault}
use Rattle.xmi_links.specs.ModelOf.{container_by, joined_slot, links, model_of, referred}
use Rattle.xmi_links.proofs.FaultlessContents.{child_in}
use Rattle.xmi_links.proofs.FaultlessContainers.{HasOne, IsContentAt, classes_within, finished, holder_has}
use Rattle.xmi_links.proofs.FaultlessEnds.{IsEnd, ends_of, first_end, one_referred, other_end, referred_end, same_link}
use Rattle.xmi_links.proofs.FaultlessFeatures.{conforms_by, other_fits, other_seen, refers_as_content, refers_with, returned}
use Rattle.xmi_links.proofs.FaultlessLinks.{IsLink, is_link, no_clash}
use Rattle.xmi_links.proofs.FaultlessNamed.{IsOne}
use Rattle.xmi_links.proofs.FaultlessObjects.{class_there, known}
use Rattle.xmi_links.proofs.FaultlessOutline.{AreRegular}
use Rattle.xmi_links.proofs.FaultlessSingles.{one_child}
use Rattle.xmi_links.proofs.FaultlessSlots.{IsThere, object_there}

module _ (meta : Parts) (file : List Entry) (none : fault_from meta [] file ≡ None) (regular : AreRegular meta [] file) (valid : IsMetamodel meta) (right : reference_fault meta file ≡ None) where
  abbrev pub Sees : ObjId → FeatId → Type 0
  Sees = HasOne meta file none regular valid

  abbrev pub One : ObjId → Type 0
  One = IsOne meta file none regular valid

  abbrev pub within : (o : ObjId) (c : ClassId) → IsThere meta file o c → c.0 < length meta.classes
  within = classes_within meta file none regular valid

  -- ## Of a class

  -- an object of a class that conforms is a value of the reference
  typed : (f : FeatId) (d c : ClassId) (p : ObjId) → class_said meta f ≡ Some d → IsThere meta file p c → Conforms meta.classes c d → IsOfType (model_of meta file) f (Obj p)
  typed f d c p s t k = on (slice_get meta.features f.0) s
    where
      kind : (x : FeatKind) → class_of x ≡ Some d → IsOfKind (model_of meta file) x (Obj p)
      kind (holds.Refer class inside back) e = subst (λ x. IsSomeAnd (option_map (λ object. object.class) x) (λ own. Conforms meta.classes own class)) (sym (object_there meta file (finished meta file none regular valid) p c t)) (subst (Conforms meta.classes c) (sym (same_Some class d e)) k)
      kind holds.Str e = absurd (none-some d e)
      kind holds.Int e = absurd (none-some d e)
      kind holds.Truth e = absurd (none-some d e)
      kind (holds.Enum n) e = absurd (none-some d e)
      kind holds.Opaque e = absurd (none-some d e)

      on : (x : Option Feature) → option_map_or (λ feature. class_of feature.kind) x None ≡ Some d → IsSomeAnd x (λ feature. IsOfKind (model_of meta file) feature.kind (Obj p))
      on None e = absurd (none-some d e)
      on (Some feature) e = kind feature.kind e

  -- what sees the other end is a value of the reference
  typed_by_other : (f g : FeatId) (p : ObjId) → opposite meta f ≡ Some g → Sees p g → IsOfType (model_of meta file) f (Obj p)
  typed_by_other f g p h s =
      let x = other_fits meta valid s.class f g (within p s.class s.it) h s.sees in
      typed f x.0 s.class p x.1 s.it x.2

  said : (f : FeatId) → refers meta f ≡ true → (d : ClassId) × (class_said meta f ≡ Some d)
  said f h = on (slice_get meta.features f.0) h
    where
      kind : (x : FeatKind) → is_reference x ≡ true → (d : ClassId) × (class_of x ≡ Some d)
      kind (holds.Refer class inside back) e = (class, refl)
      kind holds.Str e = absurd (true≢false (sym e))
      kind holds.Int e = absurd (true≢false (sym e))
      kind holds.Truth e = absurd (true≢false (sym e))
      kind (holds.Enum n) e = absurd (true≢false (sym e))
      kind holds.Opaque e = absurd (true≢false (sym e))

      on : (x : Option Feature) → option_map_or (λ feature. is_reference feature.kind) x false ≡ true → (d : ClassId) × (option_map_or (λ feature. class_of feature.kind) x None ≡ Some d)
      on None e = absurd (true≢false (sym e))
      on (Some feature) e = kind feature.kind e

  -- ## Contents

  -- the class of a content conforms to that of its feature
  content_conforms : (o p : ObjId) (f : FeatId) (x : IsContentAt meta file none regular valid p o f) (c : ClassId) → own_class x.entry.part ≡ Some c → (d : ClassId) → class_said meta f ≡ Some d → Conforms meta.classes c d
  content_conforms o p f x c h d s =
      let k = known meta file none regular p.0 x.entry x.there in
      let own : x.content.class ≡ Some c = sym (ap own_class x.content.is) ∙ h in
      let placed : is_misplaced meta (Content o f (Some c)) ≡ false = ap (λ y. is_misplaced meta (Content o f y)) (sym own) ∙ ap (is_misplaced meta) (sym x.content.is) ∙ k.good.fits in
      conforms_by meta valid c d (not-false (is_sub meta c d) (ap (λ y. option_map_or (λ d. not (is_sub meta c d)) y false) (sym s) ∙ placed))

  content_one : (o p : ObjId) (f : FeatId) (x : IsContentAt meta file none regular valid p o f) → (c : ClassId) × IsThere meta file p c × (own_class x.entry.part ≡ Some c)
  content_one o p f x = class_there meta file none regular p x.entry x.there

  content_typed : (o p : ObjId) (f : FeatId) → contains meta f ≡ true → IsContentAt meta file none regular valid p o f → IsOfType (model_of meta file) f (Obj p)
  content_typed o p f c x =
      let k = content_one o p f x in
      let s = said f (refers_as_content meta valid f c) in
      typed f s.0 k.0 p s.1 k.1 (content_conforms o p f x k.0 k.2 s.0 s.1)

  -- what a containment holds sees its container, where the containment has an opposite
  pub content_sees : (o p : ObjId) (f g : FeatId) → opposite meta f ≡ Some g → IsContentAt meta file none regular valid p o f → Sees p g
  content_sees o p f g h x =
      let k = content_one o p f x in
      let s = said f (refers_with meta valid f g h) in
      record { class = k.0; it = k.1; sees = other_seen meta valid k.0 f g s.0 (within p k.0 k.1) h s.1 (content_conforms o p f x k.0 k.2 s.0 s.1) }

  -- ## Which slot it is

  abbrev Slots : ObjId → Entry → FeatId → List Cellv
  Slots = joined_slot meta file (links meta file)

  pub container_slot : (o : ObjId) (e : Entry) (f : FeatId) → is_contained_by meta f ≡ true → Slots o e f ≡ map Obj (container_by meta f e.part)
  container_slot o e f h = ap (λ b. if b then map Obj (container_by meta f e.part) else if refers meta f && not (contains meta f) then map Obj (referred meta (links meta file) o f) else drafted_slot meta file o e f) h

  pub referred_slot : (o : ObjId) (e : Entry) (f : FeatId) → is_contained_by meta f ≡ false → refers meta f ≡ true → contains meta f ≡ false → Slots o e f ≡ map Obj (referred meta (links meta file) o f)
  referred_slot o e f h r c =
      ap (λ b. if b then map Obj (container_by meta f e.part) else if refers meta f && not (contains meta f) then map Obj (referred meta (links meta file) o f) else drafted_slot meta file o e f) h
      ∙ ap (λ b. if b && not (contains meta f) then map Obj (referred meta (links meta file) o f) else drafted_slot meta file o e f) r
      ∙ ap (λ b. if not b then map Obj (referred meta (links meta file) o f) else drafted_slot meta file o e f) c

  pub plain_slot : (o : ObjId) (e : Entry) (f : FeatId) → is_contained_by meta f ≡ false → refers meta f ≡ false → contains meta f ≡ false → Slots o e f ≡ or_initial meta file f (attribute_values meta file e f ++ child_values meta file o f file)
  plain_slot o e f h r c =
      ap (λ b. if b then map Obj (container_by meta f e.part) else if refers meta f && not (contains meta f) then map Obj (referred meta (links meta file) o f) else drafted_slot meta file o e f) h
      ∙ ap (λ b. if b && not (contains meta f) then map Obj (referred meta (links meta file) o f) else drafted_slot meta file o e f) r
      ∙ ap (λ b. if b then children_from meta file 0 o f file else if refers meta f then [] else or_initial meta file f (attribute_values meta file e f ++ child_values meta file o f file)) c
      ∙ ap (λ b. if b then [] else or_initial meta file f (attribute_values meta file e f ++ child_values meta file o f file)) r

  -- ## Containers

  -- what a container reference holds contains the object by the other end
  pub container_is : (o p : ObjId) (e : Entry) (f : FeatId) → slice_get (objects file) o.0 ≡ Some e → Contains (container_by meta f e.part) p → (g : FeatId) × (opposite meta f ≡ Some g) × IsContentAt meta file none regular valid o p g
  container_is o p e f there m = on e.part refl m
    where
      test : (q : ObjId) (h : FeatId) (c : Option ClassId) → e.part ≡ Content q h c → (x : Option FeatId) → opposite meta h ≡ x → Contains (if option_map_or (λ g. g.0 == f.0) x false then q ∷ [] else []) p → (g : FeatId) × (opposite meta f ≡ Some g) × IsContentAt meta file none regular valid o p g
      test q h c i None j m = absurd (Contains_none p m)
      test q h c i (Some g) j m = by (g.0 == f.0) refl m
        where
          by : (b : Bool) → (g.0 == f.0) ≡ b → Contains (if b then q ∷ [] else []) p → (k : FeatId) × (opposite meta f ≡ Some k) × IsContentAt meta file none regular valid o p k
          by true k m = ⊎_elim
              (λ (s : q ≡ p). (h, returned meta valid h f (j ∙ ap Some (same_feature g f (eqb-true g.0 f.0 k))), record { entry = e; there = there; content = record { class = c; is = i ∙ ap (λ r. Content r h c) s } }))
              (λ (n : Contains [] p). absurd (Contains_none p n))
              (Contains_cases q p [] m)
          by false k m = absurd (Contains_none p m)

      on : (x : Part) → e.part ≡ x → Contains (container_by meta f x) p → (g : FeatId) × (opposite meta f ≡ Some g) × IsContentAt meta file none regular valid o p g
      on (Content q h c) i m = test q h c i (opposite meta h) refl m
      on Around i m = absurd (Contains_none p m)
      on (Root c) i m = absurd (Contains_none p m)
      on (Value q h) i m = absurd (Contains_none p m)
      on (Cross h c) i m = absurd (Contains_none p m)
      on (Unknown c) i m = absurd (Contains_none p m)
      on Inner i m = absurd (Contains_none p m)

  pub container_there : (o p : ObjId) (f g : FeatId) → opposite meta g ≡ Some f → (x : IsContentAt meta file none regular valid o p g) → Contains (container_by meta f x.entry.part) p
  container_there o p f g h x =
      subst (λ (y : Part). Contains (container_by meta f y) p) (sym x.content.is)
      (subst (λ y. Contains (if option_map_or (λ k. k.0 == f.0) y false then p ∷ [] else []) p) (sym h)
      (subst (λ b. Contains (if b then p ∷ [] else []) p) (sym (eq-eqb f.0 f.0 refl)) (Contains_first p [])))

  pub container_short : (f : FeatId) (part : Part) → length (container_by meta f part) ≤ 1
  container_short f (Content q h c) = test (option_map_or (λ g. g.0 == f.0) (opposite meta h) false)
    where
      test : (b : Bool) → length (if b then q ∷ [] else []) ≤ 1
      test true = omega arith
      test false = omega arith
  container_short f Around = omega arith
  container_short f (Root c) = omega arith
  container_short f (Value q h) = omega arith
  container_short f (Cross h c) = omega arith
  container_short f (Unknown c) = omega arith
  container_short f Inner = omega arith

  -- ## Ends of links

  abbrev pub AtEnd : ObjId → FeatId → ObjId → Type 0
  AtEnd = IsEnd meta file (links meta file)

  -- a link from the object itself, or one to it by the opposite
  pub data EndOf (o : ObjId) (f : FeatId) (p : ObjId) : Type 0 where
    own : (c : ClassId) → IsThere meta file p c → ((d : ClassId) → class_said meta f ≡ Some d → is_sub meta c d ≡ true) → refers meta f ≡ true → EndOf o f p
    back : (g : FeatId) → opposite meta g ≡ Some f → Sees p g → EndOf o f p

  pub end_of : (o : ObjId) (f : FeatId) (p : ObjId) → AtEnd o f p → EndOf o f p
  end_of o f p x = ⊎_elim
      (λ (e : x.link ≡ record { from = o; by = f; to = p }). let l = subst (IsLink meta file none regular valid right) e (is_link meta file none regular valid right x.link x.there) in own l.to.0 l.to.1 l.fits l.refers_it)
      (λ (e : (g : FeatId) × (opposite meta x.link.by ≡ Some g) × (◌≡◌ {A = Link} (record { from = x.link.to; by = g; to = x.link.from }) (record { from = o; by = f; to = p }))).
      let l = is_link meta file none regular valid right x.link x.there in
      back x.link.by (e.1 ∙ ap (λ (k : Link). Some k.by) e.2) (subst (λ q. Sees q x.link.by) (ap (λ (k : Link). k.to) e.2) l.from))
      (ends_of meta file x.link (record { from = o; by = f; to = p }) x.it)

  end_typed : (o : ObjId) (f : FeatId) (p : ObjId) → EndOf o f p → IsOfType (model_of meta file) f (Obj p)
  end_typed o f p (own c t fits r) = let s = said f r in typed f s.0 c p s.1 t (conforms_by meta valid c s.0 (fits s.0 s.1))
  end_typed o f p (back g h s) = typed_by_other f g p (returned meta valid g f h) s

  pub end_sees : (o : ObjId) (f : FeatId) (p : ObjId) (g : FeatId) → opposite meta f ≡ Some g → EndOf o f p → Sees p g
  end_sees o f p g h (own c t fits r) = let s = said f r in record { class = c; it = t; sees = other_seen meta valid c f g s.0 (within p c t) h s.1 (conforms_by meta valid c s.0 (fits s.0 s.1)) }
  end_sees o f p g h (back k i s) = subst (Sees p) (same_Some k g (sym (returned meta valid k f i) ∙ h)) s

  -- the other end says the same
  pub end_back : (o : ObjId) (f : FeatId) (p : ObjId) (g : FeatId) → opposite meta f ≡ Some g → AtEnd o f p → AtEnd p g o
  end_back o f p g h x = record {
    link = x.link;
    there = x.there;
    it = ⊎_elim
        (λ (e : x.link ≡ record { from = o; by = f; to = p }). subst (λ l. Contains (both_ways meta l) (record { from = p; by = g; to = o })) (sym e) (other_end meta file (record { from = o; by = f; to = p }) g h))
        (λ (e : (k : FeatId) × (opposite meta x.link.by ≡ Some k) × (◌≡◌ {A = Link} (record { from = x.link.to; by = k; to = x.link.from }) (record { from = o; by = f; to = p }))).
        let i : opposite meta x.link.by ≡ Some f = e.1 ∙ ap (λ (l : Link). Some l.by) e.2 in
        let by : x.link.by ≡ g = same_Some x.link.by g (sym (returned meta valid x.link.by f i) ∙ h) in
        subst (λ l. Contains (both_ways meta x.link) l) (same_link meta file x.link (record { from = p; by = g; to = o }) (ap (λ (l : Link). l.to) e.2) by (ap (λ (l : Link). l.from) e.2)) (first_end meta file x.link))
        (ends_of meta file x.link (record { from = o; by = f; to = p }) x.it);
  }

  -- ## All values fit

  all_typed : (f : FeatId) (ps : List ObjId) → ((p : ObjId) → Contains ps p → IsOfType (model_of meta file) f (Obj p)) → All (IsOfType (model_of meta file) f) (map Obj ps)
  all_typed f ps h k d l =
      let x = in_map Obj ps (slice_index_or (map Obj ps) k d) (Contains-get_or (map Obj ps) k d l) in
      subst (IsOfType (model_of meta file) f) x.2 (h x.0 x.1)

  children_typed : (o : ObjId) (f : FeatId) → Sees o f → contains meta f ≡ true → All (IsOfType (model_of meta file) f) (children_from meta file 0 o f file)
  children_typed o f s c k d l =
      let x = child_in meta file o f 0 file (slice_index_or (children_from meta file 0 o f file) k d) (Contains-get_or (children_from meta file 0 o f file) k d l) in
      let p : ObjId = record { 0 = 0 + x.place } in
      let z : 0 + x.place ≡ x.place = omega arith in
      subst (IsOfType (model_of meta file) f) x.it (content_typed o p f c (record { entry = x.entry; there = ap (λ n. slice_get (objects file) n) z ∙ x.there; content = x.content }))

  pub container_fits : (o : ObjId) (e : Entry) (f : FeatId) → slice_get (objects file) o.0 ≡ Some e → Fits (model_of meta file) f (map Obj (container_by meta f e.part))
  container_fits o e f there = record {
    typed = all_typed f (container_by meta f e.part) (λ p m.
        let x = container_is o p e f there m in
        typed_by_other f x.0 p x.1 (holder_has meta file none regular valid p o x.0 x.2).0);
    single = λ s. omega (arith, container_short f e.part, length-map (container_by meta f e.part) Obj);
  }

  pub content_fits : (o : ObjId) (f : FeatId) → Sees o f → contains meta f ≡ true → Fits (model_of meta file) f (children_from meta file 0 o f file)
  content_fits o f s c = record {
    typed = children_typed o f s c;
    single = λ i. one_child meta file o f i 0 [] file none;
  }

  pub referred_fits : (o : ObjId) (f : FeatId) → Fits (model_of meta file) f (map Obj (referred meta (links meta file) o f))
  referred_fits o f = record {
    typed = all_typed f (referred meta (links meta file) o f) (λ p m. end_typed o f p (end_of o f p (referred_end meta file o f p m)));
    single = λ s. omega (arith, one_referred meta file o f s (no_clash meta file right), length-map (referred meta (links meta file) o f) Obj);
  }
