-- The law: a file in whose elements and references nothing is wrong stands for a model.
use Rattle.std.proofs.Common.{◌≡◌, ◌≢◌, ◌≤◌, List, [], ◌++◌, length, map, refl, sym, ap, ◌∙◌, subst, arith, Option, Some, None}
use Rattle.std.specs.Prelude.{Bool, true, false, slice_get, slice_index_or, option_map, Contains, IsSome, IfSome}
use Rattle.std.specs.Option.{option_map_or, IsSomeAnd}
use Rattle.std.proofs.lemmas.Bool.{true≢false, false_from_ne_true}
use Rattle.std.proofs.lemmas.List.{length-map}
use Rattle.std.proofs.lemmas.List.Elements.{Contains-get_or}
use Rattle.std.proofs.lemmas.Option.{same_Some}
use Rattle.atl_base.specs.declared.numbers.FeatId.{FeatId}
use Rattle.atl_base.specs.declared.numbers.ObjId.{ObjId}
use Rattle.doc_text.specs.declared.tree.Doc.{Doc}
use Rattle.ecore_meta.specs.declared.parts.Parts.{Parts}
use Rattle.ecore_meta.specs.Valid.{IsMetamodel, AllDiffer}
use Rattle.model_store.specs.declared.parts.Cellv.{Cellv}
use Rattle.model_store.specs.declared.parts.Cellv.TheVariants.{Obj}
use Rattle.model_store.specs.declared.parts.Object.{Object}
use Rattle.model_store.specs.Contents.{class_of, contains, is_contained_by, is_many, object_at, opposite, refers, slot}
use Rattle.model_store.specs.Order.{HasNoCycle}
use Rattle.model_store.specs.Valid.{Fits, HasSlot, IsConcrete, IsModel, Refers}
use Rattle.xmi_text.proofs.Lists.{in_map, to_map}
use Rattle.xmi_models.specs.Outline.{Entry, outline}
use Rattle.xmi_models.specs.Faults.{element_fault, fault_from, objects}
use Rattle.xmi_links.specs.References.{attribute_values, child_values, children_from, or_initial, reference_fault}
use Rattle.xmi_links.specs.ModelOf.{container_by, links, model_of, referred}
use Rattle.xmi_links.proofs.FaultlessContents.{children_differ, number_of}
use Rattle.xmi_links.proofs.FaultlessContainers.{IsContentAt, contained_once, finished, model_content, model_content_at, model_has, model_holds, model_shaped, model_slot, roots_are, roots_differ, tops}
use Rattle.xmi_links.proofs.FaultlessCycles.{no_cycle}
use Rattle.xmi_links.proofs.FaultlessEnds.{end_referred, referred_differ, referred_end}
use Rattle.xmi_links.proofs.FaultlessFeatures.{container_end, refers_as_content, refers_with, returned}
use Rattle.xmi_links.proofs.FaultlessFits.{Sees, container_fits, container_is, container_short, container_slot, container_there, content_fits, content_sees, end_back, end_of, end_sees, plain_slot, referred_fits, referred_slot}
use Rattle.xmi_links.proofs.FaultlessObjects.{concrete, known}
use Rattle.xmi_links.proofs.FaultlessOutline.{AreRegular, outline_regular}
use Rattle.xmi_links.proofs.FaultlessSizes.{few_objects}
use Rattle.xmi_links.proofs.FaultlessSlots.{has_of_slot, there_of}
use Rattle.xmi_links.proofs.FaultlessValues.{attribute_default, attribute_fits}
use Rattle.model_store.proofs.Slots.{same_object}

module _ (meta : Parts) (file : List Entry) (none : fault_from meta [] file ≡ None) (regular : AreRegular meta [] file) (valid : IsMetamodel meta) (right : reference_fault meta file ≡ None) where
  abbrev Has : ObjId → FeatId → Type 0
  Has = Sees meta file none regular valid right

  -- ## Sorts of features

  -- a container reference, a containment, another reference, or an attribute
  data IsSort (f : FeatId) : Type 0 where
    contained : is_contained_by meta f ≡ true → IsSort f
    content : contains meta f ≡ true → IsSort f
    cross : is_contained_by meta f ≡ false → contains meta f ≡ false → refers meta f ≡ true → IsSort f
    plain : is_contained_by meta f ≡ false → contains meta f ≡ false → refers meta f ≡ false → IsSort f

  sort : (f : FeatId) → IsSort f
  sort f = on (is_contained_by meta f) refl (contains meta f) refl (refers meta f) refl
    where
      on : (a : Bool) → is_contained_by meta f ≡ a → (b : Bool) → contains meta f ≡ b → (c : Bool) → refers meta f ≡ c → IsSort f
      on true i b j c k = contained i
      on false i true j c k = content j
      on false i false j true k = cross i j k
      on false i false j false k = plain i j k

  contained_slot : (o : ObjId) (f : FeatId) (s : Has o f) → is_contained_by meta f ≡ true → slot (model_of meta file) o f ≡ map Obj (container_by meta f s.it.entry.part)
  contained_slot o f s h = model_slot meta file none regular valid o f s ∙ container_slot meta file none regular valid right o s.it.entry f h

  content_slot : (o : ObjId) (f : FeatId) → Has o f → contains meta f ≡ true → slot (model_of meta file) o f ≡ children_from meta file 0 o f file
  content_slot o f s h = model_content meta file none regular valid o f s h

  cross_slot : (o : ObjId) (f : FeatId) → Has o f → is_contained_by meta f ≡ false → contains meta f ≡ false → refers meta f ≡ true → slot (model_of meta file) o f ≡ map Obj (referred meta (links meta file) o f)
  cross_slot o f s i j k = model_slot meta file none regular valid o f s ∙ referred_slot meta file none regular valid right o s.it.entry f i k j

  attribute_slot : (o : ObjId) (f : FeatId) (s : Has o f) → is_contained_by meta f ≡ false → contains meta f ≡ false → refers meta f ≡ false → slot (model_of meta file) o f ≡ or_initial meta file f (attribute_values meta file s.it.entry f ++ child_values meta file o f file)
  attribute_slot o f s i j k = model_slot meta file none regular valid o f s ∙ plain_slot meta file none regular valid right o s.it.entry f i k j

  has_of : (o : ObjId) (f : FeatId) (v : Cellv) → Contains (slot (model_of meta file) o f) v → Has o f
  has_of o f v m = model_has meta file none regular valid o f v m

  has_slot : (o : ObjId) (f : FeatId) → HasSlot (model_of meta file) o f → Has o f
  has_slot o f h = has_of_slot meta file (finished meta file none regular valid) (tops meta file none regular valid) o f h

  -- ## Fields

  concrete_all : (o : ObjId) → IfSome (class_of (model_of meta file) o) (IsConcrete meta)
  concrete_all o = on (object_at (model_of meta file).objects o) refl
    where
      on : (x : Option Object) → object_at (model_of meta file).objects o ≡ x → IfSome (option_map (λ object. object.class) x) (IsConcrete meta)
      on None e = tt
      on (Some object) e = concrete meta file none regular o object.class (there_of meta file (finished meta file none regular valid) o object e)

  fits : (o : ObjId) (f : FeatId) → HasSlot (model_of meta file) o f → Fits (model_of meta file) f (slot (model_of meta file) o f)
  fits o f h = let s = has_slot o f h in on s (sort f)
    where
      on : Has o f → IsSort f → Fits (model_of meta file) f (slot (model_of meta file) o f)
      on s (contained i) = subst (Fits (model_of meta file) f) (sym (contained_slot o f s i)) (container_fits meta file none regular valid right o s.it.entry f s.it.there)
      on s (content j) = subst (Fits (model_of meta file) f) (sym (content_slot o f s j)) (content_fits meta file none regular valid right o f s j)
      on s (cross i j k) = subst (Fits (model_of meta file) f) (sym (cross_slot o f s i j k)) (referred_fits meta file none regular valid right o f)
      on s (plain i j k) =
          let x = known meta file none regular o.0 s.it.entry s.it.there in
          subst (Fits (model_of meta file) f) (sym (attribute_slot o f s i j k))
          (attribute_fits meta file o f none regular valid j k (model_of meta file).objects (model_of meta file).roots s.it.entry s.it.there x.good.attributes)

  not_content : (f : FeatId) → refers meta f ≡ false → contains meta f ≡ false
  not_content f r = false_from_ne_true (contains meta f) (λ c. true≢false (sym (refers_as_content meta valid f c) ∙ r))

  not_contained : (f : FeatId) → refers meta f ≡ false → is_contained_by meta f ≡ false
  not_contained f r = false_from_ne_true (is_contained_by meta f) (λ c. let g = container_end meta valid f c in true≢false (sym (refers_with meta valid f g.0 g.1) ∙ r))

  defaults : (o : ObjId) (f : FeatId) → HasSlot (model_of meta file) o f → refers meta f ≡ false → is_many meta f ≡ false → IsSomeAnd (slice_get meta.features f.0) (λ feature. IsSome feature.default) → slot (model_of meta file) o f ≢ []
  defaults o f h r single d e =
      let s = has_slot o f h in
      let x = known meta file none regular o.0 s.it.entry s.it.there in
      attribute_default meta file o f none regular valid (not_content f r) r (model_of meta file).objects (model_of meta file).roots s.it.entry s.it.there x.good.attributes single d
      (sym (attribute_slot o f s (not_contained f r) (not_content f r) r) ∙ e)

  differ : (o : ObjId) (f : FeatId) → refers meta f ≡ true → AllDiffer (slot (model_of meta file) o f)
  differ o f r i j d lt l = on (has_of o f (slice_index_or (slot (model_of meta file) o f) j d) (Contains-get_or (slot (model_of meta file) o f) j d l)) (sort f) i j d lt l
    where
      short : (xs : List Cellv) → length xs ≤ 1 → AllDiffer xs
      short xs h i j d lt l = absurd (omega (arith, h, lt, l))

      on : Has o f → IsSort f → AllDiffer (slot (model_of meta file) o f)
      on s (contained i) = subst AllDiffer (sym (contained_slot o f s i)) (short (map Obj (container_by meta f s.it.entry.part)) (omega (arith, container_short meta file none regular valid right f s.it.entry.part, length-map (container_by meta f s.it.entry.part) Obj)))
      on s (content j) = subst AllDiffer (sym (content_slot o f s j)) (children_differ meta file o f 0 file)
      on s (cross i j k) = subst AllDiffer (sym (cross_slot o f s i j k)) (referred_differ meta file o f)
      on s (plain i j k) = absurd (true≢false (sym r ∙ k))

  -- an object in a slot of objects
  listed : (ps : List ObjId) (p : ObjId) → Contains (map Obj ps) (Obj p) → Contains ps p
  listed ps p m = let x = in_map Obj ps (Obj p) m in subst (Contains ps) (same_object x.0 p (number_of x.0 p x.2)) x.1

  opposites : (o p : ObjId) (f g : FeatId) → opposite meta f ≡ Some g → Refers (model_of meta file) o f p → Refers (model_of meta file) p g o
  opposites o p f g h m = on (has_of o f (Obj p) m) (sort f)
    where
      back : opposite meta g ≡ Some f
      back = returned meta valid f g h

      on : Has o f → IsSort f → Refers (model_of meta file) p g o
      on s (contained i) =
          let x = container_is meta file none regular valid right o p s.it.entry f s.it.there (listed (container_by meta f s.it.entry.part) p (subst (λ l. Contains l (Obj p)) (contained_slot o f s i) m)) in
          model_holds meta file none regular valid p o g (subst (IsContentAt meta file none regular valid o p) (same_Some x.0 g (sym x.1 ∙ h)) x.2)
      on s (content j) =
          let x = model_content_at meta file none regular valid o p f j m in
          let t = content_sees meta file none regular valid right o p f g h x in
          let i : is_contained_by meta g ≡ true = ap (λ y. option_map_or (contains meta) y false) back ∙ j in
          subst (λ l. Contains l (Obj o)) (sym (contained_slot p g t i)) (to_map Obj (container_by meta g t.it.entry.part) o (subst (λ (e : Entry). Contains (container_by meta g e.part) o) (same_Some x.entry t.it.entry (sym x.there ∙ t.it.there)) (container_there meta file none regular valid right p o g f h x)))
      on s (cross i j k) =
          let x = referred_end meta file o f p (listed (referred meta (links meta file) o f) p (subst (λ l. Contains l (Obj p)) (cross_slot o f s i j k) m)) in
          let t = end_sees meta file none regular valid right o f p g h (end_of meta file none regular valid right o f p x) in
          let a : is_contained_by meta g ≡ false = ap (λ y. option_map_or (contains meta) y false) back ∙ j in
          let b : contains meta g ≡ false = sym (ap (λ y. option_map_or (contains meta) y false) h) ∙ i in
          let c : refers meta g ≡ true = refers_with meta valid g f back in
          subst (λ l. Contains l (Obj o)) (sym (cross_slot p g t a b c)) (to_map Obj (referred meta (links meta file) p g) o (end_referred meta file p g o (end_back meta file none regular valid right o f p g h x)))
      on s (plain i j k) = absurd (true≢false (sym (refers_with meta valid f g h) ∙ k))

  is_model : IsModel (model_of meta file)
  is_model = record {
    shaped = model_shaped meta file none regular valid;
    concrete = concrete_all;
    fits = fits;
    defaults = defaults;
    differ = differ;
    opposites = opposites;
    contained_once = contained_once meta file none regular valid;
    roots = roots_are meta file none regular valid;
    roots_differ = roots_differ meta file none regular valid;
  }

pub faultless_is_model : (meta : Parts) → IsMetamodel meta → (doc : Doc) → element_fault meta (outline meta doc) ≡ None → reference_fault meta (outline meta doc) ≡ None → IsModel (model_of meta (outline meta doc))
faultless_is_model meta valid doc none right = is_model meta (outline meta doc) none (outline_regular meta valid doc) valid right

-- and no object stands in itself
pub faultless_has_no_cycle : (meta : Parts) → IsMetamodel meta → (doc : Doc) → element_fault meta (outline meta doc) ≡ None → HasNoCycle (model_of meta (outline meta doc))
faultless_has_no_cycle meta valid doc none = no_cycle meta (outline meta doc) none (outline_regular meta valid doc) valid

-- and there are no more objects than a model may have
pub faultless_is_small : (meta : Parts) (doc : Doc) → element_fault meta (outline meta doc) ≡ None → length (objects (outline meta doc)) ≤ 1000000
faultless_is_small meta doc none = few_objects meta (outline meta doc) none
