-- What the code needs of a file in whose elements nothing is wrong.
use Rattle.std.proofs.Common.{◌≡◌, ℕ, ◌+◌, ◌<◌, ◌≤◌, List, [], ◌∷◌, ◌++◌, length, get_or, take, drop, refl, sym, ap, ◌∙◌, arith}
use Rattle.std.specs.Prelude.{Bool, true, false, ◌||◌, not, All, IfSome, Option, Some, None, if◌then◌else◌}
use Rattle.std.specs.Option.{IsSomeAnd}
use Rattle.std.proofs.lemmas.List.Elements.{Contains-get_or}
use Rattle.std.proofs.lemmas.List.{drop_more, take-append-drop}
use Rattle.xmi_models.proofs.Walking.{counted_together}
use Rattle.std.proofs.lemmas.Option.{slice_get_within}
use Rattle.atl_base.specs.declared.numbers.ClassId.{ClassId}
use Rattle.ecore_meta.specs.declared.parts.Parts.{Parts}
use Rattle.ecore_meta.specs.Valid.{IsMetamodel}
use Rattle.xmi_models.specs.Outline.{Entry, Tag, Part, Around, Root, Content, Value, Cross, Unknown, Inner, objects_in}
use Rattle.xmi_models.specs.Faults.{bad_value, class_fault, class_faults, fault_from, is_second, is_value_of, objects, text_in}
use Rattle.xmi_links.specs.References.{reference_fault}
use Rattle.xmi_links.specs.ModelOf.{links}
use Rattle.xmi_links.specs.Stages.{AreHeld, AreOrdered, AreReferences, HolderBelow, IsHeld, IsSound, IsWell}
use Rattle.xmi_links.proofs.FaultlessEntries.{IsGood, Stands, good}
use Rattle.xmi_links.proofs.FaultlessLinks.{is_link}
use Rattle.xmi_links.proofs.FaultlessOutline.{AreRegular, IsRegular, Within, regular_at}
use Rattle.xmi_links.proofs.FaultlessSizes.{few_objects}
use Rattle.xmi_links.proofs.Containing.{objects_count}

stands_at : (file : List Entry) (k : ℕ) (d : Entry) → k < length file → Stands file (take k file) (get_or file k d)
stands_at file k d l = record { after = drop (k + 1) file; is = ap (λ es. take k file ++ es) (sym (drop_more file k d l)) ∙ take-append-drop k file }

module _ (meta : Parts) (valid : IsMetamodel meta) (file : List Entry) (none : fault_from meta [] file ≡ None) (regular : AreRegular meta [] file) where
  pub few : objects_in file ≤ 1000000
  few = omega (arith, few_objects meta file none, objects_count file)

  few_before : (before : List Entry) (e : Entry) → Stands file before e → objects_in before ≤ objects_in file
  few_before before e s = omega (arith, ap objects_in s.is, counted_together before (e ∷ s.after))

  below : (part : Part) (before : List Entry) → IsRegular meta before part → HolderBelow (objects_in before) part
  below (Content p f c) before r = omega (arith, slice_get_within (objects before) p.0 r.0.entry r.0.there, objects_count before)
  below (Value p f) before r = omega (arith, slice_get_within (objects before) p.0 r.0.entry r.0.there, objects_count before)
  below Around before r = tt
  below (Root c) before r = tt
  below (Cross f c) before r = tt
  below (Unknown c) before r = tt
  below Inner before r = tt

  pub ordered : AreOrdered file
  ordered before after e is = below e.part before (regular_at meta file before e regular (record { after = after; is = is }))

  held : (part : Part) (before : List Entry) → objects_in before ≤ 1000000 → IsRegular meta before part → IsHeld meta part
  held (Content p f c) before l r = (omega (arith, l, below (Content p f c) before r), r.1)
  held (Value p f) before l r = (omega (arith, l, below (Value p f) before r), r.1)
  held Around before l r = tt
  held (Root c) before l r = tt
  held (Cross f c) before l r = tt
  held (Unknown c) before l r = tt
  held Inner before l r = tt

  there_is : (e : Entry) (c : Option ClassId) → class_fault meta e c ≡ None → IfSome c (Within meta) → IsSomeAnd c (λ c. c.0 < length meta.classes)
  there_is e None h k = absurd (cc)
  there_is e (Some c) h k = k

  well : (part : Part) (t : Tag) (before : List Entry) → IsRegular meta before part → class_faults meta (record { part = part; tag = t }) ≡ None → bad_value meta before (record { part = part; tag = t }) ≡ [] → IsWell meta t part
  well (Root c) t before r h k = there_is (record { part = Root c; tag = t }) c h r
  well (Content p f c) t before r h k = there_is (record { part = Content p f c; tag = t }) c h r.2
  well (Value p f) t before r h k = text (is_second meta before p f) (is_value_of meta f (text_in t)) k
    where
      text : (a b : Bool) → (if a || not b then text_in t ∷ [] else []) ≡ [] → b ≡ true
      text true b k = absurd (cc)
      text false true k = refl
      text false false k = absurd (cc)
  well Around t before r h k = tt
  well (Cross f c) t before r h k = tt
  well (Unknown c) t before r h k = tt
  well Inner t before r h k = tt

  pub sound : All (IsSound meta) file
  sound k d l =
      let e : Entry = get_or file k d in
      let s = stands_at file k d l in
      let g : IsGood meta (take k file) e = good meta file (take k file) e none s in
      let r = regular_at meta file (take k file) e regular s in
      record {
        well = well e.part e.tag (take k file) r g.class g.value;
        held = held e.part (take k file) (omega (arith, few, few_before (take k file) e s)) r;
        attributes = λ object. g.attributes;
      }

  pub all_held : AreHeld meta file
  all_held k d l = (sound k d l).held

  pub references : reference_fault meta file ≡ None → AreReferences meta (links meta file)
  references right k d l =
      let x = is_link meta file none regular valid right (get_or (links meta file) k d) (Contains-get_or (links meta file) k d l) in
      (x.refers_it, x.apart)
