-- Each object of a file without faults has a class that may have objects, and is a root or the content of another.
use Rattle.std.proofs.Common.{◌≡◌, ℕ, ◌<◌, List, [], length, refl, sym, ap, ◌∙◌, subst, Option, Some, None}
use Rattle.std.specs.Prelude.{Bool, true, false, slice_get, IfSome}
use Rattle.std.specs.Option.{option_map_or}
use Rattle.std.proofs.lemmas.Bool.{true≢false}
use Rattle.std.proofs.lemmas.Option.{none-some, same_Some}
use Rattle.atl_base.specs.declared.numbers.ClassId.{ClassId}
use Rattle.atl_base.specs.declared.numbers.ObjId.{ObjId}
use Rattle.ecore_meta.specs.declared.parts.Class.{Class}
use Rattle.ecore_meta.specs.declared.parts.Parts.{Parts}
use Rattle.model_store.specs.Valid.{IsConcrete}
use Rattle.xmi_models.specs.declared.fault.Kind.TheVariants.{NoClass, Abstract}
use Rattle.xmi_models.specs.Outline.{Entry, Tag, Part, Around, Root, Content, Value, Cross, Unknown, Inner, is_object}
use Rattle.xmi_models.specs.Faults.{when, objects, own_class, class_fault, class_faults, class_value, fault_from}
use Rattle.xmi_links.proofs.FaultlessEntries.{IsObject, IsGood, object_stands, good}
use Rattle.xmi_links.proofs.FaultlessOutline.{Within, IsRegular, AreRegular, regular_at}
use Rattle.xmi_links.proofs.FaultlessSlots.{IsThere}

module _ (meta : Parts) (file : List Entry) (none : fault_from meta [] file ≡ None) (regular : AreRegular meta [] file) where
  -- an object where it stands, with what is known of it
  pub record Known (n : ℕ) (e : Entry) : Type 0 where
    pub object : IsObject file n e
    pub good : IsGood meta object.before e
    pub stands : IsRegular meta object.before e.part

  pub known : (n : ℕ) (e : Entry) → slice_get (objects file) n ≡ Some e → Known n e
  known n e h =
      let x = object_stands file n e h in
      record { object = x; good = good meta file x.before e none x.stands; stands = regular_at meta file x.before e regular x.stands }

  part_class : (before : List Entry) (p : Part) (t : Tag) → is_object p ≡ true → IsRegular meta before p → class_faults meta (record { part = p; tag = t }) ≡ None → (c : ClassId) × (own_class p ≡ Some c) × Within meta c
  part_class before (Root None) t i r h = absurd (none-some (NoClass, class_value (record { part = Root None; tag = t })) (sym h))
  part_class before (Root (Some c)) t i r h = (c, refl, r)
  part_class before (Content o f None) t i r h = absurd (none-some (NoClass, class_value (record { part = Content o f None; tag = t })) (sym h))
  part_class before (Content o f (Some c)) t i r h = (c, refl, r.2)
  part_class before Around t i r h = absurd (true≢false (sym i))
  part_class before (Value o f) t i r h = absurd (true≢false (sym i))
  part_class before (Cross f c) t i r h = absurd (true≢false (sym i))
  part_class before (Unknown c) t i r h = absurd (true≢false (sym i))
  part_class before Inner t i r h = absurd (true≢false (sym i))

  -- each object has a class
  pub class_there : (o : ObjId) (e : Entry) → slice_get (objects file) o.0 ≡ Some e → (c : ClassId) × IsThere meta file o c × (own_class e.part ≡ Some c)
  class_there o e h =
      let k = known o.0 e h in
      let x = part_class k.object.before e.part e.tag k.object.object k.stands k.good.class in
      (x.0, record { entry = e; there = h; class = x.1 }, x.1)

  pub within : (o : ObjId) (c : ClassId) → IsThere meta file o c → c.0 < length meta.classes
  within o c t =
      let k = known o.0 t.entry t.there in
      let x = part_class k.object.before t.entry.part t.entry.tag k.object.object k.stands k.good.class in
      subst (Within meta) (same_Some x.0 c (sym x.1 ∙ t.class)) x.2

  concrete_part : (p : Part) (t : Tag) (c : ClassId) → is_object p ≡ true → own_class p ≡ Some c → class_faults meta (record { part = p; tag = t }) ≡ None → class_fault meta (record { part = p; tag = t }) (Some c) ≡ None
  concrete_part (Root d) t c i e h = ap (class_fault meta (record { part = Root d; tag = t })) (sym e) ∙ h
  concrete_part (Content o f d) t c i e h = ap (class_fault meta (record { part = Content o f d; tag = t })) (sym e) ∙ h
  concrete_part Around t c i e h = absurd (true≢false (sym i))
  concrete_part (Value o f) t c i e h = absurd (true≢false (sym i))
  concrete_part (Cross f d) t c i e h = absurd (true≢false (sym i))
  concrete_part (Unknown d) t c i e h = absurd (true≢false (sym i))
  concrete_part Inner t c i e h = absurd (true≢false (sym i))

  pub concrete : (o : ObjId) (c : ClassId) → IsThere meta file o c → IsConcrete meta c
  concrete o c t =
      let k = known o.0 t.entry t.there in
      on (slice_get meta.classes c.0) (concrete_part t.entry.part t.entry.tag c k.object.object t.class k.good.class)
    where
      flag : (b : Bool) (value : List ℕ) → when b Abstract value ≡ None → b ≡ false
      flag true value h = absurd (none-some (Abstract, value) (sym h))
      flag false value h = refl

      on : (x : Option Class) → when (option_map_or (λ class. class.is_abstract) x false) Abstract (class_value t.entry) ≡ None → IfSome x (λ class. class.is_abstract ≡ false)
      on None h = tt
      on (Some class) h = flag class.is_abstract (class_value t.entry) h
