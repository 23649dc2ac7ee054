-- Contents and containers of a file without faults: what contains an object is what its element says.
use Rattle.std.proofs.Common.{◌≡◌, ◌≢◌, ℕ, zero, suc, ◌+◌, ◌<◌, ◌⊎◌, inl, inr, List, [], ◌∷◌, ◌++◌, length, map, refl, sym, ap, ◌∙◌, subst, ⊎_elim, arith, Option, Some, None}
use Rattle.std.specs.Prelude.{◌&&◌, not, Bool, true, false, slice_get, slice_index_or, is_some, Contains, IsSome, ◌↔◌, if◌then◌else◌}
use Rattle.std.proofs.lemmas.Bool.{true≢false}
use Rattle.std.proofs.lemmas.List.{get_or_default}
use Rattle.std.proofs.lemmas.Option.{none-some, same_Some}
use Rattle.atl_base.specs.declared.numbers.ClassId.{ClassId}
use Rattle.atl_base.specs.declared.numbers.FeatId.{FeatId}
use Rattle.atl_base.specs.declared.numbers.ObjId.{ObjId}
use Rattle.ecore_meta.specs.declared.parts.Parts.{Parts}
use Rattle.ecore_meta.specs.Valid.{IsMetamodel, AllDiffer}
use Rattle.model_store.specs.declared.parts.Cellv.{Cellv}
use Rattle.model_store.specs.declared.parts.Cellv.TheVariants.{Obj}
use Rattle.model_store.specs.declared.parts.Object.{Object}
use Rattle.model_store.specs.Contents.{AreShaped, container, contains, object_at, refers, slot}
use Rattle.model_store.specs.Valid.{Refers}
use Rattle.model_store.proofs.CreatedModel.{seen_once}
use Rattle.model_store.proofs.Thinned.{Contains_cases, Contains_first, Contains_later, Contains_none}
use Rattle.xmi_text.proofs.Lists.{pairs_cons}
use Rattle.model_store.proofs.Holding.{contained_not, uncontained}
use Rattle.xmi_models.specs.Outline.{Entry, Part, Around, Root, Content, Value, Cross, Unknown, Inner, is_object}
use Rattle.xmi_models.specs.Faults.{objects, fault_from}
use Rattle.xmi_links.specs.References.{children_from, draft, drafted_slot, is_root, roots_from, or_initial, attribute_values, child_values}
use Rattle.xmi_links.specs.ModelOf.{container_by, joined_slot, links, model_of, referred}
use Rattle.xmi_links.proofs.FaultlessEntries.{object_before}
use Rattle.xmi_links.proofs.FaultlessOutline.{AreRegular, IsRegular}
use Rattle.xmi_links.proofs.FaultlessContents.{IsContentOf, child_in, in_children, same_number, number_of}
use Rattle.xmi_links.proofs.FaultlessSlots.{IsThere, Has, has_of_value, object_there, shaped, slot_is, there_of}
use Rattle.xmi_links.proofs.FaultlessObjects.{known, within, class_there}
use Rattle.xmi_links.proofs.FaultlessFeatures.{content_is_not}

module _ (meta : Parts) (file : List Entry) (none : fault_from meta [] file ≡ None) (regular : AreRegular meta [] file) (valid : IsMetamodel meta) where
  -- ## Slots

  abbrev pub classes_within : (o : ObjId) (c : ClassId) → IsThere meta file o c → c.0 < length meta.classes
  classes_within = within meta file none regular

  abbrev pub HasOne : ObjId → FeatId → Type 0
  HasOne = Has meta file

  -- what stands in the slots of the draft, and of the model
  abbrev pub drafted : ObjId → Entry → FeatId → List Cellv
  drafted = drafted_slot meta file

  abbrev pub finished : ObjId → Entry → FeatId → List Cellv
  finished = joined_slot meta file (links meta file)

  abbrev pub tops : List ObjId
  tops = roots_from 0 (objects file)

  pub draft_slot : (o : ObjId) (f : FeatId) (h : HasOne o f) → slot (draft meta file) o f ≡ drafted o h.it.entry f
  draft_slot o f h = slot_is meta file drafted tops valid classes_within o f h

  pub model_slot : (o : ObjId) (f : FeatId) (h : HasOne o f) → slot (model_of meta file) o f ≡ finished o h.it.entry f
  model_slot o f h = slot_is meta file finished tops valid classes_within o f h

  pub model_has : (o : ObjId) (f : FeatId) (v : Cellv) → Contains (slot (model_of meta file) o f) v → HasOne o f
  model_has o f v m = has_of_value meta file finished tops o f v m

  pub model_shaped : AreShaped meta (model_of meta file).objects
  model_shaped = shaped meta file finished classes_within

  drafted_content : (o : ObjId) (e : Entry) (f : FeatId) → contains meta f ≡ true → drafted o e f ≡ children_from meta file 0 o f file
  drafted_content o e f c = ap (λ b. if b then children_from meta file 0 o f file else if refers meta f then [] else or_initial meta file f (attribute_values meta file e f ++ child_values meta file o f file)) c

  pub content_slot : (o : ObjId) (f : FeatId) → HasOne o f → contains meta f ≡ true → slot (draft meta file) o f ≡ children_from meta file 0 o f file
  content_slot o f h c = draft_slot o f h ∙ drafted_content o h.it.entry f c

  joined_content : (o : ObjId) (e : Entry) (f : FeatId) → contains meta f ≡ true → finished o e f ≡ drafted o e f
  joined_content o e f c =
      ap (λ b. if b then map Obj (container_by meta f e.part) else if refers meta f && not (contains meta f) then map Obj (referred meta (links meta file) o f) else drafted o e f) (content_is_not meta valid f c)
      ∙ ap (λ b. if refers meta f && not b then map Obj (referred meta (links meta file) o f) else drafted o e f) c
      ∙ both (refers meta f)
    where
      both : (b : Bool) → (if b && false then map Obj (referred meta (links meta file) o f) else drafted o e f) ≡ drafted o e f
      both true = refl
      both false = refl

  pub model_content : (o : ObjId) (f : FeatId) → HasOne o f → contains meta f ≡ true → slot (model_of meta file) o f ≡ children_from meta file 0 o f file
  model_content o f h c = model_slot o f h ∙ joined_content o h.it.entry f c ∙ drafted_content o h.it.entry f c

  -- ## The element of an object says what contains it

  pub record IsContentAt (p o : ObjId) (f : FeatId) : Type 0 where
    pub entry : Entry
    pub there : slice_get (objects file) p.0 ≡ Some entry
    pub content : IsContentOf o f entry

  of_child : (o p : ObjId) (f : FeatId) → Contains (children_from meta file 0 o f file) (Obj p) → IsContentAt p o f
  of_child o p f m =
      let c = child_in meta file o f 0 file (Obj p) m in
      let n : c.place ≡ p.0 = (let z : 0 + c.place ≡ c.place = omega arith in sym z ∙ number_of (record { 0 = 0 + c.place }) p c.it) in
      record { entry = c.entry; there = ap (λ k. slice_get (objects file) k) (sym n) ∙ c.there; content = c.content }

  pub draft_content : (o p : ObjId) (f : FeatId) → contains meta f ≡ true → Refers (draft meta file) o f p → IsContentAt p o f
  draft_content o p f c r = of_child o p f (subst (λ l. Contains l (Obj p)) (content_slot o f (has_of_value meta file drafted tops o f (Obj p) r) c) r)

  pub model_content_at : (o p : ObjId) (f : FeatId) → contains meta f ≡ true → Refers (model_of meta file) o f p → IsContentAt p o f
  model_content_at o p f c r = of_child o p f (subst (λ l. Contains l (Obj p)) (model_content o f (model_has o f (Obj p) r) c) r)

  -- what contains it has the feature, which is a containment
  pub holder_has : (o p : ObjId) (f : FeatId) → IsContentAt p o f → HasOne o f × (contains meta f ≡ true)
  holder_has o p f x =
      let k = known meta file none regular p.0 x.entry x.there in
      let r = subst (IsRegular meta k.object.before) x.content.is k.stands in
      let s = r.0 in
      (record { class = s.class; it = record { entry = s.entry; there = object_before file k.object.before x.entry k.object.stands o.0 s.entry s.there; class = s.is }; sees = s.sees }, r.1)

  in_slot : (o p : ObjId) (f : FeatId) → IsContentAt p o f → Contains (children_from meta file 0 o f file) (Obj p)
  in_slot o p f x = subst (λ q. Contains (children_from meta file 0 o f file) (Obj q)) (same_number (0 + p.0) p.0 (omega arith)) (in_children meta file o f 0 file p.0 x.entry x.there x.content)

  pub model_holds : (o p : ObjId) (f : FeatId) → IsContentAt p o f → Refers (model_of meta file) o f p
  model_holds o p f x = let h = holder_has o p f x in subst (λ l. Contains l (Obj p)) (sym (model_content o f h.0 h.1)) (in_slot o p f x)

  content_same : (o r : ObjId) (f h : FeatId) (c d : Option ClassId) → Content o f c ≡ Content r h d → (o ≡ r) × (f ≡ h)
  content_same o r f h c d e = (cc, cc)

  pub one_holder : (p o r : ObjId) (f h : FeatId) → IsContentAt p o f → IsContentAt p r h → (o ≡ r) × (f ≡ h)
  one_holder p o r f h x y = content_same o r f h x.content.class y.content.class (sym x.content.is ∙ ap (λ (e : Entry). e.part) (same_Some x.entry y.entry (sym x.there ∙ y.there)) ∙ y.content.is)

  -- no object has two containers
  pub contained_once : (o r p : ObjId) (f h : FeatId) → contains meta f ≡ true → contains meta h ≡ true → Refers (model_of meta file) o f p → Refers (model_of meta file) r h p → (o ≡ r) × (f ≡ h)
  contained_once o r p f h c d x y = one_holder p o r f h (model_content_at o p f c x) (model_content_at r p h d y)

  -- ## Roots

  -- an object is a root, or contained
  root_or_content : (p : ObjId) (e : Entry) → slice_get (objects file) p.0 ≡ Some e → (is_root e.part ≡ true) ⊎ ((o : ObjId) × (f : FeatId) × IsContentAt p o f)
  root_or_content p e h = on e.part refl (known meta file none regular p.0 e h).object.object
    where
      on : (q : Part) → e.part ≡ q → is_object q ≡ true → (is_root q ≡ true) ⊎ ((o : ObjId) × (f : FeatId) × IsContentAt p o f)
      on (Root c) i b = inl refl
      on (Content o f c) i b = inr (o, f, record { entry = e; there = h; content = record { class = c; is = i } })
      on Around i b = absurd (true≢false (sym b))
      on (Value o f) i b = absurd (true≢false (sym b))
      on (Cross f c) i b = absurd (true≢false (sym b))
      on (Unknown c) i b = absurd (true≢false (sym b))
      on Inner i b = absurd (true≢false (sym b))

  pub record IsRootAt (n : ℕ) (es : List Entry) (o : ObjId) : Type 0 where
    pub place : ℕ
    pub entry : Entry
    pub there : slice_get es place ≡ Some entry
    pub root : is_root entry.part ≡ true
    pub it : n + place ≡ o.0

  pub in_roots : (n : ℕ) (es : List Entry) (o : ObjId) → Contains (roots_from n es) o → IsRootAt n es o
  in_roots n [] o m = absurd (Contains_none o m)
  in_roots n (e ∷ es) o m = on (is_root e.part) refl m (λ k. later (in_roots (suc n) es o k))
    where
      later : IsRootAt (suc n) es o → IsRootAt n (e ∷ es) o
      later x = record { place = suc x.place; entry = x.entry; there = x.there; root = x.root; it = omega (arith, x.it) }

      on : (b : Bool) → is_root e.part ≡ b → Contains (if b then record { 0 = n } ∷ roots_from (suc n) es else roots_from (suc n) es) o → (Contains (roots_from (suc n) es) o → IsRootAt n (e ∷ es) o) → IsRootAt n (e ∷ es) o
      on true i m again = ⊎_elim
          (λ (same : record { 0 = n } ≡ o). record { place = 0; entry = e; there = refl; root = i; it = (let z : n + 0 ≡ n = omega arith in z ∙ ap (λ (p : ObjId). p.0) same) })
          again
          (Contains_cases (record { 0 = n }) o (roots_from (suc n) es) m)
      on false i m again = again m

  to_roots : (n : ℕ) (es : List Entry) (k : ℕ) (e : Entry) → slice_get es k ≡ Some e → is_root e.part ≡ true → Contains (roots_from n es) (record { 0 = n + k })
  to_roots n [] k e h r = absurd (none-some e h)
  to_roots n (x ∷ es) k e h r = on k h (is_root x.part) refl (λ j g. to_roots (suc n) es j e g r)
    where
      on : (k : ℕ) → slice_get (x ∷ es) k ≡ Some e → (b : Bool) → is_root x.part ≡ b → ((j : ℕ) → slice_get es j ≡ Some e → Contains (roots_from (suc n) es) (record { 0 = suc n + j })) → Contains (if b then record { 0 = n } ∷ roots_from (suc n) es else roots_from (suc n) es) (record { 0 = n + k })
      on zero h true i again = subst (λ p. Contains (record { 0 = n } ∷ roots_from (suc n) es) p) (same_number n (n + 0) (omega arith)) (Contains_first (record { 0 = n }) (roots_from (suc n) es))
      on zero h false i again = absurd (true≢false (sym r ∙ ap (λ (y : Entry). is_root y.part) (sym (same_Some x e h)) ∙ i))
      on (suc k) h true i again = Contains_later (record { 0 = n }) (record { 0 = n + suc k }) (roots_from (suc n) es) (subst (λ p. Contains (roots_from (suc n) es) p) (same_number (suc n + k) (n + suc k) (omega arith)) (again k h))
      on (suc k) h false i again = subst (λ p. Contains (roots_from (suc n) es) p) (same_number (suc n + k) (n + suc k) (omega arith)) (again k h)

  roots_apart : (n : ℕ) (es : List Entry) → AllDiffer (roots_from n es)
  roots_apart n [] = λ i j d lt l. absurd (omega (arith, l))
  roots_apart n (e ∷ es) = on (is_root e.part) (roots_apart (suc n) es)
    where
      later : (k : ℕ) (d : ObjId) → k < length (roots_from (suc n) es) → record { 0 = n } ≢ slice_index_or (roots_from (suc n) es) k d
      later k d l e =
          let x = in_roots (suc n) es (record { 0 = n }) (k, l, get_or_default (roots_from (suc n) es) k (record { 0 = n }) d l ∙ sym e) in
          absurd (omega (arith, x.it))

      on : (b : Bool) → AllDiffer (roots_from (suc n) es) → AllDiffer (if b then record { 0 = n } ∷ roots_from (suc n) es else roots_from (suc n) es)
      on true rest = pairs_cons (λ x y. x ≢ y) (record { 0 = n }) (roots_from (suc n) es) later rest
      on false rest = rest

  pub roots_differ : AllDiffer (model_of meta file).roots
  roots_differ = roots_apart 0 (objects file)

  not_contained : (p : ObjId) (e : Entry) → slice_get (objects file) p.0 ≡ Some e → is_root e.part ≡ true → container (model_of meta file) p ≡ None
  not_contained p e h r = contained_not (model_of meta file) (seen_once meta valid) model_shaped p (λ o f c ref.
      let x = model_content_at o p f c ref in
      true≢false (sym r ∙ ap (λ (y : Entry). is_root y.part) (same_Some e x.entry (sym h ∙ x.there)) ∙ ap (is_root) x.content.is))

  some_object : (p : ObjId) → IsSome (object_at (model_of meta file).objects p) → (object : Object) × (object_at (model_of meta file).objects p ≡ Some object)
  some_object p h = on (object_at (model_of meta file).objects p) refl h
    where
      on : (x : Option Object) → object_at (model_of meta file).objects p ≡ x → IsSome x → (object : Object) × (object_at (model_of meta file).objects p ≡ Some object)
      on None e h = absurd (true≢false (sym h))
      on (Some object) e h = (object, e)

  pub roots_are : (p : ObjId) → Contains (model_of meta file).roots p ↔ (IsSome (object_at (model_of meta file).objects p) × (container (model_of meta file) p ≡ None))
  roots_are p = (to, from)
    where
      to : Contains (model_of meta file).roots p → IsSome (object_at (model_of meta file).objects p) × (container (model_of meta file) p ≡ None)
      to m =
          let x = in_roots 0 (objects file) p m in
          let n : x.place ≡ p.0 = (let z : 0 + x.place ≡ x.place = omega arith in sym z ∙ x.it) in
          let there = ap (λ k. slice_get (objects file) k) (sym n) ∙ x.there in
          let c = class_there meta file none regular p x.entry there in
          (ap is_some (object_there meta file finished p c.0 c.1), not_contained p x.entry there x.root)

      from : IsSome (object_at (model_of meta file).objects p) × (container (model_of meta file) p ≡ None) → Contains (model_of meta file).roots p
      from h =
          let y = some_object p h.0 in
          let t = there_of meta file finished p y.0 y.1 in
          ⊎_elim
          (λ (r : is_root t.entry.part ≡ true). subst (λ q. Contains (model_of meta file).roots q) (same_number (0 + p.0) p.0 (omega arith)) (to_roots 0 (objects file) p.0 t.entry t.there r))
          (λ (c : (o : ObjId) × (f : FeatId) × IsContentAt p o f). absurd (uncontained (model_of meta file) p h.1 c.0 c.1 (holder_has c.0 p c.1 c.2).1 (model_holds c.0 p c.1 c.2)))
          (root_or_content p t.entry t.there)
