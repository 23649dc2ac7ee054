-- The contents that child elements give to a slot: each is an object whose element says so, each stands there once.
use Rattle.std.proofs.Common.{◌≡◌, ◌≢◌, ℕ, zero, suc, ◌+◌, ◌<◌, List, [], ◌∷◌, ◌++◌, length, refl, sym, ap, ◌∙◌, subst, ⊎_elim, arith, Option, Some}
use Rattle.std.specs.Prelude.{◌==◌, ◌&&◌, Bool, true, false, slice_get, slice_index_or, Contains, if◌then◌else◌}
use Rattle.std.proofs.lemmas.Bool.{eqb-true, eq-eqb}
use Rattle.std.proofs.lemmas.List.{get_or_default}
use Rattle.std.proofs.lemmas.Option.{none-some, same_Some}
use Rattle.atl_base.specs.declared.numbers.ClassId.{ClassId}
use Rattle.atl_base.specs.declared.numbers.FeatId.{FeatId}
use Rattle.atl_base.specs.declared.numbers.ObjId.{ObjId}
use Rattle.ecore_meta.specs.declared.parts.Parts.{Parts}
use Rattle.ecore_meta.specs.Valid.{AllDiffer}
use Rattle.model_store.specs.declared.parts.Cellv.{Cellv}
use Rattle.model_store.specs.declared.parts.Cellv.TheVariants.{Obj}
use Rattle.model_store.proofs.Slots.{same_object, same_feature}
use Rattle.model_store.proofs.Thinned.{Contains_first, Contains_later, Contains_none, Contains_cases}
use Rattle.xmi_text.proofs.Lists.{pairs_cons}
use Rattle.xmi_models.specs.Outline.{Entry, Tag, Part, Around, Root, Content, Value, Cross, Unknown, Inner, is_object}
use Rattle.xmi_models.specs.Faults.{objects}
use Rattle.xmi_links.specs.References.{children_from}

pub number_of : (o p : ObjId) → ◌≡◌ {A = Cellv} (Obj o) (Obj p) → o.0 ≡ p.0
number_of o p e = cc

pub same_number : (n k : ℕ) → n ≡ k → ◌≡◌ {A = ObjId} (record { 0 = n }) (record { 0 = k })
same_number n k e = ap (λ (m : ℕ). let o : ObjId = record { 0 = m } in o) e

-- an entry says that it is a content
pub record IsContentOf (o : ObjId) (f : FeatId) (e : Entry) : Type 0 where
  pub class : Option ClassId
  pub is : e.part ≡ Content o f class

module _ (meta : Parts) (file : List Entry) (o : ObjId) (f : FeatId) where
  pub record IsChild (n : ℕ) (es : List Entry) (v : Cellv) : Type 0 where
    pub place : ℕ
    pub entry : Entry
    pub there : slice_get (objects es) place ≡ Some entry
    pub content : IsContentOf o f entry
    pub it : Obj (record { 0 = n + place }) ≡ v

  -- past an object
  child_past : (n : ℕ) (x : Entry) (es : List Entry) (v : Cellv) → is_object x.part ≡ true → IsChild (suc n) es v → IsChild n (x ∷ es) v
  child_past n x es v i c = record {
    place = suc c.place;
    entry = c.entry;
    there = ap (λ b. slice_get (if b then x ∷ objects es else objects es) (suc c.place)) i ∙ c.there;
    content = c.content;
    it = ap Obj (same_number (n + suc c.place) (suc n + c.place) (omega arith)) ∙ c.it;
  }

  -- past what is none
  child_over : (n : ℕ) (x : Entry) (es : List Entry) (v : Cellv) → is_object x.part ≡ false → IsChild n es v → IsChild n (x ∷ es) v
  child_over n x es v i c = record {
    place = c.place;
    entry = c.entry;
    there = ap (λ b. slice_get (if b then x ∷ objects es else objects es) c.place) i ∙ c.there;
    content = c.content;
    it = c.it;
  }

  pub child_in : (n : ℕ) (es : List Entry) (v : Cellv) → Contains (children_from meta file n o f es) v → IsChild n es v
  child_in n [] v m = absurd (Contains_none v m)
  child_in n (e ∷ es) v m = at e.part e.tag m (λ k h. child_in k es v h)
    where
      by : (p : ObjId) (g : FeatId) (c : Option ClassId) (t : Tag) (a : Bool) → (p.0 == o.0) ≡ a → (b : Bool) → (g.0 == f.0) ≡ b → Contains ((if a && b then Obj (record { 0 = n }) ∷ [] else []) ++ children_from meta file (suc n) o f es) v → ((k : ℕ) → Contains (children_from meta file k o f es) v → IsChild k es v) → IsChild n (record { part = Content p g c; tag = t } ∷ es) v
      by p g c t true i true j m again = ⊎_elim
          (λ (same : Obj (record { 0 = n }) ≡ v). record {
            place = 0;
            entry = record { part = Content p g c; tag = t };
            there = refl;
            content = record { class = c; is = ap (λ x. Content x g c) (same_object p o (eqb-true p.0 o.0 i)) ∙ ap (λ x. Content o x c) (same_feature g f (eqb-true g.0 f.0 j)) };
            it = ap Obj (same_number (n + 0) n (omega arith)) ∙ same;
          })
          (λ (later : Contains (children_from meta file (suc n) o f es) v). child_past n (record { part = Content p g c; tag = t }) es v refl (again (suc n) later))
          (Contains_cases (Obj (record { 0 = n })) v (children_from meta file (suc n) o f es) m)
      by p g c t true i false j m again = child_past n (record { part = Content p g c; tag = t }) es v refl (again (suc n) m)
      by p g c t false i b j m again = child_past n (record { part = Content p g c; tag = t }) es v refl (again (suc n) m)

      at : (p : Part) (t : Tag) → Contains (children_from meta file n o f (record { part = p; tag = t } ∷ es)) v → ((k : ℕ) → Contains (children_from meta file k o f es) v → IsChild k es v) → IsChild n (record { part = p; tag = t } ∷ es) v
      at (Content p g c) t m again = by p g c t (p.0 == o.0) refl (g.0 == f.0) refl m again
      at (Root c) t m again = child_past n (record { part = Root c; tag = t }) es v refl (again (suc n) m)
      at Around t m again = child_over n (record { part = Around; tag = t }) es v refl (again n m)
      at (Value p g) t m again = child_over n (record { part = Value p g; tag = t }) es v refl (again n m)
      at (Cross g c) t m again = child_over n (record { part = Cross g c; tag = t }) es v refl (again n m)
      at (Unknown c) t m again = child_over n (record { part = Unknown c; tag = t }) es v refl (again n m)
      at Inner t m again = child_over n (record { part = Inner; tag = t }) es v refl (again n m)

  -- what is behind the first element
  behind : (n : ℕ) (p : Part) (t : Tag) (es : List Entry) (v : Cellv) → Contains (children_from meta file (if is_object p then suc n else n) o f es) v → Contains (children_from meta file n o f (record { part = p; tag = t } ∷ es)) v
  behind n (Content p g c) t es v m = on (p.0 == o.0 && g.0 == f.0)
    where
      on : (b : Bool) → Contains ((if b then Obj (record { 0 = n }) ∷ [] else []) ++ children_from meta file (suc n) o f es) v
      on true = Contains_later (Obj (record { 0 = n })) v (children_from meta file (suc n) o f es) m
      on false = m
  behind n (Root c) t es v m = m
  behind n Around t es v m = m
  behind n (Value p g) t es v m = m
  behind n (Cross g c) t es v m = m
  behind n (Unknown c) t es v m = m
  behind n Inner t es v m = m

  first : (n : ℕ) (x : Entry) (es : List Entry) → IsContentOf o f x → Contains (children_from meta file n o f (x ∷ es)) (Obj (record { 0 = n }))
  first n x es c = subst (λ (p : Part). Contains (children_from meta file n o f (record { part = p; tag = x.tag } ∷ es)) (Obj (record { 0 = n }))) (sym c.is) (on (o.0 == o.0) (eq-eqb o.0 o.0 refl) (f.0 == f.0) (eq-eqb f.0 f.0 refl))
    where
      on : (a : Bool) → a ≡ true → (b : Bool) → b ≡ true → Contains ((if a && b then Obj (record { 0 = n }) ∷ [] else []) ++ children_from meta file (suc n) o f es) (Obj (record { 0 = n }))
      on true h true k = Contains_first (Obj (record { 0 = n })) (children_from meta file (suc n) o f es)
      on true h false k = absurd (cc)
      on false h b k = absurd (cc)

  pub in_children : (n : ℕ) (es : List Entry) (k : ℕ) (e : Entry) → slice_get (objects es) k ≡ Some e → IsContentOf o f e → Contains (children_from meta file n o f es) (Obj (record { 0 = n + k }))
  in_children n [] k e h c = absurd (none-some e h)
  in_children n (x ∷ es) k e h c = by (is_object x.part) refl k h (λ m j g. in_children m es j e g c)
    where
      by : (b : Bool) → is_object x.part ≡ b → (k : ℕ) → slice_get (if b then x ∷ objects es else objects es) k ≡ Some e → ((m j : ℕ) → slice_get (objects es) j ≡ Some e → Contains (children_from meta file m o f es) (Obj (record { 0 = m + j }))) → Contains (children_from meta file n o f (x ∷ es)) (Obj (record { 0 = n + k }))
      by true i zero g again = subst (λ v. Contains (children_from meta file n o f (x ∷ es)) v) (ap Obj (same_number n (n + 0) (omega arith))) (first n x es (record { class = c.class; is = ap (λ (y : Entry). y.part) (same_Some x e g) ∙ c.is }))
      by true i (suc k) g again = behind n x.part x.tag es (Obj (record { 0 = n + suc k }))
          (subst (λ m. Contains (children_from meta file m o f es) (Obj (record { 0 = n + suc k }))) (ap (λ b. if b then suc n else n) (sym i))
          (subst (λ v. Contains (children_from meta file (suc n) o f es) v) (ap Obj (same_number (suc n + k) (n + suc k) (omega arith))) (again (suc n) k g)))
      by false i k g again = behind n x.part x.tag es (Obj (record { 0 = n + k }))
          (subst (λ m. Contains (children_from meta file m o f es) (Obj (record { 0 = n + k }))) (ap (λ b. if b then suc n else n) (sym i)) (again n k g))

  -- ## Each once

  pub children_differ : (n : ℕ) (es : List Entry) → AllDiffer (children_from meta file n o f es)
  children_differ n [] = λ i j d lt l. absurd (omega (arith, l))
  children_differ n (e ∷ es) = at e.part e.tag (children_differ (suc n) es) (children_differ n es)
    where
      later : (k : ℕ) (d : Cellv) → k < length (children_from meta file (suc n) o f es) → Obj (record { 0 = n }) ≢ slice_index_or (children_from meta file (suc n) o f es) k d
      later k d l e =
          let c = child_in (suc n) es (Obj (record { 0 = n })) (k, l, get_or_default (children_from meta file (suc n) o f es) k (Obj (record { 0 = n })) d l ∙ sym e) in
          absurd (omega (arith, number_of (record { 0 = suc n + c.place }) (record { 0 = n }) c.it))

      at : (p : Part) (t : Tag) → AllDiffer (children_from meta file (suc n) o f es) → AllDiffer (children_from meta file n o f es) → AllDiffer (children_from meta file n o f (record { part = p; tag = t } ∷ es))
      at (Content p g c) t past over = on (p.0 == o.0 && g.0 == f.0)
        where
          on : (b : Bool) → AllDiffer ((if b then Obj (record { 0 = n }) ∷ [] else []) ++ children_from meta file (suc n) o f es)
          on true = pairs_cons (λ x y. x ≢ y) (Obj (record { 0 = n })) (children_from meta file (suc n) o f es) later past
          on false = past
      at (Root c) t past over = past
      at Around t past over = over
      at (Value p g) t past over = over
      at (Cross g c) t past over = over
      at (Unknown c) t past over = over
      at Inner t past over = over
