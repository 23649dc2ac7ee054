-- Contents whose objects are those of elements, with slots said by a function: one function for another, a value more, an object more.
use Rattle.std.proofs.Common.{◌≡◌, ℕ, zero, suc, ◌+◌, List, [], ◌∷◌, ◌++◌, length, map, refl, sym, ap, subst, ◌∙◌, arith, ⊎_elim}
use Rattle.std.specs.Prelude.{Bool, true, false, ◌==◌, ◌&&◌, ◌||◌, slice_get, slice_set, slice_index_or, Option, Some, None, option_map, if◌then◌else◌}
use Rattle.std.specs.List.{list_any}
use Rattle.std.specs.Option.{option_map_or}
use Rattle.std.proofs.lemmas.Bool.{eqb-true, eqb-false, eq-eqb, ne_eqb, false≢true}
use Rattle.std.proofs.lemmas.Option.{none-some, same_Some}
use Rattle.atl_base.specs.declared.numbers.ClassId.{ClassId}
use Rattle.atl_base.specs.declared.numbers.FeatId.{FeatId}
use Rattle.atl_base.specs.declared.numbers.ObjId.{ObjId}
use Rattle.ecore_meta.specs.declared.parts.Parts.{Parts}
use Rattle.ecore_meta.specs.Inheritance.{features}
use Rattle.model_store.specs.declared.parts.Cellv.{Cellv}
use Rattle.model_store.specs.declared.parts.Object.{Object}
use Rattle.model_store.specs.Contents.{Contents, object_at, slot, slot_in}
use Rattle.model_store.specs.Sketches.{with_value}
use Rattle.xmi_models.specs.Outline.{Entry}
use Rattle.xmi_models.specs.Faults.{own_class}
use Rattle.xmi_links.specs.References.{object_by, objects_by}
use Rattle.xmi_links.proofs.Built.{AreApart, is_feature, and_value, held, made, more, more_by, more_is}

-- ## Tests of numbers

first_apart : (i : ℕ) → (suc i == 0) ≡ false
first_apart i = ne_eqb (suc i) 0 (λ e. omega (arith, e))

zero_apart : (i : ℕ) → (0 == suc i) ≡ false
zero_apart i = ne_eqb 0 (suc i) (λ e. omega (arith, e))

next_same : (j i : ℕ) → (suc j == suc i) ≡ (j == i)
next_same j i = by (j == i) refl
  where
    by : (b : Bool) → (j == i) ≡ b → (suc j == suc i) ≡ b
    by true e = eq-eqb (suc j) (suc i) (ap suc (eqb-true j i e))
    by false e = ne_eqb (suc j) (suc i) (λ h. eqb-false j i e (omega (arith, h)))

-- ## Contents said by a function

abbrev pub Said : Type 0
Said = ObjId → Entry → FeatId → List Cellv

abbrev pub no : ℕ → ObjId
no n = record { 0 = n }

abbrev pub built : Parts → Said → List Entry → List ObjId → Contents
built meta S es roots = record { meta = meta; objects = objects_by meta S 0 es; roots = roots }

module _ (meta : Parts) where
  -- ## One function for another

  same_map : (s t : FeatId → List Cellv) (gs : List FeatId) → ((g : FeatId) → s g ≡ t g) → map s gs ≡ map t gs
  same_map s t [] h = refl
  same_map s t (g ∷ gs) h = ap (λ c. c ∷ map s gs) (h g) ∙ ap (λ l. t g ∷ l) (same_map s t gs h)

  same_object : (s t : FeatId → List Cellv) (e : Entry) → ((g : FeatId) → s g ≡ t g) → object_by meta s e ≡ object_by meta t e
  same_object s t e h = by (own_class e.part)
    where
      by : (c : Option ClassId) → option_map (λ c. let x : Object = record { class = c; slots = map s (features meta.classes c) } in x) c
          ≡ option_map (λ c. record { class = c; slots = map t (features meta.classes c) }) c
      by None = refl
      by (Some c) = ap (λ l. Some (record { class = c; slots = l })) (same_map s t (features meta.classes c) h)

  same_from : (S T : Said) (n : ℕ) (es : List Entry) → ((i : ℕ) (e : Entry) → slice_get es i ≡ Some e → (g : FeatId) → S (no (n + i)) e g ≡ T (no (n + i)) e g)
      → objects_by meta S n es ≡ objects_by meta T n es
  same_from S T n [] h = refl
  same_from S T n (e ∷ es) h =
      ap (λ x. x ∷ objects_by meta S (suc n) es) (same_object (S (no n) e) (T (no n) e) e (λ g. subst (λ k. S (no k) e g ≡ T (no k) e g) (omega arith) (h 0 e refl g)))
      ∙ ap (λ l. object_by meta (T (no n) e) e ∷ l)
      (same_from S T (suc n) es (λ i d there g. subst (λ k. S (no k) d g ≡ T (no k) d g) (omega arith) (h (suc i) d there g)))

  pub same_built : (S T : Said) (es : List Entry) (roots : List ObjId) → ((i : ℕ) (e : Entry) → slice_get es i ≡ Some e → (g : FeatId) → S (no i) e g ≡ T (no i) e g)
      → built meta S es roots ≡ built meta T es roots
  same_built S T es roots h = ap (λ l. record { meta = meta; objects = l; roots = roots })
      (same_from S T 0 es (λ i e there g. subst (λ k. S (no k) e g ≡ T (no k) e g) (omega arith) (h i e there g)))

  -- by what the classes see alone
  seen_map : (s t : FeatId → List Cellv) (gs : List FeatId) → ((g : FeatId) → list_any (is_feature g) gs ≡ true → s g ≡ t g) → map s gs ≡ map t gs
  seen_map s t [] h = refl
  seen_map s t (g ∷ gs) h =
      ap (λ c. c ∷ map s gs) (h g (ap (λ b. b || list_any (is_feature g) gs) (eq-eqb g.0 g.0 refl)))
      ∙ ap (λ l. t g ∷ l) (seen_map s t gs (λ x k. h x (later (is_feature x g) (list_any (is_feature x) gs) k)))
    where
      later : (a b : Bool) → b ≡ true → (a || b) ≡ true
      later true b k = refl
      later false b k = k

  seen_object : (s t : FeatId → List Cellv) (e : Entry) → ((c : ClassId) → own_class e.part ≡ Some c → (g : FeatId) → list_any (is_feature g) (features meta.classes c) ≡ true → s g ≡ t g) → object_by meta s e ≡ object_by meta t e
  seen_object s t e h = by (own_class e.part) refl
    where
      by : (c : Option ClassId) → own_class e.part ≡ c → option_map (λ c. let x : Object = record { class = c; slots = map s (features meta.classes c) } in x) c
          ≡ option_map (λ c. record { class = c; slots = map t (features meta.classes c) }) c
      by None k = refl
      by (Some c) k = ap (λ l. Some (record { class = c; slots = l })) (seen_map s t (features meta.classes c) (h c k))

  abbrev pub AgreeSeen : Said → Said → ℕ → Entry → Type 0
  AgreeSeen S T i e = (c : ClassId) → own_class e.part ≡ Some c → (g : FeatId) → list_any (is_feature g) (features meta.classes c) ≡ true → S (no i) e g ≡ T (no i) e g

  seen_from : (S T : Said) (n : ℕ) (es : List Entry) → ((i : ℕ) (e : Entry) → slice_get es i ≡ Some e → AgreeSeen S T (n + i) e) → objects_by meta S n es ≡ objects_by meta T n es
  seen_from S T n [] h = refl
  seen_from S T n (e ∷ es) h =
      ap (λ x. x ∷ objects_by meta S (suc n) es) (seen_object (S (no n) e) (T (no n) e) e (λ c k g l. subst (λ k. S (no k) e g ≡ T (no k) e g) (omega arith) (h 0 e refl c k g l)))
      ∙ ap (λ l. object_by meta (T (no n) e) e ∷ l)
      (seen_from S T (suc n) es (λ i d there c k g l. subst (λ k. S (no k) d g ≡ T (no k) d g) (omega arith) (h (suc i) d there c k g l)))

  pub same_seen : (S T : Said) (es : List Entry) (roots : List ObjId) → ((i : ℕ) (e : Entry) → slice_get es i ≡ Some e → AgreeSeen S T i e) → built meta S es roots ≡ built meta T es roots
  same_seen S T es roots h = ap (λ l. record { meta = meta; objects = l; roots = roots })
      (seen_from S T 0 es (λ i e there c k g l. subst (λ k. S (no k) e g ≡ T (no k) e g) (omega arith) (h i e there c k g l)))

  -- ## A value more

  module _ (apart : (c : ClassId) → AreApart (features meta.classes c)) (f : FeatId) (v : Cellv) (S T : Said) where
    set_from : (n i : ℕ) (es : List Entry)
        → ((j : ℕ) (e : Entry) → slice_get es j ≡ Some e → (g : FeatId) → T (no (n + j)) e g ≡ (if j == i then and_value f v meta apart (S (no (n + j)) e) g else S (no (n + j)) e g))
        → slice_set (objects_by meta S n es) i (option_map (more f v meta) (slice_index_or (objects_by meta S n es) i None)) ≡ objects_by meta T n es
    set_from n i [] h = refl
    set_from n zero (e ∷ es) h =
        ap (λ x. x ∷ objects_by meta S (suc n) es)
        (more_by f v meta apart e (S (no n) e)
        ∙ same_object (and_value f v meta apart (S (no n) e)) (T (no n) e) e (λ g. sym (subst (λ k. T (no k) e g ≡ and_value f v meta apart (S (no k) e) g) (omega arith) (h 0 e refl g))))
        ∙ ap (λ l. object_by meta (T (no n) e) e ∷ l)
        (same_from S T (suc n) es (λ j d there g. sym (subst (λ k. T (no k) d g ≡ S (no k) d g) (omega arith)
        (h (suc j) d there g ∙ ap (λ b. if b then and_value f v meta apart (S (no (n + suc j)) d) g else S (no (n + suc j)) d g) (first_apart j)))))
    set_from n (suc i) (e ∷ es) h =
        ap (λ x. x ∷ slice_set (objects_by meta S (suc n) es) i (option_map (more f v meta) (slice_index_or (objects_by meta S (suc n) es) i None)))
        (same_object (S (no n) e) (T (no n) e) e (λ g. sym (subst (λ k. T (no k) e g ≡ S (no k) e g) (omega arith)
        (h 0 e refl g ∙ ap (λ b. if b then and_value f v meta apart (S (no (n + 0)) e) g else S (no (n + 0)) e g) (zero_apart i)))))
        ∙ ap (λ l. object_by meta (T (no n) e) e ∷ l)
        (set_from (suc n) i es (λ j d there g. subst (λ k. T (no k) d g ≡ (if j == i then and_value f v meta apart (S (no k) d) g else S (no k) d g)) (omega arith)
        (h (suc j) d there g ∙ ap (λ b. if b then and_value f v meta apart (S (no (n + suc j)) d) g else S (no (n + suc j)) d g) (next_same j i))))

    pub value_more : (o : ObjId) (es : List Entry) (roots : List ObjId)
        → ((i : ℕ) (e : Entry) → slice_get es i ≡ Some e → (g : FeatId) → T (no i) e g ≡ (if i == o.0 && g.0 == f.0 then S (no i) e g ++ v ∷ [] else S (no i) e g))
        → with_value o f v (built meta S es roots) ≡ built meta T es roots
    value_more o es roots h =
        more_is f v (built meta S es roots) o
        ∙ ap (λ l. record { meta = meta; objects = l; roots = roots })
        (set_from 0 o.0 es (λ i e there g.
        subst (λ k. T (no k) e g ≡ (if i == o.0 then and_value f v meta apart (S (no k) e) g else S (no k) e g)) (omega arith) (h i e there g ∙ by (i == o.0) (S (no i) e) g)))
      where
        by : (b : Bool) (s : FeatId → List Cellv) (g : FeatId) → (if b && g.0 == f.0 then s g ++ v ∷ [] else s g) ≡ (if b then and_value f v meta apart s g else s g)
        by true s g = refl
        by false s g = refl

  -- ## What a slot holds

  object_from : (S : Said) (n i : ℕ) (es : List Entry) (e : Entry) → slice_get es i ≡ Some e → slice_index_or (objects_by meta S n es) i None ≡ object_by meta (S (no (n + i)) e) e
  object_from S n i [] e h = absurd (none-some e h)
  object_from S n zero (d ∷ es) e h =
      ap (λ d. object_by meta (S (no n) d) d) (same_Some d e h) ∙ ap (λ k. object_by meta (S (no k) e) e) (omega arith)
  object_from S n (suc i) (d ∷ es) e h = object_from S (suc n) i es e h ∙ ap (λ k. object_by meta (S (no k) e) e) (omega arith)

  pub object_there : (S : Said) (es : List Entry) (roots : List ObjId) (o : ObjId) (e : Entry) → slice_get es o.0 ≡ Some e → object_at (objects_by meta S 0 es) o ≡ object_by meta (S o e) e
  object_there S es roots o e h = object_from S 0 o.0 es e h ∙ ap (λ k. object_by meta (S (no k) e) e) (omega arith)

  module _ (apart : (c : ClassId) → AreApart (features meta.classes c)) where
    -- what the function says, where the object's class sees the feature
    pub slot_there : (S : Said) (es : List Entry) (roots : List ObjId) (o : ObjId) (e : Entry) (c : ClassId) (f : FeatId) → slice_get es o.0 ≡ Some e → own_class e.part ≡ Some c
        → list_any (is_feature f) (features meta.classes c) ≡ true → slot (built meta S es roots) o f ≡ S o e f
    slot_there S es roots o e c f there class sees =
        let is : slot (built meta S es roots) o f ≡ slot_in meta f (made meta c (apart c) (S o e)) =
        ap (λ x. option_map_or (slot_in meta f) x [])
        (object_there S es roots o e there
        ∙ ap (λ c. option_map (λ c. let x : Object = record { class = c; slots = map (S o e) (features meta.classes c) } in x) c) class) in
        ⊎_elim (λ (h : slot_in meta f (made meta c (apart c) (S o e)) ≡ S o e f). is ∙ h)
        (λ (h : (slot_in meta f (made meta c (apart c) (S o e)) ≡ []) × (list_any (is_feature f) (features meta.classes c) ≡ false)). absurd (false≢true (sym h.1 ∙ sees)))
        (held meta c (apart c) f (S o e))

  -- ## An object more

  append_from : (S : Said) (n : ℕ) (es : List Entry) (e : Entry) → objects_by meta S n (es ++ e ∷ []) ≡ objects_by meta S n es ++ object_by meta (S (no (n + length es)) e) e ∷ []
  append_from S n [] e = ap (λ k. object_by meta (S (no k) e) e ∷ []) (omega arith)
  append_from S n (d ∷ es) e =
      ap (λ l. object_by meta (S (no n) d) d ∷ l)
      (append_from S (suc n) es e ∙ ap (λ k. objects_by meta S (suc n) es ++ object_by meta (S (no k) e) e ∷ []) (omega arith))

  pub object_more : (S : Said) (es : List Entry) (e : Entry) → objects_by meta S 0 (es ++ e ∷ []) ≡ objects_by meta S 0 es ++ object_by meta (S (no (length es)) e) e ∷ []
  object_more S es e = append_from S 0 es e ∙ ap (λ k. objects_by meta S 0 es ++ object_by meta (S (no k) e) e ∷ []) (omega arith)

  pub length_by : (S : Said) (n : ℕ) (es : List Entry) → length (objects_by meta S n es) ≡ length es
  length_by S n [] = refl
  length_by S n (e ∷ es) = ap suc (length_by S (suc n) es)
