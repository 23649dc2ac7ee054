-- A single-valued feature has one value of elements at most, and none where an element before gives one.
use Rattle.std.proofs.Common.{◌≡◌, ℕ, suc, ◌≤◌, List, [], ◌∷◌, ◌++◌, length, refl, sym, ap, ◌∙◌, subst, append-nil, arith, Option, Some, None}
use Rattle.std.specs.Prelude.{◌==◌, ◌&&◌, ◌||◌, not, Bool, true, false, slice_get, if◌then◌else◌}
use Rattle.std.specs.Option.{option_map_or}
use Rattle.std.specs.List.{list_any}
use Rattle.std.proofs.lemmas.Bool.{eqb-true, or_left, or_right, and_from}
use Rattle.std.proofs.lemmas.List.Folds.{list_any-append}
use Rattle.atl_base.specs.declared.numbers.FeatId.{FeatId}
use Rattle.atl_base.specs.declared.numbers.ObjId.{ObjId}
use Rattle.ecore_meta.specs.declared.parts.Feature.{Feature}
use Rattle.ecore_meta.specs.declared.parts.Parts.{Parts}
use Rattle.model_store.specs.declared.parts.Cellv.TheVariants.{Obj}
use Rattle.model_store.specs.Contents.{is_many}
use Rattle.model_store.specs.Writes.{value_of_text}
use Rattle.model_store.proofs.Slots.{same_object, same_feature}
use Rattle.xmi_models.specs.Outline.{Entry, Tag, Part, Around, Root, Content, Value, Cross, Unknown, Inner}
use Rattle.xmi_models.specs.Faults.{gives, has_attribute, is_second, is_value_of, second_object, bad_value, fault_from, text_in}
use Rattle.xmi_links.specs.References.{children_from, child_values, value_of}
use Rattle.xmi_links.proofs.FaultlessEntries.{good_first}

pub value_short : (meta : Parts) (file : List Entry) (f : FeatId) (text : List ℕ) → length (value_of meta file f text) ≤ 1
value_short meta file f text = on (slice_get meta.features f.0)
  where
    on : (x : Option Feature) → length (option_map_or (λ feature. value_of_text meta feature.kind text ∷ []) x []) ≤ 1
    on None = omega arith
    on (Some feature) = omega arith

module _ (meta : Parts) (file : List Entry) (o : ObjId) (f : FeatId) (single : is_many meta f ≡ false) where
  -- what gives a value of the feature makes the next one a second
  pub gives_second : (before : List Entry) (p : ObjId) (g : FeatId) → (p.0 == o.0) ≡ true → (g.0 == f.0) ≡ true → list_any (gives o f) before ≡ true → is_second meta before p g ≡ true
  gives_second before p g a b h =
      let e : p ≡ o = same_object p o (eqb-true p.0 o.0 a) in
      let i : g ≡ f = same_feature g f (eqb-true g.0 f.0 b) in
      ap (λ q. is_second meta before q g) e ∙ ap (λ q. is_second meta before o q) i
      ∙ and_from (not (is_many meta f)) (list_any (gives o f) before || has_attribute meta before o f) (ap not single) (or_left (list_any (gives o f) before) (has_attribute meta before o f) h)

  not_second : (b : Bool) (x : List ℕ) → (if b then x ∷ [] else []) ≡ [] → b ≡ true → ⊥
  not_second true x h i = absurd (cc)
  not_second false x h i = absurd (cc)

  more : (before : List Entry) (e : Entry) → list_any (gives o f) before ≡ true → list_any (gives o f) (before ++ (e ∷ [])) ≡ true
  more before e h = list_any-append (gives o f) before (e ∷ []) ∙ or_left (list_any (gives o f) before) (list_any (gives o f) (e ∷ [])) h

  one : (before : List Entry) (e : Entry) → gives o f e ≡ true → list_any (gives o f) (before ++ (e ∷ [])) ≡ true
  one before e h = list_any-append (gives o f) before (e ∷ []) ∙ or_right (list_any (gives o f) before) (list_any (gives o f) (e ∷ [])) (or_left (gives o f e) false h)

  -- ## Contents

  pub no_children : (n : ℕ) (before es : List Entry) → fault_from meta before es ≡ None → list_any (gives o f) before ≡ true → children_from meta file n o f es ≡ []
  no_children n before [] h i = refl
  no_children n before (e ∷ es) h i =
      let g = good_first meta before e es h in
      at e.part e.tag g.0.second (λ k. no_children k (before ++ (e ∷ [])) es g.1 (more before e i))
    where
      at : (p : Part) (t : Tag) → second_object meta before p ≡ [] → ((k : ℕ) → children_from meta file k o f es ≡ []) → children_from meta file n o f (record { part = p; tag = t } ∷ es) ≡ []
      at (Content p g c) t s again = on (p.0 == o.0) refl (g.0 == f.0) refl
        where
          on : (a : Bool) → (p.0 == o.0) ≡ a → (b : Bool) → (g.0 == f.0) ≡ b → (if a && b then Obj (record { 0 = n }) ∷ [] else []) ++ children_from meta file (suc n) o f es ≡ []
          on true x true y = absurd (not_second (is_second meta before p g) [] s (gives_second before p g x y i))
          on true x false y = again (suc n)
          on false x b y = again (suc n)
      at (Root c) t s again = again (suc n)
      at Around t s again = again n
      at (Value p g) t s again = again n
      at (Cross g c) t s again = again n
      at (Unknown c) t s again = again n
      at Inner t s again = again n

  pub one_child : (n : ℕ) (before es : List Entry) → fault_from meta before es ≡ None → length (children_from meta file n o f es) ≤ 1
  one_child n before [] h = omega arith
  one_child n before (e ∷ es) h =
      let g = good_first meta before e es h in
      at e.part e.tag (λ k. one_child k (before ++ (e ∷ [])) es g.1) (λ k i. no_children k (before ++ (e ∷ [])) es g.1 (one before e i))
    where
      at : (p : Part) (t : Tag) → ((k : ℕ) → length (children_from meta file k o f es) ≤ 1) → ((k : ℕ) → gives o f (record { part = p; tag = t }) ≡ true → children_from meta file k o f es ≡ []) → length (children_from meta file n o f (record { part = p; tag = t } ∷ es)) ≤ 1
      at (Content p g c) t again none = on (p.0 == o.0 && g.0 == f.0) refl
        where
          on : (b : Bool) → (p.0 == o.0 && g.0 == f.0) ≡ b → length ((if b then Obj (record { 0 = n }) ∷ [] else []) ++ children_from meta file (suc n) o f es) ≤ 1
          on true x = omega (arith, ap length (none (suc n) x))
          on false x = again (suc n)
      at (Root c) t again none = again (suc n)
      at Around t again none = again n
      at (Value p g) t again none = again n
      at (Cross g c) t again none = again n
      at (Unknown c) t again none = again n
      at Inner t again none = again n

  -- ## Values

  second_value : (before : List Entry) (p : ObjId) (g : FeatId) (t : Tag) → bad_value meta before (record { part = Value p g; tag = t }) ≡ [] → is_second meta before p g ≡ true → ⊥
  second_value before p g t h i = not_second (is_second meta before p g || not (is_value_of meta g (text_in t))) (text_in t) h (or_left (is_second meta before p g) (not (is_value_of meta g (text_in t))) i)

  pub no_values : (before es : List Entry) → fault_from meta before es ≡ None → list_any (gives o f) before ≡ true → child_values meta file o f es ≡ []
  no_values before [] h i = refl
  no_values before (e ∷ es) h i =
      let g = good_first meta before e es h in
      at e.part e.tag g.0.value (no_values (before ++ (e ∷ [])) es g.1 (more before e i))
    where
      at : (p : Part) (t : Tag) → bad_value meta before (record { part = p; tag = t }) ≡ [] → child_values meta file o f es ≡ [] → child_values meta file o f (record { part = p; tag = t } ∷ es) ≡ []
      at (Value p g) t s again = on (p.0 == o.0) refl (g.0 == f.0) refl
        where
          on : (a : Bool) → (p.0 == o.0) ≡ a → (b : Bool) → (g.0 == f.0) ≡ b → (if a && b then value_of meta file f (text_in t) else []) ++ child_values meta file o f es ≡ []
          on true x true y = absurd (second_value before p g t s (gives_second before p g x y i))
          on true x false y = again
          on false x b y = again
      at (Content p g c) t s again = again
      at (Root c) t s again = again
      at Around t s again = again
      at (Cross g c) t s again = again
      at (Unknown c) t s again = again
      at Inner t s again = again

  pub one_value : (before es : List Entry) → fault_from meta before es ≡ None → length (child_values meta file o f es) ≤ 1
  one_value before [] h = omega arith
  one_value before (e ∷ es) h =
      let g = good_first meta before e es h in
      at e.part e.tag (one_value (before ++ (e ∷ [])) es g.1) (λ i. no_values (before ++ (e ∷ [])) es g.1 (one before e i))
    where
      at : (p : Part) (t : Tag) → length (child_values meta file o f es) ≤ 1 → (gives o f (record { part = p; tag = t }) ≡ true → child_values meta file o f es ≡ []) → length (child_values meta file o f (record { part = p; tag = t } ∷ es)) ≤ 1
      at (Value p g) t again none = on (p.0 == o.0 && g.0 == f.0) refl
        where
          on : (b : Bool) → (p.0 == o.0 && g.0 == f.0) ≡ b → length ((if b then value_of meta file f (text_in t) else []) ++ child_values meta file o f es) ≤ 1
          on true x = subst (λ l. length (value_of meta file f (text_in t) ++ l) ≤ 1) (sym (none x)) (subst (λ l. length l ≤ 1) (sym (append-nil (value_of meta file f (text_in t)))) (value_short meta file f (text_in t)))
          on false x = again
      at (Content p g c) t again none = again
      at (Root c) t again none = again
      at Around t again none = again
      at (Cross g c) t again none = again
      at (Unknown c) t again none = again
      at Inner t again none = again
