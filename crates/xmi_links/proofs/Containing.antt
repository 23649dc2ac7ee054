-- Container references, put into the slots of one object after another.
use Rattle.std.proofs.Common.{◌≡◌, ◌≢◌, ℕ, suc, ◌+◌, ◌<◌, ◌≤◌, List, [], ◌∷◌, ◌++◌, length, map, take, drop, get_or, refl, sym, ap, subst, ◌∙◌, arith}
use Rattle.std.specs.Prelude.{Bool, true, false, ◌==◌, ◌&&◌, not, nat_lt, slice_get, Option, Some, None, if◌then◌else◌}
use Rattle.std.specs.Option.{option_map_or}
use Rattle.std.proofs.lemmas.Bool.{eqb-true, eqb-false, eq-eqb, ne_eqb, lt-ltb, ltb-true, ltb-false, le-ltb, false≢true}
use Rattle.std.proofs.lemmas.List.{take-append-drop, map-append, drop_more}
use Rattle.std.proofs.lemmas.Option.{same_Some, slice_get_within}
use Rattle.atl_base.specs.declared.numbers.FeatId.{FeatId}
use Rattle.atl_base.specs.declared.numbers.ObjId.{ObjId}
use Rattle.ecore_meta.specs.declared.parts.Parts.{Parts}
use Rattle.ecore_meta.specs.Valid.{IsMetamodel}
use Rattle.model_store.specs.declared.parts.Cellv.{Cellv}
use Rattle.model_store.specs.declared.parts.Cellv.TheVariants.{Obj}
use Rattle.model_store.specs.Contents.{Contents, contains, is_contained_by, opposite, refers}
use Rattle.model_store.specs.Sketches.{with_value}
use Rattle.model_store.proofs.Wired.{opposite_back, opposite_refers}
use Rattle.xmi_models.specs.declared.part.Entry.{Entry as CodeEntry}
use Rattle.xmi_models.specs.Outline.{Entry, Part, Around, Root, Content, Value, Cross, Unknown, Inner, is_object, objects_in}
use Rattle.xmi_models.specs.Faults.{objects}
use Rattle.xmi_models.specs.Entries.{entries_of, entry_of}
use Rattle.xmi_models.proofs.Walking.{counted_together}
use Rattle.xmi_links.specs.References.{attribute_values, child_values, children_from, draft, drafted_slot, or_initial, roots_from}
use Rattle.xmi_links.specs.ModelOf.{container_by}
use Rattle.xmi_links.specs.Stages.{IsHeld, Said, built, contained_to, nothing, slot_with, stage, with_container}
use Rattle.xmi_links.proofs.Apart.{all_apart}
use Rattle.xmi_links.proofs.Built.{same_feature}
use Rattle.xmi_links.proofs.Building.{no, same_built, value_more}
use Rattle.xmi_links.proofs.Crossing.{back_contained, one_contains}

-- ## Objects by their numbers

pub objects_append : (xs ys : List Entry) → objects (xs ++ ys) ≡ objects xs ++ objects ys
objects_append [] ys = refl
objects_append (x ∷ xs) ys = by (is_object x.part) (objects_append xs ys)
  where
    by : (b : Bool) → objects (xs ++ ys) ≡ objects xs ++ objects ys → (if b then x ∷ objects (xs ++ ys) else objects (xs ++ ys)) ≡ (if b then x ∷ objects xs else objects xs) ++ objects ys
    by true h = ap (λ l. x ∷ l) h
    by false h = h

pub objects_count : (xs : List Entry) → length (objects xs) ≡ objects_in xs
objects_count [] = refl
objects_count (x ∷ xs) = by (is_object x.part) (objects_count xs)
  where
    by : (b : Bool) → length (objects xs) ≡ objects_in xs → length (if b then x ∷ objects xs else objects xs) ≡ (if b then suc (objects_in xs) else objects_in xs)
    by true h = ap suc h
    by false h = h

pub get_at : {X : Type 0} (xs ys : List X) (y : X) → slice_get (xs ++ y ∷ ys) (length xs) ≡ Some y
get_at [] ys y = refl
get_at (x ∷ xs) ys y = get_at xs ys y

module _ (file : List CodeEntry) (i : ℕ) where
  cut : entries_of file ≡ entries_of (take i file) ++ entries_of (drop i file)
  cut = ap entries_of (sym (take-append-drop i file)) ∙ map-append entry_of (take i file) (drop i file)

  pub few_before : objects_in (entries_of (take i file)) ≤ objects_in (entries_of file)
  few_before = omega (arith, ap objects_in cut, counted_together (entries_of (take i file)) (entries_of (drop i file)))

  pub object_number : (e : CodeEntry) → i < length file → e ≡ get_or file i e → is_object (entry_of e).part ≡ true → slice_get (objects (entries_of file)) (objects_in (entries_of (take i file))) ≡ Some (entry_of e)
  object_number e l is object =
      let rest = entries_of (drop (i + 1) file) in
      let before = entries_of (take i file) in
      let whole : objects (entries_of file) ≡ objects before ++ entry_of e ∷ objects rest =
      ap objects (cut ∙ ap (λ k. before ++ entries_of k) (drop_more file i e l ∙ ap (λ x. x ∷ drop (i + 1) file) (sym is)))
      ∙ objects_append before (entry_of e ∷ rest)
      ∙ ap (λ b. objects before ++ (if b then entry_of e ∷ objects rest else objects rest)) object in
      ap (λ k. slice_get k (objects_in before)) whole
      ∙ ap (λ n. slice_get (objects before ++ entry_of e ∷ objects rest) n) (sym (objects_count before))
      ∙ get_at (objects before) (objects rest) (entry_of e)

-- ## Container references

module _ (meta : Parts) (valid : IsMetamodel meta) (file : List Entry) where
  -- nothing is drafted in one
  pub nothing_drafted : (o : ObjId) (e : Entry) (f : FeatId) → is_contained_by meta f ≡ true → drafted_slot meta file o e f ≡ []
  nothing_drafted o e f h = by (opposite meta f) refl h
    where
      by : (g : Option FeatId) → opposite meta f ≡ g → option_map_or (contains meta) g false ≡ true → drafted_slot meta file o e f ≡ []
      by None names h = absurd (false≢true h)
      by (Some g) names h =
          let none = one_contains meta valid f g names h in
          let is = opposite_refers meta valid g f (opposite_back meta valid f g names) in
          ap (λ b. if b then children_from meta file 0 o f file else if refers meta f then [] else or_initial meta file f (attribute_values meta file e f ++ child_values meta file o f file)) none
          ∙ ap (λ r. if r then [] else or_initial meta file f (attribute_values meta file e f ++ child_values meta file o f file)) is

  abbrev S : ℕ → Said
  S = contained_to meta file

  abbrev slots : FeatId → Part → List Cellv
  slots f part = map Obj (container_by meta f part)

  -- those of the next object
  next_slot : (n i : ℕ) (d : Entry) (f : FeatId) → S (suc n) (no i) d f ≡ (if i == n && is_contained_by meta f then slots f d.part else S n (no i) d f)
  next_slot n i d f = by (i == n) refl
    where
      at : (c : Bool) → (if c && nat_lt n (suc n) then slots f d.part else drafted_slot meta file (no n) d f) ≡ (if c then slots f d.part else (if c && nat_lt n n then slots f d.part else drafted_slot meta file (no n) d f))
      at true = ap (λ b. if b then slots f d.part else drafted_slot meta file (no n) d f) (lt-ltb n (suc n) (omega arith))
      at false = refl

      same_test : i ≢ n → nat_lt i (suc n) ≡ nat_lt i n
      same_test apart = on (nat_lt i n) refl
        where
          on : (b : Bool) → nat_lt i n ≡ b → nat_lt i (suc n) ≡ b
          on true h = lt-ltb i (suc n) (omega (arith, ltb-true i n h))
          on false h = le-ltb i (suc n) (omega (arith, apart, ltb-false i n h))

      by : (b : Bool) → (i == n) ≡ b → S (suc n) (no i) d f ≡ (if b && is_contained_by meta f then slots f d.part else S n (no i) d f)
      by true h =
          let same : i ≡ n = eqb-true i n h in
          subst (λ k. S (suc n) (no k) d f ≡ (if is_contained_by meta f then slots f d.part else S n (no k) d f)) (sym same) (at (is_contained_by meta f))
      by false h = ap (λ b. if is_contained_by meta f && b then slots f d.part else drafted_slot meta file (no i) d f) (same_test (eqb-false i n h))

  -- nothing is in one before
  empty_before : (n : ℕ) (d : Entry) (f : FeatId) → is_contained_by meta f ≡ true → S n (no n) d f ≡ []
  empty_before n d f h =
      ap (λ b. if is_contained_by meta f && b then slots f d.part else drafted_slot meta file (no n) d f) (le-ltb n n (omega arith))
      ∙ none (is_contained_by meta f)
      ∙ nothing_drafted (no n) d f h
    where
      none : (c : Bool) → (if c && false then slots f d.part else drafted_slot meta file (no n) d f) ≡ drafted_slot meta file (no n) d f
      none true = refl
      none false = refl

  abbrev roots : List ObjId
  roots = roots_from 0 (objects file)

  module _ (n : ℕ) (e : Entry) (there : slice_get (objects file) n ≡ Some e) where
    same_entry : (i : ℕ) (d : Entry) → slice_get (objects file) i ≡ Some d → (i == n) ≡ true → d ≡ e
    same_entry i d h t = same_Some d e (sym h ∙ ap (slice_get (objects file)) (eqb-true i n t) ∙ there)

    -- an object without one
    alone : ((f : FeatId) → container_by meta f e.part ≡ []) → built meta (S n) (objects file) roots ≡ built meta (S (suc n)) (objects file) roots
    alone none = same_built meta (S n) (S (suc n)) (objects file) roots (λ i d h f. sym (next_slot n i d f ∙ by i d f h (i == n) refl))
      where
        on : (d : Entry) (f : FeatId) → d ≡ e → (b : Bool) → is_contained_by meta f ≡ b → (if b then slots f d.part else S n (no n) d f) ≡ S n (no n) d f
        on d f same true c = ap (λ (d : Entry). slots f d.part) same ∙ ap (map Obj) (none f) ∙ sym (empty_before n d f c)
        on d f same false c = refl

        by : (i : ℕ) (d : Entry) (f : FeatId) → slice_get (objects file) i ≡ Some d → (b : Bool) → (i == n) ≡ b → (if b && is_contained_by meta f then slots f d.part else S n (no i) d f) ≡ S n (no i) d f
        by i d f h true t = subst (λ k. (if is_contained_by meta f then slots f d.part else S n (no k) d f) ≡ S n (no k) d f) (sym (eqb-true i n t)) (on d f (same_entry i d h t) (is_contained_by meta f) refl)
        by i d f h false t = refl

    -- one that another holds by the opposite
    held : (p : ObjId) (h g : FeatId) → contains meta h ≡ true → opposite meta h ≡ Some g → ((f : FeatId) → container_by meta f e.part ≡ (if g.0 == f.0 then p ∷ [] else []))
        → with_value (no n) g (Obj p) (built meta (S n) (objects file) roots) ≡ built meta (S (suc n)) (objects file) roots
    held p h g holds names says = value_more meta (all_apart meta valid) g (Obj p) (S n) (S (suc n)) (no n) (objects file) roots (λ i d t f. next_slot n i d f ∙ by i d f t (i == n) refl)
      where
        contained : is_contained_by meta g ≡ true
        contained = back_contained meta valid h g names ∙ holds

        on : (d : Entry) (f : FeatId) → d ≡ e → (b : Bool) → is_contained_by meta f ≡ b → (t : Bool) → (f.0 == g.0) ≡ t → (if b then slots f d.part else S n (no n) d f) ≡ (if t then S n (no n) d f ++ Obj p ∷ [] else S n (no n) d f)
        on d f same true c true t =
            ap (λ (d : Entry). slots f d.part) same ∙ ap (map Obj) (says f ∙ ap (λ b. if b then p ∷ [] else []) (eq-eqb g.0 f.0 (sym (eqb-true f.0 g.0 t))))
            ∙ ap (λ l. l ++ Obj p ∷ []) (sym (empty_before n d f c))
        on d f same true c false t =
            ap (λ (d : Entry). slots f d.part) same ∙ ap (map Obj) (says f ∙ ap (λ b. if b then p ∷ [] else []) (ne_eqb g.0 f.0 (λ s. eqb-false f.0 g.0 t (sym s))))
            ∙ sym (empty_before n d f c)
        on d f same false c true t = absurd (false≢true (sym c ∙ ap (is_contained_by meta) (same_feature f g (eqb-true f.0 g.0 t)) ∙ contained))
        on d f same false c false t = refl

        by : (i : ℕ) (d : Entry) (f : FeatId) → slice_get (objects file) i ≡ Some d → (b : Bool) → (i == n) ≡ b → (if b && is_contained_by meta f then slots f d.part else S n (no i) d f)
            ≡ (if b && f.0 == g.0 then S n (no i) d f ++ Obj p ∷ [] else S n (no i) d f)
        by i d f t true same = subst (λ k. (if is_contained_by meta f then slots f d.part else S n (no k) d f) ≡ (if f.0 == g.0 then S n (no k) d f ++ Obj p ∷ [] else S n (no k) d f)) (sym (eqb-true i n same))
            (on d f (same_entry i d t same) (is_contained_by meta f) refl (f.0 == g.0) refl)
        by i d f t false same = refl

    pub contained_step : IsHeld meta e.part → with_container meta (no n) e.part (built meta (S n) (objects file) roots) ≡ built meta (S (suc n)) (objects file) roots
    contained_step = by e.part refl
      where
        by : (part : Part) → e.part ≡ part → IsHeld meta part → with_container meta (no n) part (built meta (S n) (objects file) roots) ≡ built meta (S (suc n)) (objects file) roots
        by (Content p h c) is holds = on (opposite meta h) refl
          where
            on : (g : Option FeatId) → opposite meta h ≡ g → option_map_or (λ g. with_value (no n) g (Obj p) (built meta (S n) (objects file) roots)) g (built meta (S n) (objects file) roots) ≡ built meta (S (suc n)) (objects file) roots
            on None names = alone (λ f. ap (container_by meta f) is ∙ ap (λ g. if option_map_or (λ g. g.0 == f.0) g false then p ∷ [] else []) names)
            on (Some g) names = held p h g holds.1 names (λ f. ap (container_by meta f) is ∙ ap (λ g. if option_map_or (λ g. g.0 == f.0) g false then p ∷ [] else []) names)
        by Around is holds = alone (λ f. ap (container_by meta f) is)
        by (Root c) is holds = alone (λ f. ap (container_by meta f) is)
        by (Value p f) is holds = alone (λ f. ap (container_by meta f) is)
        by (Cross f c) is holds = alone (λ f. ap (container_by meta f) is)
        by (Unknown c) is holds = alone (λ f. ap (container_by meta f) is)
        by Inner is holds = alone (λ f. ap (container_by meta f) is)

  pub contained_none : draft meta file ≡ built meta (S 0) (objects file) roots
  contained_none = same_built meta (drafted_slot meta file) (S 0) (objects file) roots (λ i e there f.
      sym (ap (λ b. if is_contained_by meta f && b then slots f e.part else drafted_slot meta file (no i) e f) (le-ltb i 0 (omega arith)) ∙ none (is_contained_by meta f) (slots f e.part) (drafted_slot meta file (no i) e f)))
    where
      none : (c : Bool) (x y : List Cellv) → (if c && false then x else y) ≡ y
      none true x y = refl
      none false x y = refl

  -- all of them
  pub contained_all : built meta (S (objects_in file)) (objects file) roots ≡ stage meta file nothing
  contained_all = same_built meta (S (objects_in file)) (slot_with meta file nothing) (objects file) roots (λ i e there f.
      ap (λ b. if is_contained_by meta f && b then slots f e.part else drafted_slot meta file (no i) e f) (lt-ltb i (objects_in file) (omega (arith, slice_get_within (objects file) i e there, objects_count file)))
      ∙ by i e f (is_contained_by meta f) (refers meta f) (contains meta f) refl refl)
    where
      by : (i : ℕ) (e : Entry) (f : FeatId) (c r h : Bool) → refers meta f ≡ r → contains meta f ≡ h
          → (if c && true then slots f e.part else drafted_slot meta file (no i) e f) ≡ (if c then slots f e.part else if r && not h then [] else drafted_slot meta file (no i) e f)
      by i e f true r h a b = refl
      by i e f false true false a b =
          ap (λ b. if b then children_from meta file 0 (no i) f file else if refers meta f then [] else or_initial meta file f (attribute_values meta file e f ++ child_values meta file (no i) f file)) b
          ∙ ap (λ r. if r then [] else or_initial meta file f (attribute_values meta file e f ++ child_values meta file (no i) f file)) a
      by i e f false true true a b = refl
      by i e f false false h a b = refl

  -- one element more
  pub entry_step : (n : ℕ) (e : Entry) (sketch : Contents) → IsHeld meta e.part → (is_object e.part ≡ true → slice_get (objects file) n ≡ Some e) → sketch ≡ built meta (S n) (objects file) roots
      → (if is_object e.part then with_container meta (no n) e.part sketch else sketch) ≡ built meta (S (if is_object e.part then suc n else n)) (objects file) roots
  entry_step n e sketch held there is = by (is_object e.part) refl
    where
      by : (b : Bool) → is_object e.part ≡ b → (if b then with_container meta (no n) e.part sketch else sketch) ≡ built meta (S (if b then suc n else n)) (objects file) roots
      by true h = ap (with_container meta (no n) e.part) is ∙ contained_step n e (there h) held
      by false h = is
