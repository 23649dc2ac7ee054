-- Elements entered one by one make the objects of a file, before defaults.
use Rattle.std.proofs.Common.{◌≡◌, ℕ, suc, ◌+◌, ◌<◌, List, [], ◌∷◌, ◌++◌, length, map, refl, sym, ap, ◌∙◌, append_assoc, arith}
use Rattle.std.specs.Prelude.{Bool, true, false, ◌==◌, ◌&&◌, filter_map, slice_get, Some, None, option_map, if◌then◌else◌}
use Rattle.std.specs.Option.{option_map_or}
use Rattle.std.proofs.lemmas.Bool.{eqb-true, eq-eqb, ne_eqb, false≢true}
use Rattle.std.proofs.lemmas.List.{append-nil}
use Rattle.std.proofs.lemmas.List.Concat.{flat_map-append}
use Rattle.std.proofs.lemmas.Option.{same_Some, slice_get_within}
use Rattle.atl_base.specs.declared.numbers.ClassId.{ClassId}
use Rattle.atl_base.specs.declared.numbers.FeatId.{FeatId}
use Rattle.atl_base.specs.declared.numbers.ObjId.{ObjId}
use Rattle.doc_text.specs.declared.tree.Attribute.{Attribute}
use Rattle.ecore_meta.specs.declared.parts.Feature.{Feature}
use Rattle.ecore_meta.specs.declared.parts.Parts.{Parts}
use Rattle.ecore_meta.specs.Inheritance.{features}
use Rattle.ecore_meta.specs.Valid.{IsMetamodel}
use Rattle.model_store.specs.declared.parts.Cellv.{Cellv}
use Rattle.model_store.specs.declared.parts.Cellv.TheVariants.{Obj}
use Rattle.model_store.specs.declared.parts.Object.{Object}
use Rattle.model_store.specs.Contents.{Contents, contains, refers}
use Rattle.model_store.specs.Sketches.{blank, with_last_root, with_object, with_value}
use Rattle.model_store.specs.Writes.{value_of_text}
use Rattle.xmi_models.specs.Outline.{Entry, Tag, Part, Around, Root, Content, Value, Cross, Unknown, Inner, is_object, objects_in}
use Rattle.xmi_models.specs.Faults.{attribute_value, is_value_of, objects, own_class, text_in}
use Rattle.xmi_links.specs.References.{attribute_values, child_values, children_from, objects_by, roots_from, value_of}
use Rattle.xmi_links.specs.Stages.{HolderBelow, IsHeld, IsSound, IsWell, Said, all_attributed, built, raw, raw_slot, with_attributes, with_part}
use Rattle.xmi_links.proofs.Apart.{all_apart}
use Rattle.xmi_links.proofs.Attributing.{all_given, contains_refers, feature_there, given, growing}
use Rattle.xmi_links.proofs.Built.{same_feature}
use Rattle.xmi_links.proofs.Building.{length_by, no, object_more, same_built, value_more}
use Rattle.xmi_links.proofs.Containing.{get_at, objects_append, objects_count}
use Rattle.xmi_links.proofs.Crossing.{eqb_sym}

abbrev pub HoldersBelow : ℕ → List Entry → Type 0
HoldersBelow n [] = Unit {0}
HoldersBelow n (e ∷ es) = HolderBelow n e.part × HoldersBelow n es

abbrev no_cells : List Cellv
no_cells = []

abbrev entry : Part → Tag → Entry
entry part t = record { part = part; tag = t }

-- ## What one element more gives

module _ (meta : Parts) (F : List Entry) (o : ObjId) (f : FeatId) where
  values_more : (es : List Entry) (e : Entry) → child_values meta F o f (es ++ e ∷ []) ≡ child_values meta F o f es ++ child_values meta F o f (e ∷ [])
  values_more es e = flat_map-append _ es (e ∷ [])

  cons_children : (n : ℕ) (d : Entry) (es : List Entry) → children_from meta F n o f (d ∷ es) ≡ children_from meta F n o f (d ∷ []) ++ children_from meta F (if is_object d.part then suc n else n) o f es
  cons_children n d es = by d.part
    where
      by : (part : Part) → children_from meta F n o f (entry part d.tag ∷ es) ≡ children_from meta F n o f (entry part d.tag ∷ []) ++ children_from meta F (if is_object part then suc n else n) o f es
      by (Content p g c) = ap (λ l. l ++ children_from meta F (suc n) o f es) (sym (append-nil (if p.0 == o.0 && g.0 == f.0 then Obj (no n) ∷ [] else [])))
      by Around = refl
      by (Root c) = refl
      by (Value p g) = refl
      by (Cross g c) = refl
      by (Unknown c) = refl
      by Inner = refl

  children_more : (n : ℕ) (es : List Entry) (e : Entry) → children_from meta F n o f (es ++ e ∷ []) ≡ children_from meta F n o f es ++ children_from meta F (n + objects_in es) o f (e ∷ [])
  children_more n [] e = ap (λ k. children_from meta F k o f (e ∷ [])) (omega arith)
  children_more n (d ∷ es) e =
      cons_children n d (es ++ e ∷ [])
      ∙ ap (λ l. children_from meta F n o f (d ∷ []) ++ l)
      (children_more (if is_object d.part then suc n else n) es e
      ∙ ap (λ k. children_from meta F (if is_object d.part then suc n else n) o f es ++ children_from meta F k o f (e ∷ [])) (by (is_object d.part)))
      ∙ sym (append_assoc (children_from meta F n o f (d ∷ [])) (children_from meta F (if is_object d.part then suc n else n) o f es) (children_from meta F (n + objects_in (d ∷ es)) o f (e ∷ [])))
      ∙ ap (λ l. l ++ children_from meta F (n + objects_in (d ∷ es)) o f (e ∷ [])) (sym (cons_children n d es))
    where
      by : (b : Bool) → (if b then suc n else n) + objects_in es ≡ n + (if b then suc (objects_in es) else objects_in es)
      by true = omega arith
      by false = refl

-- an object that holds nothing so far
module _ (meta : Parts) (F : List Entry) (n : ℕ) (f : FeatId) where
  none_and : (b : Bool) (p : ℕ) → p < n → (p == n && b) ≡ false
  none_and b p h = ap (λ t. t && b) (ne_eqb p n (λ e. omega (arith, e, h)))

  no_values : (es : List Entry) → HoldersBelow n es → child_values meta F (no n) f es ≡ []
  no_values [] h = refl
  no_values (e ∷ es) h = by e.part e.tag h.0 (no_values es h.1)
    where
      by : (part : Part) (t : Tag) → HolderBelow n part → child_values meta F (no n) f es ≡ [] → child_values meta F (no n) f (entry part t ∷ es) ≡ []
      by (Value p g) t l r = ap (λ b. (if b then value_of meta F f (text_in t) else []) ++ child_values meta F (no n) f es) (none_and (g.0 == f.0) p.0 l) ∙ r
      by Around t l r = r
      by (Root c) t l r = r
      by (Content p g c) t l r = r
      by (Cross g c) t l r = r
      by (Unknown c) t l r = r
      by Inner t l r = r

  no_children : (k : ℕ) (es : List Entry) → HoldersBelow n es → children_from meta F k (no n) f es ≡ []
  no_children k [] h = refl
  no_children k (e ∷ es) h = by e.part e.tag h.0 (no_children (if is_object e.part then suc k else k) es h.1)
    where
      by : (part : Part) (t : Tag) → HolderBelow n part → children_from meta F (if is_object part then suc k else k) (no n) f es ≡ [] → children_from meta F k (no n) f (entry part t ∷ es) ≡ []
      by (Content p g c) t l r = ap (λ b. (if b then Obj (no k) ∷ [] else []) ++ children_from meta F (suc k) (no n) f es) (none_and (g.0 == f.0) p.0 l) ∙ r
      by Around t l r = r
      by (Root c) t l r = r
      by (Value p g) t l r = r
      by (Cross g c) t l r = r
      by (Unknown c) t l r = r
      by Inner t l r = r

-- ## Roots and objects

roots_more : (n : ℕ) (es : List Entry) (e : Entry) → roots_from n (es ++ e ∷ []) ≡ roots_from n es ++ roots_from (n + length es) (e ∷ [])
roots_more n [] e = ap (λ k. roots_from k (e ∷ [])) (omega arith)
roots_more n (d ∷ es) e = by d.part (roots_more (suc n) es e)
  where
    same : roots_from (suc n + length es) (e ∷ []) ≡ roots_from (n + length (d ∷ es)) (e ∷ [])
    same = ap (λ k. roots_from k (e ∷ [])) (omega arith)

    by : (part : Part) → roots_from (suc n) (es ++ e ∷ []) ≡ roots_from (suc n) es ++ roots_from (suc n + length es) (e ∷ [])
        → roots_from n (entry part d.tag ∷ (es ++ e ∷ [])) ≡ roots_from n (entry part d.tag ∷ es) ++ roots_from (n + length (d ∷ es)) (e ∷ [])
    by (Root c) h = ap (λ l. no n ∷ l) (h ∙ ap (λ l. roots_from (suc n) es ++ l) same)
    by Around h = h ∙ ap (λ l. roots_from (suc n) es ++ l) same
    by (Content p g c) h = h ∙ ap (λ l. roots_from (suc n) es ++ l) same
    by (Value p g) h = h ∙ ap (λ l. roots_from (suc n) es ++ l) same
    by (Cross g c) h = h ∙ ap (λ l. roots_from (suc n) es ++ l) same
    by (Unknown c) h = h ∙ ap (λ l. roots_from (suc n) es ++ l) same
    by Inner h = h ∙ ap (λ l. roots_from (suc n) es ++ l) same

module _ (meta : Parts) (valid : IsMetamodel meta) (before : List Entry) where
  abbrev n : ℕ
  n = length (objects before)

  abbrev roots : List ObjId
  roots = roots_from 0 (objects before)

  abbrev slots : Said
  slots = raw_slot meta before

  -- ## An object with its attributes

  module _ (e : Entry) (c : ClassId) (class : own_class e.part ≡ Some c) where
    abbrev all : List Entry
    all = objects before ++ e ∷ []

    abbrev grown : List Attribute → Said
    grown = growing meta valid before e c class slots n

    last : slice_get all n ≡ Some e
    last = get_at (objects before) [] e

    empty : (gs : List FeatId) → map {A = FeatId} {B = List Cellv} (λ f. []) gs ≡ map (given meta valid before e c class []) gs
    empty [] = refl
    empty (g ∷ gs) = ap (λ l. [] ∷ l) (empty gs) ∙ ap (λ l. l ∷ map (given meta valid before e c class []) gs) (by (refers meta g))
      where
        by : (b : Bool) → no_cells ≡ (if b then no_cells else no_cells)
        by true = refl
        by false = refl

    begun : with_object c (raw meta before) ≡ built meta (grown []) all roots
    begun = ap (λ l. record { meta = meta; objects = l; roots = roots })
        (ap (λ l. l ++ Some (blank meta c) ∷ [])
        (ap (λ (m : Contents). m.objects) (same_built meta slots (grown []) (objects before) roots (λ i d t g.
        sym (ap (λ b. if b then given meta valid before e c class [] g else slots (no i) d g) (ne_eqb i n (λ h. omega (arith, h, slice_get_within (objects before) i d t)))))))
        ∙ ap (λ x. objects_by meta (grown []) 0 (objects before) ++ x ∷ [])
        (ap (λ l. let x : Object = record { class = c; slots = l } in Some x) (empty (features meta.classes c) ∙ same_slots (features meta.classes c))
        ∙ ap (λ k. option_map (λ c. let x : Object = record { class = c; slots = map (grown [] (no n) e) (features meta.classes c) } in x) k) (sym class))
        ∙ sym (object_more meta (grown []) (objects before) e))
      where
        same_slots : (gs : List FeatId) → map (given meta valid before e c class []) gs ≡ map (grown [] (no n) e) gs
        same_slots [] = refl
        same_slots (g ∷ gs) = ap (λ b. (if b then given meta valid before e c class [] g else slots (no n) e g) ∷ map (given meta valid before e c class []) gs) (sym (eq-eqb n n refl)) ∙ ap (λ l. grown [] (no n) e g ∷ l) (same_slots gs)

    attributed_object : filter_map (attribute_value meta e.part) e.tag.attributes ≡ [] → with_attributes meta c e (raw meta before) ≡ built meta (grown e.tag.attributes) all roots
    attributed_object right =
        ap (λ k. all_attributed meta (no k) e.part e.tag.attributes (with_object c (raw meta before))) (length_by meta slots 0 (objects before))
        ∙ ap (all_attributed meta (no n) e.part e.tag.attributes) begun
        ∙ all_given meta valid before e c class slots n all roots last [] e.tag.attributes right

    -- its slots
    own_slot : HoldersBelow n (before ++ e ∷ []) → (g : FeatId) → raw_slot meta (before ++ e ∷ []) (no n) e g ≡ given meta valid before e c class e.tag.attributes g
    own_slot below g = by (contains meta g) (refers meta g) refl refl
      where
        by : (b r : Bool) → contains meta g ≡ b → refers meta g ≡ r
            → (if b then children_from meta (before ++ e ∷ []) 0 (no n) g (before ++ e ∷ []) else if r then [] else attribute_values meta (before ++ e ∷ []) e g ++ child_values meta (before ++ e ∷ []) (no n) g (before ++ e ∷ []))
            ≡ (if r then [] else attribute_values meta before e g)
        by true true h k = no_children meta (before ++ e ∷ []) n g 0 (before ++ e ∷ []) below
        by true false h k = absurd (false≢true (sym k ∙ contains_refers meta g h))
        by false true h k = refl
        by false false h k = ap (λ l. attribute_values meta before e g ++ l) (no_values meta (before ++ e ∷ []) n g (before ++ e ∷ []) below) ∙ append-nil (attribute_values meta before e g)

  -- ## One element more

  abbrev more : Entry → List Entry
  more e = before ++ e ∷ []

  raw_same : (e : Entry) (o : ObjId) (d : Entry) (g : FeatId) (cs vs : List Cellv)
      → children_from meta (more e) (objects_in before) o g (e ∷ []) ≡ cs → child_values meta (more e) o g (e ∷ []) ≡ vs
      → raw_slot meta (more e) o d g ≡ (if contains meta g then children_from meta before 0 o g before ++ cs else if refers meta g then [] else (attribute_values meta before d g ++ child_values meta before o g before) ++ vs)
  raw_same e o d g cs vs h k =
      ap (λ l. if contains meta g then l else if refers meta g then [] else attribute_values meta before d g ++ child_values meta (more e) o g (more e))
      (children_more meta (more e) o g 0 before e ∙ ap (λ j. children_from meta before 0 o g before ++ children_from meta (more e) j o g (e ∷ [])) (omega arith) ∙ ap (λ l. children_from meta before 0 o g before ++ l) h)
      ∙ ap (λ l. if contains meta g then children_from meta before 0 o g before ++ cs else if refers meta g then [] else l)
      (ap (λ l. attribute_values meta before d g ++ l) (values_more meta (more e) o g before e ∙ ap (λ l. child_values meta before o g before ++ l) k)
      ∙ sym (append_assoc (attribute_values meta before d g) (child_values meta before o g before) vs))

  raw_kept : (e : Entry) (o : ObjId) (d : Entry) (g : FeatId) → children_from meta (more e) (objects_in before) o g (e ∷ []) ≡ [] → child_values meta (more e) o g (e ∷ []) ≡ [] → raw_slot meta (more e) o d g ≡ slots o d g
  raw_kept e o d g h k =
      raw_same e o d g [] [] h k
      ∙ ap (λ l. if contains meta g then l else if refers meta g then [] else (attribute_values meta before d g ++ child_values meta before o g before) ++ []) (append-nil (children_from meta before 0 o g before))
      ∙ ap (λ l. if contains meta g then children_from meta before 0 o g before else if refers meta g then [] else l) (append-nil (attribute_values meta before d g ++ child_values meta before o g before))

  counted : n ≡ objects_in before
  counted = objects_count before

  objects_with : (e : Entry) → is_object e.part ≡ true → objects (more e) ≡ objects before ++ e ∷ []
  objects_with e h = objects_append before (e ∷ []) ∙ ap (λ b. objects before ++ (if b then e ∷ [] else [])) h

  objects_without : (e : Entry) → is_object e.part ≡ false → objects (more e) ≡ objects before
  objects_without e h = objects_append before (e ∷ []) ∙ ap (λ b. objects before ++ (if b then e ∷ [] else [])) h ∙ append-nil (objects before)

  -- which of these is the new one
  at_last : (e : Entry) (i : ℕ) (d : Entry) → slice_get (objects before ++ e ∷ []) i ≡ Some d → (i == n) ≡ true → d ≡ e
  at_last e i d t h = same_Some d e (sym t ∙ ap (slice_get (objects before ++ e ∷ [])) (eqb-true i n h) ∙ get_at (objects before) [] e)

  module _ (t : Tag) (below : HoldersBelow n before) where
    -- a root
    root_step : (c : ClassId) → filter_map (attribute_value meta (Root (Some c))) t.attributes ≡ [] → with_part meta (entry (Root (Some c)) t) (Root (Some c)) (raw meta before) ≡ raw meta (more (entry (Root (Some c)) t))
    root_step c right =
        ap (λ k. with_last_root (no k) (with_attributes meta c e (raw meta before))) (length_by meta slots 0 (objects before))
        ∙ ap (with_last_root (no n)) (attributed_object e c refl right)
        ∙ ap (λ m. with_last_root (no n) m) (same_built meta (grown e c refl t.attributes) (raw_slot meta (more e)) (objects before ++ e ∷ []) roots (λ i d h g. by i d h g (i == n) refl))
        ∙ ap (λ l. built meta (raw_slot meta (more e)) (objects before ++ e ∷ []) l) (sym (roots_more 0 (objects before) e ∙ ap (λ k. roots ++ no k ∷ []) (omega arith)))
        ∙ ap (λ es. built meta (raw_slot meta (more e)) es (roots_from 0 es)) (sym (objects_with e refl))
      where
        e : Entry
        e = entry (Root (Some c)) t

        by : (i : ℕ) (d : Entry) → slice_get (objects before ++ e ∷ []) i ≡ Some d → (g : FeatId) (b : Bool) → (i == n) ≡ b → (if b then given meta valid before e c refl t.attributes g else slots (no i) d g) ≡ raw_slot meta (more e) (no i) d g
        by i d h g true x = sym (ap (λ d. raw_slot meta (more e) (no i) d g) (at_last e i d h x) ∙ ap (λ k. raw_slot meta (more e) (no k) e g) (eqb-true i n x)
            ∙ own_slot e c refl (both before below) g)
          where
            both : (es : List Entry) → HoldersBelow n es → HoldersBelow n (es ++ e ∷ [])
            both [] l = (tt, tt)
            both (x ∷ es) l = (l.0, both es l.1)
        by i d h g false x = sym (raw_kept e (no i) d g refl refl)

    -- an object that another contains
    content_step : (p : ObjId) (f : FeatId) (c : ClassId) → p.0 < n → contains meta f ≡ true → filter_map (attribute_value meta (Content p f (Some c))) t.attributes ≡ []
        → with_part meta (entry (Content p f (Some c)) t) (Content p f (Some c)) (raw meta before) ≡ raw meta (more (entry (Content p f (Some c)) t))
    content_step p f c less inside right =
        ap (λ k. with_value p f (Obj (no k)) (with_attributes meta c e (raw meta before))) (length_by meta slots 0 (objects before))
        ∙ ap (with_value p f (Obj (no n))) (attributed_object e c refl right)
        ∙ value_more meta (all_apart meta valid) f (Obj (no n)) (grown e c refl t.attributes) (raw_slot meta (more e)) p (objects before ++ e ∷ []) roots (λ i d h g. by i d h g (i == n) refl)
        ∙ ap (λ l. built meta (raw_slot meta (more e)) (objects before ++ e ∷ []) l) (sym (roots_more 0 (objects before) e ∙ append-nil roots))
        ∙ ap (λ es. built meta (raw_slot meta (more e)) es (roots_from 0 es)) (sym (objects_with e refl))
      where
        e : Entry
        e = entry (Content p f (Some c)) t

        -- the slot that holds it, and all others
        held_slot : (i : ℕ) (d : Entry) (g : FeatId) → raw_slot meta (more e) (no i) d g ≡ (if i == p.0 && g.0 == f.0 then slots (no i) d g ++ Obj (no n) ∷ [] else slots (no i) d g)
        held_slot i d g = on (p.0 == i) (f.0 == g.0) refl refl
          where
            child : children_from meta (more e) (objects_in before) (no i) g (e ∷ []) ≡ (if p.0 == i && f.0 == g.0 then Obj (no n) ∷ [] else [])
            child = append-nil (if p.0 == i && f.0 == g.0 then Obj (no (objects_in before)) ∷ [] else []) ∙ ap (λ k. if p.0 == i && f.0 == g.0 then Obj (no k) ∷ [] else []) (sym counted)

            kept : (x y : Bool) → (p.0 == i) ≡ x → (f.0 == g.0) ≡ y → (x && y) ≡ false → raw_slot meta (more e) (no i) d g ≡ (if i == p.0 && g.0 == f.0 then slots (no i) d g ++ Obj (no n) ∷ [] else slots (no i) d g)
            kept x y a b none =
                raw_kept e (no i) d g (child ∙ ap (λ b. if b then Obj (no n) ∷ [] else []) (ap (λ x. x && f.0 == g.0) a ∙ ap (λ y. x && y) b ∙ none)) refl
                ∙ ap (λ b. if b then slots (no i) d g ++ Obj (no n) ∷ [] else slots (no i) d g)
                (sym (ap (λ x. x && g.0 == f.0) (eqb_sym i p.0 ∙ a) ∙ ap (λ y. x && y) (eqb_sym g.0 f.0 ∙ b) ∙ none))

            on : (x y : Bool) → (p.0 == i) ≡ x → (f.0 == g.0) ≡ y → raw_slot meta (more e) (no i) d g ≡ (if i == p.0 && g.0 == f.0 then slots (no i) d g ++ Obj (no n) ∷ [] else slots (no i) d g)
            on true true a b =
                let holds : contains meta g ≡ true = ap (contains meta) (sym (same_feature f g (eqb-true f.0 g.0 b))) ∙ inside in
                raw_same e (no i) d g (Obj (no n) ∷ []) [] (child ∙ ap (λ b. if b then Obj (no n) ∷ [] else []) (ap (λ x. x && f.0 == g.0) a ∙ b)) refl
                ∙ ap (λ b. if b then children_from meta before 0 (no i) g before ++ Obj (no n) ∷ [] else if refers meta g then [] else (attribute_values meta before d g ++ child_values meta before (no i) g before) ++ []) holds
                ∙ ap (λ l. l ++ Obj (no n) ∷ []) (sym (ap (λ b. if b then children_from meta before 0 (no i) g before else if refers meta g then [] else attribute_values meta before d g ++ child_values meta before (no i) g before) holds))
                ∙ ap (λ b. if b then slots (no i) d g ++ Obj (no n) ∷ [] else slots (no i) d g) (sym (ap (λ x. x && g.0 == f.0) (eqb_sym i p.0 ∙ a) ∙ (eqb_sym g.0 f.0 ∙ b)))
            on true false a b = kept true false a b refl
            on false y a b = kept false y a b refl

        both : (es : List Entry) → HoldersBelow n es → HoldersBelow n (es ++ e ∷ [])
        both [] l = (less, tt)
        both (x ∷ es) l = (l.0, both es l.1)

        by : (i : ℕ) (d : Entry) → slice_get (objects before ++ e ∷ []) i ≡ Some d → (g : FeatId) (b : Bool) → (i == n) ≡ b
            → raw_slot meta (more e) (no i) d g ≡ (if i == p.0 && g.0 == f.0 then (if b then given meta valid before e c refl t.attributes g else slots (no i) d g) ++ Obj (no n) ∷ [] else (if b then given meta valid before e c refl t.attributes g else slots (no i) d g))
        by i d h g true x =
            ap (λ d. raw_slot meta (more e) (no i) d g) (at_last e i d h x) ∙ ap (λ k. raw_slot meta (more e) (no k) e g) (eqb-true i n x)
            ∙ own_slot e c refl (both before below) g
            ∙ ap (λ b. if b && g.0 == f.0 then given meta valid before e c refl t.attributes g ++ Obj (no n) ∷ [] else given meta valid before e c refl t.attributes g)
            (sym (ne_eqb i p.0 (λ s. omega (arith, s, less, eqb-true i n x))))
        by i d h g false x = held_slot i d g

    -- a value of an object
    value_step : (p : ObjId) (f : FeatId) → refers meta f ≡ false → is_value_of meta f (text_in t) ≡ true
        → with_part meta (entry (Value p f) t) (Value p f) (raw meta before) ≡ raw meta (more (entry (Value p f) t))
    value_step p f plain right =
        ap (λ x. option_map_or (λ feature. with_value p f (value_of_text meta feature.kind (text_in t)) (raw meta before)) x (raw meta before)) there.1
        ∙ value_more meta (all_apart meta valid) f v slots (raw_slot meta (more e)) p (objects before) roots (λ i d h g. on i d g (p.0 == i) (f.0 == g.0) refl refl)
        ∙ ap (λ es. built meta (raw_slot meta (more e)) es (roots_from 0 es)) (sym (objects_without e refl))
      where
        e : Entry
        e = entry (Value p f) t

        there : (feature : Feature) × (slice_get meta.features f.0 ≡ Some feature)
        there = feature_there meta f (text_in t) right

        v : Cellv
        v = value_of_text meta there.0.kind (text_in t)

        outside : (g : FeatId) → (f.0 == g.0) ≡ true → (refers meta g ≡ false) × (contains meta g ≡ false)
        outside g b =
            let r : refers meta g ≡ false = ap (refers meta) (sym (same_feature f g (eqb-true f.0 g.0 b))) ∙ plain in
            (r, by (contains meta g) refl r)
          where
            by : (b : Bool) → contains meta g ≡ b → refers meta g ≡ false → b ≡ false
            by true e r = absurd (false≢true (sym r ∙ contains_refers meta g e))
            by false e r = refl

        valued : (g : FeatId) → (f.0 == g.0) ≡ true → value_of meta (more e) g (text_in t) ≡ v ∷ []
        valued g b =
            ap (λ (g : FeatId). value_of meta (more e) g (text_in t)) (sym (same_feature f g (eqb-true f.0 g.0 b)))
            ∙ ap (λ x. option_map_or (λ feature. value_of_text meta feature.kind (text_in t) ∷ []) x []) there.1

        said : (i : ℕ) (g : FeatId) → child_values meta (more e) (no i) g (e ∷ []) ≡ (if p.0 == i && f.0 == g.0 then value_of meta (more e) g (text_in t) else [])
        said i g = append-nil (if p.0 == i && f.0 == g.0 then value_of meta (more e) g (text_in t) else [])

        kept : (i : ℕ) (d : Entry) (g : FeatId) (x y : Bool) → (p.0 == i) ≡ x → (f.0 == g.0) ≡ y → (x && y) ≡ false → raw_slot meta (more e) (no i) d g ≡ (if i == p.0 && g.0 == f.0 then slots (no i) d g ++ v ∷ [] else slots (no i) d g)
        kept i d g x y a b none =
            raw_kept e (no i) d g refl (said i g ∙ ap (λ b. if b then value_of meta (more e) g (text_in t) else []) (ap (λ x. x && f.0 == g.0) a ∙ ap (λ y. x && y) b ∙ none))
            ∙ ap (λ b. if b then slots (no i) d g ++ v ∷ [] else slots (no i) d g)
            (sym (ap (λ x. x && g.0 == f.0) (eqb_sym i p.0 ∙ a) ∙ ap (λ y. x && y) (eqb_sym g.0 f.0 ∙ b) ∙ none))

        on : (i : ℕ) (d : Entry) (g : FeatId) (x y : Bool) → (p.0 == i) ≡ x → (f.0 == g.0) ≡ y → raw_slot meta (more e) (no i) d g ≡ (if i == p.0 && g.0 == f.0 then slots (no i) d g ++ v ∷ [] else slots (no i) d g)
        on i d g true true a b =
            let out = outside g b in
            raw_same e (no i) d g [] (v ∷ []) refl (said i g ∙ ap (λ b. if b then value_of meta (more e) g (text_in t) else []) (ap (λ x. x && f.0 == g.0) a ∙ b) ∙ valued g b)
            ∙ ap (λ b. if b then children_from meta before 0 (no i) g before ++ [] else if refers meta g then [] else (attribute_values meta before d g ++ child_values meta before (no i) g before) ++ v ∷ []) out.1
            ∙ ap (λ r. if r then [] else (attribute_values meta before d g ++ child_values meta before (no i) g before) ++ v ∷ []) out.0
            ∙ ap (λ l. l ++ v ∷ [])
            (sym (ap (λ b. if b then children_from meta before 0 (no i) g before else if refers meta g then [] else attribute_values meta before d g ++ child_values meta before (no i) g before) out.1
            ∙ ap (λ r. if r then [] else attribute_values meta before d g ++ child_values meta before (no i) g before) out.0))
            ∙ ap (λ b. if b then slots (no i) d g ++ v ∷ [] else slots (no i) d g) (sym (ap (λ x. x && g.0 == f.0) (eqb_sym i p.0 ∙ a) ∙ (eqb_sym g.0 f.0 ∙ b)))
        on i d g true false a b = kept i d g true false a b refl
        on i d g false y a b = kept i d g false y a b refl

  -- what is neither
  other_step : (e : Entry) → is_object e.part ≡ false → ((k : ℕ) (o : ObjId) (g : FeatId) → (children_from meta (more e) k o g (e ∷ []) ≡ []) × (child_values meta (more e) o g (e ∷ []) ≡ [])) → raw meta before ≡ raw meta (more e)
  other_step e none adds =
      same_built meta slots (raw_slot meta (more e)) (objects before) roots (λ i d h g. sym (raw_kept e (no i) d g (adds (objects_in before) (no i) g).0 (adds 0 (no i) g).1))
      ∙ ap (λ es. built meta (raw_slot meta (more e)) es (roots_from 0 es)) (sym (objects_without e none))

  pub entry_step : (e : Entry) → IsSound meta e → HoldersBelow n before → HolderBelow n e.part → with_part meta e e.part (raw meta before) ≡ raw meta (more e)
  entry_step e sound below held = by e.part e.tag sound.well sound.held sound.attributes held
    where
      by : (part : Part) (t : Tag) → IsWell meta t part → IsHeld meta part → (is_object part ≡ true → filter_map (attribute_value meta part) t.attributes ≡ []) → HolderBelow n part → with_part meta (entry part t) part (raw meta before) ≡ raw meta (more (entry part t))
      by Around t well h right less = other_step (entry Around t) refl (λ k o g. (refl, refl))
      by (Root None) t well h right less = absurd well
      by (Root (Some c)) t well h right less = root_step t below c (right refl)
      by (Content p f None) t well h right less = absurd well
      by (Content p f (Some c)) t well h right less = content_step t below p f c less h.1 (right refl)
      by (Value p f) t well h right less = value_step t below p f h.1 well
      by (Cross f c) t well h right less = other_step (entry (Cross f c) t) refl (λ k o g. (refl, refl))
      by (Unknown c) t well h right less = other_step (entry (Unknown c) t) refl (λ k o g. (refl, refl))
      by Inner t well h right less = other_step (entry Inner t) refl (λ k o g. (refl, refl))
