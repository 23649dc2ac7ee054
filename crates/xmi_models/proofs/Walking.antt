-- The walk over an element and over what stands in it, step by step.
use Rattle.std.proofs.Common.{◌≡◌, ℕ, suc, ◌+◌, ◌≤◌, List, [], ◌∷◌, ◌++◌, length, map, refl, sym, ap, ◌∙◌, append_assoc, arith}
use Rattle.std.specs.Prelude.{Bool, true, false, ◌||◌, Option, Result, Ok, Err, IfOk, OnOk, if◌then◌else◌}
use Rattle.std.specs.List.{list_any}
use Rattle.std.proofs.lemmas.List.{map_push}
use Rattle.doc_text.specs.declared.tree.Child.{Child, out-Child, map-Child, fold_out-Child}
use Rattle.doc_text.specs.declared.tree.Child.TheOpen as layer
use Rattle.doc_text.specs.declared.tree.Child.TheVariants as child
use Rattle.doc_text.specs.declared.tree.Element.{Element, fold_out-Element}
use Rattle.doc_text.specs.declared.tree.Prefix.{Prefix}
use Rattle.ecore_meta.specs.declared.parts.Parts.{Parts}
use Rattle.xmi_models.specs.Outline.{Entry, Part, Where, Below, Sub, Words, texts_of, is_element, objects_in, is_object, is_passed, part_of, inside, walk, walk_child, walk_all, walk_inside, walk_tag, child_layer, named_layer}
use Rattle.xmi_models.specs.declared.part.Entry.{Entry as CodeEntry}
use Rattle.xmi_models.specs.Entries.{words_in, texts_in, is_element_in, has_elements_in, tag_of, entry_of, entries_of, part_in}

abbrev pub Walk : Type 0
Walk = List ℕ × (Where → List Prefix → ℕ → List Entry)

-- ## Counting

pub counted_together : (xs ys : List Entry) → objects_in (xs ++ ys) ≡ objects_in xs + objects_in ys
counted_together [] ys = omega arith
counted_together (x ∷ xs) ys = by (is_object x.part) (counted_together xs ys)
  where
    by : (b : Bool) → objects_in (xs ++ ys) ≡ objects_in xs + objects_in ys
        → (if b then suc (objects_in (xs ++ ys)) else objects_in (xs ++ ys)) ≡ (if b then suc (objects_in xs) else objects_in xs) + objects_in ys
    by true h = omega (arith, h)
    by false h = h

pub counted_short : (xs : List Entry) → objects_in xs ≤ length xs
counted_short [] = omega arith
counted_short (x ∷ xs) = by (is_object x.part) (counted_short xs)
  where
    by : (b : Bool) → objects_in xs ≤ length xs → (if b then suc (objects_in xs) else objects_in xs) ≤ suc (length xs)
    by true h = omega (arith, h)
    by false h = omega (arith, h)

-- one entry more
pub counted_push : (es : List CodeEntry) (e : CodeEntry) → objects_in (entries_of (es ++ (e ∷ []))) ≡ objects_in (entries_of es) + (if is_object (part_in e.part) then 1 else 0)
counted_push es e = ap objects_in (map_push entry_of es e) ∙ counted_together (entries_of es) (entry_of e ∷ []) ∙ ap (λ n. objects_in (entries_of es) + n) (by (is_object (part_in e.part)))
  where
    by : (b : Bool) → (if b then suc 0 else 0) ≡ (if b then 1 else 0)
    by true = refl
    by false = refl

module _ (meta : Parts) where
  -- ## Children

  pub child_is : (e : Element) → walk_child meta (child.Sub e) ≡ Sub (walk meta e).0 (walk meta e).1
  unfolding walk walk_child
  child_is e = fold_out-Child Below Walk (child_layer meta) (named_layer meta) (child.Sub e)
      ∙ ap (λ l. child_layer meta (map-Child Child Element Below Walk (walk_child meta) (walk meta) l)) (child.outs-Sub e)

  pub words_are : (text : List ℕ) → walk_child meta (child.Words text) ≡ Words text
  unfolding walk walk_child
  words_are text = fold_out-Child Below Walk (child_layer meta) (named_layer meta) (child.Words text)
      ∙ ap (λ l. child_layer meta (map-Child Child Element Below Walk (walk_child meta) (walk meta) l)) (child.outs-Words text)

  layer_is : (c : Child) → walk_child meta c ≡ child_layer meta (map-Child Child Element Below Walk (walk_child meta) (walk meta) (out-Child c))
  unfolding walk walk_child
  layer_is c = fold_out-Child Below Walk (child_layer meta) (named_layer meta) c

  texts_are : (cs : List Child) → texts_of (map (walk_child meta) cs) ≡ texts_in cs
  texts_are [] = refl
  texts_are (c ∷ cs) = ap (λ b. texts_of (b ∷ map (walk_child meta) cs)) (layer_is c) ∙ by (out-Child c) (texts_are cs)
    where
      by : (l : layer.Child-F Child Element) → texts_of (map (walk_child meta) cs) ≡ texts_in cs → texts_of (child_layer meta (map-Child Child Element Below Walk (walk_child meta) (walk meta) l) ∷ map (walk_child meta) cs) ≡ words_in l ++ texts_in cs
      by (layer.Sub e) h = h
      by (layer.Words text) h = ap (λ ts. text ∷ ts) h

  elements_are : (cs : List Child) → list_any is_element (map (walk_child meta) cs) ≡ has_elements_in cs
  elements_are [] = refl
  elements_are (c ∷ cs) =
      ap (λ b. is_element b || list_any is_element (map (walk_child meta) cs)) (layer_is c) ∙ by (out-Child c) (elements_are cs)
    where
      by : (l : layer.Child-F Child Element) → list_any is_element (map (walk_child meta) cs) ≡ has_elements_in cs
          → (is_element (child_layer meta (map-Child Child Element Below Walk (walk_child meta) (walk meta) l)) || list_any is_element (map (walk_child meta) cs)) ≡ (is_element_in l || has_elements_in cs)
      by (layer.Sub e) h = refl
      by (layer.Words text) h = h

  -- ## An element

  opened : (e : Element) → walk meta e ≡ named_layer meta (record { space = e.space; name = e.name; declared = e.declared; attributes = e.attributes; children = map (walk_child meta) e.children; place = e.place })
  unfolding walk walk_child
  opened e = fold_out-Element Below Walk (child_layer meta) (named_layer meta) e

  pub name_is : (e : Element) → (walk meta e).0 ≡ e.name
  name_is e = ap (λ (w : Walk). w.0) (opened e)

  pub walk_is : (e : Element) (w : Where) (outer : List Prefix) (n : ℕ) → (walk meta e).1 w outer n ≡ walk_tag meta w (e.declared ++ outer) n (tag_of e) (map (walk_child meta) e.children)
  walk_is e w outer n =
      ap (λ (k : Walk). k.1 w outer n) (opened e)
      ∙ ap (λ texts. walk_tag meta w (e.declared ++ outer) n (record { space = e.space; name = e.name; attributes = e.attributes; texts = texts; has_elements = list_any is_element (map (walk_child meta) e.children); place = e.place }) (map (walk_child meta) e.children)) (texts_are e.children)
      ∙ ap (λ some. walk_tag meta w (e.declared ++ outer) n (record { space = e.space; name = e.name; attributes = e.attributes; texts = texts_in e.children; has_elements = some; place = e.place }) (map (walk_child meta) e.children)) (elements_are e.children)

  -- ## Steps over what stands in an element

  pub passed_over : (w : Where) (scope : List Prefix) (n : ℕ) (e : Element) (bs : List Below) → is_passed meta w e.name ≡ true
      → walk_all meta w scope n (walk_child meta (child.Sub e) ∷ bs) ≡ walk_all meta w scope n bs
  passed_over w scope n e bs h =
      ap (λ b. walk_all meta w scope n (b ∷ bs)) (child_is e)
      ∙ ap (λ name. if is_passed meta w name then walk_all meta w scope n bs else (walk meta e).1 w scope n ++ walk_all meta w scope (n + objects_in ((walk meta e).1 w scope n)) bs) (name_is e)
      ∙ ap (λ b. if b then walk_all meta w scope n bs else (walk meta e).1 w scope n ++ walk_all meta w scope (n + objects_in ((walk meta e).1 w scope n)) bs) h

  pub looked_into : (w : Where) (scope : List Prefix) (n : ℕ) (e : Element) (bs : List Below) → is_passed meta w e.name ≡ false
      → walk_all meta w scope n (walk_child meta (child.Sub e) ∷ bs) ≡ (walk meta e).1 w scope n ++ walk_all meta w scope (n + objects_in ((walk meta e).1 w scope n)) bs
  looked_into w scope n e bs h =
      ap (λ b. walk_all meta w scope n (b ∷ bs)) (child_is e)
      ∙ ap (λ name. if is_passed meta w name then walk_all meta w scope n bs else (walk meta e).1 w scope n ++ walk_all meta w scope (n + objects_in ((walk meta e).1 w scope n)) bs) (name_is e)
      ∙ ap (λ b. if b then walk_all meta w scope n bs else (walk meta e).1 w scope n ++ walk_all meta w scope (n + objects_in ((walk meta e).1 w scope n)) bs) h

  pub text_over : (w : Where) (scope : List Prefix) (n : ℕ) (text : List ℕ) (bs : List Below)
      → walk_all meta w scope n (walk_child meta (child.Words text) ∷ bs) ≡ walk_all meta w scope n bs
  text_over w scope n text bs = ap (λ b. walk_all meta w scope n (b ∷ bs)) (words_are text)

  -- an element after its entry is pushed, and then what stands in it
  pub pushed : (e : Element) (w : Where) (outer : List Prefix) (n m : ℕ) (ds : List Prefix) (cs : List Child) (part : Part) (i : Option Where) (old mid : List Entry)
      → ds ≡ e.declared → cs ≡ e.children → part ≡ part_of meta w (ds ++ outer) (tag_of e) → i ≡ inside part n
      → mid ≡ old ++ (record { part = part; tag = tag_of e } ∷ []) → m ≡ (if is_object part then suc n else n)
      → mid ++ walk_inside meta i (ds ++ outer) m (map (walk_child meta) cs) ≡ old ++ (walk meta e).1 w outer n
  pushed e w outer n m ds cs part i old mid d k p h o c =
      let scope = e.declared ++ outer in
      let kids = map (walk_child meta) e.children in
      let t = tag_of e in
      ap (λ ds. mid ++ walk_inside meta i (ds ++ outer) m (map (walk_child meta) cs)) d
      ∙ ap (λ cs. mid ++ walk_inside meta i scope m (map (walk_child meta) cs)) k
      ∙ ap (λ i. mid ++ walk_inside meta i scope m kids) h
      ∙ ap (λ m. mid ++ walk_inside meta (inside part n) scope m kids) c
      ∙ ap (λ l. l ++ walk_inside meta (inside part n) scope (if is_object part then suc n else n) kids) o
      ∙ append_assoc old (record { part = part; tag = t } ∷ []) (walk_inside meta (inside part n) scope (if is_object part then suc n else n) kids)
      ∙ ap (λ p. old ++ (record { part = p; tag = t } ∷ walk_inside meta (inside p n) scope (if is_object p then suc n else n) kids)) (p ∙ ap (λ ds. part_of meta w (ds ++ outer) t) d)
      ∙ ap (λ l. old ++ l) (sym (walk_is e w outer n))

  -- a child after it is pushed with all that it holds
  pub child_pushed : (w : Where) (scope : List Prefix) (n k : ℕ) (e : Element) (old new : List Entry) → n ≡ objects_in old → k ≡ objects_in new → new ≡ old ++ (walk meta e).1 w scope n
      → is_passed meta w e.name ≡ false → (bs : List Below) → new ++ walk_all meta w scope k bs ≡ old ++ walk_all meta w scope n (walk_child meta (child.Sub e) ∷ bs)
  child_pushed w scope n k e old new before after is h bs =
      let all = (walk meta e).1 w scope n in
      let count : k ≡ n + objects_in all = after ∙ ap objects_in is ∙ counted_together old all ∙ ap (λ x. x + objects_in all) (sym before) in
      ap (λ x. new ++ walk_all meta w scope x bs) count
      ∙ ap (λ l. l ++ walk_all meta w scope (n + objects_in all) bs) is
      ∙ append_assoc old all (walk_all meta w scope (n + objects_in all) bs)
      ∙ ap (λ l. old ++ l) (sym (looked_into w scope n e bs h))

pub on_ok : {A E P Q : Type 0} (r : Result A E) → (P → Q) → OnOk r P → OnOk r Q
on_ok (Ok x) f p = f p
on_ok (Err e) f p = p

pub on_ok_both : {A E P Q R : Type 0} (r : Result A E) → (P → Q → R) → OnOk r P → OnOk r Q → OnOk r R
on_ok_both (Ok x) f p q = f p q
on_ok_both (Err e) f p q = p

pub if_ok : {A E : Type 0} {P Q : A → Type 0} (r : Result A E) → ((x : A) → P x → Q x) → IfOk r P → IfOk r Q
if_ok (Ok x) f p = f x p
if_ok (Err e) f p = p
