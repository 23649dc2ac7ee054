-- An element as it is written, without what stands in it, is that of the object's entry; and a value's element is walked to the
-- value's entry.
use Rattle.std.proofs.Common.{◌≡◌, ℕ, suc, List, [], ◌∷◌, ◌++◌, map, refl, sym, ap, ◌∙◌, Some, None}
use Rattle.std.specs.Prelude.{◌||◌, Bool, true, false, if◌then◌else◌}
use Rattle.std.specs.List.{list_any}
use Rattle.std.specs.Option.{option_map_or}
use Rattle.atl_base.specs.declared.numbers.ClassId.{ClassId}
use Rattle.atl_base.specs.declared.numbers.FeatId.{FeatId}
use Rattle.atl_base.specs.declared.numbers.ObjId.{ObjId}
use Rattle.doc_text.specs.declared.tree.Attribute.{Attribute}
use Rattle.doc_text.specs.declared.tree.Child.{Child, out-Child}
use Rattle.doc_text.specs.declared.tree.Child.TheOpen as layer
use Rattle.doc_text.specs.declared.tree.Child.TheVariants as child
use Rattle.doc_text.specs.declared.tree.Element.{Element}
use Rattle.doc_text.specs.declared.tree.Prefix.{Prefix}
use Rattle.ecore_meta.specs.Inheritance.{name_of}
use Rattle.model_store.specs.declared.parts.Cellv.{Cellv}
use Rattle.model_store.specs.declared.parts.Object.{Object}
use Rattle.model_store.specs.Contents.{Contents, contains, object_at, refers}
use Rattle.model_store.specs.Order.{HasNoCycle}
use Rattle.model_store.specs.Texts.{value_text}
use Rattle.xmi_models.specs.Entries.{has_elements_in, is_element_in, tag_of, texts_in, words_in}
use Rattle.xmi_models.specs.Outline.{Tag, Value as ValueEntry, Unknown, Cross, Content as ContentEntry, InObject, InValue, child_class, class_said, feature_named, inside, is_object, part_of, walk, walk_all, walk_child, walk_inside, walk_tag}
use Rattle.xmi_models.proofs.Walking.{text_over, walk_is}
use Rattle.xmi_write.specs.declared.named.Named.{Named}
use Rattle.xmi_write.specs.declared.named.Named.TheVariants.{Inside}
use Rattle.xmi_write.specs.Xmi.{Part, Content, Value, attributes_of, element, element_named, local_name, nowhere, object_element, part_child, parts_of, space_of, value_element, words}
use Rattle.xmi_write.proofs.ObjectElements.{object_is}
use Rattle.xmi_round_trip.specs.Renumbered.{number}
use Rattle.xmi_round_trip.proofs.Filed.{first_attributes, lone, named, object_tag, value_entry}

-- ## What stands in an element

-- a part is an element
child_out : (below : Named → ObjId → Element) (m : Contents) (p : Part) → (e : Element) × (out-Child (part_child below m p) ≡ layer.Sub e)
child_out below m (Content f q) = (below (Inside f) q, child.outs-Sub (below (Inside f) q))
child_out below m (Value f v) = (value_element m f v, child.outs-Sub (value_element m f v))

-- parts are elements, and no text
no_texts : (below : Named → ObjId → Element) (m : Contents) (ps : List Part) → texts_in (map (part_child below m) ps) ≡ []
no_texts below m [] = refl
no_texts below m (p ∷ ps) = ap (λ (l : layer.Child-F Child Element). words_in l ++ texts_in (map (part_child below m) ps)) (child_out below m p).1 ∙ no_texts below m ps

-- there are elements where there are parts
some_elements : (below : Named → ObjId → Element) (m : Contents) (ps : List Part) → has_elements_in (map (part_child below m) ps) ≡ list_any (λ p. true) ps
some_elements below m [] = refl
some_elements below m (p ∷ ps) = ap (λ (l : layer.Child-F Child Element). is_element_in l || has_elements_in (map (part_child below m) ps)) (child_out below m p).1

-- so are roots
pub no_root_texts : (es : List Element) → texts_in (map child.Sub es) ≡ []
no_root_texts [] = refl
no_root_texts (e ∷ es) = ap (λ (l : layer.Child-F Child Element). words_in l ++ texts_in (map child.Sub es)) (child.outs-Sub e) ∙ no_root_texts es

-- there are elements where there are roots
pub root_elements : (es : List Element) → has_elements_in (map child.Sub es) ≡ list_any (λ e. true) es
root_elements [] = refl
root_elements (e ∷ es) = ap (λ (l : layer.Child-F Child Element). is_element_in l || has_elements_in (map child.Sub es)) (child.outs-Sub e)

-- and a value is a text, unless it is empty
value_texts : (text : List ℕ) → texts_in (words text) ≡ lone text
value_texts [] = refl
value_texts (c ∷ cs) = ap (λ (l : layer.Child-F Child Element). words_in l ++ []) (child.outs-Words (c ∷ cs))

-- and no element stands in it
value_elements : (text : List ℕ) → has_elements_in (words text) ≡ false
value_elements [] = refl
value_elements (c ∷ cs) = ap (λ (l : layer.Child-F Child Element). is_element_in l || false) (child.outs-Words (c ∷ cs))

-- ## An object's element

-- an element alone, at no place
abbrev pub tag : List ℕ → List ℕ → List Attribute → List (List ℕ) → Bool → Tag
tag space name attributes texts elements = record { space = space; name = name; attributes = attributes; texts = texts; has_elements = elements; place = nowhere }

module _ (m : Contents) where
  -- it has what its object has
  pub element_is : HasNoCycle m → (n : Named) (o : ObjId) (object : Object) → object_at m.objects o ≡ Some object → element m n o ≡ object_element (element m) m n object
  element_is acyclic n o object there = object_is m acyclic n o ∙ ap (λ x. option_map_or (object_element (element m) m n) x (element_named m.meta n [] [])) there

  -- its children
  abbrev pub kids : Object → List Child
  kids object = map (part_child (element m) m) (parts_of m.meta object)

  -- without what stands in it, it is that of the object's entry
  pub tag_is : (o : ObjId) (object : Object) (n : Named) (first : List Attribute) → object_at m.objects o ≡ Some object → n ≡ named m o → first ≡ first_attributes m o
      → tag (space_of m.meta n) (local_name m.meta n) (first ++ attributes_of m n object) (texts_in (kids object)) (has_elements_in (kids object)) ≡ object_tag m o
  tag_is o object n first there is_named is_first =
      ap (λ texts. tag (space_of m.meta n) (local_name m.meta n) (first ++ attributes_of m n object) texts (has_elements_in (kids object))) (no_texts (element m) m (parts_of m.meta object))
      ∙ ap (λ b. tag (space_of m.meta n) (local_name m.meta n) (first ++ attributes_of m n object) [] b) (some_elements (element m) m (parts_of m.meta object))
      ∙ ap (λ n. tag (space_of m.meta n) (local_name m.meta n) (first ++ attributes_of m n object) [] (list_any (λ p. true) (parts_of m.meta object))) is_named
      ∙ ap (λ before. tag (space_of m.meta (named m o)) (local_name m.meta (named m o)) (before ++ attributes_of m (named m o) object) [] (list_any (λ p. true) (parts_of m.meta object))) is_first
      ∙ ap (λ x. tag (space_of m.meta (named m o)) (local_name m.meta (named m o)) (first_attributes m o ++ option_map_or (attributes_of m (named m o)) x []) [] (list_any (λ p. true) (option_map_or (parts_of m.meta) x []))) (sym there)

-- ## A value's element

module _ (m : Contents) (o : ObjId) (c : ClassId) (scope : List Prefix) (f : FeatId) (v : Cellv)
    (found : feature_named m.meta c (name_of m.meta.features f) ≡ Some f) (holds_none : contains m.meta f ≡ false) (refers_none : refers m.meta f ≡ false) where
  -- the value's text
  abbrev text : List ℕ
  text = value_text m f v

  -- it is that of the value's entry
  value_tag : tag_of (value_element m f v) ≡ (value_entry m o f v).tag
  value_tag =
      ap (λ texts. tag [] (name_of m.meta.features f) [] texts (has_elements_in (words text))) (value_texts text)
      ∙ ap (λ b. tag [] (name_of m.meta.features f) [] (lone text) b) (value_elements text)

  -- it stands for the value of the feature
  value_part : part_of m.meta (InObject c (number m o)) scope (value_entry m o f v).tag ≡ ValueEntry (number m o) f
  value_part =
      let t : Tag = (value_entry m o f v).tag in
      ap (λ x. option_map_or (λ f. if contains m.meta f then ContentEntry (number m o) f (child_class m.meta scope t (class_said m.meta f)) else if refers m.meta f then Cross f (child_class m.meta scope t (class_said m.meta f)) else ValueEntry (number m o) f) x (Unknown None)) found
      ∙ ap (λ b. if b then ContentEntry (number m o) f (child_class m.meta scope t (class_said m.meta f)) else if refers m.meta f then Cross f (child_class m.meta scope t (class_said m.meta f)) else ValueEntry (number m o) f) holds_none
      ∙ ap (λ b. if b then Cross f (child_class m.meta scope t (class_said m.meta f)) else ValueEntry (number m o) f) refers_none

  -- no element stands in it
  nothing_inside : (n : ℕ) (t : List ℕ) → walk_all m.meta InValue scope n (map (walk_child m.meta) (words t)) ≡ []
  nothing_inside n [] = refl
  nothing_inside n (b ∷ bs) = text_over m.meta InValue scope n (b ∷ bs) []

  -- so it is walked to the value's entry
  pub value_walk : (n : ℕ) → (walk m.meta (value_element m f v)).1 (InObject c (number m o)) scope n ≡ value_entry m o f v ∷ []
  value_walk n =
      walk_is m.meta (value_element m f v) (InObject c (number m o)) scope n
      ∙ ap (λ t. walk_tag m.meta (InObject c (number m o)) scope n t (map (walk_child m.meta) (words text))) value_tag
      ∙ ap (λ p. record { part = p; tag = (value_entry m o f v).tag } ∷ walk_inside m.meta (inside p n) scope (if is_object p then suc n else n) (map (walk_child m.meta) (words text))) value_part
      ∙ ap (λ l. value_entry m o f v ∷ l) (nothing_inside n text)
