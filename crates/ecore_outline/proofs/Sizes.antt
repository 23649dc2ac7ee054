-- An outline is no longer than its document has elements.
use Rattle.std.proofs.Common.{◌≡◌, ℕ, suc, ◌+◌, ◌≤◌, List, [], ◌∷◌, ◌++◌, length, map, refl, ap, ◌∙◌, arith}
use Rattle.std.specs.Prelude.{Bool, true, false, ◌&&◌, not, is_some, codes, if◌then◌else◌}
use Rattle.std.proofs.lemmas.List.{length-append}
use Rattle.doc_text.specs.declared.tree.Child.{Child, out-Child, map-Child}
use Rattle.doc_text.specs.declared.tree.Child.TheOpen as layer
use Rattle.doc_text.specs.declared.tree.Doc.{Doc}
use Rattle.doc_text.specs.declared.tree.Element.{Element}
use Rattle.doc_text.specs.declared.tree.Prefix.{Prefix}
use Rattle.xmi_text.specs.Markup.{Site, site, given, is_typed, elements_in, sub_elements}
use Rattle.ecore_outline.specs.Outline.{Entry, Role, entry, Literal, Attribute, Reference, SkippedAttribute, SkippedReference, Super, TypeOf, SkippedType, SubPackage, Stray, is_named, is_quiet, is_skipped, has_type, other_children, feature_children, feature_outline, feature, class_children, enum_children, classifier, package_children, package_outline, is_package, is_around, around_children, outline}
use Rattle.doc_text.specs.Sizes.{total, child_layer, size_of_element, size_of_child, size}
use Rattle.doc_text.proofs.Sizes.{element_is, child_is}

-- ## The size of an element, by those in it

abbrev all : List Element → ℕ
all es = total (map size_of_element es)

children_are : (cs : List Child) → total (map size_of_child cs) ≡ all (sub_elements cs)
children_are [] = refl
children_are (c ∷ cs) = ap (λ n. n + total (map size_of_child cs)) (child_is c) ∙ by (out-Child c) (children_are cs)
  where
    by : (l : layer.Child-F Child Element) → total (map size_of_child cs) ≡ all (sub_elements cs)
        → child_layer (map-Child Child Element ℕ ℕ size_of_child size_of_element l) + total (map size_of_child cs) ≡ all (elements_in l ++ sub_elements cs)
    by (layer.Sub e) h = ap (λ n. size_of_element e + n) h
    by (layer.Words text) h = omega (arith, h)

holds : (e : Element) (n : ℕ) → n ≤ all (sub_elements e.children) → suc n ≤ size_of_element e
holds e n h = omega (arith, h, element_is e, children_are e.children)

one : (e : Element) → 1 ≤ size_of_element e
one e = omega (arith, element_is e)

join : (e : Element) (es : List Element) (xs ys : List Entry) → length xs ≤ size_of_element e → length ys ≤ all es → length (xs ++ ys) ≤ size_of_element e + all es
join e es xs ys h k = omega (arith, h, k, length-append xs ys)

choose : (b : Bool) (n : ℕ) (xs ys : List Entry) → length xs ≤ n → length ys ≤ n → length (if b then xs else ys) ≤ n
choose true n xs ys h k = h
choose false n xs ys h k = k

none : (e : Element) → 0 ≤ size_of_element e
none e = omega arith

alone : (r : Role) (s : Site) → length (entry r s ∷ []) ≤ size_of_element s.element
alone r s = omega (arith, one s.element)

-- ## Outlines

others : (outer : List Prefix) (es : List Element) → length (other_children outer es) ≤ all es
others outer [] = omega arith
others outer (e ∷ es) = join e es _ _ (choose (is_quiet e) _ [] (entry Stray (site outer e) ∷ []) (none e) (alone Stray (site outer e))) (others outer es)

with_others : (r : Role) (outer : List Prefix) (e : Element) → length (entry r (site outer e) ∷ other_children (e.declared ++ outer) (sub_elements e.children)) ≤ size_of_element e
with_others r outer e = holds e _ (others (e.declared ++ outer) (sub_elements e.children))

in_feature : (role : Role) (outer : List Prefix) (es : List Element) (typed : Bool) → length (feature_children role typed outer es) ≤ all es
in_feature role outer [] typed = omega arith
in_feature role outer (e ∷ es) typed =
    by (is_quiet e) (is_named (codes "eType") e && not typed) (in_feature role outer es typed) (in_feature role outer es true)
  where
    by : (quiet type : Bool) → length (feature_children role typed outer es) ≤ all es → length (feature_children role true outer es) ≤ all es
        → length (if quiet then feature_children role typed outer es
        else if type then entry role (site outer e) ∷ (other_children (e.declared ++ outer) (sub_elements e.children) ++ feature_children role true outer es)
        else entry Stray (site outer e) ∷ feature_children role typed outer es) ≤ size_of_element e + all es
    by true type h k = omega (arith, h)
    by false true h k = join e es (entry role (site outer e) ∷ other_children (e.declared ++ outer) (sub_elements e.children)) (feature_children role true outer es) (with_others role outer e) k
    by false false h k = omega (arith, h, one e)

a_feature : (r t : Role) (s : Site) → length (feature_outline r t s) ≤ size_of_element s.element
a_feature r t s = holds s.element _ (in_feature t s.scope (sub_elements s.element.children) (has_type s.element))

features : (s : Site) → length (feature s) ≤ size_of_element s.element
features s =
    choose (is_typed (codes "EAttribute") s) _ _ _
    (choose (is_skipped s.element) _ _ _ (a_feature SkippedAttribute SkippedType s) (a_feature Attribute TypeOf s))
    (choose (is_typed (codes "EReference") s) _ _ _
    (choose (is_skipped s.element) _ _ _ (a_feature SkippedReference SkippedType s) (a_feature Reference TypeOf s))
    (alone Stray s))

in_class : (outer : List Prefix) (es : List Element) → length (class_children outer es) ≤ all es
in_class outer [] = omega arith
in_class outer (e ∷ es) = join e es _ _
    (choose (is_named (codes "eStructuralFeatures") e) _ _ _ (features (site outer e))
    (choose (is_named (codes "eSuperTypes") e && is_some (given (codes "href") e)) _ _ _ (with_others Super outer e)
    (choose (is_quiet e) _ [] (entry Stray (site outer e) ∷ []) (none e) (alone Stray (site outer e)))))
    (in_class outer es)

in_enum : (outer : List Prefix) (es : List Element) → length (enum_children outer es) ≤ all es
in_enum outer [] = omega arith
in_enum outer (e ∷ es) = join e es _ _
    (choose (is_named (codes "eLiterals") e) _ _ _ (with_others Literal outer e)
    (choose (is_quiet e) _ [] (entry Stray (site outer e) ∷ []) (none e) (alone Stray (site outer e))))
    (in_enum outer es)

classifiers : (s : Site) → length (classifier s) ≤ size_of_element s.element
classifiers s =
    choose (is_typed (codes "EClass") s) _ _ _ (holds s.element _ (in_class s.scope (sub_elements s.element.children)))
    (choose (is_typed (codes "EEnum") s) _ _ _ (holds s.element _ (in_enum s.scope (sub_elements s.element.children)))
    (choose (is_typed (codes "EDataType") s) _ _ _ (holds s.element _ (others s.scope (sub_elements s.element.children)))
    (alone Stray s)))

in_package : (outer : List Prefix) (es : List Element) → length (package_children outer es) ≤ all es
in_package outer [] = omega arith
in_package outer (e ∷ es) = join e es _ _
    (choose (is_named (codes "eClassifiers") e) _ _ _ (classifiers (site outer e))
    (choose (is_named (codes "eSubpackages") e) _ _ _ (alone SubPackage (site outer e))
    (choose (is_quiet e) _ [] (entry Stray (site outer e) ∷ []) (none e) (alone Stray (site outer e)))))
    (in_package outer es)

a_package : (s : Site) → length (package_outline s) ≤ size_of_element s.element
a_package s = holds s.element _ (in_package s.scope (sub_elements s.element.children))

around : (outer : List Prefix) (es : List Element) → length (around_children outer es) ≤ all es
around outer [] = omega arith
around outer (e ∷ es) = join e es _ _ (choose (is_package e) _ _ _ (a_package (site outer e)) (alone Stray (site outer e))) (around outer es)

pub outline_within : (doc : Doc) → length (outline doc) ≤ size doc
outline_within doc =
    choose (is_package doc.root) _ _ _ (a_package (site [] doc.root))
    (choose (is_around doc.root) _ _ _ (holds doc.root _ (around doc.root.declared (sub_elements doc.root.children)))
    (alone Stray (site [] doc.root)))
