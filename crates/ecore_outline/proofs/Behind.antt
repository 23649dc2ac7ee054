-- What stands in front of what in an outline: packages in front of classes, and classes in front of features.
use Rattle.std.proofs.Common.{◌≡◌, suc, ◌<◌, List, [], ◌∷◌, ◌++◌, refl, sym, subst, ◌∙◌, ◌⊎◌, inl, inr, arith}
use Rattle.std.specs.Prelude.{Bool, true, false, ◌||◌, if◌then◌else◌, codes}
use Rattle.doc_text.specs.declared.tree.Doc.{Doc}
use Rattle.doc_text.specs.declared.tree.Element.{Element}
use Rattle.doc_text.specs.declared.tree.Prefix.{Prefix}
use Rattle.xmi_text.specs.Markup.{Site, site, is_typed, sub_elements}
use Rattle.ecore_outline.specs.Outline.{Entry, Role, entry, Around, Package, Class, Enum, Data, Literal, SubPackage, Stray, is_named, is_quiet, other_children, class_children, enum_children, classifier, package_children, package_outline, is_package, is_around, around_children, outline, is_package_role, is_class_role, is_feature_role, is_skipped_role, count}
use Rattle.xmi_text.proofs.Tests.{false-true}

module _ (gives needs : Role → Bool) where
  -- each that needs one has seen one
  abbrev pub Behind : Bool → List Entry → Type 0
  Behind seen [] = Unit {0}
  Behind seen (e ∷ es) = (needs e.role ≡ true → seen ≡ true) × Behind (seen || gives e.role) es

  pub behind_all : (es : List Entry) → Behind true es
  behind_all [] = tt
  behind_all (e ∷ es) = (λ h. refl, behind_all es)

  behind_more : (seen more : Bool) (es : List Entry) → Behind seen es → Behind (seen || more) es
  behind_more true more es h = h
  behind_more false true es h = behind_all es
  behind_more false false es h = h

  pub behind_append : (seen : Bool) (xs ys : List Entry) → Behind seen xs → Behind seen ys → Behind seen (xs ++ ys)
  behind_append seen [] ys h k = k
  behind_append seen (x ∷ xs) ys h k = (h.0, behind_append (seen || gives x.role) xs ys h.1 (behind_more seen (gives x.role) ys k))

  pub behind_if : (seen test : Bool) (xs ys : List Entry) → Behind seen xs → Behind seen ys → Behind seen (if test then xs else ys)
  behind_if seen true xs ys h k = h
  behind_if seen false xs ys h k = k

  seen_before : (seen : Bool) (before : List Entry) (e : Entry) (behind : List Entry) → Behind seen (before ++ (e ∷ behind)) → needs e.role ≡ true → (seen ≡ true) ⊎ (0 < count gives before)
  seen_before seen [] e behind h k = inl (h.0 k)
  seen_before seen (d ∷ before) e behind h k = by seen (gives d.role) (seen_before (seen || gives d.role) before e behind h.1 k)
    where
      by : (s g : Bool) → ((s || g) ≡ true) ⊎ (0 < count gives before) → (s ≡ true) ⊎ (0 < (if g then suc (count gives before) else count gives before))
      by true g r = inl refl
      by false true r = inr (omega arith)
      by false false r = r

  pub some_before : (before : List Entry) (e : Entry) (behind : List Entry) → Behind false (before ++ (e ∷ behind)) → needs e.role ≡ true → 0 < count gives before
  some_before before e behind h k = by (seen_before false before e behind h k)
    where
      by : (false ≡ true) ⊎ (0 < count gives before) → 0 < count gives before
      by (inl e) = absurd (false-true e)
      by (inr l) = l

-- ## Classes

package_first : (s : Site) → Behind is_package_role is_class_role false (package_outline s)
package_first s = (λ h. absurd (false-true h), behind_all is_package_role is_class_role (package_children s.scope (sub_elements s.element.children)))

packages_first : (outer : List Prefix) (es : List Element) → Behind is_package_role is_class_role false (around_children outer es)
packages_first outer [] = tt
packages_first outer (e ∷ es) =
    behind_append is_package_role is_class_role false (if is_package e then package_outline (site outer e) else entry Stray (site outer e) ∷ []) (around_children outer es)
    (behind_if is_package_role is_class_role false (is_package e) (package_outline (site outer e)) (entry Stray (site outer e) ∷ []) (package_first (site outer e)) (λ h. absurd (false-true h), tt))
    (packages_first outer es)

pub classes_behind : (doc : Doc) → Behind is_package_role is_class_role false (outline doc)
classes_behind doc =
    behind_if is_package_role is_class_role false (is_package doc.root) (package_outline (site [] doc.root)) _ (package_first (site [] doc.root))
    (behind_if is_package_role is_class_role false (is_around doc.root) (entry Around (site [] doc.root) ∷ around_children doc.root.declared (sub_elements doc.root.children)) (entry Stray (site [] doc.root) ∷ [])
    (λ h. absurd (false-true h), packages_first doc.root.declared (sub_elements doc.root.children))
    (λ h. absurd (false-true h), tt))

-- ## Features, also those that are skipped

abbrev pub is_member_role : Role → Bool
is_member_role r = is_feature_role r || is_skipped_role r

abbrev Ordered : List Entry → Type 0
Ordered es = Behind is_class_role is_member_role false es

one : (r : Role) → is_member_role r ≡ false → is_class_role r ≡ false → (s : Site) (es : List Entry) → Ordered es → Ordered (entry r s ∷ es)
one r h k s es o = (λ m. absurd (false-true (sym h ∙ m)), subst (λ b. Behind is_class_role is_member_role b es) (sym k) o)

join : (xs ys : List Entry) → Ordered xs → Ordered ys → Ordered (xs ++ ys)
join = behind_append is_class_role is_member_role false

choose : (test : Bool) (xs ys : List Entry) → Ordered xs → Ordered ys → Ordered (if test then xs else ys)
choose = behind_if is_class_role is_member_role false

others : (outer : List Prefix) (es : List Element) → Ordered (other_children outer es)
others outer [] = tt
others outer (e ∷ es) = join _ _ (choose (is_quiet e) [] (entry Stray (site outer e) ∷ []) tt (one Stray refl refl (site outer e) [] tt)) (others outer es)

in_enum : (outer : List Prefix) (es : List Element) → Ordered (enum_children outer es)
in_enum outer [] = tt
in_enum outer (e ∷ es) = join _ _
    (choose (is_named (codes "eLiterals") e) (entry Literal (site outer e) ∷ other_children (e.declared ++ outer) (sub_elements e.children)) _
    (one Literal refl refl (site outer e) (other_children (e.declared ++ outer) (sub_elements e.children)) (others (e.declared ++ outer) (sub_elements e.children)))
    (choose (is_quiet e) [] (entry Stray (site outer e) ∷ []) tt (one Stray refl refl (site outer e) [] tt)))
    (in_enum outer es)

in_classifier : (s : Site) → Ordered (classifier s)
in_classifier s =
    choose (is_typed (codes "EClass") s) (entry Class s ∷ class_children s.scope (sub_elements s.element.children)) _
    (λ h. absurd (false-true h), behind_all is_class_role is_member_role (class_children s.scope (sub_elements s.element.children)))
    (choose (is_typed (codes "EEnum") s) (entry Enum s ∷ enum_children s.scope (sub_elements s.element.children)) _
    (one Enum refl refl s (enum_children s.scope (sub_elements s.element.children)) (in_enum s.scope (sub_elements s.element.children)))
    (choose (is_typed (codes "EDataType") s) (entry Data s ∷ other_children s.scope (sub_elements s.element.children)) (entry Stray s ∷ [])
    (one Data refl refl s (other_children s.scope (sub_elements s.element.children)) (others s.scope (sub_elements s.element.children)))
    (one Stray refl refl s [] tt)))

in_package : (outer : List Prefix) (es : List Element) → Ordered (package_children outer es)
in_package outer [] = tt
in_package outer (e ∷ es) = join _ _
    (choose (is_named (codes "eClassifiers") e) (classifier (site outer e)) _ (in_classifier (site outer e))
    (choose (is_named (codes "eSubpackages") e) (entry SubPackage (site outer e) ∷ []) _ (one SubPackage refl refl (site outer e) [] tt)
    (choose (is_quiet e) [] (entry Stray (site outer e) ∷ []) tt (one Stray refl refl (site outer e) [] tt))))
    (in_package outer es)

whole_package : (s : Site) → Ordered (package_outline s)
whole_package s = one Package refl refl s (package_children s.scope (sub_elements s.element.children)) (in_package s.scope (sub_elements s.element.children))

around : (outer : List Prefix) (es : List Element) → Ordered (around_children outer es)
around outer [] = tt
around outer (e ∷ es) = join _ _
    (choose (is_package e) (package_outline (site outer e)) (entry Stray (site outer e) ∷ []) (whole_package (site outer e)) (one Stray refl refl (site outer e) [] tt))
    (around outer es)

pub members_behind : (doc : Doc) → Behind is_class_role is_member_role false (outline doc)
members_behind doc =
    choose (is_package doc.root) (package_outline (site [] doc.root)) _ (whole_package (site [] doc.root))
    (choose (is_around doc.root) (entry Around (site [] doc.root) ∷ around_children doc.root.declared (sub_elements doc.root.children)) (entry Stray (site [] doc.root) ∷ [])
    (one Around refl refl (site [] doc.root) (around_children doc.root.declared (sub_elements doc.root.children)) (around doc.root.declared (sub_elements doc.root.children)))
    (one Stray refl refl (site [] doc.root) [] tt))
