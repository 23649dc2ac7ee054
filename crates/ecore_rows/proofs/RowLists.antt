-- The rows of a file: of its classes and of its features, an item for each in their order.
use Rattle.std.proofs.Common.{◌≡◌, suc, ◌-◌, List, [], ◌∷◌, ◌++◌, map, refl, sym, ap, ◌∙◌}
use Rattle.std.specs.Prelude.{Bool, true, false, if◌then◌else◌}
use Rattle.ecore_outline.specs.declared.outline.Role.{Role}
use Rattle.ecore_outline.specs.declared.outline.Role.TheVariants.{Class as ClassRole, Attribute, Reference}
use Rattle.ecore_outline.specs.Outline.{Entry, is_package_role, is_class_role, is_feature_role, count}
use Rattle.ecore_outline.proofs.Splits.{rows, count-push, count-push_other}
use Rattle.xmi_text.proofs.Tests.{false-true}
use Rattle.ecore_rows.specs.Rows.{ClassRow, class_rows_from, class_rows, super_words, supers_behind, FeatureRow, feature_rows_from, feature_rows, typed}

pub count-next : (of : Role → Bool) (b : List Entry) (e : Entry) → count of (b ++ (e ∷ [])) ≡ (if of e.role then suc (count of b) else count of b)
count-next of b e = by (of e.role) refl
  where
    by : (t : Bool) → of e.role ≡ t → count of (b ++ (e ∷ [])) ≡ (if t then suc (count of b) else count of b)
    by true h = count-push of b e h
    by false h = count-push_other of b e h

class_is_no_package : (r : Role) → is_class_role r ≡ true → is_package_role r ≡ false
class_is_no_package ClassRole h = refl
class_is_no_package r h = absurd (false-true h)

feature_is_no_class : (r : Role) → is_feature_role r ≡ true → is_class_role r ≡ false
feature_is_no_class Attribute h = refl
feature_is_no_class Reference h = refl
feature_is_no_class r h = absurd (false-true h)

-- a list of other items made of the same elements
pub map-rows : {A B : Type 0} (of : Role → Bool) (make : List Entry → Entry → List Entry → A) (f : A → B) (b rest : List Entry) → map f (rows of make b rest) ≡ rows of (λ b e h. f (make b e h)) b rest
map-rows of make f b [] = refl
map-rows of make f b (e ∷ es) = by (of e.role) (map-rows of make f (b ++ (e ∷ [])) es)
  where
    by : (t : Bool) → map f (rows of make (b ++ (e ∷ [])) es) ≡ rows of (λ b e h. f (make b e h)) (b ++ (e ∷ [])) es
        → map f (if t then make b e es ∷ rows of make (b ++ (e ∷ [])) es else rows of make (b ++ (e ∷ [])) es)
        ≡ (if t then f (make b e es) ∷ rows of (λ b e h. f (make b e h)) (b ++ (e ∷ [])) es else rows of (λ b e h. f (make b e h)) (b ++ (e ∷ [])) es)
    by true h = ap (λ l. f (make b e es) ∷ l) h
    by false h = h

-- ## Classes

abbrev pub class_row : List Entry → Entry → List Entry → ClassRow
class_row b e h = record { entry = e; holder = count is_package_role b - 1; supers = super_words e ++ supers_behind h }

class_rows_are : (b rest : List Entry) → class_rows_from (count is_package_role b) rest ≡ rows is_class_role class_row b rest
class_rows_are b [] = refl
class_rows_are b (e ∷ es) = by (class_rows_are (b ++ (e ∷ [])) es) (is_class_role e.role) refl
  where
    by : class_rows_from (count is_package_role (b ++ (e ∷ []))) es ≡ rows is_class_role class_row (b ++ (e ∷ [])) es
        → (t : Bool) → is_class_role e.role ≡ t
        → (if t then class_row b e es ∷ class_rows_from (count is_package_role b) es else class_rows_from (if is_package_role e.role then suc (count is_package_role b) else count is_package_role b) es)
        ≡ (if t then class_row b e es ∷ rows is_class_role class_row (b ++ (e ∷ [])) es else rows is_class_role class_row (b ++ (e ∷ [])) es)
    by later true h = ap (λ l. class_row b e es ∷ l) (ap (λ m. class_rows_from m es) (sym (count-push_other is_package_role b e (class_is_no_package e.role h))) ∙ later)
    by later false h = ap (λ m. class_rows_from m es) (sym (count-next is_package_role b e)) ∙ later

pub the_classes : (file : List Entry) → class_rows file ≡ rows is_class_role class_row [] file
the_classes file = class_rows_are [] file

-- ## Features

module _ (file : List Entry) where
  abbrev pub feature_row : List Entry → Entry → List Entry → FeatureRow
  feature_row b e h = record { entry = e; owner = count is_class_role b - 1; type = typed file e h }

  feature_rows_are : (b rest : List Entry) → feature_rows_from file (count is_class_role b) rest ≡ rows is_feature_role feature_row b rest
  feature_rows_are b [] = refl
  feature_rows_are b (e ∷ es) = by (feature_rows_are (b ++ (e ∷ [])) es) (is_feature_role e.role) refl
    where
      by : feature_rows_from file (count is_class_role (b ++ (e ∷ []))) es ≡ rows is_feature_role feature_row (b ++ (e ∷ [])) es
          → (t : Bool) → is_feature_role e.role ≡ t
          → (if t then feature_row b e es ∷ feature_rows_from file (count is_class_role b) es else feature_rows_from file (if is_class_role e.role then suc (count is_class_role b) else count is_class_role b) es)
          ≡ (if t then feature_row b e es ∷ rows is_feature_role feature_row (b ++ (e ∷ [])) es else rows is_feature_role feature_row (b ++ (e ∷ [])) es)
      by later true h = ap (λ l. feature_row b e es ∷ l) (ap (λ m. feature_rows_from file m es) (sym (count-push_other is_class_role b e (feature_is_no_class e.role h))) ∙ later)
      by later false h = ap (λ m. feature_rows_from file m es) (sym (count-next is_class_role b e)) ∙ later

  pub the_features : feature_rows file ≡ rows is_feature_role feature_row [] file
  the_features = feature_rows_are [] file
