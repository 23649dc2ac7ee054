-- The five lists of a metamodel, each with an item for each element of its sort.
use Rattle.std.proofs.Common.{◌≡◌, suc, ◌-◌, List, [], ◌∷◌, ◌++◌, length, map, refl, sym, ap, ◌∙◌}
use Rattle.std.specs.Prelude.{Bool, true, false, cond, filter, if◌then◌else◌}
use Rattle.ecore_meta.specs.declared.parts.Class.{Class}
use Rattle.ecore_meta.specs.declared.parts.EnumDef.{EnumDef}
use Rattle.ecore_meta.specs.declared.parts.Package.{Package}
use Rattle.ecore_meta.specs.declared.parts.Skipped.{Skipped}
use Rattle.ecore_meta.specs.declared.parts.Parts.{Parts}
use Rattle.ecore_meta.specs.declared.parts.Feature.{Feature}
use Rattle.ecore_outline.specs.declared.outline.Role.{Role}
use Rattle.ecore_outline.specs.declared.outline.Role.TheVariants.{SkippedAttribute, SkippedReference}
use Rattle.ecore_outline.specs.Outline.{Entry, is_package_role, is_class_role, is_enum_role, is_feature_role, is_skipped_role, count, name_of}
use Rattle.ecore_outline.specs.Enumerations.{literals_of}
use Rattle.ecore_rows.proofs.RowLists.{count-next, map-rows, class_row, the_classes, feature_row, the_features}
use Rattle.xmi_read.specs.Parts.{class_no, package_of, class_of, classes_from, feature_of, literal_of, enums_from, skipped_from, parts_of}
use Rattle.ecore_outline.proofs.Splits.{rows, count-push, count-push_other, length-rows}
use Rattle.xmi_text.proofs.Tests.{false-true}

skipped_is_no_class : (r : Role) → is_skipped_role r ≡ true → is_class_role r ≡ false
skipped_is_no_class SkippedAttribute h = refl
skipped_is_no_class SkippedReference h = refl
skipped_is_no_class r h = absurd (false-true h)

-- ## Classes

module _ (file : List Entry) where
  abbrev pub class_made : List Entry → Entry → List Entry → Class
  class_made b e h = class_of file (count is_class_role b) (class_row b e h)

  classes_are : (b rest : List Entry) → classes_from file (count is_class_role b) (rows is_class_role class_row b rest) ≡ rows is_class_role class_made b rest
  classes_are b [] = refl
  classes_are b (e ∷ es) = by (classes_are (b ++ (e ∷ [])) es) (is_class_role e.role) refl
    where
      by : classes_from file (count is_class_role (b ++ (e ∷ []))) (rows is_class_role class_row (b ++ (e ∷ [])) es) ≡ rows is_class_role class_made (b ++ (e ∷ [])) es
          → (t : Bool) → is_class_role e.role ≡ t
          → classes_from file (count is_class_role b) (if t then class_row b e es ∷ rows is_class_role class_row (b ++ (e ∷ [])) es else rows is_class_role class_row (b ++ (e ∷ [])) es)
          ≡ (if t then class_made b e es ∷ rows is_class_role class_made (b ++ (e ∷ [])) es else rows is_class_role class_made (b ++ (e ∷ [])) es)
      by later true h = ap (λ l. class_made b e es ∷ l) (ap (λ m. classes_from file m (rows is_class_role class_row (b ++ (e ∷ [])) es)) (sym (count-push is_class_role b e h)) ∙ later)
      by later false h = ap (λ m. classes_from file m (rows is_class_role class_row (b ++ (e ∷ [])) es)) (sym (count-push_other is_class_role b e h)) ∙ later

  -- ## Features

  abbrev pub feature_made : List Entry → Entry → List Entry → Feature
  feature_made b e h = feature_of file (feature_row file b e h)

  -- ## Enumerations

  abbrev pub enum_made : List Entry → Entry → List Entry → EnumDef
  enum_made b e h = record { name = name_of e; literals = map (literal_of file) (literals_of file (count is_enum_role b)) }

  enums_are : (b rest : List Entry) → enums_from file (count is_enum_role b) rest ≡ rows is_enum_role enum_made b rest
  enums_are b [] = refl
  enums_are b (e ∷ es) = by (enums_are (b ++ (e ∷ [])) es) (is_enum_role e.role) refl
    where
      by : enums_from file (count is_enum_role (b ++ (e ∷ []))) es ≡ rows is_enum_role enum_made (b ++ (e ∷ [])) es
          → (t : Bool) → is_enum_role e.role ≡ t
          → (if t then enum_made b e es ∷ enums_from file (suc (count is_enum_role b)) es else enums_from file (count is_enum_role b) es)
          ≡ (if t then enum_made b e es ∷ rows is_enum_role enum_made (b ++ (e ∷ [])) es else rows is_enum_role enum_made (b ++ (e ∷ [])) es)
      by later true h = ap (λ l. enum_made b e es ∷ l) (ap (λ m. enums_from file m es) (sym (count-push is_enum_role b e h)) ∙ later)
      by later false h = ap (λ m. enums_from file m es) (sym (count-push_other is_enum_role b e h)) ∙ later

  -- ## Skipped features

  abbrev pub skipped_made : List Entry → Entry → List Entry → Skipped
  skipped_made b e h = record { owner = class_no (count is_class_role b - 1); name = name_of e }

  skipped_are : (b rest : List Entry) → skipped_from file (count is_class_role b) rest ≡ rows is_skipped_role skipped_made b rest
  skipped_are b [] = refl
  skipped_are b (e ∷ es) = by (skipped_are (b ++ (e ∷ [])) es) (is_skipped_role e.role) refl
    where
      by : skipped_from file (count is_class_role (b ++ (e ∷ []))) es ≡ rows is_skipped_role skipped_made (b ++ (e ∷ [])) es
          → (t : Bool) → is_skipped_role e.role ≡ t
          → (if t then skipped_made b e es ∷ skipped_from file (count is_class_role b) es else skipped_from file (if is_class_role e.role then suc (count is_class_role b) else count is_class_role b) es)
          ≡ (if t then skipped_made b e es ∷ rows is_skipped_role skipped_made (b ++ (e ∷ [])) es else rows is_skipped_role skipped_made (b ++ (e ∷ [])) es)
      by later true h = ap (λ l. skipped_made b e es ∷ l) (ap (λ m. skipped_from file m es) (sym (count-push_other is_class_role b e (skipped_is_no_class e.role h))) ∙ later)
      by later false h = ap (λ m. skipped_from file m es) (sym (count-next is_class_role b e)) ∙ later

  -- ## Packages

  abbrev pub package_made : List Entry → Entry → List Entry → Package
  package_made b e h = package_of file e

  packages_are : (b rest : List Entry) → map (package_of file) (filter (λ e. is_package_role e.role) rest) ≡ rows is_package_role package_made b rest
  packages_are b [] = refl
  packages_are b (e ∷ es) = by (packages_are (b ++ (e ∷ [])) es) (is_package_role e.role)
    where
      by : map (package_of file) (filter (λ e. is_package_role e.role) es) ≡ rows is_package_role package_made (b ++ (e ∷ [])) es
          → (t : Bool) → map (package_of file) (cond t (e ∷ filter (λ e. is_package_role e.role) es) (filter (λ e. is_package_role e.role) es))
          ≡ (if t then package_made b e es ∷ rows is_package_role package_made (b ++ (e ∷ [])) es else rows is_package_role package_made (b ++ (e ∷ [])) es)
      by later true = ap (λ l. package_of file e ∷ l) later
      by later false = later

  -- ## All five

  abbrev pub tables : Parts
  tables = record {
    packages = rows is_package_role package_made [] file;
    classes = rows is_class_role class_made [] file;
    features = rows is_feature_role feature_made [] file;
    enums = rows is_enum_role enum_made [] file;
    skipped = rows is_skipped_role skipped_made [] file;
  }

  abbrev parts : List Package → List Class → List Feature → List EnumDef → List Skipped → Parts
  parts ps cs fs es ss = record { packages = ps; classes = cs; features = fs; enums = es; skipped = ss }

  pub the_parts : tables ≡ parts_of file
  the_parts =
      let ps : rows is_package_role package_made [] file ≡ (parts_of file).packages = sym (packages_are [] file) in
      let cs : rows is_class_role class_made [] file ≡ (parts_of file).classes = sym (ap (classes_from file 0) (the_classes file) ∙ classes_are [] file) in
      let fs : rows is_feature_role feature_made [] file ≡ (parts_of file).features = sym (ap (map (feature_of file)) (the_features file) ∙ map-rows is_feature_role (feature_row file) (feature_of file) [] file) in
      let es : rows is_enum_role enum_made [] file ≡ (parts_of file).enums = sym (enums_are [] file) in
      let ss : rows is_skipped_role skipped_made [] file ≡ (parts_of file).skipped = sym (skipped_are [] file) in
      ap (λ ps. parts ps tables.classes tables.features tables.enums tables.skipped) ps
      ∙ ap (λ cs. parts (parts_of file).packages cs tables.features tables.enums tables.skipped) cs
      ∙ ap (λ fs. parts (parts_of file).packages (parts_of file).classes fs tables.enums tables.skipped) fs
      ∙ ap (λ es. parts (parts_of file).packages (parts_of file).classes (parts_of file).features es tables.skipped) es
      ∙ ap (λ ss. parts (parts_of file).packages (parts_of file).classes (parts_of file).features (parts_of file).enums ss) ss

  -- ## How many there are

  pub enum_count : length tables.enums ≡ count is_enum_role file
  enum_count = length-rows is_enum_role enum_made [] file

  pub class_count : length tables.classes ≡ count is_class_role file
  class_count = length-rows is_class_role class_made [] file
