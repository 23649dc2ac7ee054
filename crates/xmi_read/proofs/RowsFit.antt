-- The numbers in the rows of a file fit, where the file is not too long; and defaults of types are text.
use Rattle.std.proofs.Common.{◌≡◌, ℕ, suc, ◌<◌, ◌≤◌, List, [], ◌∷◌, ◌++◌, length, get_or, map, refl, sym, ap, subst, arith}
use Rattle.std.specs.Prelude.{Bool, true, false, Option, Some, None, All, filter_map, if◌then◌else◌}
use Rattle.std.specs.List.{cons_option}
use Rattle.std.proofs.lemmas.List.{length-append, length-map}
use Rattle.std.proofs.lemmas.List.Elements.{All-nil, All-cons}
use Rattle.ecore_meta.specs.declared.parts.FeatKind.{FeatKind}
use Rattle.ecore_meta.specs.declared.parts.FeatKind.TheVariants.{Str, Int, Truth, Enum, Opaque, Refer}
use Rattle.ecore_meta.specs.Valid.{IsKindWithin}
use Rattle.ecore_outline.specs.declared.outline.Role.{Role}
use Rattle.ecore_outline.specs.declared.outline.Role.TheVariants.{Attribute, Reference}
use Rattle.ecore_outline.specs.Outline.{Entry, entry, is_package_role, is_class_role, is_enum_role, is_feature_role, count}
use Rattle.ecore_names.specs.References.{class_named, feature_named, Kept}
use Rattle.ecore_rows.specs.Rows.{Typed, ByData, ByClass, Foreign, Untyped, typed, ClassRow, class_rows, FeatureRow, feature_rows}
use Rattle.xmi_read.specs.Sizes.{IsSmallKind, IsSmallType}
use Rattle.ecore_rows.specs.declared.rows.ClassRow.{ClassRow as CodeClassRow}
use Rattle.ecore_rows.specs.declared.rows.FeatureRow.{FeatureRow as CodeFeatureRow}
use Rattle.ecore_rows.specs.CodeRows.{class_row_of, class_rows_of, feature_row_of, feature_rows_of}
use Rattle.ecore_outline.specs.Texts.{AreTexts}
use Rattle.xmi_read.specs.TypeTexts.{HasTextDefault}
use Rattle.xmi_read.proofs.DataTypes.{AttributeFits, ReferenceFits, attribute_fits, reference_fits}
use Rattle.xmi_text.proofs.Lists.{get_or_map}
use Rattle.ecore_faults.proofs.Roles.{features}
use Rattle.ecore_outline.proofs.Splits.{all_rows, length-rows}
use Rattle.ecore_rows.proofs.RowLists.{class_row, feature_row, the_classes, the_features}
use Rattle.xmi_read.proofs.Tables.{tables, class_count, enum_count}
use Rattle.ecore_names.proofs.Targets.{class_named_within, feature_named_at}
use Rattle.xmi_read.proofs.TextsOf.{typed_default}

pub count_within : (of : Role → Bool) (es : List Entry) → count of es ≤ length es
count_within of [] = omega arith
count_within of (e ∷ es) = by (of e.role) (count_within of es)
  where
    by : (b : Bool) → count of es ≤ length es → (if b then suc (count of es) else count of es) ≤ suc (length es)
    by true h = omega (arith, h)
    by false h = omega (arith, h)

before_within : (of : Role → Bool) (file b : List Entry) (e : Entry) (h : List Entry) → file ≡ b ++ (e ∷ h) → count of b ≤ length file
before_within of file b e h s = omega (arith, ap length s, length-append b (e ∷ h), count_within of b)

module _ (file : List Entry) (small : length file ≤ 4294967294) where
  -- ## Features

  small_kind : (k : FeatKind) → IsKindWithin (tables file) k → IsSmallKind k
  small_kind (Enum e) h = omega (arith, h, enum_count file, count_within is_enum_role file, small)
  small_kind Str h = tt
  small_kind Int h = tt
  small_kind Truth h = tt
  small_kind Opaque h = tt
  small_kind (Refer class contains opposite) h = tt

  small_attribute : (t : Typed) → AttributeFits file t → IsSmallType t
  small_attribute (ByData t) h = small_kind t.kind h.within
  small_attribute (ByClass c) h = absurd h
  small_attribute (Foreign w) h = tt
  small_attribute (Untyped w) h = tt

  small_reference : (t : Typed) → ReferenceFits file t → IsSmallType t
  small_reference (ByData t) h = absurd h
  small_reference (ByClass c) h = omega (arith, h, class_count file, count_within is_class_role file, small)
  small_reference (Foreign w) h = tt
  small_reference (Untyped w) h = tt

  small_type : (e : Entry) (behind : List Entry) → is_feature_role e.role ≡ true → IsSmallType (typed file e behind)
  small_type e behind = features (λ e. IsSmallType (typed file e behind))
      (λ s. small_attribute (typed file (entry Attribute s) behind) (attribute_fits file s behind))
      (λ s. small_reference (typed file (entry Reference s) behind) (reference_fits file s behind)) e

  pub record FeatureFits (row : FeatureRow) : Type 0 where
    pub owner : row.owner ≤ 4294967294
    pub type : IsSmallType row.type
    pub default : HasTextDefault row.type

  pub features_fit : AreTexts file → All FeatureFits (feature_rows file)
  features_fit texts = subst (All FeatureFits) (sym (the_features file)) (all_rows is_feature_role (feature_row file) file FeatureFits
      (λ b e h s r. record {
        owner = omega (arith, before_within is_class_role file b e h s, small);
        type = small_type e h r;
        default = typed_default file texts e h;
      }))

  pub features_small : length (feature_rows file) ≤ 4294967294
  features_small = omega (arith, ap length (the_features file), length-rows is_feature_role (feature_row file) [] file, count_within is_feature_role file, small)

  pub named_small : (word : List ℕ) (g : ℕ) (d : Entry) → feature_named file word ≡ Some (Kept g d) → g ≤ 4294967294
  named_small word g d h =
      let w = feature_named_at file word g d h in
      omega (arith, w.number, ap length w.whole, length-append w.before (d ∷ w.behind), count_within is_feature_role w.before, small)

  -- ## Classes

  pub classes_fit : All (λ row. row.holder ≤ 4294967294) (class_rows file)
  classes_fit = subst (All (λ row. row.holder ≤ 4294967294)) (sym (the_classes file)) (all_rows is_class_role class_row file (λ row. row.holder ≤ 4294967294)
      (λ b e h s r. omega (arith, before_within is_package_role file b e h s, small)))

  pub supers_small : (words : List (List ℕ)) → All (λ n. n ≤ 4294967294) (filter_map (class_named file) words)
  supers_small [] = All-nil (λ n. n ≤ 4294967294)
  supers_small (w ∷ words) = by (class_named file w) refl (supers_small words)
    where
      by : (o : Option ℕ) → class_named file w ≡ o → All (λ n. n ≤ 4294967294) (filter_map (class_named file) words) → All (λ n. n ≤ 4294967294) (cons_option o (filter_map (class_named file) words))
      by None e h = h
      by (Some c) e h = All-cons (λ n. n ≤ 4294967294) c (filter_map (class_named file) words) (omega (arith, class_named_within file w c e, count_within is_class_role file, small)) h

-- what holds of each of these holds of the one in a place
pub all_at : {X Y : Type 0} (P : Y → Type 0) (f : X → Y) (xs : List X) (k : ℕ) (d : X) → All P (map f xs) → k < length xs → P (f (get_or xs k d))
all_at P f xs k d h l = subst P (get_or_map f xs k d) (h k (f d) (omega (arith, l, length-map xs f)))

-- The rows of the code: those at a place.
module _ (file : List Entry) (small : length file ≤ 4294967294) where
  pub feature_fits : AreTexts file → (rows : List CodeFeatureRow) → feature_rows_of rows ≡ feature_rows file → (i : ℕ) (row : CodeFeatureRow) → i < length rows → row ≡ get_or rows i row → FeatureFits file small (feature_row_of row)
  feature_fits texts rows same i row l is =
      subst (λ r. FeatureFits file small (feature_row_of r)) (sym is)
      (all_at (FeatureFits file small) feature_row_of rows i row (subst (All (FeatureFits file small)) (sym same) (features_fit file small texts)) l)

  pub class_fits : (rows : List CodeClassRow) → class_rows_of rows ≡ class_rows file → (i : ℕ) (row : CodeClassRow) → i < length rows → row ≡ get_or rows i row → row.holder ≤ 4294967294
  class_fits rows same i row l is =
      subst (λ (r : CodeClassRow). r.holder ≤ 4294967294) (sym is)
      (all_at (λ (r : ClassRow). r.holder ≤ 4294967294) class_row_of rows i row (subst (All (λ (r : ClassRow). r.holder ≤ 4294967294)) (sym same) (classes_fit file small)) l)
