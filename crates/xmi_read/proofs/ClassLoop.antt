-- One class after the other: its features stand in front of those of later classes.
use Rattle.std.proofs.Common.{◌≡◌, ℕ, zero, suc, ◌+◌, ◌<◌, ◌≤◌, List, [], ◌∷◌, ◌++◌, length, get_or, map, drop, refl, sym, ap, ◌∙◌, subst, append_assoc, arith}
use Rattle.std.specs.Prelude.{filter_map}
use Rattle.std.proofs.Math.Seq.{drop-nil}
use Rattle.std.proofs.lemmas.List.{length-map, drop_more, drop-map, length-drop}
use Rattle.atl_base.specs.declared.numbers.FeatId.{FeatId}
use Rattle.ecore_meta.specs.declared.parts.Class.{Class}
use Rattle.ecore_rows.specs.declared.rows.ClassRow.{ClassRow as CodeClassRow}
use Rattle.ecore_rows.specs.declared.rows.FeatureRow.{FeatureRow as CodeFeatureRow}
use Rattle.ecore_outline.specs.Outline.{Entry}
use Rattle.ecore_names.specs.References.{class_named}
use Rattle.ecore_rows.specs.Rows.{ClassRow, class_rows, super_numbers, FeatureRow, feature_rows}
use Rattle.xmi_read.specs.Parts.{own_of, class_of, classes_from}
use Rattle.ecore_rows.specs.Runs.{IsRising}
use Rattle.xmi_read.specs.Groups.{own_run}
use Rattle.ecore_rows.specs.CodeRows.{class_row_of, class_rows_of, feature_row_of, feature_rows_of}
use Rattle.xmi_read.proofs.ClassParts.{made, made_is, own_run_length}
use Rattle.xmi_text.proofs.Lists.{get_or_map}
use Rattle.ecore_rows.proofs.Rising.{features_rise}
use Rattle.xmi_read.proofs.Runs.{run_is, rise_past, own_past}

drop_drop : {X : Type 0} (m b : ℕ) (xs : List X) → drop m (drop b xs) ≡ drop (b + m) xs
drop_drop m zero xs =
    let same : m ≡ 0 + m = omega arith in
    ap (λ n. drop n xs) same
drop_drop m (suc b) [] = drop-nil m ∙ sym (drop-nil (suc b + m))
drop_drop m (suc b) (x ∷ xs) =
    let same : suc (b + m) ≡ suc b + m = omega arith in
    drop_drop m b xs ∙ ap (λ n. drop n (x ∷ xs)) same

at_same : {X : Type 0} (xs : List X) (i : ℕ) (d e : X) → i < length xs → get_or xs i d ≡ get_or xs i e
at_same [] i d e l = absurd (omega (arith, l))
at_same (x ∷ xs) zero d e l = refl
at_same (x ∷ xs) (suc i) d e l = at_same xs i d e (omega (arith, l))

-- ## Supertypes

pub supers_at : (file : List Entry) (rows : List CodeClassRow) (supers : List (List ℕ)) → class_rows_of rows ≡ class_rows file → supers ≡ super_numbers file
    → (i : ℕ) (row : CodeClassRow) (numbers : List ℕ) → i < length rows → row ≡ get_or rows i row → numbers ≡ get_or supers i numbers
    → numbers ≡ filter_map (class_named file) (class_row_of row).supers
supers_at file rows supers same are i row numbers l is at =
    let all : supers ≡ map by (class_rows_of rows) = are ∙ ap (map by) (sym same) in
    let within : i < length (map by (class_rows_of rows)) = omega (arith, l, length-map (class_rows_of rows) by, length-map rows class_row_of) in
    at
    ∙ ap (λ s. get_or s i numbers) all
    ∙ at_same (map by (class_rows_of rows)) i numbers (by (class_row_of row)) within
    ∙ get_or_map by (class_rows_of rows) i (class_row_of row)
    ∙ ap by (get_or_map class_row_of rows i row)
    ∙ ap (λ r. by (class_row_of r)) (sym is)
  where
    by : ClassRow → List ℕ
    by row = filter_map (class_named file) row.supers

-- ## Features

module _ (file : List Entry) (features : List CodeFeatureRow) (same : feature_rows_of features ≡ feature_rows file) where
  abbrev pub from : ℕ → List FeatureRow
  from begin = feature_rows_of (drop begin features)

  abbrev pub AreOwn : ℕ → ℕ → Type 0
  AreOwn i begin = (class : ℕ) → i ≤ class → own_of file class begin (from begin) ≡ own_of file class 0 (feature_rows_of features)

  pub rising_first : IsRising 0 (feature_rows_of features)
  rising_first = subst (IsRising 0) (sym same) (features_rise file)

  module _ (i begin : ℕ) (within : begin ≤ length features) (rising : IsRising i (from begin)) (are : AreOwn i begin) (own : List FeatId) (is : own ≡ own_run i begin (from begin)) where
    pub own_is : own ≡ own_of file i 0 (feature_rows file)
    own_is =
        let first : i ≤ i = omega arith in
        is ∙ sym (run_is file i begin (from begin) rising) ∙ are i first ∙ ap (own_of file i 0) same

    pub own_within : begin + length own ≤ length features
    own_within = omega (arith, within, ap length is, own_run_length i begin (from begin), length-map (drop begin features) feature_row_of, length-drop begin features)

    past : (n : ℕ) → n ≡ length own → drop (length (own_run i begin (from begin))) (from begin) ≡ from (begin + n)
    past n e =
        let m : ℕ = length (own_run i begin (from begin)) in
        let number : m ≡ n = ap length (sym is) ∙ sym e in
        drop-map feature_row_of m (drop begin features) ∙ ap feature_rows_of (drop_drop m begin features) ∙ ap (λ k. from (begin + k)) number

    pub rising_past : (n : ℕ) → n ≡ length own → IsRising (i + 1) (from (begin + n))
    rising_past n e =
        let next : suc i ≡ i + 1 = omega arith in
        subst (λ k. IsRising k (from (begin + n))) next (subst (IsRising (suc i)) (past n e) (rise_past file i begin (from begin) rising))

    pub are_past : (n : ℕ) → n ≡ length own → AreOwn (i + 1) (begin + n)
    are_past n e class l =
        let m : ℕ = length (own_run i begin (from begin)) in
        let number : begin + n ≡ begin + m = omega (arith, e, ap length is) in
        ap (λ rows. own_of file class (begin + n) rows) (sym (past n e))
        ∙ ap (λ k. own_of file class k (drop m (from begin))) number
        ∙ own_past file i class begin (from begin) (omega (arith, l))
        ∙ are class (omega (arith, l))

-- ## What is told so far

pub told_past : (file : List Entry) (rows : List CodeClassRow) (i : ℕ) (row : CodeClassRow) (list new : List Class) (supers : List ℕ) (own : List FeatId)
    → i < length rows → row ≡ get_or rows i row → new ≡ list ++ (made (class_row_of row) supers own ∷ [])
    → supers ≡ filter_map (class_named file) (class_row_of row).supers → own ≡ own_of file i 0 (feature_rows file)
    → list ++ classes_from file i (class_rows_of (drop i rows)) ≡ classes_from file 0 (class_rows_of rows)
    → new ++ classes_from file (i + 1) (class_rows_of (drop (i + 1) rows)) ≡ classes_from file 0 (class_rows_of rows)
told_past file rows i row list new supers own l is pushed s o told =
    let next : i + 1 ≡ suc i = omega arith in
    let rest : List ClassRow = class_rows_of (drop (i + 1) rows) in
    let parts : class_rows_of (drop i rows) ≡ class_row_of row ∷ rest = ap class_rows_of (drop_more rows i row l) ∙ ap (λ r. class_row_of r ∷ rest) (sym is) in
    ap (λ x. x ++ classes_from file (i + 1) rest) (pushed ∙ ap (λ c. list ++ (c ∷ [])) (made_is file (class_row_of row) i supers own s o))
    ∙ append_assoc list (class_of file i (class_row_of row) ∷ []) (classes_from file (i + 1) rest)
    ∙ ap (λ k. list ++ (class_of file i (class_row_of row) ∷ classes_from file k rest)) next
    ∙ ap (λ rs. list ++ classes_from file i rs) (sym parts)
    ∙ told
