-- The supertypes of each class by their numbers: there are as many rows as classes, and each supertype is a class.
use Rattle.std.proofs.Common.{◌≡◌, ℕ, ◌<◌, ◌≤◌, List, [], length, get_or, sym, ap, ◌∙◌, subst, ⊎_elim, arith}
use Rattle.std.specs.Prelude.{filter_map, Contains}
use Rattle.std.proofs.lemmas.Bool.{cases_lt}
use Rattle.std.proofs.lemmas.List.{get_or_past, length-map}
use Rattle.std.proofs.lemmas.List.Elements.{All-map, All-get_or}
use Rattle.xmi_text.proofs.Lists.{in_filter_map}
use Rattle.ecore_outline.specs.Outline.{Entry, is_class_role, count}
use Rattle.ecore_outline.proofs.Splits.{length-rows}
use Rattle.ecore_names.specs.References.{class_named}
use Rattle.ecore_names.proofs.Targets.{class_named_within}
use Rattle.ecore_rows.specs.Rows.{ClassRow, class_rows, super_numbers}
use Rattle.ecore_rows.proofs.RowLists.{class_row, the_classes}

module _ (file : List Entry) where
  abbrev pub numbers_of : ClassRow → List ℕ
  numbers_of row = filter_map (class_named file) row.supers

  pub super_count : length (super_numbers file) ≡ count is_class_role file
  super_count = length-map (class_rows file) numbers_of ∙ ap length (the_classes file) ∙ length-rows is_class_role class_row [] file

  empty : (s : ℕ) → Contains [] s → ⊥
  empty s m = omega (arith, m.1)

  -- each supertype is a class
  pub row_within : (c s : ℕ) → Contains (get_or (super_numbers file) c []) s → s < count is_class_role file
  row_within c s m = ⊎_elim
      (λ (h : c < length (super_numbers file)).
      All-get_or (λ ks. (k : ℕ) → Contains ks k → k < count is_class_role file) (super_numbers file) c [] h
      (All-map (λ ks. (k : ℕ) → Contains ks k → k < count is_class_role file) numbers_of (class_rows file)
      (λ i d l k n.
      let r = in_filter_map (class_named file) (get_or (class_rows file) i d).supers k n in
      class_named_within file r.0 k r.2)) s m)
      (λ (h : length (super_numbers file) ≤ c). absurd (empty s (subst (λ l. Contains l s) (get_or_past (super_numbers file) c [] h) m)))
      (cases_lt c (length (super_numbers file)))

  pub number_within : (c s : ℕ) → Contains (get_or (super_numbers file) c []) s → s < length (super_numbers file)
  number_within c s m = subst (λ n. s < n) (sym super_count) (row_within c s m)

  pub has_supers : (c s : ℕ) → Contains (get_or (super_numbers file) c []) s → c < length (super_numbers file)
  has_supers c s m = ⊎_elim
      (λ (h : c < length (super_numbers file)). h)
      (λ (h : length (super_numbers file) ≤ c). absurd (empty s (subst (λ l. Contains l s) (get_or_past (super_numbers file) c [] h) m)))
      (cases_lt c (length (super_numbers file)))
