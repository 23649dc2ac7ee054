-- Supertypes of a file without faults are classes, and no class inherits from itself.
use Rattle.std.proofs.Common.{◌≡◌, ℕ, ◌<◌, ◌≤◌, List, [], length, get_or, map, sym, ap, ◌∙◌, subst, ⊎_elim, arith}
use Rattle.std.specs.Prelude.{true, false, Some, None, slice_get, Contains}
use Rattle.std.proofs.lemmas.List.{length-map}
use Rattle.std.proofs.lemmas.Option.{slice_get_cases}
use Rattle.atl_base.specs.declared.numbers.ClassId.{ClassId}
use Rattle.ecore_meta.specs.Inheritance.{supers_of, Conforms, itself, by_super, IsAcyclic}
use Rattle.ecore_outline.specs.Outline.{Entry, is_class_role, count}
use Rattle.xmi_text.specs.Inheriting.{conforms, is_own_super}
use Rattle.ecore_rows.specs.Rows.{ClassRow, class_rows, super_numbers}
use Rattle.xmi_read.specs.Parts.{class_no}
use Rattle.ecore_faults.specs.Faults.{first_fault}
use Rattle.xmi_text.proofs.Lists.{get_mapped, get_or_map, map-map, in_map}
use Rattle.xmi_text.proofs.Paths.{Simple, one, further, passes, conforms_from}
use Rattle.ecore_faults.proofs.Sound.{fine}
use Rattle.ecore_outline.proofs.Splits.{rows, RowAt, row_at}
use Rattle.ecore_rows.proofs.RowLists.{class_row, map-rows, the_classes}
use Rattle.xmi_read.proofs.Tables.{tables, class_made, class_count}
use Rattle.ecore_rows.proofs.SuperNumbers.{numbers_of, super_count, row_within, number_within, has_supers}
use Rattle.xmi_text.proofs.Tests.{true-false, right_fails}

module _ (file : List Entry) where
  as_many : length (super_numbers file) ≡ length (tables file).classes
  as_many = super_count file ∙ sym (class_count file)

  pub supers_are : (c : ClassId) → supers_of (tables file).classes c ≡ map class_no (get_or (super_numbers file) c.0 [])
  supers_are c =
      get_mapped (λ k. k.supers) (tables file).classes c.0 []
      ∙ ap (λ l. get_or l c.0 [])
      (map-rows is_class_role (class_made file) (λ k. k.supers) [] file
      ∙ sym (map-rows is_class_role class_row (λ row. map class_no (numbers_of file row)) [] file)
      ∙ ap (map (λ row. map class_no (numbers_of file row))) (sym (the_classes file))
      ∙ sym (map-map (map class_no) (numbers_of file) (class_rows file)))
      ∙ get_or_map (map class_no) (super_numbers file) c.0 []

  -- a supertype by its number
  pub super_number : (c s : ClassId) → Contains (supers_of (tables file).classes c) s → Contains (get_or (super_numbers file) c.0 []) s.0
  super_number c s m =
      let r = in_map class_no (get_or (super_numbers file) c.0 []) s (subst (λ l. Contains l s) (supers_are c) m) in
      subst (λ (x : ClassId). Contains (get_or (super_numbers file) c.0 []) x.0) r.2 r.1

  pub supers_within : (c s : ClassId) → Contains (supers_of (tables file).classes c) s → s.0 < length (tables file).classes
  supers_within c s m = subst (λ n. s.0 < n) (sym (class_count file)) (row_within file c.0 s.0 (super_number c s m))

  simple : {c d : ClassId} → Conforms (tables file).classes c d → Simple (super_numbers file) c.0 d.0
  simple {c} itself = one (super_numbers file) c.0
  simple {c} {d} (by_super {s = s} up rest) = further (super_numbers file) c.0 s.0 d.0 (super_number c s up) (simple rest)

  -- all inheritance is found
  pub conforms_to : (c d : ClassId) → c.0 < length (tables file).classes → Conforms (tables file).classes c d → conforms (super_numbers file) c.0 d.0 ≡ true
  conforms_to c d l h = conforms_from (super_numbers file) (number_within file) c.0 d.0 (subst (λ n. c.0 < n) (sym as_many) l) (simple h)

  no_cycle : first_fault file ≡ None → (c : ℕ) (row : ClassRow) → RowAt is_class_role class_row [] file c row → is_own_super (super_numbers file) c ≡ false
  no_cycle none c row w =
      subst (λ n. is_own_super (super_numbers file) n ≡ false) w.number
      (right_fails (is_class_role w.here.role) (is_own_super (super_numbers file) (count is_class_role w.before)) w.role (fine file none w.before w.here w.behind w.whole).cycle)

  class_at : (c : ℕ) → c < length (rows is_class_role class_row [] file) → (row : ClassRow) × RowAt is_class_role class_row [] file c row
  class_at c l = ⊎_elim
      (λ (r : (x : ClassRow) × (c < length (rows is_class_role class_row [] file)) × (slice_get (rows is_class_role class_row [] file) c ≡ Some x) × (get_or (rows is_class_role class_row [] file) c x ≡ x)).
      (r.0, row_at is_class_role class_row [] file c r.0 r.2))
      (λ (r : (length (rows is_class_role class_row [] file) ≤ c) × (slice_get (rows is_class_role class_row [] file) c ≡ None)). absurd (omega (arith, r.0)))
      (slice_get_cases (rows is_class_role class_row [] file) c).1

  pub acyclic : first_fault file ≡ None → IsAcyclic (tables file).classes
  acyclic none c s m h =
      let up : Contains (get_or (super_numbers file) c.0 []) s.0 = super_number c s m in
      let here : c.0 < length (super_numbers file) = has_supers file c.0 s.0 up in
      let at : (row : ClassRow) × RowAt is_class_role class_row [] file c.0 row = class_at c.0 (subst (λ n. c.0 < n) (length-map (class_rows file) (numbers_of file) ∙ ap length (the_classes file)) here) in
      true-false
      (sym (passes (super_numbers file) c.0 c.0 (length (super_numbers file)) s.0 up (conforms_to s c (supers_within c s m) h))
      ∙ no_cycle none c.0 at.0 at.1)
