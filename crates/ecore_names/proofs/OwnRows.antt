-- A class's own feature of a name is the first row of that class and name.
use Rattle.std.proofs.Common.{◌≡◌, ℕ, zero, suc, List, [], ◌∷◌, ◌++◌, map, refl, sym, ap, ◌∙◌, ⊎_elim, arith}
use Rattle.std.specs.Prelude.{Bool, true, false, cond, ◌==◌, ◌&&◌, bytes_eq, Option, Some, None, option_map, slice_get, find, if◌then◌else◌}
use Rattle.std.specs.Option.{option_map_or, option_or}
use Rattle.std.proofs.lemmas.Bool.{cases_eq, eq-eqb, ne_eqb}
use Rattle.std.proofs.lemmas.List.Folds.{find-append}
use Rattle.ecore_names.specs.declared.owns.Owns.{Owns}
use Rattle.ecore_outline.specs.Outline.{Entry, is_class_role, is_feature_role, name_of}
use Rattle.xmi_text.specs.Options.{then_}
use Rattle.ecore_names.specs.References.{Own, own_here, own_from, own_feature}
use Rattle.ecore_names.specs.Targets.{own_of}
use Rattle.xmi_text.specs.Keys.{Key, is_key, has_place}
use Rattle.ecore_names.specs.Owns.{OwnRow, row_key, row_own, owns_from, owns_of}
use Rattle.ecore_names.specs.FileTables.{AreOwns}
use Rattle.xmi_text.proofs.Positions.{position_map, found_at}

pub same_suc : (k n : ℕ) → (suc k == suc n) ≡ (k == n)
same_suc k n = ⊎_elim
    (λ e. eq-eqb (suc k) (suc n) (ap suc e) ∙ sym (eq-eqb k n e))
    (λ e. ne_eqb (suc k) (suc n) (λ s. e (omega (arith, s))) ∙ sym (ne_eqb k n e))
    (cases_eq k n)

pub zero_suc : (n : ℕ) → (zero == suc n) ≡ false
zero_suc n = ne_eqb zero (suc n) (λ s. omega (arith, s))

module _ (class : ℕ) (name : List ℕ) where
  abbrev is_it : OwnRow → Bool
  is_it r = is_key class name (row_key r)

  -- a row of this class, or of another one
  here : (s q m : Bool) → s ≡ q → (o : Option Own) (k : Key) (rest : Option Own) (rows : List OwnRow) → is_key class name k ≡ (q && m) → rest ≡ option_map row_own (find is_it rows)
      → option_or (if s && m then o else None) rest ≡ option_map row_own (find is_it (option_map_or (λ own. record { key = k; own = own } ∷ []) o [] ++ rows))
  here s q m e None k rest rows i h = by (s && m) ∙ h
    where
      by : (t : Bool) → option_or (if t then None else None) rest ≡ rest
      by true = refl
      by false = refl
  here s q m e (Some own) k rest rows i h = ap (λ t. option_or (if t && m then Some own else None) rest) e ∙ by (q && m) i
    where
      by : (t : Bool) → is_key class name k ≡ t → option_or (if t then Some own else None) rest ≡ option_map row_own (cond (is_key class name k) (Some (record { key = k; own = own })) (find is_it rows))
      by true i = sym (ap (λ t. option_map row_own (cond t (Some (record { key = k; own = own })) (find is_it rows))) i)
      by false i = h ∙ sym (ap (λ t. option_map row_own (cond t (Some (record { key = k; own = own })) (find is_it rows))) i)

  no_class : (m : Bool) (o rest : Option Own) → option_or (if zero == suc class && m then o else None) rest ≡ rest
  no_class m o rest = ap (λ t. option_or (if t && m then o else None) rest) (zero_suc class)

  own_is : (kept : Bool) (c f : ℕ) (es : List Entry) → own_from kept class name c f es ≡ option_map row_own (find is_it (owns_from kept c f es))
  own_is kept c f [] = refl
  own_is kept zero f (e ∷ es) =
      no_class (bytes_eq (name_of e) name) (own_here kept f e) _
      ∙ own_is kept (if is_class_role e.role then suc zero else zero) (if is_feature_role e.role then suc f else f) es
  own_is kept (suc k) f (e ∷ es) =
      here (suc k == suc class) (k == class) (bytes_eq (name_of e) name) (same_suc k class) (own_here kept f e) (k, name_of e) _ _ refl
      (own_is kept (if is_class_role e.role then suc (suc k) else suc k) (if is_feature_role e.role then suc f else f) es)

  -- the first of two lists, or else of the second
  first_of_both : (xs ys : List OwnRow) → option_or (option_map row_own (find is_it xs)) (option_map row_own (find is_it ys)) ≡ option_map row_own (find is_it (xs ++ ys))
  first_of_both xs ys = by (find is_it xs) (find is_it ys) ∙ sym (ap (option_map row_own) (find-append is_it xs ys))
    where
      by : (o p : Option OwnRow) → option_or (option_map row_own o) (option_map row_own p) ≡ option_map row_own (option_or o p)
      by (Some r) p = refl
      by None p = refl

  feature_is : (file : List Entry) → own_feature class name file ≡ option_map row_own (find is_it (owns_of file))
  feature_is file =
      ap (λ o. option_or o (own_from false class name 0 0 file)) (own_is true 0 0 file)
      ∙ ap (option_or (option_map row_own (find is_it (owns_from true 0 0 file)))) (own_is false 0 0 file)
      ∙ first_of_both (owns_from true 0 0 file) (owns_from false 0 0 file)

  pub own_named_is : (file : List Entry) (t : Owns) → AreOwns file t → own_feature class name file ≡ then_ (has_place t.places class name) (slice_get (map own_of t.owns.items))
  own_named_is file t h =
      feature_is file
      ∙ found_at is_it row_own (owns_of file)
      ∙ ap (λ o. then_ o (slice_get (map row_own (owns_of file)))) (sym (position_map (is_key class name) row_key 0 (owns_of file)) ∙ sym (h.places class name))
      ∙ ap (λ l. then_ (has_place t.places class name) (slice_get l)) (sym h.owns)
