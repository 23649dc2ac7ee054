-- A class, by its supertypes and its features.
use Rattle.std.proofs.Common.{◌≡◌, ℕ, suc, ◌≤◌, List, [], ◌∷◌, length, map, ap, ◌∙◌, arith}
use Rattle.std.specs.Prelude.{Bool, true, false, ◌||◌, ◌==◌, filter_map, codes, if◌then◌else◌}
use Rattle.atl_base.specs.declared.numbers.FeatId.{FeatId}
use Rattle.ecore_meta.specs.declared.parts.Class.{Class}
use Rattle.xmi_text.specs.Markup.{flag}
use Rattle.ecore_outline.specs.Outline.{Entry, name_of}
use Rattle.ecore_names.specs.References.{class_named}
use Rattle.ecore_rows.specs.Rows.{ClassRow, FeatureRow, feature_rows}
use Rattle.xmi_read.specs.Parts.{class_no, feature_no, class_of, own_of}
use Rattle.xmi_read.specs.Groups.{own_run}

-- what is made of a row
abbrev pub made : ClassRow → List ℕ → List FeatId → Class
made row supers own = record {
  name = name_of row.entry;
  «package» = row.holder;
  is_abstract = flag (codes "abstract") row.entry.site.element || flag (codes "interface") row.entry.site.element;
  supers = map class_no supers;
  own = own;
}

pub made_is : (file : List Entry) (row : ClassRow) (i : ℕ) (supers : List ℕ) (own : List FeatId) → supers ≡ filter_map (class_named file) row.supers → own ≡ own_of file i 0 (feature_rows file) → made row supers own ≡ class_of file i row
made_is file row i supers own p q = ap (λ s. made row s own) p ∙ ap (made row (filter_map (class_named file) row.supers)) q

pub own_run_length : (class n : ℕ) (rows : List FeatureRow) → length (own_run class n rows) ≤ length rows
own_run_length class n [] = omega arith
own_run_length class n (row ∷ rows) = by (row.owner == class) (own_run_length class (suc n) rows)
  where
    by : (b : Bool) → length (own_run class (suc n) rows) ≤ length rows → length (if b then feature_no n ∷ own_run class (suc n) rows else []) ≤ suc (length rows)
    by true h = omega (arith, h)
    by false h = omega arith
