-- What the tables say that a file is judged by: the supertypes of each class and the rows of features; and what has been counted.
use Rattle.std.specs.Prelude.{◌≡◌, List}
use Rattle.ecore_faults.specs.declared.first_fault.Tables.{Tables as CodeTables}
use Rattle.ecore_faults.specs.declared.first_fault.Counts.{Counts}
use Rattle.ecore_outline.specs.declared.outline.Role.TheVariants.{Stray}
use Rattle.ecore_outline.specs.Outline.{Entry, count, is_class_role, is_enum_role, is_feature_role}
use Rattle.ecore_faults.specs.Faults.{last_feature}
use Rattle.ecore_rows.specs.Walks.{LeadWithin}
use Rattle.ecore_rows.specs.Rows.{super_numbers, feature_rows}
use Rattle.ecore_rows.specs.CodeRows.{feature_rows_of}

-- the tables of a file
pub record AreTables (file : List Entry) (t : CodeTables) : Type 0 where
  pub supers : t.supers.items ≡ super_numbers file
  pub leads : LeadWithin t.supers.items
  pub features : feature_rows_of t.features.items ≡ feature_rows file

-- how many classes, enumerations and features stand in a part of a file, and the last feature's part
pub record AreCounted (file : List Entry) (c : Counts) (part : List Entry) : Type 0 where
  pub classes : c.classes ≡ count is_class_role part
  pub enums : c.enums ≡ count is_enum_role part
  pub features : c.features ≡ count is_feature_role part
  pub last : c.last ≡ last_feature file Stray part
