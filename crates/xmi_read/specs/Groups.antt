-- What belongs to an element, by what stands behind it: literals to an enumeration, features to a class.
use Rattle.std.specs.Prelude.{ℕ, suc, ◌==◌, List, [], ◌∷◌, if◌then◌else◌}
use Rattle.atl_base.specs.declared.numbers.FeatId.{FeatId}
use Rattle.ecore_meta.specs.declared.parts.EnumDef.{EnumDef}
use Rattle.ecore_meta.specs.declared.parts.Literal.{Literal}
use Rattle.ecore_meta.specs.declared.parts.Package.{Package}
use Rattle.ecore_outline.specs.Outline.{Entry, is_package_role, is_enum_role, name_of}
use Rattle.ecore_outline.specs.Enumerations.{is_literal_role, literal_text}
use Rattle.ecore_rows.specs.Rows.{FeatureRow}
use Rattle.xmi_read.specs.Parts.{feature_no}
use Rattle.ecore_outline.specs.Forms.{uri_of, prefix_of}

abbrev pub package_at : Entry → Package
package_at e = record { name = name_of e; uri = uri_of e; prefix = prefix_of e }

abbrev pub packages_in : List Entry → List Package
packages_in [] = []
packages_in (e ∷ es) = if is_package_role e.role then package_at e ∷ packages_in es else packages_in es

abbrev pub literal_at : Entry → Literal
literal_at e = record { name = name_of e; text = literal_text e }

-- the literals in front of the next enumeration
abbrev pub literals_behind : List Entry → List Literal
literals_behind [] = []
literals_behind (e ∷ es) = if is_enum_role e.role then [] else if is_literal_role e.role then literal_at e ∷ literals_behind es else literals_behind es

-- the enumerations, each with the literals behind it
abbrev pub enums_in : List Entry → List EnumDef
enums_in [] = []
enums_in (e ∷ es) = if is_enum_role e.role then record { name = name_of e; literals = literals_behind es } ∷ enums_in es else enums_in es

-- the features of a class that stand first, from a number on
abbrev pub own_run : ℕ → ℕ → List FeatureRow → List FeatId
own_run class n [] = []
own_run class n (row ∷ rows) = if row.owner == class then feature_no n ∷ own_run class (suc n) rows else []
