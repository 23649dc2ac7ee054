-- The types of attributes: the data types of Ecore, those of the file, and enumerations; each with the default that it gives.
-- (Ecore: EDataType, instanceClassName; the data types of the metamodel `ecore`.)
use Rattle.std.specs.Prelude.{ℕ, List, [], ◌∷◌, codes, bytes_eq, find, Option, Some, None, if◌then◌else◌}
use Rattle.std.specs.Option.{option_map_or}
use Rattle.doc_text.specs.declared.tree.Element.{Element}
use Rattle.ecore_meta.specs.declared.parts.FeatKind.{FeatKind}
use Rattle.ecore_meta.specs.declared.parts.FeatKind.TheVariants.{Str, Int, Truth, Enum, Opaque}
use Rattle.xmi_text.specs.Markup.{given, or_empty, ecore_space}
use Rattle.ecore_outline.specs.Outline.{Entry}
use Rattle.xmi_text.specs.Options.{then_}
use Rattle.ecore_names.specs.References.{Target, OfClass, OfEnum, OfData, local_target}
use Rattle.xmi_text.specs.Fragments.{file_of, behind_hash, behind_slashes}
use Rattle.ecore_outline.specs.Enumerations.{literals_of, first_text}

-- a kind of attribute, and the default of its type
pub record DataType : Type 0 where
  pub kind : FeatKind
  pub default : Option (List ℕ)

abbrev pub plain : FeatKind → DataType
plain k = record { kind = k; default = None }

abbrev pub with_default : FeatKind → List ℕ → DataType
with_default k text = record { kind = k; default = Some text }

-- the type of the first row that bears the name
abbrev pub typed_by : List (List ℕ × DataType) → List ℕ → DataType
typed_by rows name = option_map_or (λ row. row.1) (find (λ row. bytes_eq row.0 name) rows) (plain Opaque)

unfoldable pub ecore_types : List (List ℕ × DataType)
ecore_types =
    (codes "EString", plain Str)
    ∷ (codes "EInt", with_default Int (codes "0")) ∷ (codes "ELong", with_default Int (codes "0")) ∷ (codes "EShort", with_default Int (codes "0")) ∷ (codes "EByte", with_default Int (codes "0"))
    ∷ (codes "EIntegerObject", plain Int) ∷ (codes "ELongObject", plain Int) ∷ (codes "EShortObject", plain Int) ∷ (codes "EByteObject", plain Int) ∷ (codes "EBigInteger", plain Int)
    ∷ (codes "EBoolean", with_default Truth (codes "false")) ∷ (codes "EBooleanObject", plain Truth) ∷ []

unfoldable pub instance_types : List (List ℕ × DataType)
instance_types =
    (codes "java.lang.String", plain Str)
    ∷ (codes "int", with_default Int (codes "0")) ∷ (codes "long", with_default Int (codes "0")) ∷ (codes "short", with_default Int (codes "0")) ∷ (codes "byte", with_default Int (codes "0"))
    ∷ (codes "java.lang.Integer", plain Int) ∷ (codes "java.lang.Long", plain Int) ∷ (codes "java.lang.Short", plain Int) ∷ (codes "java.lang.Byte", plain Int)
    ∷ (codes "boolean", with_default Truth (codes "false")) ∷ (codes "java.lang.Boolean", plain Truth) ∷ []

-- data types of the file that name no Java class go by their own names
unfoldable pub named_types : List (List ℕ × DataType)
named_types = (codes "String", plain Str) ∷ (codes "Integer", plain Int) ∷ (codes "Boolean", plain Truth) ∷ []

abbrev pub own_type : Element → DataType
own_type e = option_map_or (typed_by instance_types) (given (codes "instanceClassName") e) (typed_by named_types (or_empty (given (codes "name") e)))

-- a data type of another file: Ecore's by name, all others are opaque
abbrev pub foreign_type : List ℕ → DataType
foreign_type word = if bytes_eq (file_of word) ecore_space then typed_by ecore_types (behind_slashes (behind_hash word)) else plain Opaque

-- ## Attributes

abbrev pub type_of_target : List Entry → Target → Option DataType
type_of_target file (OfClass c) = None
type_of_target file (OfEnum e) = Some (record { kind = Enum e; default = first_text (literals_of file e) })
type_of_target file (OfData d) = Some (own_type d)

abbrev pub local_type : List Entry → List ℕ → Option DataType
local_type file word = then_ (local_target file word) (type_of_target file)
