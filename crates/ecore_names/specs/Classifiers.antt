-- The classifiers of a file in their order, each with what a path tells it by: its name, and the number and name of its package.
use Rattle.std.specs.Prelude.{ℕ, ◌-◌, ◌==◌, ◌&&◌, Bool, List, [], ◌∷◌, bytes_eq, if◌then◌else◌}
use Rattle.std.specs.Option.{option_map_or}
use Rattle.ecore_outline.specs.Outline.{Entry, is_classifier_role, is_package_role, name_of}
use Rattle.xmi_text.specs.Fragments.{Path}
use Rattle.xmi_text.specs.Numbers.{is_number}
use Rattle.ecore_names.specs.References.{Target, OfData, Stand, first_stand, past, target_here, is_holder}
use Rattle.ecore_names.specs.Types.{DataType, plain, own_type}
use Rattle.ecore_meta.specs.declared.parts.FeatKind.TheVariants.{Opaque}
use Rattle.ecore_meta.specs.Valid.{number_of}
use Rattle.xmi_text.specs.Keys.{Key, place_of}

pub record Classifier : Type 0 where
  pub name : List ℕ
  pub number : ℕ
  pub holder : List ℕ
  pub target : Target

abbrev pub classifier_here : Stand → Entry → Classifier
classifier_here s e = record { name = name_of e; number = s.packages - 1; holder = s.holder; target = target_here s e }

abbrev pub classifiers_from : Stand → List Entry → List Classifier
classifiers_from s [] = []
classifiers_from s (e ∷ es) = if is_classifier_role e.role then classifier_here s e ∷ classifiers_from (past s e) es else classifiers_from (past s e) es

abbrev pub classifiers_in : List Entry → List Classifier
classifiers_in = classifiers_from first_stand

-- one that a path names
abbrev pub is_named : Path → Classifier → Bool
is_named p c = bytes_eq p.name c.name && is_holder p c.number c.holder

-- one that it names by its package's number, or by its package's name
abbrev pub is_numbered : Path → Classifier → Bool
is_numbered p c = (is_number p.holder && number_of p.holder == c.number) && bytes_eq p.name c.name

abbrev pub is_of_holder : Path → Classifier → Bool
is_of_holder p c = bytes_eq p.holder c.holder && bytes_eq p.name c.name

-- ## Packages of one name

abbrev pub holders_from : List Entry → List Key
holders_from [] = []
holders_from (e ∷ es) = if is_package_role e.role then (0, name_of e) ∷ holders_from es else holders_from es

-- the names of all packages, behind an empty one
abbrev pub holders_in : List Entry → List Key
holders_in file = (0, []) ∷ holders_from file

-- where a name stands first among these
abbrev pub alias_of : List Key → List ℕ → ℕ
alias_of keys name = option_map_or (λ place. place) (place_of 0 name keys) 0

-- the type that a data type of the file's own gives; what is none counts as opaque
abbrev pub data_of : Target → DataType
data_of (OfData e) = own_type e
data_of t = plain Opaque

-- a classifier as its table has it
pub record Row : Type 0 where
  pub name : List ℕ
  pub number : ℕ
  pub alias : ℕ
  pub target : Target
  pub gives : DataType

abbrev pub row_in : List Key → Classifier → Row
row_in keys c = record { name = c.name; number = c.number; alias = alias_of keys c.holder; target = c.target; gives = data_of c.target }

abbrev pub named : Row → Key
named r = (0, r.name)

abbrev pub numbered : Row → Key
numbered r = (r.number, r.name)

abbrev pub aliased : Row → Key
aliased r = (r.alias, r.name)

abbrev pub row_target : Row → Target
row_target r = r.target

abbrev pub row_data : Row → DataType
row_data r = r.gives
