-- References within a file: to a class by its package and name, to a feature by its class and name.
use Rattle.std.specs.Prelude.{ℕ, suc, ◌-◌, ◌==◌, ◌&&◌, ◌||◌, Bool, true, false, List, [], ◌∷◌, bytes_eq, Option, Some, None, if◌then◌else◌}
use Rattle.std.specs.Option.{option_or}
use Rattle.doc_text.specs.declared.tree.Element.{Element}
use Rattle.ecore_meta.specs.Valid.{number_of}
use Rattle.ecore_outline.specs.Outline.{Entry, is_package_role, is_class_role, is_enum_role, is_classifier_role, is_feature_role, is_skipped_role, name_of}
use Rattle.xmi_text.specs.Numbers.{is_number}
use Rattle.xmi_text.specs.Fragments.{names_file, fragment, parts_of, Path, path_of, feature_path_of}
use Rattle.xmi_text.specs.Options.{then_}

-- ## Packages by number or name

-- A package of this number, from 0, and name: the path names it, or any.
abbrev pub is_holder : Path → ℕ → List ℕ → Bool
is_holder p number name = bytes_eq p.holder [] || (is_number p.holder && number_of p.holder == number) || bytes_eq p.holder name

-- ## What a path names

-- a class by its number, an enumeration by its number, or a data type of the file's own
pub data Target : Type 0 where
  OfClass : ℕ → Target
  OfEnum : ℕ → Target
  OfData : Element → Target

-- how many packages, classes and enumerations stand before, and the last package's name
pub record Stand : Type 0 where
  pub packages : ℕ
  pub holder : List ℕ
  pub classes : ℕ
  pub enums : ℕ

abbrev pub first_stand : Stand
first_stand = record { packages = 0; holder = []; classes = 0; enums = 0 }

abbrev pub past : Stand → Entry → Stand
past s e = record {
  packages = if is_package_role e.role then suc s.packages else s.packages;
  holder = if is_package_role e.role then name_of e else s.holder;
  classes = if is_class_role e.role then suc s.classes else s.classes;
  enums = if is_enum_role e.role then suc s.enums else s.enums;
}

abbrev pub target_here : Stand → Entry → Target
target_here s e = if is_class_role e.role then OfClass s.classes else if is_enum_role e.role then OfEnum s.enums else OfData e.site.element

abbrev pub is_named_by : Path → Stand → Entry → Bool
is_named_by p s e = is_classifier_role e.role && bytes_eq (name_of e) p.name && is_holder p (s.packages - 1) s.holder

-- the first classifier that a path names
abbrev pub target_from : Path → Stand → List Entry → Option Target
target_from p s [] = None
target_from p s (e ∷ es) = if is_named_by p s e then Some (target_here s e) else target_from p (past s e) es

abbrev pub target : List Entry → Path → Option Target
target file p = target_from p first_stand file

abbrev pub local_target : List Entry → List ℕ → Option Target
local_target file word = then_ (path_of (parts_of (fragment word))) (target file)

abbrev pub class_of : Target → Option ℕ
class_of (OfClass c) = Some c
class_of t = None

-- the class that a word names
abbrev pub class_named : List Entry → List ℕ → Option ℕ
class_named file word = then_ (local_target file word) class_of

-- ## Features

pub data Own : Type 0 where
  -- an attribute or a reference by its number, with its entry
  Kept : ℕ → Entry → Own
  -- one that is derived, volatile or transient
  Skips : Own

-- what an entry declares among the attributes and references, or among what is left out
abbrev pub own_here : Bool → ℕ → Entry → Option Own
own_here true f e = if is_feature_role e.role then Some (Kept f e) else None
own_here false f e = if is_skipped_role e.role then Some Skips else None

-- the first of this name that a class declares from here on, where so many classes and features stand before
abbrev pub own_from : Bool → ℕ → List ℕ → ℕ → ℕ → List Entry → Option Own
own_from kept class name c f [] = None
own_from kept class name c f (e ∷ es) = option_or
    (if c == suc class && bytes_eq (name_of e) name then own_here kept f e else None)
    (own_from kept class name (if is_class_role e.role then suc c else c) (if is_feature_role e.role then suc f else f) es)

-- A class's own feature of this name: an attribute or a reference goes before what is left out.
abbrev pub own_feature : ℕ → List ℕ → List Entry → Option Own
own_feature class name file = option_or (own_from true class name 0 0 file) (own_from false class name 0 0 file)

abbrev pub own_named : List Entry → Path × List ℕ → Option Own
own_named file r = then_ (then_ (target file r.0) class_of) (λ class. own_feature class r.1 file)

-- the feature that a word names
abbrev pub feature_named : List Entry → List ℕ → Option Own
feature_named file word = if names_file word then None else then_ (feature_path_of (parts_of (fragment word))) (own_named file)
