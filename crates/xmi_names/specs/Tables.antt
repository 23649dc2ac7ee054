-- What the tables of a metamodel's names say: where each package stands first by its namespace, each class by its package and name,
-- and each literal by its enumeration and text; and which names only skipped features may bear in each class.
use Rattle.std.specs.Prelude.{◌≡◌, ℕ, suc, ◌<◌, ◌==◌, ◌&&◌, Bool, List, [], ◌∷◌, ◌++◌, bytes_eq, is_some, map, slice_index_or, if◌then◌else◌}
use Rattle.std.specs.HashMap.{HashMap}
use Rattle.std.specs.List.{list_any}
use Rattle.atl_base.specs.declared.numbers.ClassId.{ClassId}
use Rattle.ecore_meta.specs.declared.parts.Class.{Class}
use Rattle.ecore_meta.specs.declared.parts.EnumDef.{EnumDef}
use Rattle.ecore_meta.specs.declared.parts.Literal.{Literal}
use Rattle.ecore_meta.specs.declared.parts.Package.{Package}
use Rattle.ecore_meta.specs.declared.parts.Parts.{Parts}
use Rattle.ecore_meta.specs.declared.parts.Skipped.{Skipped}
use Rattle.ecore_meta.specs.Valid.{IsMetamodel}
use Rattle.ecore_meta.specs.Order.{class_no}
use Rattle.xmi_text.specs.Keys.{Key, has_place, AreFirsts}
use Rattle.xmi_text.specs.declared.keys.Key.{Key as CodeKey}
use Rattle.xmi_names.specs.declared.tables.Tables.{Tables}
use Rattle.xmi_names.specs.Names.{is_sub}

abbrev pub package_key : Package → Key
package_key p = (0, p.uri)

abbrev pub class_key : Class → Key
class_key class = (class.«package», class.name)

abbrev pub literal_key : ℕ → Literal → Key
literal_key number l = (number, l.text)

-- the literals of enumerations, which are numbered from here on
abbrev pub literal_keys_from : ℕ → List EnumDef → List Key
literal_keys_from number [] = []
literal_keys_from number (e ∷ es) = map (literal_key number) e.literals ++ literal_keys_from (suc number) es

abbrev pub literal_keys : List EnumDef → List Key
literal_keys = literal_keys_from 0

-- ## Skipped features

-- a skipped feature of this name that is seen in a class
abbrev pub has_skipped : Parts → ClassId → List ℕ → Bool
has_skipped meta class name = list_any (λ s. bytes_eq s.name name && is_sub meta class s.owner) meta.skipped

-- the names of those that the class of this number declares
abbrev pub names_of : ℕ → List Skipped → List (List ℕ)
names_of d [] = []
names_of d (s ∷ ss) = if s.owner.0 == d then s.name ∷ names_of d ss else names_of d ss

-- names under a number
abbrev pub keyed : ℕ → List (List ℕ) → List Key
keyed number = map (λ name. (number, name))

-- what stands under the number of a class, by a list for each class
abbrev pub texts_of : List CodeKey → List (List ℕ)
texts_of = map (λ k. k.text.now)

abbrev pub names_in : List (List CodeKey) → ℕ → List (List ℕ)
names_in rows d = texts_of (slice_index_or rows d [])

-- a table leads somewhere from a class and a name exactly where such a feature is seen
abbrev pub AreSkipped : {S : Type 0} → Parts → HashMap CodeKey ℕ S → Type 0
AreSkipped meta places = (n : ℕ) (q : List ℕ) → n < 4294967296 → is_some (has_place places n q) ≡ has_skipped meta (class_no n) q

-- ## All tables

pub record AreTables (meta : Parts) (t : Tables) : Type 0 where
  pub valid : IsMetamodel meta
  pub packages : AreFirsts t.packages (map package_key meta.packages)
  pub classes : AreFirsts t.classes (map class_key meta.classes)
  pub skipped : AreSkipped meta t.skipped
  pub literals : AreFirsts t.literals (literal_keys meta.enums)
