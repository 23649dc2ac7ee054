-- What the tables of a metamodel hold, class by class.
use Rattle.std.specs.Prelude.{◌≡◌, ℕ, ◌<◌, ◌↔◌, List, [], length, slice_index, slice_index_or, nat_eq, Contains, Some, IsSome, String}
use Rattle.std.specs.HashMap.{HashMap, get, get_by_text}
use Rattle.std.specs.declared.alloc.Global.{Global}
use Rattle.std.specs.declared.hash.FoldHasher.{FoldHasher}
use Rattle.std.specs.declared.hash.BuildHasherDefault.{BuildHasherDefault}
use Rattle.std.specs.List.Sorted.{IsStrictlyIncreasing}
use Rattle.atl_base.specs.declared.numbers.FeatId.{FeatId}
use Rattle.ecore_meta.specs.declared.parts.Class.{Class}
use Rattle.ecore_meta.specs.declared.parts.Feature.{Feature}
use Rattle.ecore_meta.specs.declared.parts.Parts.{Parts}
use Rattle.ecore_meta.specs.Inheritance.{Conforms, features, name_of}
use Rattle.ecore_meta.specs.Order.{class_no}
use Rattle.ecore_meta.specs.Valid.{IsMetamodel}

-- the features that are seen in each class
pub record AreFeatureLists (classes : List Class) (lists : List (List FeatId)) : Type 0 where
  pub lengths : length lists ≡ length classes
  pub each : (c : ℕ) → c < length classes → slice_index_or lists c [] ≡ features classes (class_no c)

-- the places of the classes that each class conforms to, each once and rising
pub record AreConformed (classes : List Class) (lists : List (List ℕ)) : Type 0 where
  pub lengths : length lists ≡ length classes
  pub rising : (c : ℕ) → c < length classes → IsStrictlyIncreasing (slice_index_or lists c [])
  pub each : (c d : ℕ) → c < length classes → Contains (slice_index_or lists c []) d ↔ Conforms classes (class_no c) (class_no d)

-- from names to places of features, and from such places to features
abbrev pub Firsts : Type 0
Firsts = HashMap (String Global) ℕ (BuildHasherDefault FoldHasher)

abbrev pub Row : Type 0
Row = HashMap ℕ FeatId (BuildHasherDefault FoldHasher)

-- for each name of a feature the place of one that bears it
pub record AreFirsts (all : List Feature) (firsts : Firsts) : Type 0 where
  pub bears : (name : List ℕ) (i : ℕ) → get_by_text firsts name ≡ Some i → (i < length all) × (name_of all (record { 0 = i }) ≡ name)
  pub each : (f : FeatId) → f.0 < length all → IsSome (get_by_text firsts (name_of all f))

-- for each feature the place that its name leads to
pub record ArePlacesOf (all : List Feature) (firsts : Firsts) (places : List ℕ) : Type 0 where
  pub lengths : length places ≡ length all
  pub each : (f : FeatId) → f.0 < length all → get_by_text firsts (name_of all f) ≡ Some (slice_index places f.0)

-- some features, each under its place among these
pub record IsRow (places : List ℕ) (seen : List FeatId) (row : Row) : Type 0 where
  pub found : (i : ℕ) (f : FeatId) → get nat_eq row i ≡ Some f → Contains seen f × (slice_index places f.0 ≡ i)
  pub each : (f : FeatId) → Contains seen f → get nat_eq row (slice_index places f.0) ≡ Some f

-- some features, each under the place that its name leads to
pub record AreNamed (all : List Feature) (firsts : Firsts) (seen : List FeatId) (row : Row) : Type 0 where
  pub found : (i : ℕ) (f : FeatId) → get nat_eq row i ≡ Some f → Contains seen f × (get_by_text firsts (name_of all f) ≡ Some i)
  pub each : (i : ℕ) (f : FeatId) → Contains seen f → get_by_text firsts (name_of all f) ≡ Some i → get nat_eq row i ≡ Some f

-- the features of each class by their names
pub record AreNamedRows (classes : List Class) (all : List Feature) (firsts : Firsts) (rows : List Row) : Type 0 where
  pub lengths : length rows ≡ length classes
  pub each : (c : ℕ) (d : Row) → c < length classes → AreNamed all firsts (features classes (class_no c)) (slice_index_or rows c d)

-- all tables of a metamodel
pub record AreTables (m : Parts) (seen : List (List FeatId)) (conformed : List (List ℕ)) (firsts : Firsts) (rows : List Row) : Type 0 where
  pub valid : IsMetamodel m
  pub lists : AreFeatureLists m.classes seen
  pub conforming : AreConformed m.classes conformed
  pub names : AreFirsts m.features firsts
  pub named : AreNamedRows m.classes m.features firsts rows
