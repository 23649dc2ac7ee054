-- Which packages, classes, features and enumerations make a metamodel: conditions on the five lists, each by its name.
-- (After Ecore; which parts of it there are is this project's choice.)
use Rattle.std.specs.Prelude.{◌≡◌, ◌≢◌, ℕ, ◌<◌, ◌≤◌, ◌&&◌, ◌↔◌, ◌⊎◌, ◌*◌, ◌+◌, ◌-◌, ◌^◌, Bool, true, false, List, [], ◌∷◌, ◌++◌, length, map, codes, fold, slice_get, Contains, AllPairs, Option, Some, None, All, IfSome, option_map}
use Rattle.std.specs.Option.{option_map_or}
use Rattle.std.specs.List.{list_all}
use Rattle.std.specs.Int.{is_in_range}
use Rattle.atl_base.specs.declared.numbers.ClassId.{ClassId}
use Rattle.atl_base.specs.declared.numbers.FeatId.{FeatId}
use Rattle.ecore_meta.specs.declared.parts.Parts.{Parts}
use Rattle.ecore_meta.specs.declared.parts.Feature.{Feature}
use Rattle.ecore_meta.specs.declared.parts.FeatKind.{FeatKind}
use Rattle.ecore_meta.specs.declared.parts.FeatKind.TheVariants.{Str, Int, Truth, Enum, Opaque, Refer}
use Rattle.ecore_meta.specs.Inheritance.{IsAcyclic, supers_of, own_of, features, name_of}
use Rattle.ecore_meta.specs.Names.{IsName, IsPrefix, IsUri, HasNoDot}

-- no two are the same
abbrev pub AllDiffer : {X : Type 0} → List X → Type 0
AllDiffer xs = AllPairs (λ x y. x ≢ y) xs

-- the owner of a feature
abbrev pub owner_of : List Feature → FeatId → Option ClassId
owner_of features f = option_map (λ feature. feature.owner) (slice_get features f.0)

-- ## Texts of a type

-- decimal digits and their number
pub record IsDigits (text : List ℕ) : Type 0 where
  pub some : text ≢ []
  pub digits : list_all (is_in_range 48 57) text ≡ true

abbrev pub number_of : List ℕ → ℕ
number_of digits = fold (λ n digit. 10 * n + (digit - 48)) 0 digits

-- an optional `-` and digits, of a signed number of 64 bits
abbrev pub IsIntText : List ℕ → Type 0
IsIntText text = (IsDigits text × (number_of text < 2 ^ 63))
    ⊎ ((digits : List ℕ) × (text ≡ 45 ∷ digits) × IsDigits digits × (number_of digits ≤ 2 ^ 63))

-- a text of an attribute's type; a reference has none
abbrev pub IsTextOf : Parts → FeatKind → List ℕ → Type 0
IsTextOf m Str text = Unit {0}
IsTextOf m Int text = IsIntText text
IsTextOf m Truth text = (text ≡ codes "true") ⊎ (text ≡ codes "false")
IsTextOf m (Enum e) text = Contains (map (λ l. l.text) (option_map_or (λ d. d.literals) (slice_get m.enums e) [])) text
IsTextOf m Opaque text = Unit {0}
IsTextOf m (Refer class contains opposite) text = ⊥

-- ## References

abbrev pub is_reference : FeatKind → Bool
is_reference (Refer class contains opposite) = true
is_reference _ = false

abbrev pub is_containment : FeatKind → Bool
is_containment (Refer class contains opposite) = contains
is_containment _ = false

abbrev pub class_of : FeatKind → Option ClassId
class_of (Refer class contains opposite) = Some class
class_of _ = None

abbrev pub opposite_of : FeatKind → Option FeatId
opposite_of (Refer class contains opposite) = opposite
opposite_of _ = None

-- the feature f and the other one, which f names as its opposite
pub record AreOpposite (f : FeatId) (feature other : Feature) : Type 0 where
  pub returned : opposite_of other.kind ≡ Some f
  pub there : class_of feature.kind ≡ Some other.owner
  pub back : class_of other.kind ≡ Some feature.owner
  pub one_contains : (is_containment feature.kind && is_containment other.kind) ≡ false

-- ## Conditions on all lists

-- the numbers in a type
abbrev pub IsKindWithin : Parts → FeatKind → Type 0
IsKindWithin m (Enum e) = e < length m.enums
IsKindWithin m (Refer class contains opposite) = (class.0 < length m.classes) × IfSome opposite (λ g. g.0 < length m.features)
IsKindWithin m _ = Unit {0}

-- every number in a field is a place in its list
pub record ArePlaces (m : Parts) : Type 0 where
  pub packages : All (λ c. c.package < length m.packages) m.classes
  pub supers : (c s : ClassId) → Contains (supers_of m.classes c) s → s.0 < length m.classes
  pub own : (c : ClassId) (f : FeatId) → Contains (own_of m.classes c) f → f.0 < length m.features
  pub owners : All (λ f. f.owner.0 < length m.classes) m.features
  pub kinds : All (λ f. IsKindWithin m f.kind) m.features
  pub skipped : All (λ s. s.owner.0 < length m.classes) m.skipped

-- which names, prefixes and namespaces there may be
pub record AreNames (m : Parts) : Type 0 where
  pub packages : All (λ p. IsName p.name × IsPrefix p.prefix × IsUri p.uri) m.packages
  pub classes : All (λ c. IsName c.name) m.classes
  pub features : All (λ f. IsName f.name × HasNoDot f.name) m.features
  pub enums : All (λ e. IsName e.name × All (λ l. IsName l.name) e.literals) m.enums

pub record IsMetamodel (m : Parts) : Type 0 where
  pub places : ArePlaces m
  -- no class is its own proper supertype
  pub acyclic : IsAcyclic m.classes
  -- each feature is among its owner's own, once, and among no others'
  pub owners : (c : ClassId) (f : FeatId) → Contains (own_of m.classes c) f ↔ (owner_of m.features f ≡ Some c)
  pub own_differ : (c : ClassId) → AllDiffer (own_of m.classes c)
  -- the features that are seen in one class differ in name
  pub seen_differ : (c : ClassId) → c.0 < length m.classes → AllDiffer (map (name_of m.features) (features m.classes c))
  -- the default of an attribute is a text of its type
  pub defaults : All (λ f. is_reference f.kind ≡ false → IfSome f.default (IsTextOf m f.kind)) m.features
  -- opposites name each other and fit, and do not both contain
  pub opposites : (f g : FeatId) (feature other : Feature) → slice_get m.features f.0 ≡ Some feature → opposite_of feature.kind ≡ Some g
      → slice_get m.features g.0 ≡ Some other → AreOpposite f feature other
  -- classes and enumerations differ in name
  pub classifiers_differ : AllDiffer (map (λ c. c.name) m.classes ++ map (λ e. e.name) m.enums)
  -- the literals of one enumeration differ in name and in text
  pub literals_differ : All (λ e. AllDiffer (map (λ l. l.name) e.literals) × AllDiffer (map (λ l. l.text) e.literals)) m.enums
  -- packages differ in uri and in prefix
  pub uris_differ : AllDiffer (map (λ p. p.uri) m.packages)
  pub prefixes_differ : AllDiffer (map (λ p. p.prefix) m.packages)
  pub names : AreNames m
