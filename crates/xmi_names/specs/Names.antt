-- What a metamodel says by names: classes by namespace and name, the features of a class, and the names that only skipped features
-- bear there. (XMI 2.0: a class is named by its package's namespace and its name; Ecore: eAllStructuralFeatures.)
use Rattle.std.specs.Prelude.{ℕ, ◌&&◌, not, Bool, false, List, bytes_eq, find, map, nat_lt, position, slice_get, Option, Some, None, is_some, if◌then◌else◌}
use Rattle.std.specs.Option.{option_map_or}
use Rattle.std.specs.List.{list_any}
use Rattle.atl_base.specs.declared.numbers.ClassId.{ClassId}
use Rattle.atl_base.specs.declared.numbers.FeatId.{FeatId}
use Rattle.ecore_meta.specs.declared.parts.Class.{Class}
use Rattle.ecore_meta.specs.declared.parts.Parts.{Parts}
use Rattle.ecore_meta.specs.Inheritance.{features, name_of}
use Rattle.ecore_meta.specs.Valid.{class_of}
use Rattle.xmi_text.specs.Options.{then_}
use Rattle.xmi_text.specs.Inheriting.{conforms}

-- ## Classes

abbrev pub is_class_named : Parts → List ℕ → List ℕ → Class → Bool
is_class_named meta space name class = bytes_eq class.name name && option_map_or (λ p. bytes_eq p.uri space) (slice_get meta.packages class.«package») false

-- The class at a place. Numbers of classes have 32 bits, so past the first 4,294,967,296 there is none.
abbrev pub class_at : ℕ → Option ClassId
class_at n = if nat_lt n 4294967296 then Some (record { 0 = n }) else None

-- the class of this name in the package of this namespace
abbrev pub class_named : Parts → List ℕ → List ℕ → Option ClassId
class_named meta space name = then_ (position (is_class_named meta space name) meta.classes) class_at

-- one class conforms to another
abbrev pub is_sub : Parts → ClassId → ClassId → Bool
is_sub meta c d = conforms (map (λ class. map (λ s. s.0) class.supers) meta.classes) c.0 d.0

-- ## Features

abbrev pub feature_named : Parts → ClassId → List ℕ → Option FeatId
feature_named meta class name = find (λ f. bytes_eq (name_of meta.features f) name) (features meta.classes class)

-- a name that only skipped features bear there
abbrev pub is_skipped : Parts → ClassId → List ℕ → Bool
is_skipped meta class name = not (is_some (feature_named meta class name)) && list_any (λ s. bytes_eq s.name name && is_sub meta class s.owner) meta.skipped

abbrev pub class_said : Parts → FeatId → Option ClassId
class_said meta f = option_map_or (λ feature. class_of feature.kind) (slice_get meta.features f.0) None
