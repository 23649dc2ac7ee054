-- What a class inherits: the classes that it conforms to, and the features that are seen in it.
-- (Ecore: EClass, eSuperTypes, eAllSuperTypes and eAllStructuralFeatures.)
use Rattle.std.specs.Prelude.{◌↔◌, ◌≡◌, ℕ, zero, suc, ◌<◌, ◌==◌, not, List, [], ◌∷◌, ◌++◌, length, slice_get, Contains, filter, flat_map}
use Rattle.std.specs.Option.{option_map_or}
use Rattle.atl_base.specs.declared.numbers.ClassId.{ClassId}
use Rattle.atl_base.specs.declared.numbers.FeatId.{FeatId}
use Rattle.ecore_meta.specs.declared.parts.Class.{Class}
use Rattle.ecore_meta.specs.declared.parts.Feature.{Feature}

-- the direct supertypes of a class, and the features that it declares
abbrev pub supers_of : List Class → ClassId → List ClassId
supers_of classes c = option_map_or (λ class. class.supers) (slice_get classes c.0) []

abbrev pub own_of : List Class → ClassId → List FeatId
own_of classes c = option_map_or (λ class. class.own) (slice_get classes c.0) []

-- A class conforms to itself, and to what one of its supertypes conforms to.
pub data Conforms (classes : List Class) : ClassId → ClassId → Type 0 where
  itself : {c : ClassId} → Conforms classes c c
  by_super : {c s d : ClassId} → Contains (supers_of classes c) s → Conforms classes s d → Conforms classes c d

-- no class is its own proper supertype
abbrev pub IsAcyclic : List Class → Type 0
IsAcyclic classes = (c s : ClassId) → Contains (supers_of classes c) s → ¬ (Conforms classes s c)

-- each feature once, where it stands first
abbrev pub distinct : List FeatId → List FeatId
distinct [] = []
distinct (f ∷ fs) = f ∷ filter (λ g. not (g.0 == f.0)) (distinct fs)

-- The features of the supertypes in their order, depth first and each once, then the class's own;
-- of supertypes that stand at most so many above it.
unfoldable pub features_within : ℕ → List Class → ClassId → List FeatId
features_within zero classes c = []
features_within (suc n) classes c = distinct (flat_map (features_within n classes) (supers_of classes c)) ++ own_of classes c

-- All of them: where no class is its own proper supertype, none stands higher than there are classes.
-- So features c ≡ distinct (flat_map features (supers_of c)) ++ own_of c: `features_law`.
unfoldable pub features : List Class → ClassId → List FeatId
features classes c = features_within (length classes) classes c

-- that equation, at each class
abbrev pub IsFeaturesLaw : List Class → Type 0
IsFeaturesLaw classes = (c : ClassId) → c.0 < length classes →
    features classes c ≡ distinct (flat_map (features classes) (supers_of classes c)) ++ own_of classes c

-- what is seen in a class is what the classes declare that it conforms to
abbrev pub IsSeenLaw : List Class → Type 0
IsSeenLaw classes = (c : ClassId) (f : FeatId) → c.0 < length classes →
    Contains (features classes c) f ↔ ((d : ClassId) × Conforms classes c d × Contains (own_of classes d) f)

-- the name of a feature
abbrev pub name_of : List Feature → FeatId → List ℕ
name_of features f = option_map_or (λ feature. feature.name) (slice_get features f.0) []
