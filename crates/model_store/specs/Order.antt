-- What contains what, and the order of the objects: each before its contents, from the roots on.
-- (EMF: eContents, eAllContents; a containment reference holds its contents in the order of its slot.)
use Rattle.std.specs.Prelude.{◌≡◌, ℕ, zero, suc, List, [], ◌∷◌, ◌++◌, length, flat_map, Contains, if◌then◌else◌}
use Rattle.std.specs.Option.{option_map_or, IsSomeAnd}
use Rattle.atl_base.specs.declared.numbers.ClassId.{ClassId}
use Rattle.atl_base.specs.declared.numbers.FeatId.{FeatId}
use Rattle.atl_base.specs.declared.numbers.ObjId.{ObjId}
use Rattle.ecore_meta.specs.declared.parts.Parts.{Parts}
use Rattle.ecore_meta.specs.Inheritance.{Conforms, features}
use Rattle.model_store.specs.declared.parts.Cellv.{Cellv}
use Rattle.model_store.specs.declared.parts.Object.{Object}
use Rattle.model_store.specs.Contents.{Contents, object_at, class_of, contains, objects_of}

-- the contents of an object: those of its containment features in their order, of each by place
abbrev pub contents_in : Parts → List FeatId → List (List Cellv) → List ObjId
contents_in meta [] slots = []
contents_in meta (f ∷ fs) [] = []
contents_in meta (f ∷ fs) (cells ∷ slots) = (if contains meta f then objects_of cells else []) ++ contents_in meta fs slots

abbrev pub contents_of : Parts → Object → List ObjId
contents_of meta object = contents_in meta (features meta.classes object.class) object.slots

abbrev pub contents : Contents → ObjId → List ObjId
contents m o = option_map_or (contents_of m.meta) (object_at m.objects o) []

-- An object encloses itself, and what its contents enclose.
pub data Encloses (m : Contents) : ObjId → ObjId → Type 0 where
  itself : {o : ObjId} → Encloses m o o
  by_content : {o q p : ObjId} → Contains (contents m o) q → Encloses m q p → Encloses m o p

-- A containment cycle: an object is enclosed by one of its own contents.
abbrev pub IsOnCycle : Contents → ObjId → Type 0
IsOnCycle m o = (q : ObjId) × Contains (contents m o) q × Encloses m q o

abbrev pub HasNoCycle : Contents → Type 0
HasNoCycle m = (o : ObjId) → ¬ (IsOnCycle m o)

-- an object and all that stands in it at most so many levels below
unfoldable pub tree_within : ℕ → Contents → ObjId → List ObjId
tree_within zero m o = []
tree_within (suc n) m o = o ∷ flat_map (tree_within n m) (contents m o)

-- An object and all that stands in it. Without a cycle nothing stands more levels below than there are objects.
-- So tree o ≡ o ∷ flat_map tree (contents o): `tree_law`.
unfoldable pub tree : Contents → ObjId → List ObjId
tree m o = tree_within (suc (length m.objects)) m o

-- all objects from the roots on
abbrev pub preorder : Contents → List ObjId
preorder m = flat_map (tree m) m.roots

-- that equation, at each object
abbrev pub IsTreeLaw : Contents → Type 0
IsTreeLaw m = (o : ObjId) → tree m o ≡ o ∷ flat_map (tree m) (contents m o)

-- an object's class is a class or inherits from it
abbrev pub IsOf : Contents → ClassId → ObjId → Type 0
IsOf m class o = IsSomeAnd (class_of m o) (λ own. Conforms m.meta.classes own class)

-- those of a list that pass, in its order
pub data AreThose {X : Type 0} (P : X → Type 0) : List X → List X → Type 0 where
  none : AreThose P [] []
  taken : {x : X} {xs ys : List X} → P x → AreThose P xs ys → AreThose P (x ∷ xs) (x ∷ ys)
  passed : {x : X} {xs ys : List X} → ¬ (P x) → AreThose P xs ys → AreThose P (x ∷ xs) ys

-- the objects of a class
abbrev pub IsExtent : Contents → ClassId → List ObjId → Type 0
IsExtent m class = AreThose (IsOf m class) (preorder m)
