-- The fragments that name objects: `/` or `/k` for a root, k from 0, and then `/@f.i` or `/@f` for each step to a content, i from 0.
-- (After the fragment paths that EMF writes.)
use Rattle.std.specs.Prelude.{◌≡◌, ℕ, zero, suc, ◌==◌, flat_map, IsSome, Result, Ok, Err, ◌&&◌, Bool, false, List, [], ◌∷◌, ◌++◌, length, slice_get, Option, Some, None, if◌then◌else◌}
use Rattle.std.specs.Fmt.{decimal}
use Rattle.std.specs.Int.{is_in_range}
use Rattle.std.specs.List.{position_or_len, find, list_all, list_any, slice_split, before_first, after_first}
use Rattle.std.specs.Option.{option_map_or, option_and_then}
use Rattle.std.specs.Str.{bytes_eq}
use Rattle.atl_base.specs.declared.numbers.ClassId.{ClassId}
use Rattle.atl_base.specs.declared.numbers.FeatId.{FeatId}
use Rattle.atl_base.specs.declared.numbers.ObjId.{ObjId}
use Rattle.ecore_meta.specs.declared.parts.Parts.{Parts}
use Rattle.ecore_meta.specs.Inheritance.{features, name_of}
use Rattle.ecore_meta.specs.Valid.{number_of}
use Rattle.model_store.specs.declared.parts.Cellv.{Cellv}
use Rattle.model_store.specs.declared.parts.Cellv.TheVariants.{Obj}
use Rattle.model_store.specs.declared.path.Step.{Step}
use Rattle.model_store.specs.declared.refusal.StoreRefusal.{StoreRefusal}
use Rattle.model_store.specs.declared.refusal.StoreRefusal.TheVariants.{NoObject, NoFeature, BadType, Full, Memory}
use Rattle.model_store.specs.Contents.{Contents, is_object_no, object_at, class_of, is_many, contains, slot, refers_to, first_object, holder}

-- ## The fragment of an object

-- the slash, the feature, and in a many-valued one the place
abbrev pub step_text : Contents → Step → List ℕ
step_text m s = 47 ∷ 64 ∷ (name_of m.meta.features s.feature ++ (if is_many m.meta s.feature then 46 ∷ decimal (position_or_len (refers_to s.to) (slot m s.from s.feature)) else []))

-- a single root needs no number
abbrev pub root_text : Contents → ObjId → List ℕ
root_text m o = 47 ∷ (if length m.roots == 1 then [] else decimal (position_or_len (is_object_no o) m.roots))

-- from container to content down to an object, from at most so many levels above
unfoldable pub steps_within : ℕ → Contents → ObjId → List Step
steps_within zero m o = []
steps_within (suc n) m o = option_map_or (λ at. steps_within n m at.0 ++ record { from = at.0; feature = at.1; to = o } ∷ []) (holder m o) []

-- where they begin
unfoldable pub top_within : ℕ → Contents → ObjId → ObjId
top_within zero m o = o
top_within (suc n) m o = option_map_or (λ at. top_within n m at.0) (holder m o) o

-- Without a cycle there are no more levels above an object than there are objects: so this leads from a root down to it.
unfoldable pub path : Contents → ObjId → List ℕ
path m o = root_text m (top_within (suc (length m.objects)) m o) ++ flat_map (step_text m) (steps_within (suc (length m.objects)) m o)

-- what the call answers
abbrev pub GivesPath : Contents → ObjId → Result (List ℕ) StoreRefusal → Type 0
GivesPath m o (Ok text) = IsSome (object_at m.objects o) × (text ≡ path m o)
GivesPath m o (Err NoObject) = object_at m.objects o ≡ None
GivesPath m o (Err Memory) = Unit {0}
GivesPath m o (Err NoFeature) = ⊥
GivesPath m o (Err BadType) = ⊥
GivesPath m o (Err Full) = ⊥

-- ## The object of a fragment

-- the parts of a text between its slashes
abbrev pub is_slash : ℕ → Bool
is_slash b = b == 47

abbrev pub parts_of : List ℕ → List (List ℕ)
parts_of = slice_split is_slash

-- one digit or more
abbrev pub are_digits : List ℕ → Bool
are_digits [] = false
are_digits (b ∷ bytes) = list_all (is_in_range 48 57) (b ∷ bytes)

-- the element of a number, which is counted from 0
abbrev pub at_number : {X : Type 0} → List X → List ℕ → Option X
at_number xs digits = if are_digits digits then slice_get xs (number_of digits) else None

-- an empty part names the single root
abbrev pub root_named : List ObjId → List ℕ → Option ObjId
root_named (o ∷ []) [] = Some o
root_named roots digits = at_number roots digits

-- the containment feature of a name
abbrev pub is_content : Parts → List ℕ → FeatId → Bool
is_content meta name f = contains meta f && bytes_eq (name_of meta.features f) name

abbrev pub content_feature : Parts → ClassId → List ℕ → Option FeatId
content_feature meta class name = find (is_content meta name) (features meta.classes class)

-- the object that a value is
abbrev pub object_in : Cellv → Option ObjId
object_in (Obj q) = Some q
object_in _ = None

-- `i`: the content at this place of a many-valued feature
abbrev pub content_at : List Cellv → List ℕ → Option ObjId
content_at cells digits = option_and_then object_in (at_number cells digits)

abbrev pub many_content : Contents → ObjId → List ℕ → FeatId → Option ObjId
many_content m o digits f = if is_many m.meta f then content_at (slot m o f) digits else None

-- the only content of a single-valued feature
abbrev pub single_content : Contents → ObjId → FeatId → Option ObjId
single_content m o f = if is_many m.meta f then None else first_object (slot m o f)

-- `f.i` of a many-valued feature, `f` of a single-valued one; no name has a `.`
abbrev pub is_dot : ℕ → Bool
is_dot b = b == 46

abbrev pub content_in_class : Contents → ObjId → List ℕ → ClassId → Option ObjId
content_in_class m o text class = if list_any is_dot text
    then option_and_then (many_content m o (after_first is_dot text)) (content_feature m.meta class (before_first is_dot text))
    else option_and_then (single_content m o) (content_feature m.meta class text)

abbrev pub content_named : Contents → ObjId → List ℕ → Option ObjId
content_named m o [] = None
content_named m o (b ∷ text) = if b == 64 then option_and_then (content_in_class m o text) (class_of m o) else None

abbrev pub descend : Contents → Option ObjId → List (List ℕ) → Option ObjId
descend m None parts = None
descend m (Some o) [] = Some o
descend m (Some o) (part ∷ parts) = descend m (content_named m o part) parts

-- A fragment begins with a slash.
abbrev pub at_parts : Contents → List (List ℕ) → Option ObjId
at_parts m ([] ∷ (root ∷ parts)) = descend m (root_named m.roots root) parts
at_parts m parts = None

abbrev pub object_of_path : Contents → List ℕ → Option ObjId
object_of_path m text = at_parts m (parts_of text)
