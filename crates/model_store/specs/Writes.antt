-- Writing to a feature: values are added one by one, and the other ends follow.
-- (After EMF: opposites are kept in agreement, a containment takes what it holds out of its old container.)
use Rattle.std.specs.Prelude.{◌≡◌, ℕ, nat_lt, nat_le, ◌==◌, ◌||◌, not, length, map, Result, Ok, Err, Bool, true, false, List, [], ◌∷◌, ◌++◌, filter, slice_get, position, codes, Option, Some, None, if◌then◌else◌}
use Rattle.std.specs.Option.{option_map_or}
use Rattle.std.specs.List.{list_any, insert, position_or_len}
use Rattle.std.specs.Ordering.{int_eq}
use Rattle.std.specs.Str.{bytes_eq}
use Rattle.std.specs.Str.Parse.{signed_digits_value}
use Rattle.atl_base.specs.declared.numbers.ClassId.{ClassId}
use Rattle.atl_base.specs.declared.numbers.FeatId.{FeatId}
use Rattle.atl_base.specs.declared.numbers.ObjId.{ObjId}
use Rattle.ecore_meta.specs.declared.parts.Feature.{Feature}
use Rattle.ecore_meta.specs.declared.parts.FeatKind.{FeatKind}
use Rattle.ecore_meta.specs.declared.parts.FeatKind.TheVariants as Kind
use Rattle.ecore_meta.specs.declared.parts.Parts.{Parts}
use Rattle.ecore_meta.specs.Inheritance.{features}
use Rattle.ecore_meta.specs.Valid.{is_reference}
use Rattle.model_store.specs.declared.parts.Cellv.{Cellv}
use Rattle.model_store.specs.declared.parts.Cellv.TheVariants.{Words, Int, Truth, Literal, Obj}
use Rattle.model_store.specs.declared.parts.Object.{Object}
use Rattle.model_store.specs.declared.refusal.StoreRefusal.{StoreRefusal}
use Rattle.model_store.specs.declared.refusal.StoreRefusal.TheVariants.{NoObject, NoFeature, BadType, Full, Memory}
use Rattle.model_store.specs.Valid.{Fits}
use Rattle.model_store.specs.Contents.{Contents, refusal, object_count, slot, set_slot, refers, contains, is_many, is_unique, is_contained_by, opposite, holds, without, first_object, holder}

-- ## Defaults

-- A literal's number has 32 bits: one that stands past all these places has none, and the first stands for it.
abbrev pub literal_number : Option ℕ → ℕ
literal_number None = 0
literal_number (Some place) = if nat_lt place 4294967296 then place else 0

-- the number of the literal of this text
abbrev pub literal_of : Parts → ℕ → List ℕ → ℕ
literal_of meta e text = literal_number (position (λ l. bytes_eq l.text text) (option_map_or (λ d. d.literals) (slice_get meta.enums e) []))

-- the value that a text of an attribute's type stands for
abbrev pub value_of_text : Parts → FeatKind → List ℕ → Cellv
value_of_text meta Kind.Str text = Words text
value_of_text meta Kind.Int text = Int (signed_digits_value 10 text)
value_of_text meta Kind.Truth text = Truth (bytes_eq text (codes "true"))
value_of_text meta (Kind.Enum e) text = Literal (literal_of meta e text)
value_of_text meta Kind.Opaque text = Words text
value_of_text meta (Kind.Refer class contains opposite) text = Words text

-- what a slot holds that nothing was written to: the default of a single-valued attribute, where it has one
abbrev pub initial_of : Parts → Feature → List Cellv
initial_of meta feature = if (if feature.many then true else is_reference feature.kind) then [] else option_map_or (λ text. value_of_text meta feature.kind text ∷ []) feature.default []

abbrev pub initial : Parts → FeatId → List Cellv
initial meta f = option_map_or (initial_of meta) (slice_get meta.features f.0) []

-- ## Creating

-- an object that nothing was written to
abbrev pub fresh : Parts → ClassId → Object
fresh meta class = record { class = class; slots = map (initial meta) (features meta.classes class) }

-- A new object has the next number, and is the last root.
abbrev pub created : Contents → ClassId → Contents
created m class = record m {
  objects = m.objects ++ Some (fresh m.meta class) ∷ [];
  roots = m.roots ++ record { 0 = length m.objects } ∷ [];
}

-- There are 1,000,000 objects, or 4,294,967,295 numbers have been given.
abbrev pub is_full : Contents → Bool
is_full m = nat_le 1000000 (object_count m.objects) || nat_le 4294967295 (length m.objects)

-- what creating answers, and what then stands
abbrev pub Creates : Contents → ClassId → Result ObjId StoreRefusal → Contents → Type 0
Creates m class (Ok o) after = (is_full m ≡ false) × (o.0 ≡ length m.objects) × (after ≡ created m class)
Creates m class (Err Full) after = (is_full m ≡ true) × (after ≡ m)
Creates m class (Err Memory) after = after ≡ m
Creates m class (Err NoObject) after = ⊥
Creates m class (Err NoFeature) after = ⊥
Creates m class (Err BadType) after = ⊥

-- ## Roots

-- an object that loses its container stands before the first root of greater number, else last
abbrev pub with_root : ObjId → List ObjId → List ObjId
with_root o roots = insert roots (position_or_len (λ r. nat_lt o.0 r.0) roots) o

abbrev pub without_root : ObjId → List ObjId → List ObjId
without_root o = filter (λ r. not (r.0 == o.0))

abbrev pub freed : ObjId → Contents → Contents
freed o m = record m { roots = with_root o m.roots }

abbrev pub taken_in : ObjId → Contents → Contents
taken_in o m = record m { roots = without_root o m.roots }

-- ## Pairs: q in o.f, and o in the opposite slot of q

-- q is taken out of o.f
unfoldable pub cut : ObjId → FeatId → ObjId → Contents → Contents
cut o f q m = set_slot m o f (without q (slot m o f))

-- q is appended to o.f, unless it is there
unfoldable pub join : ObjId → FeatId → ObjId → Contents → Contents
join o f q m = if holds q (slot m o f) then m else set_slot m o f (slot m o f ++ Obj q ∷ [])

-- the same at the other end, where f has an opposite
unfoldable pub cut_back : ObjId → FeatId → ObjId → Contents → Contents
cut_back o f q m = option_map_or (λ g. cut q g o m) (opposite m.meta f) m

unfoldable pub join_back : ObjId → FeatId → ObjId → Contents → Contents
join_back o f q m = option_map_or (λ g. join q g o m) (opposite m.meta f) m

-- what the pair contained has no container now
unfoldable pub free_ends : ObjId → FeatId → ObjId → Contents → Contents
free_ends o f q m = if contains m.meta f then freed q m else (if is_contained_by m.meta f then freed o m else m)

unfoldable pub take_ends_in : ObjId → FeatId → ObjId → Contents → Contents
take_ends_in o f q m = if contains m.meta f then taken_in q m else (if is_contained_by m.meta f then taken_in o m else m)

-- to remove a pair, and to append one
unfoldable pub unlink : ObjId → FeatId → ObjId → Contents → Contents
unlink o f q m = free_ends o f q (cut_back o f q (cut o f q m))

unfoldable pub link : ObjId → FeatId → ObjId → Contents → Contents
link o f q m = take_ends_in o f q (join_back o f q (join o f q m))

-- ## The five cases of adding p to o.f

-- a single-valued f gives up what it holds
unfoldable pub give_up : ObjId → FeatId → Contents → Contents
give_up o f m = if is_many m.meta f then m else option_map_or (λ q. unlink o f q m) (first_object (slot m o f)) m

-- where the opposite g is single-valued and p.g holds r, the pair of r and p goes
unfoldable pub give_up_back : FeatId → ObjId → Contents → Contents
give_up_back f p m = option_map_or
    (λ g. if is_many m.meta g then m else option_map_or (λ r. unlink r f p m) (first_object (slot m p g)) m)
    (opposite m.meta f)
    m

-- an object leaves the container that it is in
unfoldable pub leave : ObjId → Contents → Contents
leave p m = option_map_or (λ at. unlink at.0 at.1 p m) (holder m p) m

-- a containment takes p out of its container, and a container reference takes o out of its own
unfoldable pub make_way : ObjId → FeatId → ObjId → Contents → Contents
make_way o f p m = if contains m.meta f then leave p m else (if is_contained_by m.meta f then leave o m else m)

unfoldable pub add : ObjId → FeatId → ObjId → Contents → Contents
add o f p m = if holds p (slot m o f) then m else link o f p (make_way o f p (give_up_back f p (give_up o f m)))

-- ## Writing

abbrev pub add_value : ObjId → FeatId → Cellv → Contents → Contents
add_value o f (Obj p) m = add o f p m
add_value o f _ m = m

-- one by one
abbrev pub add_all : ObjId → FeatId → List Cellv → Contents → Contents
add_all o f [] m = m
add_all o f (value ∷ values) m = add_all o f values (add_value o f value m)

-- whether two values are the same
abbrev pub same_value : Cellv → Cellv → Bool
same_value (Words a) (Words b) = bytes_eq a b
same_value (Int a) (Int b) = int_eq a b
same_value (Truth a) (Truth b) = if a then b else not b
same_value (Literal a) (Literal b) = a == b
same_value (Obj a) (Obj b) = a.0 == b.0
same_value _ _ = false

-- a value appended; where the feature is unique, one that is there already is skipped
abbrev pub with_value : Bool → List Cellv → Cellv → List Cellv
with_value unique cells value = if (if unique then list_any (same_value value) cells else false) then cells else cells ++ value ∷ []

-- the values in their order
abbrev pub appended : Bool → List Cellv → List Cellv → List Cellv
appended unique cells [] = cells
appended unique cells (value ∷ values) = appended unique (with_value unique cells value) values

-- a single-valued attribute takes the only value, or its default again
abbrev pub replaced : List Cellv → List Cellv → List Cellv
replaced initially [] = initially
replaced initially (value ∷ values) = value ∷ []

abbrev pub written : Parts → FeatId → List Cellv → List Cellv → List Cellv
written meta f cells values = if is_many meta f then appended (is_unique meta f) cells values else replaced (initial meta f) values

-- a reference: without values a single-valued one gives up what it holds
abbrev pub rewired : ObjId → FeatId → List Cellv → Contents → Contents
rewired o f [] m = give_up o f m
rewired o f (value ∷ values) m = add_all o f (value ∷ values) m

abbrev pub write : Contents → ObjId → FeatId → List Cellv → Contents
write m o f values = if refers m.meta f then rewired o f values m else set_slot m o f (written m.meta f (slot m o f) values)

-- what writing answers, and what then stands: the refusals in this order
abbrev pub Writes : Contents → ObjId → FeatId → List Cellv → Result (Unit {0}) StoreRefusal → Contents → Type 0
Writes m o f values (Ok done) after = (refusal m o f ≡ None) × Fits m f values × (after ≡ write m o f values)
Writes m o f values (Err NoObject) after = (refusal m o f ≡ Some NoObject) × (after ≡ m)
Writes m o f values (Err NoFeature) after = (refusal m o f ≡ Some NoFeature) × (after ≡ m)
Writes m o f values (Err BadType) after = (refusal m o f ≡ None) × ¬ (Fits m f values) × (after ≡ m)
Writes m o f values (Err Memory) after = after ≡ m
Writes m o f values (Err Full) after = ⊥
