-- What the code has built so far: contents whose objects are those of elements, with slots that a function says.
use Rattle.std.specs.Prelude.{◌≡◌, ℕ, ◌<◌, ◌^◌, nat_lt, ◌==◌, ◌&&◌, ◌||◌, not, Bool, true, false, List, [], ◌∷◌, ◌++◌, All, filter_map, length, map, slice_get, Some, if◌then◌else◌}
use Rattle.std.specs.HashSet.{contains_by}
use Rattle.std.specs.List.{list_any}
use Rattle.std.specs.Option.{option_map_or, IsSomeAnd}
use Rattle.atl_base.specs.declared.numbers.ClassId.{ClassId}
use Rattle.atl_base.specs.declared.numbers.FeatId.{FeatId}
use Rattle.atl_base.specs.declared.numbers.ObjId.{ObjId}
use Rattle.doc_text.specs.declared.tree.Attribute.{Attribute}
use Rattle.ecore_meta.specs.declared.parts.Parts.{Parts}
use Rattle.ecore_meta.specs.Inheritance.{features}
use Rattle.model_store.specs.declared.parts.Cellv.{Cellv}
use Rattle.model_store.specs.declared.parts.Cellv.TheVariants.{Obj}
use Rattle.model_store.specs.Contents.{Contents, class_of, contains, is_contained_by, opposite, refers, slot}
use Rattle.model_store.specs.Sketches.{with_last_root, with_object, with_value}
use Rattle.model_store.specs.Writes.{initial, value_of_text}
use Rattle.xmi_models.specs.Outline.{Entry, Part, Tag, Root, Content, Value, is_object, objects_in}
use Rattle.xmi_models.specs.Faults.{attribute_feature, attribute_value, is_value_of, objects, text_in}
use Rattle.xmi_links.specs.declared.joined.Pairs.{Pairs}
use Rattle.xmi_links.specs.References.{Link, attribute_values, child_values, children_from, link, drafted_slot, objects_by, roots_from}
use Rattle.xmi_links.specs.ModelOf.{container_by, is_of}

abbrev pub Said : Type 0
Said = ObjId → Entry → FeatId → List Cellv

abbrev pub built : Parts → Said → List Entry → List ObjId → Contents
built meta S es roots = record { meta = meta; objects = objects_by meta S 0 es; roots = roots }

-- ## Holders

-- the object that holds an element's, by a feature of the right sort
abbrev pub IsHeld : Parts → Part → Type 0
IsHeld meta (Content p f c) = (p.0 < 2 ^ 32) × (contains meta f ≡ true)
IsHeld meta (Value p f) = (p.0 < 2 ^ 32) × (refers meta f ≡ false)
IsHeld meta part = Unit {0}

abbrev pub AreHeld : Parts → List Entry → Type 0
AreHeld meta file = All (λ e. IsHeld meta e.part) file

-- ## References

-- a reference that neither contains nor is contained by
abbrev pub IsCross : Parts → FeatId → Type 0
IsCross meta f = (is_contained_by meta f ≡ false) × (refers meta f ≡ true) × (contains meta f ≡ false)

-- attributes are no contents
abbrev pub IsReference : Parts → Link → Type 0
IsReference meta l = (refers meta l.by ≡ true) × (contains meta l.by ≡ false)

abbrev pub AreReferences : Parts → List Link → Type 0
AreReferences meta links = All (IsReference meta) links

-- the container of an object, where the containment has an opposite
abbrev pub with_container : Parts → ObjId → Part → Contents → Contents
with_container meta o (Content p f c) m = option_map_or (λ g. with_value o g (Obj p) m) (opposite meta f) m
with_container meta o part m = m

abbrev pub Referred : Type 0
Referred = ObjId → FeatId → List ObjId

-- containers by elements, other references as they are said
abbrev pub slot_with : Parts → List Entry → Referred → Said
slot_with meta file R o e f =
    if is_contained_by meta f then map Obj (container_by meta f e.part)
    else if refers meta f && not (contains meta f) then map Obj (R o f)
    else drafted_slot meta file o e f

abbrev pub stage : Parts → List Entry → Referred → Contents
stage meta file R = built meta (slot_with meta file R) (objects file) (roots_from 0 (objects file))

-- an object more, unless it is there
abbrev pub with_link : Link → Referred → Referred
with_link l R o f = if is_of o f l then (if list_any (λ q. q.0 == l.to.0) (R o f) then R o f else R o f ++ l.to ∷ []) else R o f

-- what the code keeps of the pairs in slots
abbrev pub has_pair : Pairs → ℕ → ℕ → ℕ → Bool
has_pair pairs o f p = contains_by (λ k. o == k.0 && f == k.1 && p == k.2) pairs.held

abbrev pub ArePairs : Parts → Referred → Pairs → Type 0
ArePairs meta R pairs = (o : ObjId) (f : FeatId) (p : ℕ) → IsCross meta f → has_pair pairs o.0 f.0 p ≡ list_any (λ q. q.0 == p) (R o f)

-- what links name, containers aside
abbrev pub named_by : Parts → Link → Referred → Referred
named_by meta l R = if is_contained_by meta l.by then R else with_link l R

abbrev pub all_named : Parts → List Link → Referred → Referred
all_named meta [] R = R
all_named meta (l ∷ ls) R = all_named meta ls (named_by meta l R)

-- what they add to the other ends, contents aside
abbrev pub back_by : Parts → Link → Referred → Referred
back_by meta l R = option_map_or (λ g. if contains meta g then R else with_link (link l.to g l.from) R) (opposite meta l.by) R

abbrev pub all_back : Parts → List Link → Referred → Referred
all_back meta [] R = R
all_back meta (l ∷ ls) R = all_back meta ls (back_by meta l R)

abbrev pub nothing : Referred
nothing o f = []

-- containers of the objects before a number
abbrev pub contained_to : Parts → List Entry → ℕ → Said
contained_to meta file n o e f = if is_contained_by meta f && nat_lt o.0 n then map Obj (container_by meta f e.part) else drafted_slot meta file o e f

-- the step of a loop over links: what is reached, and that the pairs are known
pub record IsReached (meta : Parts) (file : List Entry) (R : Referred) (sketch : Contents) (pairs : Pairs) : Type 0 where
  pub reached : sketch ≡ stage meta file R
  pub known : ArePairs meta R pairs

-- ## Objects with their attributes

-- a value more, by its text
abbrev pub entered : Parts → ObjId → FeatId → List ℕ → Contents → Contents
entered meta o f text m = option_map_or (λ feature. with_value o f (value_of_text meta feature.kind text) m) (slice_get meta.features f.0) m

abbrev pub is_filled : List Cellv → Bool
is_filled [] = false
is_filled (v ∷ vs) = true

-- what an attribute gives, where its feature has nothing
abbrev pub attributed : Parts → ObjId → Part → Attribute → Contents → Contents
attributed meta o part a m = option_map_or (λ f. if refers meta f || is_filled (slot m o f) then m else entered meta o f a.value m) (attribute_feature meta part a) m

abbrev pub all_attributed : Parts → ObjId → Part → List Attribute → Contents → Contents
all_attributed meta o part [] m = m
all_attributed meta o part (a ∷ rest) m = all_attributed meta o part rest (attributed meta o part a m)

-- an object more, with what its attributes give
abbrev pub with_attributes : Parts → ClassId → Entry → Contents → Contents
with_attributes meta c e m = all_attributed meta (record { 0 = length m.objects }) e.part e.tag.attributes (with_object c m)

-- what an element gives: an object, or a value of one
abbrev pub with_part : Parts → Entry → Part → Contents → Contents
with_part meta e (Root (Some c)) m = with_last_root (record { 0 = length m.objects }) (with_attributes meta c e m)
with_part meta e (Content p f (Some c)) m = with_value p f (Obj (record { 0 = length m.objects })) (with_attributes meta c e m)
with_part meta e (Value p f) m = entered meta p f (text_in e.tag) m
with_part meta e part m = m

-- what the code needs of an element's class, and of its text
abbrev pub IsWell : Parts → Tag → Part → Type 0
IsWell meta t (Root c) = IsSomeAnd c (λ c. c.0 < length meta.classes)
IsWell meta t (Content p f c) = IsSomeAnd c (λ c. c.0 < length meta.classes)
IsWell meta t (Value p f) = is_value_of meta f (text_in t) ≡ true
IsWell meta t part = Unit {0}

pub record IsSound (meta : Parts) (e : Entry) : Type 0 where
  pub well : IsWell meta e.tag e.part
  pub held : IsHeld meta e.part
  pub attributes : is_object e.part ≡ true → filter_map (attribute_value meta e.part) e.tag.attributes ≡ []

-- holders stand before what they hold
abbrev pub HolderBelow : ℕ → Part → Type 0
HolderBelow n (Content p f c) = p.0 < n
HolderBelow n (Value p f) = p.0 < n
HolderBelow n part = Unit {0}

abbrev pub AreOrdered : List Entry → Type 0
AreOrdered file = (before after : List Entry) (e : Entry) → before ++ (e ∷ after) ≡ file → HolderBelow (objects_in before) e.part

-- slots before defaults
abbrev pub raw_slot : Parts → List Entry → Said
raw_slot meta file o e f =
    if contains meta f then children_from meta file 0 o f file
    else if refers meta f then []
    else attribute_values meta file e f ++ child_values meta file o f file

abbrev pub raw : Parts → List Entry → Contents
raw meta file = built meta (raw_slot meta file) (objects file) (roots_from 0 (objects file))

-- ## Defaults

abbrev pub defaulted : Parts → ObjId → FeatId → Contents → Contents
defaulted meta o f m = if refers meta f || is_filled (slot m o f) then m else option_map_or (λ v. with_value o f v m) (slice_get (initial meta f) 0) m

abbrev pub all_defaulted : Parts → ObjId → List FeatId → Contents → Contents
all_defaulted meta o [] m = m
all_defaulted meta o (f ∷ fs) m = all_defaulted meta o fs (defaulted meta o f m)

abbrev pub with_defaults : Parts → ObjId → Contents → Contents
with_defaults meta o m = option_map_or (λ c. all_defaulted meta o (features meta.classes c) m) (class_of m o) m

-- the first objects have their defaults
abbrev pub drafted_to : Parts → List Entry → ℕ → Said
drafted_to meta file n o e f = if nat_lt o.0 n then drafted_slot meta file o e f else raw_slot meta file o e f
