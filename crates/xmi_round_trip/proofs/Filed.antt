-- What stands in a model's file, as its reader outlines it: an entry for each object, in preorder, and one for each value of a
-- many-valued attribute, where objects are numbered in preorder.
use Rattle.std.specs.Prelude.{◌≡◌, ℕ, zero, suc, ◌==◌, ◌<◌, ◌≤◌, true, false, List, [], ◌∷◌, ◌++◌, codes, flat_map, length, map, Contains, IsSome, Some, None, if◌then◌else◌}
use Rattle.std.specs.List.{list_any}
use Rattle.std.specs.Option.{option_map_or}
use Rattle.atl_base.specs.declared.numbers.FeatId.{FeatId}
use Rattle.atl_base.specs.declared.numbers.ObjId.{ObjId}
use Rattle.doc_text.specs.declared.tree.Attribute.{Attribute}
use Rattle.doc_text.specs.Names.{xmi_space}
use Rattle.ecore_meta.specs.Inheritance.{features, name_of}
use Rattle.ecore_meta.specs.Valid.{AllDiffer}
use Rattle.model_store.specs.declared.parts.Cellv.{Cellv}
use Rattle.model_store.specs.declared.parts.Object.{Object}
use Rattle.model_store.specs.Contents.{Contents, class_of, holder, object_at, object_count, slot}
use Rattle.model_store.specs.Order.{IsTreeLaw, contents, preorder, tree}
use Rattle.model_store.specs.Texts.{value_text}
use Rattle.xmi_models.specs.Outline.{Entry, Tag, Around, Part as EntryPart, Root as RootEntry, Content as ContentEntry, Value as ValueEntry}
use Rattle.xmi_models.specs.Faults.{objects}
use Rattle.xmi_write.specs.declared.named.Named.{Named}
use Rattle.xmi_write.specs.declared.named.Named.TheVariants.{Inside}
use Rattle.xmi_write.specs.Xmi.{Part, Content, Value, attributes_of, local_name, nowhere, parts_of, root_name, space_of, version}
use Rattle.xmi_round_trip.specs.Renumbered.{number}

-- ## An object's entry

-- its element is named for the feature that holds it, or for its class
abbrev pub named : Contents → ObjId → Named
named m o = option_map_or (λ at. Inside at.1) (holder m o) (root_name m o)

-- it stands for a content of what holds it, or for a root
abbrev pub object_part : Contents → ObjId → EntryPart
object_part m o = option_map_or (λ at. ContentEntry (number m at.0) at.1 (class_of m o)) (holder m o) (RootEntry (class_of m o))

-- a single root bears XMI's version
abbrev pub first_attributes : Contents → ObjId → List Attribute
first_attributes m o = option_map_or (λ at. []) (holder m o) (if length m.roots == 1 then version ∷ [] else [])

-- its type, where that is told, and its slots that are attributes
abbrev pub own_attributes : Contents → ObjId → List Attribute
own_attributes m o = option_map_or (attributes_of m (named m o)) (object_at m.objects o) []

-- its contents, and its values that stand in elements
abbrev pub own_parts : Contents → ObjId → List Part
own_parts m o = option_map_or (parts_of m.meta) (object_at m.objects o) []

-- its element alone, in which no text stands
abbrev pub object_tag : Contents → ObjId → Tag
object_tag m o = record {
  space = space_of m.meta (named m o);
  name = local_name m.meta (named m o);
  attributes = first_attributes m o ++ own_attributes m o;
  texts = [];
  has_elements = list_any (λ p. true) (own_parts m o);
  place = nowhere;
}

-- its entry: what it stands for, and its element
abbrev pub object_entry : Contents → ObjId → Entry
object_entry m o = record { part = object_part m o; tag = object_tag m o }

-- ## A value's

-- a text, unless it is empty
abbrev pub lone : List ℕ → List (List ℕ)
lone [] = []
lone (c ∷ cs) = (c ∷ cs) ∷ []

-- it is named for the feature, and has the value's text alone
abbrev pub value_entry : Contents → ObjId → FeatId → Cellv → Entry
value_entry m o f v = record {
  part = ValueEntry (number m o) f;
  tag = record { space = []; name = name_of m.meta.features f; attributes = []; texts = lone (value_text m f v); has_elements = false; place = nowhere };
}

-- ## The file

-- the entries of a part, where `below` gives those of objects
abbrev pub part_entries : (ObjId → List Entry) → Contents → ObjId → Part → List Entry
part_entries below m o (Content f q) = below q
part_entries below m o (Value f v) = value_entry m o f v ∷ []

-- an object's, and those of what stands in it at most so many levels below
unfoldable pub entries_within : ℕ → Contents → ObjId → List Entry
entries_within zero m o = []
entries_within (suc n) m o = object_entry m o ∷ flat_map (part_entries (entries_within n m) m o) (own_parts m o)

-- an object's, and those of all that stands in it
unfoldable pub entries : Contents → ObjId → List Entry
entries m o = entries_within (suc (length m.objects)) m o

-- that of `xmi:XMI`, which bears XMI's version
abbrev pub around_entry : Contents → Entry
around_entry m = record {
  part = Around;
  tag = record { space = xmi_space; name = codes "XMI"; attributes = version ∷ []; texts = []; has_elements = list_any (λ o. true) m.roots; place = nowhere };
}

-- all of them: `xmi:XMI` stands first, unless there is a single root
abbrev pub file : Contents → List Entry
file m = (if length m.roots == 1 then [] else around_entry m ∷ []) ++ flat_map (entries m) m.roots

-- ## What is known of both

-- so many numbers from one on
abbrev pub numbers_from : ℕ → ℕ → List ObjId
numbers_from k zero = []
numbers_from k (suc n) = record { 0 = k } ∷ numbers_from (suc k) n

-- the order of a model without a cycle: it is proved in `Preorder.antt`
pub record IsOrdered (m : Contents) : Type 0 where
  pub tree_is : IsTreeLaw m
  -- what stands in an object has less in it: a measure to go down by
  pub shorter : (o q : ObjId) → Contains (contents m o) q → length (tree m q) < length (tree m o)
  pub contents_there : (o q : ObjId) → Contains (contents m o) q → IsSome (object_at m.objects q)
  pub has : (o : ObjId) → IsSome (object_at m.objects o) → Contains (preorder m) o
  pub there : (o : ObjId) → Contains (preorder m) o → IsSome (object_at m.objects o)
  pub differ : AllDiffer (preorder m)
  -- numbers rise by one in the tree of each object, and in the whole
  pub numbers : (o : ObjId) → IsSome (object_at m.objects o) → map (number m) (tree m o) ≡ numbers_from (number m o).0 (length (tree m o))
  pub all_numbers : map (number m) (preorder m) ≡ numbers_from 0 (length (preorder m))
  pub apart : (o p : ObjId) → IsSome (object_at m.objects o) → IsSome (object_at m.objects p) → number m o ≡ number m p → o ≡ p
  pub few : length (preorder m) ≤ object_count m.objects
  -- each slot by its feature
  pub slots : (o : ObjId) (object : Object) → object_at m.objects o ≡ Some object → object.slots ≡ map (slot m o) (features m.meta.classes object.class)
  -- what is a content is held there alone, and no root
  pub held : (o q : ObjId) (f : FeatId) → Contains (own_parts m o) (Content f q) → holder m q ≡ Some (o, f)
  pub roots_free : (o : ObjId) → Contains m.roots o → holder m o ≡ None
  pub roots_there : (o : ObjId) → Contains m.roots o → IsSome (object_at m.objects o)

-- and so are its entries: in `OutlinedEntries.antt`
pub record IsFiled (m : Contents) : Type 0 where
  pub entries_are : (o : ObjId) → entries m o ≡ object_entry m o ∷ flat_map (part_entries (entries m) m o) (own_parts m o)
  pub objects_below : (o : ObjId) → IsSome (object_at m.objects o) → objects (entries m o) ≡ map (object_entry m) (tree m o)
  pub objects_are : objects (file m) ≡ map (object_entry m) (preorder m)
