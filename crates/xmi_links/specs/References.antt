-- The references of a model's file, followed once all its objects are there: in document order, each token of each attribute that
-- is a reference names an object by a path or by an id. (XMI 2.0; fragments as EMF writes them.)
use Rattle.std.specs.Prelude.{ℕ, suc, ◌==◌, ◌&&◌, ◌||◌, not, Bool, true, false, List, [], ◌∷◌, ◌++◌, codes, bytes_eq, filter_map, find, flat_map, map, slice_get, Option, Some, None, option_map, if◌then◌else◌}
use Rattle.std.specs.Option.{option_map_or}
use Rattle.std.specs.List.{list_any}
use Rattle.atl_base.specs.declared.place.Place.{Place}
use Rattle.atl_base.specs.declared.numbers.FeatId.{FeatId}
use Rattle.atl_base.specs.declared.numbers.ObjId.{ObjId}
use Rattle.doc_text.specs.Names.{xmi_space}
use Rattle.doc_text.specs.declared.tree.Attribute.{Attribute}
use Rattle.ecore_meta.specs.declared.parts.Parts.{Parts}
use Rattle.ecore_meta.specs.Inheritance.{features, name_of}
use Rattle.model_store.specs.declared.parts.Cellv.{Cellv}
use Rattle.model_store.specs.declared.parts.Cellv.TheVariants.{Obj}
use Rattle.model_store.specs.declared.parts.Object.{Object}
use Rattle.model_store.specs.Contents.{Contents, class_of, contains, is_contained_by, is_many, opposite, refers, slot}
use Rattle.model_store.specs.Paths.{object_of_path}
use Rattle.model_store.specs.Texts.{plain_text}
use Rattle.model_store.specs.Writes.{initial, value_of_text}
use Rattle.xmi_text.specs.Markup.{is_called, words_of}
use Rattle.xmi_text.specs.Options.{then_}
use Rattle.xmi_models.specs.Outline.{Entry, Part, Root, Content, Value, is_object, class_said, is_sub}
use Rattle.xmi_models.specs.declared.fault.Kind.{Kind}
use Rattle.xmi_models.specs.declared.fault.Kind.TheVariants.{BadPath, NoId, TwiceId, BadType, TwoContainers, TwoEnds}
use Rattle.xmi_models.specs.Faults.{Fault, when, first_of, attribute_feature, objects, own_class, text_in}

-- ## Links

-- one object refers to another by a feature
pub record Link : Type 0 where
  pub from : ObjId
  pub by : FeatId
  pub to : ObjId

abbrev pub link : ObjId → FeatId → ObjId → Link
link o f p = record { from = o; by = f; to = p }

-- ## Objects in document order

-- an object of an element's class, with what a function says of each feature
abbrev pub object_by : Parts → (FeatId → List Cellv) → Entry → Option Object
object_by meta slots e = option_map (λ c. record { class = c; slots = map slots (features meta.classes c) }) (own_class e.part)

-- those of these elements, from a number on, where a function of the number and the element says what is in their slots
abbrev pub objects_by : Parts → (ObjId → Entry → FeatId → List Cellv) → ℕ → List Entry → List (Option Object)
objects_by meta slots n [] = []
objects_by meta slots n (e ∷ es) = object_by meta (slots (record { 0 = n }) e) e ∷ objects_by meta slots (suc n) es

-- ## Roots

abbrev pub is_root : Part → Bool
is_root (Root c) = true
is_root p = false

abbrev pub roots_from : ℕ → List Entry → List ObjId
roots_from n [] = []
roots_from n (e ∷ es) = if is_root e.part then record { 0 = n } ∷ roots_from (suc n) es else roots_from (suc n) es

-- ## The objects without their references

module _ (meta : Parts) (file : List Entry) where
  -- the attribute that gives a feature of an element
  abbrev pub attribute_of : Entry → FeatId → Option Attribute
  attribute_of e f = find (λ a. option_map_or (λ g. g.0 == f.0) (attribute_feature meta e.part a) false) e.tag.attributes

  abbrev pub value_of : FeatId → List ℕ → List Cellv
  value_of f text = option_map_or (λ feature. value_of_text meta feature.kind text ∷ []) (slice_get meta.features f.0) []

  -- the values that child elements give to a feature of an object
  abbrev pub child_values : ObjId → FeatId → List Entry → List Cellv
  child_values o f es = flat_map (λ e. by e e.part) es
    where
      by : Entry → Part → List Cellv
      by e (Value p g) = if p.0 == o.0 && g.0 == f.0 then value_of f (text_in e.tag) else []
      by e p = []

  -- the objects that an object contains by a feature, where so many objects stand before
  abbrev pub children_from : ℕ → ObjId → FeatId → List Entry → List Cellv
  children_from n o f [] = []
  children_from n o f (e ∷ es) = here e.part ++ children_from (if is_object e.part then suc n else n) o f es
    where
      here : Part → List Cellv
      here (Content p g c) = if p.0 == o.0 && g.0 == f.0 then Obj (record { 0 = n }) ∷ [] else []
      here p = []

  abbrev pub attribute_values : Entry → FeatId → List Cellv
  attribute_values e f = option_map_or (λ a. value_of f a.value) (attribute_of e f) []

  -- what an element gives, else the default
  abbrev pub or_initial : FeatId → List Cellv → List Cellv
  or_initial f [] = initial meta f
  or_initial f (v ∷ vs) = v ∷ vs

  abbrev pub drafted_slot : ObjId → Entry → FeatId → List Cellv
  drafted_slot o e f =
      if contains meta f then children_from 0 o f file
      else if refers meta f then []
      else or_initial f (attribute_values e f ++ child_values o f file)

  -- The objects in document order, with their attributes and contents.
  abbrev pub draft : Contents
  draft = record { meta = meta; objects = objects_by meta drafted_slot 0 (objects file); roots = roots_from 0 (objects file) }

-- ## Ids

-- an attribute whose values are ids
abbrev pub is_id : Parts → FeatId → Bool
is_id meta f = not (refers meta f) && option_map_or (λ feature. feature.is_id) (slice_get meta.features f.0) false

module _ (m : Contents) where
  -- whether an object bears an id: an `xmi:id`, or the text of a value that it has in an attribute of ids
  abbrev pub bears : List ℕ → ObjId → Entry → Bool
  bears id o e =
      list_any (λ a. is_called xmi_space (codes "id") a && bytes_eq a.value id) e.tag.attributes
      || option_map_or (λ c. list_any (λ f. is_id m.meta f && list_any (λ v. bytes_eq (plain_text m.meta f v) id) (slot m o f)) (features m.meta.classes c)) (class_of m o) false

  abbrev pub bearers_from : List ℕ → ℕ → List Entry → List ObjId
  bearers_from id n [] = []
  bearers_from id n (e ∷ es) = if bears id (record { 0 = n }) e then record { 0 = n } ∷ bearers_from id (suc n) es else bearers_from id (suc n) es

  -- the objects of a file that bear an id
  abbrev pub bearers : List Entry → List ℕ → List ObjId
  bearers file id = bearers_from id 0 (objects file)

-- ## Tokens

-- a path begins with a slash, before which a `#` may stand; all else is an id
abbrev pub path_in : List ℕ → Option (List ℕ)
path_in (c ∷ cs) = if c == 47 then Some (c ∷ cs) else if c == 35 then behind_hash cs else None
  where
    behind_hash : List ℕ → Option (List ℕ)
    behind_hash (d ∷ ds) = if d == 47 then Some (d ∷ ds) else None
    behind_hash [] = None
path_in [] = None

-- an id may stand behind a `#`
abbrev pub id_in : List ℕ → List ℕ
id_in (c ∷ cs) = if c == 35 then cs else c ∷ cs
id_in [] = []

-- what a token names: an object, nothing by a path, or nobody or several by an id
pub data Named : Type 0 where
  One : ObjId → Named
  Nothing : Named
  Nobody : Named
  Several : Named

abbrev pub by_path : Option ObjId → Named
by_path (Some o) = One o
by_path None = Nothing

abbrev pub by_bearers : List ObjId → Named
by_bearers [] = Nobody
by_bearers (o ∷ []) = One o
by_bearers (o ∷ p ∷ os) = Several

abbrev pub object_named : Named → Option ObjId
object_named (One o) = Some o
object_named n = None

-- where these objects stand, and these bear an id
abbrev pub names : Contents → (List ℕ → List ObjId) → List ℕ → Named
names m who token = option_map_or (λ path. by_path (object_of_path m path)) (path_in token) (by_bearers (who (id_in token)))

-- ## References in document order

pub record Token : Type 0 where
  pub text : List ℕ
  pub named : Named

-- by an attribute, from an object's feature to what the tokens name
pub record Reference : Type 0 where
  pub source : ObjId
  pub feature : FeatId
  pub tokens : List Token

-- the feature of a reference that contains nothing
abbrev pub reference_feature : Parts → Part → Attribute → Option FeatId
reference_feature meta part a = then_ (attribute_feature meta part a) (λ f. if refers meta f && not (contains meta f) then Some f else None)

module _ (m : Contents) (who : List ℕ → List ObjId) where
  abbrev pub token_of : List ℕ → Token
  token_of word = record { text = word; named = names m who word }

  abbrev pub reference_of : ObjId → Entry → Attribute → Option Reference
  reference_of o e a = option_map (λ f. record { source = o; feature = f; tokens = map token_of (words_of a.value) }) (reference_feature m.meta e.part a)

  -- those of one element
  abbrev pub references_at : ObjId → Entry → List Reference
  references_at o e = filter_map (reference_of o e) e.tag.attributes

-- what it links
abbrev pub links_of : Reference → List Link
links_of r = map (link r.source r.feature) (filter_map (λ t. object_named t.named) r.tokens)

-- ## What is wrong with their tokens

-- the container of an element's object holds it by the other end of a reference
abbrev pub is_held_by : Parts → Part → FeatId → ObjId → Bool
is_held_by meta (Content q h c) f p = q.0 == p.0 && option_map_or (λ g. g.0 == h.0) (opposite meta f) false
is_held_by meta part f p = false

module _ (m : Contents) where
  -- an object of a class that does not fit
  abbrev pub is_unfit : FeatId → ObjId → Bool
  is_unfit f p = option_map_or (λ c. option_map_or (λ d. not (is_sub m.meta c d)) (class_said m.meta f) false) (class_of m p) false

  -- what a reference of an element names is wrong in this way
  abbrev pub is_wrong : Kind → Part → FeatId → Named → Bool
  is_wrong BadPath part f Nothing = true
  is_wrong NoId part f Nobody = true
  is_wrong TwiceId part f Several = true
  is_wrong BadType part f (One p) = is_unfit f p
  is_wrong TwoContainers part f (One p) = is_contained_by m.meta f && not (is_held_by m.meta part f p)
  is_wrong kind part f n = false

  -- a container is told by the feature, all else by the token
  abbrev pub value_told : Kind → FeatId → List ℕ → List ℕ
  value_told TwoContainers f token = name_of m.meta.features f
  value_told kind f token = token

  -- of one kind the first token
  abbrev pub fault_of_kind : Part → Kind → List Reference → Option Fault
  fault_of_kind part kind [] = None
  fault_of_kind part kind (r ∷ rs) = option_map_or (λ t. Some (kind, value_told kind r.feature t.text)) (find (λ t. is_wrong kind part r.feature t.named) r.tokens) (fault_of_kind part kind rs)

  -- of the kinds the first
  abbrev pub tokens_fault : Part → List Reference → Option Fault
  tokens_fault part rs = first_of (map (λ kind. fault_of_kind part kind rs) (BadPath ∷ NoId ∷ TwiceId ∷ BadType ∷ TwoContainers ∷ []))

-- ## Ends that take one object

module _ (meta : Parts) where
  -- a link gives an object to its own end, and the other way to the opposite
  abbrev pub both_ways : Link → List Link
  both_ways l = l ∷ option_map_or (λ g. link l.to g l.from ∷ []) (opposite meta l.by) []

  abbrev pub ends_of : Reference → List Link
  ends_of r = flat_map both_ways (links_of r)

  -- an end that takes one object, and was given another
  abbrev pub clashes : Link → Link → Bool
  clashes l k = k.from.0 == l.from.0 && k.by.0 == l.by.0 && not (is_many meta l.by) && not (k.to.0 == l.to.0)

  -- whether one of these ends clashes with one before it
  abbrev pub has_clash : List Link → List Link → Bool
  has_clash before [] = false
  has_clash before (l ∷ ls) = list_any (clashes l) before || has_clash (before ++ (l ∷ [])) ls

  -- the first of these references that gives a single end a second object
  abbrev pub ends_fault : List Link → List Reference → Option Fault
  ends_fault before [] = None
  ends_fault before (r ∷ rs) = option_map_or Some (when (has_clash before (ends_of r)) TwoEnds (name_of meta.features r.feature)) (ends_fault (before ++ ends_of r) rs)

-- ## Those of a file

-- at one element, where these ends were given before
abbrev pub references_fault : Contents → List Link → Part → List Reference → Option Fault
references_fault m before part rs = option_map_or Some (tokens_fault m part rs) (ends_fault m.meta before rs)

module _ (m : Contents) (who : List ℕ → List ObjId) where
  abbrev pub links_at : ObjId → Entry → List Link
  links_at o e = flat_map links_of (references_at m who o e)

  -- what attributes of these elements say, in document order
  abbrev pub links_from : ℕ → List Entry → List Link
  links_from n [] = []
  links_from n (e ∷ es) = links_at (record { 0 = n }) e ++ links_from (suc n) es

  abbrev pub reference_fault_from : ℕ → List Link → List Entry → Option (Fault × Place)
  reference_fault_from n before [] = None
  reference_fault_from n before (e ∷ es) =
      option_map_or (λ f. Some (f, e.tag.place)) (references_fault m before e.part (references_at m who (record { 0 = n }) e))
      (reference_fault_from (suc n) (before ++ flat_map (ends_of m.meta) (references_at m who (record { 0 = n }) e)) es)

-- the first thing wrong in the references of a file
abbrev pub reference_fault : Parts → List Entry → Option (Fault × Place)
reference_fault meta file = reference_fault_from (draft meta file) (bearers (draft meta file) file) 0 [] (objects file)
