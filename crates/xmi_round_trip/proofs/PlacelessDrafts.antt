-- What is drafted of a file does not depend on the places of its elements.
use Rattle.std.proofs.Common.{◌≡◌, ℕ, suc, List, [], ◌∷◌, ◌++◌, map, refl, ap, ◌∙◌}
use Rattle.std.specs.Prelude.{◌&&◌, ◌==◌, Option, if◌then◌else◌}
use Rattle.std.proofs.Math.Path.{fun_ext}
use Rattle.atl_base.specs.declared.numbers.FeatId.{FeatId}
use Rattle.atl_base.specs.declared.numbers.ObjId.{ObjId}
use Rattle.ecore_meta.specs.declared.parts.Parts.{Parts}
use Rattle.model_store.specs.declared.parts.Cellv.{Cellv}
use Rattle.model_store.specs.declared.parts.Cellv.TheVariants.{Obj}
use Rattle.model_store.specs.declared.parts.Object.{Object}
use Rattle.model_store.specs.Contents.{Contents, contains, refers}
use Rattle.xmi_models.specs.Outline.{Entry, Tag, Part, Around, Root, Content, Value, Cross, Unknown, Inner, is_object}
use Rattle.xmi_models.specs.Faults.{objects, text_in}
use Rattle.xmi_links.specs.References.{attribute_values, bearers, bearers_from, bears, child_values, children_from, draft, drafted_slot, is_root, object_by, objects_by, or_initial, roots_from, value_of}
use Rattle.xmi_round_trip.proofs.PlacelessEntries.{bare, bare_tag, objects_bare, entry}

-- ## Lists of objects

-- objects with the same slots
pub objects_by_bare : (meta : Parts) (S T : ObjId → Entry → FeatId → List Cellv) → ((o : ObjId) (e : Entry) (f : FeatId) → S o (bare e) f ≡ T o e f)
    → (n : ℕ) (es : List Entry) → objects_by meta S n (map bare es) ≡ objects_by meta T n es
objects_by_bare meta S T h n [] = refl
objects_by_bare meta S T h n (e ∷ es) =
    ap (λ slots. object_by meta slots e ∷ objects_by meta S (suc n) (map bare es)) (fun_ext (λ f. h (record { 0 = n }) e f))
    ∙ ap (λ l. object_by meta (T (record { 0 = n }) e) e ∷ l) (objects_by_bare meta S T h (suc n) es)

-- the roots among them
pub roots_bare : (n : ℕ) (es : List Entry) → roots_from n (map bare es) ≡ roots_from n es
roots_bare n [] = refl
roots_bare n (e ∷ es) = ap (λ l. if is_root e.part then record { 0 = n } ∷ l else l) (roots_bare (suc n) es)

-- a model of these
abbrev pub of_objects : Parts → List (Option Object) → List ObjId → Contents
of_objects meta objects roots = record { meta = meta; objects = objects; roots = roots }

-- the whole list of a file
pub all_objects_bare : (meta : Parts) (S T : ObjId → Entry → FeatId → List Cellv) → ((o : ObjId) (e : Entry) (f : FeatId) → S o (bare e) f ≡ T o e f)
    → (file : List Entry) → of_objects meta (objects_by meta S 0 (objects (map bare file))) (roots_from 0 (objects (map bare file))) ≡ of_objects meta (objects_by meta T 0 (objects file)) (roots_from 0 (objects file))
all_objects_bare meta S T h file =
    ap (λ es. of_objects meta (objects_by meta S 0 es) (roots_from 0 es)) (objects_bare file)
    ∙ ap (λ l. of_objects meta l (roots_from 0 (map bare (objects file)))) (objects_by_bare meta S T h 0 (objects file))
    ∙ ap (λ l. of_objects meta (objects_by meta T 0 (objects file)) l) (roots_bare 0 (objects file))

module _ (meta : Parts) (file : List Entry) where
  -- ## Slots

  -- an element before others that contain the same
  contained_more : (n : ℕ) (o : ObjId) (f : FeatId) (p : Part) (t : Tag) (es : List Entry)
      → children_from meta (map bare file) (if is_object p then suc n else n) o f (map bare es) ≡ children_from meta file (if is_object p then suc n else n) o f es
      → children_from meta (map bare file) n o f (entry p (bare_tag t) ∷ map bare es) ≡ children_from meta file n o f (entry p t ∷ es)
  contained_more n o f (Content p g c) t es h = ap (λ l. (if p.0 == o.0 && g.0 == f.0 then Obj (record { 0 = n }) ∷ [] else []) ++ l) h
  contained_more n o f Around t es h = h
  contained_more n o f (Root c) t es h = h
  contained_more n o f (Value p g) t es h = h
  contained_more n o f (Cross g c) t es h = h
  contained_more n o f (Unknown c) t es h = h
  contained_more n o f Inner t es h = h

  -- the objects that an object contains by a feature
  children_bare : (n : ℕ) (o : ObjId) (f : FeatId) (es : List Entry) → children_from meta (map bare file) n o f (map bare es) ≡ children_from meta file n o f es
  children_bare n o f [] = refl
  children_bare n o f (e ∷ es) = contained_more n o f e.part e.tag es (children_bare (if is_object e.part then suc n else n) o f es)

  -- an element before others that give the same values
  valued_more : (o : ObjId) (f : FeatId) (p : Part) (t : Tag) (es : List Entry)
      → child_values meta (map bare file) o f (map bare es) ≡ child_values meta file o f es
      → child_values meta (map bare file) o f (entry p (bare_tag t) ∷ map bare es) ≡ child_values meta file o f (entry p t ∷ es)
  valued_more o f (Value p g) t es h = ap (λ l. (if p.0 == o.0 && g.0 == f.0 then value_of meta file f (text_in t) else []) ++ l) h
  valued_more o f Around t es h = h
  valued_more o f (Root c) t es h = h
  valued_more o f (Content p g c) t es h = h
  valued_more o f (Cross g c) t es h = h
  valued_more o f (Unknown c) t es h = h
  valued_more o f Inner t es h = h

  -- the values that child elements give to a feature
  values_bare : (o : ObjId) (f : FeatId) (es : List Entry) → child_values meta (map bare file) o f (map bare es) ≡ child_values meta file o f es
  values_bare o f [] = refl
  values_bare o f (e ∷ es) = valued_more o f e.part e.tag es (values_bare o f es)

  -- what stands in a slot of the draft
  pub slot_bare : (o : ObjId) (e : Entry) (f : FeatId) → drafted_slot meta (map bare file) o (bare e) f ≡ drafted_slot meta file o e f
  slot_bare o e f =
      ap (λ l. if contains meta f then l else if refers meta f then [] else or_initial meta file f (attribute_values meta file e f ++ child_values meta (map bare file) o f (map bare file))) (children_bare 0 o f file)
      ∙ ap (λ l. if contains meta f then children_from meta file 0 o f file else if refers meta f then [] else or_initial meta file f (attribute_values meta file e f ++ l)) (values_bare o f file)

  -- ## The draft, and who bears ids

  -- the whole draft
  pub draft_bare : draft meta (map bare file) ≡ draft meta file
  draft_bare = all_objects_bare meta (drafted_slot meta (map bare file)) (drafted_slot meta file) slot_bare file

-- who bears an id among the objects from a number on
bearers_from_bare : (m : Contents) (id : List ℕ) (n : ℕ) (es : List Entry) → bearers_from m id n (map bare es) ≡ bearers_from m id n es
bearers_from_bare m id n [] = refl
bearers_from_bare m id n (e ∷ es) = ap (λ l. if bears m id (record { 0 = n }) e then record { 0 = n } ∷ l else l) (bearers_from_bare m id (suc n) es)

-- who bears an id in a file
pub bearers_bare : (m : Contents) (file : List Entry) → bearers m (map bare file) ≡ bearers m file
bearers_bare m file = fun_ext (λ id. ap (λ es. bearers_from m id 0 es) (objects_bare file) ∙ bearers_from_bare m id 0 (objects file))
