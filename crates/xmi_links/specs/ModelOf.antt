-- The model that a file without faults stands for: its objects in document order, each reference with its other end.
use Rattle.std.specs.Prelude.{◌==◌, ◌&&◌, not, Bool, false, List, [], ◌∷◌, ◌++◌, filter, map, if◌then◌else◌}
use Rattle.std.specs.Option.{option_map_or}
use Rattle.atl_base.specs.declared.numbers.FeatId.{FeatId}
use Rattle.atl_base.specs.declared.numbers.ObjId.{ObjId}
use Rattle.ecore_meta.specs.declared.parts.Parts.{Parts}
use Rattle.model_store.specs.declared.parts.Cellv.{Cellv}
use Rattle.model_store.specs.declared.parts.Cellv.TheVariants.{Obj}
use Rattle.model_store.specs.Contents.{Contents, contains, is_contained_by, opposite, refers}
use Rattle.xmi_models.specs.Outline.{Entry, Part, Content}
use Rattle.xmi_models.specs.Faults.{objects}
use Rattle.xmi_links.specs.References.{Link, bearers, draft, drafted_slot, links_from, objects_by, roots_from}

-- each object once, where it stands first
abbrev pub distinct : List ObjId → List ObjId
distinct [] = []
distinct (o ∷ os) = o ∷ filter (λ p. not (p.0 == o.0)) (distinct os)

-- ## References by links

abbrev pub is_of : ObjId → FeatId → Link → Bool
is_of o f l = l.from.0 == o.0 && l.by.0 == f.0

abbrev pub is_to : Parts → ObjId → FeatId → Link → Bool
is_to meta o f l = l.to.0 == o.0 && option_map_or (λ g. g.0 == f.0) (opposite meta l.by) false

-- what an object's own attribute names, and then the objects that name it by the opposite
abbrev pub referred : Parts → List Link → ObjId → FeatId → List ObjId
referred meta links o f = distinct (map (λ l. l.to) (filter (is_of o f) links) ++ map (λ l. l.from) (filter (is_to meta o f) links))

-- ## The objects with their references

-- the container, where it holds the object by the opposite
abbrev pub container_by : Parts → FeatId → Part → List ObjId
container_by meta f (Content p h c) = if option_map_or (λ g. g.0 == f.0) (opposite meta h) false then p ∷ [] else []
container_by meta f part = []

module _ (meta : Parts) (file : List Entry) (links : List Link) where
  -- A container reference is said by where the element stands; other references by attributes, their own and those of others.
  abbrev pub joined_slot : ObjId → Entry → FeatId → List Cellv
  joined_slot o e f =
      if is_contained_by meta f then map Obj (container_by meta f e.part)
      else if refers meta f && not (contains meta f) then map Obj (referred meta links o f)
      else drafted_slot meta file o e f

  -- the objects with these links between them
  abbrev pub joined : Contents
  joined = record { meta = meta; objects = objects_by meta joined_slot 0 (objects file); roots = roots_from 0 (objects file) }

-- all that attributes say, in document order
abbrev pub links : Parts → List Entry → List Link
links meta file = links_from (draft meta file) (bearers (draft meta file) file) 0 (objects file)

abbrev pub model_of : Parts → List Entry → Contents
model_of meta file = joined meta file (links meta file)
