-- What is still to be written: of each thing on the stack, from the top on, its lines. An end tag stands as deep as its element, and
-- what is inside one level deeper: as many levels as there are end tags below it.
use Rattle.std.specs.Prelude.{ℕ, suc, Bool, true, false, List, [], ◌∷◌, ◌++◌, map, Option, Some, None, if◌then◌else◌}
use Rattle.atl_base.specs.declared.numbers.ObjId.{ObjId}
use Rattle.doc_text.specs.declared.tree.Child.{Child}
use Rattle.doc_text.specs.declared.tree.Child.TheVariants as child
use Rattle.doc_text.specs.declared.tree.Element.{Element}
use Rattle.doc_text.specs.Written.{opening, contents, lines, indent, end_tag, written_child}
use Rattle.model_store.specs.Contents.{Contents}
use Rattle.xmi_write.specs.declared.named.Named.{Named}
use Rattle.xmi_write.specs.declared.parts.Part.{Part as StackedPart}
use Rattle.xmi_write.specs.declared.parts.Part.TheVariants as stacked
use Rattle.xmi_write.specs.declared.parts.Todo.{Todo}
use Rattle.xmi_write.specs.declared.parts.Todo.TheVariants as todo
use Rattle.xmi_write.specs.Xmi.{Part, Content, Value, declared, element, local_name, part_child, root_element, space_of}

abbrev pub part_of : StackedPart → Part
part_of (stacked.Content f o) = Content f o
part_of (stacked.Value f v) = Value f v.now

-- the part of an object that it is, where it is one
abbrev pub todo_part : Todo → Option Part
todo_part (todo.Inside p) = Some (part_of p)
todo_part (todo.Root o) = None
todo_part (todo.End named) = None

abbrev pub todo_root : Todo → Option ObjId
todo_root (todo.Root o) = Some o
todo_root t = None

abbrev pub is_end : Todo → Bool
is_end (todo.End named) = true
is_end t = false

-- the child of an element that it is; an end tag is none
abbrev pub todo_child : Contents → Todo → Child
todo_child m (todo.Inside p) = part_child (element m) m (part_of p)
todo_child m (todo.Root o) = child.Sub (root_element m o)
todo_child m (todo.End named) = child.Words []

abbrev pub todo_lines : Contents → ℕ → Todo → List ℕ
todo_lines m depth (todo.End named) = indent depth ++ end_tag (declared m.meta) (space_of m.meta named) (local_name m.meta named)
todo_lines m depth t = lines depth (written_child (declared m.meta) (todo_child m t))

-- how many elements are open
abbrev pub ends : List Todo → ℕ
ends [] = 0
ends (t ∷ ts) = if is_end t then suc (ends ts) else ends ts

abbrev pub pending : Contents → List Todo → List ℕ
pending m [] = []
pending m (t ∷ ts) = todo_lines m (ends ts) t ++ pending m ts

-- an element that begins, up to what follows its children
abbrev pub begun : Contents → Named → Element → List Todo → ℕ → List ℕ
begun m named head inside depth =
    opening (declared m.meta) head.space head.name head.declared head.attributes depth
    ++ contents (end_tag (declared m.meta) (space_of m.meta named) (local_name m.meta named)) depth (map (written_child (declared m.meta)) (map (todo_child m) inside))
