-- What resolving a document's names takes of each tree: whether it is an element, and the child that it becomes.
use Rattle.std.specs.Prelude.{ℕ, List, [], Bool, true, false, if◌then◌else◌}
use Rattle.doc_text.specs.Raw.{Pair, Start, Tree, Node, Words}
use Rattle.doc_text.specs.Namespaces.{is_declaration, attribute_space, or_empty}

abbrev pub is_node : Tree → Bool
is_node (Node t us) = true
is_node (Words s) = false

-- the space of an attribute; a declaration needs none
abbrev pub space_in : List Start → Pair → List ℕ
space_in open_tags a = if is_declaration a.name then [] else or_empty (attribute_space a.name open_tags)
