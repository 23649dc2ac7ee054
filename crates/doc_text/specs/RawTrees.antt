-- The trees that reading builds, as the trees of a document's form, and the elements that are open in it.
use Rattle.std.specs.Prelude.{List, [], ◌∷◌, map, reverse}
use Rattle.doc_text.specs.Raw.{Tree, Trees, Node, Words, Nil, Also}
use Rattle.doc_text.specs.State.{Open, opened}
use Rattle.doc_text.specs.declared.reading.raw.RawTree.{RawTree, fold-RawTree}
use Rattle.doc_text.specs.declared.reading.raw.RawTree.TheOpen as layer
use Rattle.doc_text.specs.declared.reading.«open».Open.{Open as SomeOpen}

-- trees, and then these
abbrev pub grown_by : Trees → List Tree → Trees
grown_by ts [] = ts
grown_by ts (t ∷ more) = grown_by (Also ts t) more

-- one tree, by what stands in it
abbrev pub tree_layer : layer.RawTree-F Tree → Tree
tree_layer (layer.Node tag inner) = Node tag (grown_by Nil inner)
tree_layer (layer.Words text) = Words text

unfoldable pub tree_of : RawTree → Tree
tree_of = fold-RawTree Tree tree_layer

abbrev pub trees_of : List RawTree → Trees
trees_of ts = grown_by Nil (map tree_of ts)

abbrev pub open_of : SomeOpen → Open
open_of f = opened f.tag (trees_of f.children)

-- the last of a stack is the innermost
abbrev pub stack_of : List SomeOpen → List Open
stack_of fs = map open_of (reverse fs)
