-- How large a document is: its elements and attributes.
use Rattle.std.specs.Prelude.{ℕ, suc, ◌+◌, List, [], ◌∷◌, length}
use Rattle.doc_text.specs.declared.tree.Child.{Child, fold-Child}
use Rattle.doc_text.specs.declared.tree.Child.TheOpen as layer
use Rattle.doc_text.specs.declared.tree.Doc.{Doc}
use Rattle.doc_text.specs.declared.tree.Element.{Element, fold-Element}

abbrev pub total : List ℕ → ℕ
total [] = 0
total (n ∷ ns) = n + total ns

abbrev pub size_layer : layer.Element-F ℕ ℕ → ℕ
size_layer e = suc (length e.attributes + total e.children)

abbrev pub child_layer : layer.Child-F ℕ ℕ → ℕ
child_layer (layer.Sub n) = n
child_layer (layer.Words text) = 0

-- an element with its attributes, and all in it
unfoldable pub size_of_element : Element → ℕ
size_of_element = fold-Element ℕ ℕ child_layer size_layer

unfoldable pub size_of_child : Child → ℕ
size_of_child = fold-Child ℕ ℕ child_layer size_layer

-- how many elements and attributes a document has
abbrev pub size : Doc → ℕ
size doc = size_of_element doc.root
