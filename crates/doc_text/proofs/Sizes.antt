-- The size of an element, by those in it.
use Rattle.std.proofs.Common.{◌≡◌, ℕ, suc, ◌+◌, length, map, ap, ◌∙◌}
use Rattle.std.specs.Prelude.{List}
use Rattle.doc_text.specs.declared.tree.Child.{Child, out-Child, map-Child, fold_out-Child}
use Rattle.doc_text.specs.declared.tree.Child.TheOpen as layer
use Rattle.doc_text.specs.declared.tree.Child.TheVariants as child
use Rattle.doc_text.specs.declared.tree.Element.{Element, fold_out-Element}
use Rattle.doc_text.specs.Sizes.{total, child_layer, size_layer, size_of_element, size_of_child}

pub element_is : (e : Element) → size_of_element e ≡ suc (length e.attributes + total (map size_of_child e.children))
unfolding size_of_element size_of_child
element_is e = fold_out-Element ℕ ℕ child_layer size_layer e

pub child_is : (c : Child) → size_of_child c ≡ child_layer (map-Child Child Element ℕ ℕ size_of_child size_of_element (out-Child c))
unfolding size_of_element size_of_child
child_is c = fold_out-Child ℕ ℕ child_layer size_layer c

pub sub_is : (e : Element) → size_of_child (child.Sub e) ≡ size_of_element e
sub_is e = child_is (child.Sub e) ∙ ap (λ l. child_layer (map-Child Child Element ℕ ℕ size_of_child size_of_element l)) (child.outs-Sub e)

pub words_is : (text : List ℕ) → size_of_child (child.Words text) ≡ 0
words_is text = child_is (child.Words text) ∙ ap (λ l. child_layer (map-Child Child Element ℕ ℕ size_of_child size_of_element l)) (child.outs-Words text)
