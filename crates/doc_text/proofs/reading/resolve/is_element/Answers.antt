use Rattle.std.proofs.Common.{sym, ap, ◌∙◌}
use Rattle.doc_text.specs.RawTrees.{tree_of}
use Rattle.doc_text.specs.Resolving.{is_node}
use Rattle.doc_text.proofs.RawTrees.{node_tree, words_tree}
use Rattle.doc_text.proofs.reading.resolve.is_element.Goals as goal

pub returns-in-Node : goal.returns-in-Node
returns-in-Node c = sym (ap (λ t. is_node (tree_of t)) c.in-Node.is ∙ ap is_node (node_tree _ _))

pub returns-in-Words : goal.returns-in-Words
returns-in-Words c = sym (ap (λ t. is_node (tree_of t)) c.in-Words.is ∙ ap is_node (words_tree _))
