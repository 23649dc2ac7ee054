use Rattle.std.proofs.Common.{◌≡◌, ◌++◌, ◌+◌, ◌*◌, ◌≤◌, length}
use Rattle.std.specs.Prelude.{reverse}
use Rattle.doc_text.specs.Namespaces.{children, has_element}
use Rattle.doc_text.specs.RawTrees.{stack_of, trees_of}
use Rattle.doc_text.specs.State.{tags}
use Rattle.doc_text.proofs.Resolving.{weights}
use Rattle.doc_text.proofs.reading.resolve.+resolve.Given as goal

-- the children that are left, and behind them those that are resolved
abbrev pub invariant-resolve_children-loop-tree : goal.invariant-resolve_children-loop-tree
invariant-resolve_children-loop-tree l = record {
  outer : l.outer ≡ l.fn.outer;
  lighter : weights (trees_of l.children) ≤ weights (trees_of l.fn.children);
  rest : children (tags (stack_of l.fn.outer)) l.beside (trees_of l.children) ++ reverse l.resolved.items ≡ children (tags (stack_of l.fn.outer)) (has_element (trees_of l.fn.children)) (trees_of l.fn.children);
}

abbrev pub decreases-resolve_children-loop-tree : goal.decreases-resolve_children-loop-tree
decreases-resolve_children-loop-tree l = length l.children

abbrev pub decreases-resolve_children : goal.decreases-resolve_children
decreases-resolve_children l = 2 * weights (trees_of l.children)

abbrev pub decreases-resolve_element : goal.decreases-resolve_element
decreases-resolve_element l = 2 * weights (trees_of l.children) + 1
