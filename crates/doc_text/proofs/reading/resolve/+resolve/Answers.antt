use Rattle.std.proofs.Common.{◌≡◌, ◌∷◌, ◌++◌, refl, sym, ap, ◌∙◌, arith, append-nil}
use Rattle.std.specs.Prelude.{reverse}
use Rattle.std.specs.List.{list_any}
use Rattle.doc_text.specs.Namespaces.{children, element as element_of, has_element}
use Rattle.doc_text.specs.Raw.{Node, Words, Also}
use Rattle.doc_text.specs.RawTrees.{stack_of, tree_of, trees_of}
use Rattle.doc_text.specs.Resolving.{is_node}
use Rattle.doc_text.specs.State.{tags}
use Rattle.doc_text.proofs.Resolving.{has_any, popped_node, popped_words, inner_lighter, rest_lighter, node_step, kept_step, dropped_step}
use Rattle.doc_text.proofs.reading.resolve.+resolve.Goals as goal

pub resolve_children-loop-tree-init : goal.resolve_children-loop-tree-init
resolve_children-loop-tree-init t c =
    let trees = trees_of c.args.children in
    let around = tags (stack_of c.args.outer.now) in
    let beside : c.has_element-beside.result ≡ has_element trees = c.has_element-beside.ensures ∙ ap (list_any (λ x. is_node (tree_of x))) c.as_slice.ensures ∙ has_any c.args.children in
    record {
      outer = refl;
      lighter = omega arith;
      rest = ap (λ l. children around c.has_element-beside.result trees ++ reverse l) c.in_ok-resolved.ensures.items ∙ append-nil (children around c.has_element-beside.result trees)
          ∙ ap (λ b. children around b trees) beside;
    }

pub resolve_children-resolve_element-requires : goal.resolve_children-resolve_element-requires
resolve_children-resolve_element-requires t c =
    let left = trees_of c.loop-tree.children in
    let popped : left ≡ Also (trees_of c.pop.new.self) (Node c.in-Node.tag (trees_of c.in-Node.inner)) = popped_node _ _ _ _ _ c.in-Some.ensures c.in-Node.is in
    (omega (arith, inner_lighter left _ _ _ popped, c.loop-tree.invariant.lighter), tt)

pub resolve_children-loop-tree-preserved-in-Continue-branch-3 : goal.resolve_children-loop-tree-preserved-in-Continue-branch-3
resolve_children-loop-tree-preserved-in-Continue-branch-3 t c =
    let so_far = c.loop-tree.invariant in
    let left = trees_of c.loop-tree.children in
    let rest = trees_of c.pop.new.self in
    let around = tags (stack_of c.args.outer.now) in
    let popped : left ≡ Also rest (Node c.in-Node.tag (trees_of c.in-Node.inner)) = popped_node _ _ _ _ _ c.in-Some.ensures c.in-Node.is in
    record {
      outer = c.in_ok-element-in-Node.ensures.outer ∙ so_far.outer;
      lighter = omega (arith, rest_lighter left rest _ popped, so_far.lighter);
      rest = node_step around c.has_element-beside.result left rest (trees_of c.in-Node.inner) c.in-Node.tag c.in_ok-element-in-Node.element c.loop-tree.resolved.items _ _
          (c.in_ok-element-in-Node.ensures.element
          ∙ ap (λ o. let a = tags (stack_of o) in element_of a c.in-Node.tag (children (c.in-Node.tag ∷ a) (has_element (trees_of c.in-Node.inner)) (trees_of c.in-Node.inner))) so_far.outer)
          popped so_far.rest c.in_ok-push-in-Node.ensures.items;
    }

pub resolve_children-loop-tree-preserved-in-Continue-branch-4 : goal.resolve_children-loop-tree-preserved-in-Continue-branch-4
resolve_children-loop-tree-preserved-in-Continue-branch-4 t c =
    let so_far = c.loop-tree.invariant in
    let left = trees_of c.loop-tree.children in
    let rest = trees_of c.pop.new.self in
    let popped : left ≡ Also rest (Words c.in-Words.text) = popped_words _ _ _ _ c.in-Some.ensures c.in-Words.is in
    record {
      outer = so_far.outer;
      lighter = omega (arith, rest_lighter left rest _ popped, so_far.lighter);
      rest = kept_step (tags (stack_of c.args.outer.now)) c.has_element-beside.result left rest c.in-Words.text c.loop-tree.resolved.items _ _
          (sym c.is_dropped.ensures ∙ c.if-not-is_dropped.true) popped so_far.rest c.in_ok-push-in-Words.ensures.items;
    }

pub resolve_children-loop-tree-preserved : goal.resolve_children-loop-tree-preserved
resolve_children-loop-tree-preserved t c =
    let so_far = c.loop-tree.invariant in
    let left = trees_of c.loop-tree.children in
    let rest = trees_of c.pop.new.self in
    let popped : left ≡ Also rest (Words c.in-Words.text) = popped_words _ _ _ _ c.in-Some.ensures c.in-Words.is in
    record {
      outer = so_far.outer;
      lighter = omega (arith, rest_lighter left rest _ popped, so_far.lighter);
      rest = dropped_step (tags (stack_of c.args.outer.now)) c.has_element-beside.result left rest c.in-Words.text c.loop-tree.resolved.items _
          (sym c.is_dropped.ensures ∙ c.if-not-is_dropped.false) popped so_far.rest;
    }
