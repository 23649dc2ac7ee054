use Rattle.std.proofs.Common.{◌∙◌, sym, ap}
use Rattle.doc_text.specs.Raw.{Also, Node}
use Rattle.doc_text.specs.RawTrees.{stack_of, trees_of}
use Rattle.doc_text.specs.State.{Inside, opened}
use Rattle.doc_text.proofs.RawTrees.{trees_node}
use Rattle.doc_text.proofs.reading.tags.ended_in.Goals as goal

pub returns : goal.returns
returns c =
    let tag = c.args.closed.tag in
    let before = c.args.parent.children in
    ap (λ ts. Inside 0 (opened c.args.parent.tag ts) (stack_of c.args.outer))
    (sym (ap trees_of c.in_ok-push.ensures.ok ∙ trees_node before tag c.into_items.result ∙ ap (λ inner. Also (trees_of before) (Node tag (trees_of inner))) c.into_items.ensures))
