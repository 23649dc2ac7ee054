use Rattle.std.proofs.Common.{◌≤◌}
use Rattle.atl_tree.proofs.kind.KindNode.TheLaws.{the_size}
use Rattle.atl_tree.proofs.+kind.Given as goal

-- what is left of the type is no larger than the whole
abbrev pub invariant-kind::KindNode::drop-loop-word : goal.invariant-kind::KindNode::drop-loop-word
invariant-kind::KindNode::drop-loop-word l = the_size l.self ≤ the_size l.fn.self
