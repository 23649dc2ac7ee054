use Rattle.std.proofs.Common.{◌≤◌}
use Rattle.atl_tree.proofs.expr.Expr.TheLaws.{the_size}
use Rattle.atl_tree.proofs.+expr.Given as goal

-- what is left of the chain is no larger than the whole
abbrev pub invariant-expr::Expr::drop-loop-op : goal.invariant-expr::Expr::drop-loop-op
invariant-expr::Expr::drop-loop-op l = the_size l.self ≤ the_size l.fn.self
