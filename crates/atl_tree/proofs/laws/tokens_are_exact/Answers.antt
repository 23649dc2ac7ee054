use Rattle.atl_tree.proofs.Exact.{exact}
use Rattle.atl_tree.proofs.laws.tokens_are_exact.Goals as goal

pub returns : goal.returns
returns c = exact
