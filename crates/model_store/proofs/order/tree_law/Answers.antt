use Rattle.model_store.proofs.Trees.{tree-is}
use Rattle.model_store.proofs.order.tree_law.Goals as goal

pub returns : goal.returns
returns c = tree-is
