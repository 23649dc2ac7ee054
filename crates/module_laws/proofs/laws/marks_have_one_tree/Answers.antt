use Rattle.module_laws.proofs.Main.{one}
use Rattle.module_laws.proofs.laws.marks_have_one_tree.Goals as goal

pub returns : goal.returns
returns c = one
