use Rattle.module_laws.proofs.SaysModules.{canonical}
use Rattle.module_laws.proofs.laws.canonical_marks_have_the_tree.Goals as goal

pub returns : goal.returns
returns c = canonical
