use Rattle.module_laws.proofs.SaysModules.{read_back}
use Rattle.module_laws.proofs.laws.canonical_marks_are_read_back.Goals as goal

pub returns : goal.returns
returns c = read_back
