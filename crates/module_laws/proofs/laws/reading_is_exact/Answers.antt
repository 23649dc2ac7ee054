use Rattle.module_laws.proofs.Main.{exact}
use Rattle.module_laws.proofs.laws.reading_is_exact.Goals as goal

pub returns : goal.returns
returns c = exact
