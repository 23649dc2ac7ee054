use Rattle.module_laws.proofs.ReadsBack.{read_again}
use Rattle.module_laws.proofs.laws.what_is_read_is_read_back.Goals as goal

pub returns : goal.returns
returns c = read_again
