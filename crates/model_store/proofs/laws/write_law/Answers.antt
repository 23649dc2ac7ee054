use Rattle.model_store.proofs.Keeping.{write_keeps}
use Rattle.model_store.proofs.laws.write_law.Goals as goal

pub returns : goal.returns
returns c = write_keeps
