use Rattle.model_store.proofs.Folded.{fold_is_model}
use Rattle.model_store.proofs.laws.fold_law.Goals as goal

pub returns : goal.returns
returns c = fold_is_model
