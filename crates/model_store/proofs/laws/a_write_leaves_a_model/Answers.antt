use Rattle.model_store.proofs.ReferenceWrites.{write_is_model}
use Rattle.model_store.proofs.laws.a_write_leaves_a_model.Goals as goal

pub returns : goal.returns
returns c = write_is_model
