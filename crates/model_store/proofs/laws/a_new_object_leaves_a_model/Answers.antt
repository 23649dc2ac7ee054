use Rattle.model_store.proofs.CreatedModel.{created_is_model}
use Rattle.model_store.proofs.laws.a_new_object_leaves_a_model.Goals as goal

pub returns : goal.returns
returns c = created_is_model
