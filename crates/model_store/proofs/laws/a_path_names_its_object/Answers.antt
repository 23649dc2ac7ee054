use Rattle.model_store.proofs.PathsBack.{path_back}
use Rattle.model_store.proofs.laws.a_path_names_its_object.Goals as goal

pub returns : goal.returns
returns c = λ m valid model few acyclic o there. path_back m valid model few acyclic o there
