use Rattle.model_store.proofs.NamedObjects.{named_there}
use Rattle.model_store.proofs.PathsBack.{path_back}
use Rattle.model_store.proofs.laws.a_named_object_has_a_path.Goals as goal

pub returns : goal.returns
returns c = λ m valid model few acyclic text o named. let there = named_there m model text o named in (there, path_back m valid model few acyclic o there)
