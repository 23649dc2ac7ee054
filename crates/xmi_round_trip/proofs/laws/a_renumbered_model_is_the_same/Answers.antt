use Rattle.xmi_round_trip.proofs.Preorder.{ordered}
use Rattle.xmi_round_trip.proofs.Renumbering.{renumbering}
use Rattle.xmi_round_trip.proofs.laws.a_renumbered_model_is_the_same.Goals as goal

pub returns : goal.returns
returns c = λ m valid acyclic. renumbering m valid acyclic (ordered m valid acyclic)
