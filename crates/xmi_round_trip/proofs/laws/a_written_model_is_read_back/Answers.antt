use Rattle.xmi_round_trip.proofs.RoundTrip.{read_back}
use Rattle.xmi_round_trip.proofs.laws.a_written_model_is_read_back.Goals as goal

pub returns : goal.returns
returns c = read_back
