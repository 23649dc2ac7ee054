use Rattle.atl_tree.proofs.Fronts.{bad-front}
use Rattle.atl_tree.proofs.laws.a_bad_character_is_bad_in_all.Goals as goal

pub returns : goal.returns
returns c = bad-front
