use Rattle.atl_tree.proofs.Lines.{open-front}
use Rattle.atl_tree.proofs.laws.an_open_text_is_open_in_all.Goals as goal

pub returns : goal.returns
returns c = open-front
