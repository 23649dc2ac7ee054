use Rattle.module_laws.proofs.ReadsBack.{gives_well_formed}
use Rattle.module_laws.proofs.laws.what_is_read_is_well_formed.Goals as goal

pub returns : goal.returns
returns c = gives_well_formed
