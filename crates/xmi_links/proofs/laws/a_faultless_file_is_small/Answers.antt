use Rattle.xmi_links.proofs.Faultless.{faultless_is_small}
use Rattle.xmi_links.proofs.laws.a_faultless_file_is_small.Goals as goal

pub returns : goal.returns
returns c = faultless_is_small
