use Rattle.xmi_links.proofs.Faultless.{faultless_has_no_cycle}
use Rattle.xmi_links.proofs.laws.a_faultless_file_has_no_cycle.Goals as goal

pub returns : goal.returns
returns c = faultless_has_no_cycle
