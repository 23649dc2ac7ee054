use Rattle.xmi_links.proofs.Faultless.{faultless_is_model}
use Rattle.xmi_links.proofs.laws.a_faultless_file_is_a_model.Goals as goal

pub returns : goal.returns
returns c = faultless_is_model
