use Rattle.xmi_read.proofs.Valid.{outline_valid}
use Rattle.xmi_read.proofs.laws.file_without_faults_is_a_metamodel.Goals as goal

pub returns : goal.returns
returns c = outline_valid
