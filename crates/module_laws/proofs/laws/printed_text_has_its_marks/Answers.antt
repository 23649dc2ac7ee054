use Rattle.module_laws.proofs.ReadsBack.{has_its_marks}
use Rattle.module_laws.proofs.laws.printed_text_has_its_marks.Goals as goal

pub returns : goal.returns
returns c = has_its_marks
