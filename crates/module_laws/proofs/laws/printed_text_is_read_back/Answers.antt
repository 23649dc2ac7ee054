use Rattle.module_laws.proofs.ReadsBack.{read_back}
use Rattle.module_laws.proofs.laws.printed_text_is_read_back.Goals as goal

pub returns : goal.returns
returns c = read_back
