use Rattle.doc_text.proofs.Again.{reads_back}
use Rattle.doc_text.proofs.laws.writing_is_read_back.Goals as goal

pub returns : goal.returns
returns c = reads_back
