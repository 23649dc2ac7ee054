use Rattle.doc_text.proofs.Main.{exact}
use Rattle.doc_text.proofs.laws.reading_is_exact.Goals as goal

pub returns : goal.returns
returns c = exact
