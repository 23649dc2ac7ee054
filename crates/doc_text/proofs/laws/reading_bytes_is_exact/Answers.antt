use Rattle.doc_text.proofs.Bytes.{bytes_exact}
use Rattle.doc_text.proofs.laws.reading_bytes_is_exact.Goals as goal

pub returns : goal.returns
returns c = bytes_exact
