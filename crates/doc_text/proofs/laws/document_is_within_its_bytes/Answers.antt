use Rattle.doc_text.proofs.ByteSizes.{document_within}
use Rattle.doc_text.proofs.laws.document_is_within_its_bytes.Goals as goal

pub returns : goal.returns
returns c = document_within
