use Rattle.std.proofs.Common.{◌≡◌, length, ap, arith}
use Rattle.doc_text.specs.Encodings.{encoding_of}
use Rattle.doc_text.specs.Characters.{decoded, without_mark}
use Rattle.doc_text.specs.Sources.{letters}
use Rattle.doc_text.proofs.Lengths.{decoded_len, mark_len}
use Rattle.doc_text.proofs.source.characters_of.Goals as goal

pub returns-clause-number : goal.returns-clause-number
returns-clause-number c =
    let bs = c.without_mark.result.now in
    let all : letters c.decode.result ≡ decoded (encoding_of bs) bs = c.decode.ensures in
    let same : bs ≡ without_mark c.args.bytes.now = c.without_mark.ensures in
    grind (arith, ap length all, decoded_len (encoding_of bs) bs, mark_len c.args.bytes.now, ap length same)
