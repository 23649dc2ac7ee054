use Rattle.std.proofs.Common.{encode_utf8}
use Rattle.doc_text.proofs.Opened.{OnOk-map}
use Rattle.doc_text.proofs.RawTrees.{adds_first}
use Rattle.doc_text.proofs.reading.raw.add_char.Goals as goal

pub returns-in_ok-text_of-in-None : goal.returns-in_ok-text_of-in-None
returns-in_ok-text_of-in-None c =
    OnOk-map c.push.result
    (λ is. adds_first c.args.children.now c.pop.new.self c.push.new.self c.in_ok-text_of-in-None.field-0 (encode_utf8 c.args.c) c.in-None.ensures.0 c.in-None.ensures.1 c.in_ok-text_of-in-None.ensures is)
    c.push.ensures.ok
