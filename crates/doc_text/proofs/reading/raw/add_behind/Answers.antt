use Rattle.std.proofs.Common.{◌++◌, [], ◌∷◌, ap, encode_utf8}
use Rattle.doc_text.proofs.Opened.{OnOk-map}
use Rattle.doc_text.proofs.RawTrees.{adds_words, adds_node}
use Rattle.doc_text.proofs.reading.raw.add_behind.Goals as goal

pub returns-in_ok-push_char-in-Words : goal.returns-in_ok-push_char-in-Words
returns-in_ok-push_char-in-Words c =
    OnOk-map c.push.result
    (λ is. adds_words (c.args.children.now ++ (c.args.last ∷ [])) c.args.children.now c.push.new.self c.in-Words.text c.push_char.new.self (encode_utf8 c.args.c) (ap (λ x. c.args.children.now ++ (x ∷ [])) c.in-Words.is) c.in_ok-push_char-in-Words.ensures.ok is)
    c.push.ensures.ok

pub returns-in_ok-text_of-in-Node : goal.returns-in_ok-text_of-in-Node
returns-in_ok-text_of-in-Node c =
    OnOk-map c.push-in-Node-2.result
    (λ is. adds_node (c.args.children.now ++ (c.args.last ∷ [])) c.args.children.now c.push-in-Node.new.self c.push-in-Node-2.new.self c.in-Node.tag c.in-Node.inner c.in_ok-text_of-in-Node.field-0 (encode_utf8 c.args.c) (ap (λ x. c.args.children.now ++ (x ∷ [])) c.in-Node.is) c.in_ok-push-in-Node.ensures.ok c.in_ok-text_of-in-Node.ensures is)
    c.push-in-Node-2.ensures.ok
