use Rattle.doc_text.specs.Written.{indent}
use Rattle.doc_text.proofs.Opened.{OnOk-map}
use Rattle.xmi_write.proofs.Pieces.{tag_grows}
use Rattle.xmi_write.proofs.elements.push_end.Goals as goal

pub returns-clause-grows : goal.returns-clause-grows
returns-clause-grows c = OnOk-map c.push_end_tag.result
    (λ is. tag_grows c.args.out.now c.push_indent.new.out c.push_end_tag.new.out (indent c.args.depth) _ 60 c.in_ok-push_indent.ensures is)
    c.push_end_tag.ensures
