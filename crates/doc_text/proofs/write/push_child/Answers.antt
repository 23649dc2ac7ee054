use Rattle.std.proofs.Common.{◌≡◌, ◌++◌, List, ℕ, ap, ◌∙◌, sym, append_assoc}
use Rattle.std.specs.Prelude.{reverse}
use Rattle.doc_text.specs.Pending.{pending}
use Rattle.doc_text.specs.Written.{Lines, Words, lines, written_child, written_element}
use Rattle.doc_text.proofs.Opened.{OnOk-map}
use Rattle.doc_text.proofs.WrittenElements.{child_is, words_are}
use Rattle.doc_text.proofs.write.push_child.Goals as goal

pub returns-in-Sub-clause-written : goal.returns-in-Sub-clause-written
returns-in-Sub-clause-written c base d =
    let ds = c.args.declared.now in
    let rest : List ℕ = pending ds base (reverse c.args.stack.now.items) in
    let same : written_child ds c.args.child.now ≡ Lines (written_element ds c.in-Sub.element) = ap (written_child ds) c.in-Sub.is ∙ child_is ds c.in-Sub.element in
    OnOk-map c.push_start.result
    (λ is. is ∙ ap (λ w. c.args.out.now ++ (lines c.args.depth w ++ rest)) (sym same))
    (c.push_start.ensures.written base d)

pub returns-in-Words-clause-written : goal.returns-in-Words-clause-written
returns-in-Words-clause-written c base d =
    let ds = c.args.declared.now in
    let rest : List ℕ = pending ds base (reverse c.args.stack.now.items) in
    let same : written_child ds c.args.child.now ≡ Words c.in-Words.text = ap (written_child ds) c.in-Words.is ∙ words_are ds c.in-Words.text in
    OnOk-map c.push_text_line.result
    (λ is. ap (λ o. o ++ rest) is ∙ append_assoc c.args.out.now (lines c.args.depth (Words c.in-Words.text)) rest
    ∙ ap (λ w. c.args.out.now ++ (lines c.args.depth w ++ rest)) (sym same))
    c.push_text_line.ensures
