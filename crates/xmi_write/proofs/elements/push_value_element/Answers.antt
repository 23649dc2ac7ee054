use Rattle.std.proofs.Common.{◌≡◌, ◌++◌, List, ℕ, [], ap, ◌∙◌}
use Rattle.doc_text.specs.declared.tree.Prefix.{Prefix}
use Rattle.doc_text.specs.Written.{indent, opening}
use Rattle.doc_text.proofs.Opened.{OnOk-map}
use Rattle.model_store.specs.Texts.{value_text}
use Rattle.xmi_write.specs.declared.named.Named.TheVariants.{Inside}
use Rattle.xmi_write.proofs.Begun.{head_same, head_with}
use Rattle.xmi_write.proofs.Pieces.{opening_grows, value_is}
use Rattle.xmi_write.proofs.elements.push_value_element.Goals as goal

pub returns-clause-written : goal.returns-clause-written
returns-clause-written c =
    let m = c.args.setting.now.model.now in
    let head = c.in_ok-head.head in
    let ds : List Prefix = c.args.setting.now.declared in
    let text : c.push_value.new.out ≡ value_text m c.args.f c.args.value.now = c.in_ok-push_value.ensures ∙ ap (λ (l : List ℕ). l ++ value_text m c.args.f c.args.value.now) c.new-words.ensures in
    let headed : head ≡ head_with m.meta (Inside c.args.f) [] [] =
    head_same head c.deref.result.now m.meta (Inside c.args.f) c.new.result [] c.new-2.result.items [] c.in_ok-head.ensures (c.deref.ensures ∙ c.meta-meta.ensures) c.new.ensures c.new-2.ensures.items in
    let opened : c.push_opening.new.out ≡ c.args.out.now ++ opening ds head.space head.name head.declared head.attributes c.args.depth =
    c.in_ok-push_opening.ensures ∙ ap (λ (x : List Prefix). c.args.out.now ++ opening x head.space head.name head.declared head.attributes c.args.depth) c.as_slice.ensures in
    OnOk-map c.push_words.result
    (λ is. value_is m c.args.f c.args.value.now c.args.depth ds head c.push_value.new.out c.args.out.now c.push_opening.new.out c.push_words.new.out c.requires.declared headed text opened is)
    c.push_words.ensures

pub returns-clause-grows : goal.returns-clause-grows
returns-clause-grows c = OnOk-map c.push_words.result
    (λ is. opening_grows c.args.out.now c.push_opening.new.out c.push_words.new.out (indent c.args.depth) _ _ 60 c.in_ok-push_opening.ensures is)
    c.push_words.ensures
