use Rattle.std.proofs.Common.{◌≡◌, ◌+◌, ◌<◌, ◌≤◌, [], ◌∷◌, length, get_or, refl, ap, ◌∙◌, arith}
use Rattle.std.proofs.lemmas.List.{length-append}
use Rattle.doc_text.proofs.Opened.{OnOk-map, end_step, child_step}
use Rattle.doc_text.proofs.write.push_next.Goals as goal

pub returns-then-top-children-clause-written : goal.returns-then-top-children-clause-written
returns-then-top-children-clause-written c base d =
    let past : length c.args.top.element.now.children ≤ c.args.top.next = omega (arith, ap length c.as_slice-children.ensures) in
    OnOk-map c.push_end_tag.result
    (λ is. end_step c.args.declared.now base c.args.depth c.args.top.element.now c.args.top c.args.stack.now.items c.args.out.now c.push_indent.new.out c.push_end_tag.new.out refl past d c.in_ok-push_indent.ensures is)
    c.push_end_tag.ensures

pub returns-clause-written : goal.returns-clause-written
returns-clause-written c base d =
    let e = c.args.top.element.now in
    let within : c.args.top.next < length e.children = omega (arith, ap length c.as_slice-children.ensures) in
    let at = c.index-children-top.is ∙ ap (λ l. get_or l c.args.top.next c.index-children-top.result) c.as_slice-children.ensures in
    let one_more : base + length c.push.new.self.items ≡ c.args.depth + 1 = omega (arith, ap length c.in_ok-push.ensures.items, length-append c.args.stack.now.items (record { element = c.args.top.element; next = c.args.top.next + 1 } ∷ [])) in
    OnOk-map c.push_child.result
    (λ is. child_step c.args.declared.now base c.args.depth e c.args.top (record { element = c.args.top.element; next = c.args.top.next + 1 }) c.args.stack.now.items c.push.new.self.items c.push_child.new.stack.items c.index-children-top.result c.args.out.now c.push_child.new.out
    refl refl refl within at d c.in_ok-push.ensures.items is)
    (c.push_child.ensures.written base one_more)
