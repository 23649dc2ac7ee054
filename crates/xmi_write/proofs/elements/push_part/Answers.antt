use Rattle.std.proofs.Common.{◌≡◌, ◌++◌, List, ℕ, reverse, sym, ap, ◌∙◌, append_assoc}
use Rattle.doc_text.specs.Written.{lines, written_child, written_element}
use Rattle.doc_text.proofs.Opened.{OnOk-map}
use Rattle.xmi_write.specs.declared.named.Named.TheVariants.{Inside}
use Rattle.xmi_write.specs.declared.parts.Part.{Part}
use Rattle.xmi_write.specs.declared.parts.Todo.TheVariants as todo
use Rattle.xmi_write.specs.Pending.{ends, pending, todo_child, todo_lines}
use Rattle.xmi_write.specs.Xmi.{declared, element, value_element}
use Rattle.xmi_write.proofs.Pieces.{child_lines}
use Rattle.xmi_write.proofs.elements.push_part.Goals as goal

pub returns-in-Content-clause-written : goal.returns-in-Content-clause-written
returns-in-Content-clause-written c =
    let m = c.args.setting.now.model.now in
    let level : ℕ = ends (reverse c.args.stack.now.items) in
    let same : todo_lines m level (todo.Inside c.args.part) ≡ written_element (declared m.meta) (element m (Inside c.in-Content.f) c.in-Content.o) c.args.depth =
    ap (λ (p : Part). todo_lines m level (todo.Inside p)) c.in-Content.is ∙ child_lines (declared m.meta) level c.args.depth (element m (Inside c.in-Content.f) c.in-Content.o) c.requires.depth in
    OnOk-map c.push_object.result
    (λ is. is ∙ ap (λ (l : List ℕ). c.args.out.now ++ (l ++ pending m (reverse c.args.stack.now.items))) (sym same))
    c.push_object.ensures.written

pub returns-in_ok-push_value_element-in-Value-clause-written : goal.returns-in_ok-push_value_element-in-Value-clause-written
returns-in_ok-push_value_element-in-Value-clause-written c =
    let m = c.args.setting.now.model.now in
    let level : ℕ = ends (reverse c.args.stack.now.items) in
    let rest : List ℕ = pending m (reverse c.args.stack.now.items) in
    let here : List ℕ = written_element (declared m.meta) (value_element m c.in-Value.f c.in-Value.value.now) c.args.depth in
    let same : todo_lines m level (todo.Inside c.args.part) ≡ here =
    ap (λ (p : Part). todo_lines m level (todo.Inside p)) c.in-Value.is ∙ child_lines (declared m.meta) level c.args.depth (value_element m c.in-Value.f c.in-Value.value.now) c.requires.depth in
    ap (λ (l : List ℕ). l ++ rest) c.in_ok-push_value_element-in-Value.ensures.written
    ∙ append_assoc c.args.out.now here rest
    ∙ ap (λ (l : List ℕ). c.args.out.now ++ (l ++ rest)) (sym same)
