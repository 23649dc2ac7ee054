use Rattle.std.proofs.Common.{◌≡◌, ◌++◌, List, ℕ, suc, reverse, sym, ap, ◌∙◌}
use Rattle.std.specs.Prelude.{if◌then◌else◌}
use Rattle.doc_text.specs.Written.{written_element}
use Rattle.doc_text.proofs.Opened.{OnOk-map}
use Rattle.xmi_write.specs.declared.named.Named.{Named}
use Rattle.xmi_write.specs.declared.parts.Todo.{Todo}
use Rattle.xmi_write.specs.Pending.{ends, is_end, pending, todo_lines}
use Rattle.xmi_write.specs.Xmi.{declared, element, root_element}
use Rattle.xmi_write.proofs.Pieces.{child_lines}
use Rattle.xmi_write.proofs.elements.push_next.Goals as goal

pub returns-in-Root-clause-written : goal.returns-in-Root-clause-written
returns-in-Root-clause-written c =
    let m = c.args.setting.now.model.now in
    let level : ℕ = ends (reverse c.args.stack.now.items) in
    let depth : level ≡ c.args.depth = sym (ap (λ (t : Todo). if is_end t then suc level else level) c.in-Root.is) ∙ c.requires.depth in
    let same : todo_lines m level c.args.todo ≡ written_element (declared m.meta) (element m c.root_name.result c.in-Root.o) c.args.depth =
    ap (todo_lines m level) c.in-Root.is
    ∙ child_lines (declared m.meta) level c.args.depth (root_element m c.in-Root.o) depth
    ∙ ap (λ (n : Named). written_element (declared m.meta) (element m n c.in-Root.o) c.args.depth) (sym c.root_name.ensures) in
    OnOk-map c.push_object.result
    (λ is. is ∙ ap (λ (l : List ℕ). c.args.out.now ++ (l ++ pending m (reverse c.args.stack.now.items))) (sym same))
    c.push_object.ensures.written
