use Rattle.std.proofs.Common.{◌≡◌, ◌==◌, ◌++◌, List, ℕ, length, reverse, true, false, sym, ap, ◌∙◌, arith, vec_len}
use Rattle.doc_text.specs.declared.tree.Prefix.{Prefix}
use Rattle.doc_text.specs.Written.{opening}
use Rattle.xmi_write.specs.declared.parts.Todo.{Todo}
use Rattle.xmi_write.specs.declared.parts.Todo.TheVariants.{End}
use Rattle.xmi_write.specs.Xmi.{declared}
use Rattle.xmi_write.proofs.Stacked.{begun_some, depth_some}
use Rattle.xmi_write.proofs.elements.begin.Goals as goal

pub returns-clause-written : goal.returns-clause-written
returns-clause-written c =
    let m = c.args.setting.now.model.now in
    let head = c.args.head.now in
    let old : List Todo = c.args.stack.now.items in
    let inside : List Todo = c.args.inside.items in
    let some : length inside ≡ 0 → ⊥ = λ h.
    let none : vec_len c.args.inside ≡ 0 = omega (arith, h, c.args.inside.ok.0) in
    let both : true ≡ false = sym (ap (λ n. n == 0) none) ∙ sym c.is_empty.ensures ∙ c.if-is_empty.false in cc in
    let opened : c.push_opening.new.out ≡ c.args.out.now ++ opening (declared m.meta) head.space head.name head.declared head.attributes c.args.depth =
    c.in_ok-push_opening.ensures ∙ ap (λ (ds : List Prefix). c.args.out.now ++ opening ds head.space head.name head.declared head.attributes c.args.depth) (c.as_slice.ensures ∙ c.requires.setting.declared) in
    begun_some m c.args.named head c.args.depth old c.args.out.now c.push_opening.new.out c.push_ascii-2.new.self inside c.stack_up.new.stack.items some
    (c.in_ok-stack_up.ensures ∙ ap (λ (l : List Todo). l ++ reverse inside) c.in_ok-push.ensures.items) c.requires.inside c.requires.depth opened c.in_ok-push_ascii-2.ensures.ok

pub returns-clause-depth : goal.returns-clause-depth
returns-clause-depth c =
    let m = c.args.setting.now.model.now in
    let old : List Todo = c.args.stack.now.items in
    let inside : List Todo = c.args.inside.items in
    let some : length inside ≡ 0 → ⊥ = λ h.
    let none : vec_len c.args.inside ≡ 0 = omega (arith, h, c.args.inside.ok.0) in
    let both : true ≡ false = sym (ap (λ n. n == 0) none) ∙ sym c.is_empty.ensures ∙ c.if-is_empty.false in cc in
    depth_some m c.args.named c.args.head.now c.args.depth old c.args.out.now c.push_opening.new.out c.push_ascii-2.new.self inside c.stack_up.new.stack.items some
    (c.in_ok-stack_up.ensures ∙ ap (λ (l : List Todo). l ++ reverse inside) c.in_ok-push.ensures.items) c.requires.inside c.requires.depth
