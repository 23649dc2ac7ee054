use Rattle.std.proofs.Common.{◌≡◌, ◌++◌, ◌≤◌, [], ◌∷◌, List, length, reverse, sym, ap, ◌∙◌, arith}
use Rattle.std.proofs.lemmas.List.{length-reverse, reverse-append}
use Rattle.model_store.specs.Contents.{Contents}
use Rattle.xmi_write.specs.declared.parts.Todo.{Todo}
use Rattle.xmi_write.specs.Pending.{ends, pending}
use Rattle.xmi_write.proofs.Pieces.{shrinks}
use Rattle.xmi_write.proofs.Stacked.{ends_le}
use Rattle.xmi_write.proofs.writing.text_of.Goals as goal

pub push_next-requires-clause-few : goal.push_next-requires-clause-few
push_next-requires-clause-few c =
    let stack : List Todo = c.loop-todo.stack.items in
    let low : ends (reverse stack) ≤ length stack = omega (arith, ends_le (reverse stack), length-reverse stack) in
    omega (arith, low, c.loop-todo.invariant.depth)

pub loop-todo-smaller : goal.loop-todo-smaller
loop-todo-smaller c =
    let m = c.args.model.now in
    let same = c.in_ok-setting.ensures.model in
    let new : List Todo = reverse c.push_next.new.stack.items in
    let turned : reverse c.loop-todo.stack.items ≡ c.in-Some.todo ∷ reverse c.pop.new.self.items =
    ap reverse c.in-Some.ensures.items ∙ reverse-append c.pop.new.self.items (c.in-Some.todo ∷ []) in
    shrinks c.loop-todo.out c.push_next.new.out (pending m new) (pending m (reverse c.loop-todo.stack.items))
    (ap (λ (x : Contents). c.push_next.new.out ++ pending x new) (sym same)
    ∙ c.in_ok-depth-2.ensures.written
    ∙ ap (λ (x : Contents). c.loop-todo.out ++ pending x (c.in-Some.todo ∷ reverse c.pop.new.self.items)) same
    ∙ ap (λ (r : List Todo). c.loop-todo.out ++ pending m r) (sym turned))
    c.in_ok-depth-2.ensures.grows
