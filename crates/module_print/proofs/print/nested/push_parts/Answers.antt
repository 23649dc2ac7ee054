use Rattle.std.proofs.Common.{◌≡◌, ◌<◌, ◌∷◌, [], sym, ap, ◌∙◌, subst, List}
use Rattle.std.specs.Prelude.{reverse}
use Rattle.std.proofs.lemmas.List.{reverse-append}
use Rattle.module_print.specs.declared.print.part.Part.{Part}
use Rattle.module_print.specs.Pending.{work}
use Rattle.module_print.proofs.print.nested.push_parts.Goals as goal

pub loop-next-smaller : goal.loop-next-smaller
loop-next-smaller c =
    let turned : reverse c.loop-next.stack.items ≡ c.in-Some.next ∷ reverse c.pop.new.self.items = ap reverse c.in-Some.ensures.items ∙ reverse-append c.pop.new.self.items (c.in-Some.next ∷ []) in
    subst (λ (l : List Part). work (reverse c.push_part.new.stack.items) < work l) (sym turned) c.in_ok-push_part.ensures.less
