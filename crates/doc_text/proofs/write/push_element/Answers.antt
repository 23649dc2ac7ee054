use Rattle.std.proofs.Common.{◌≡◌, ◌++◌, ◌+◌, ◌<◌, ◌∷◌, [], List, ℕ, length, ap, ◌∙◌, sym, arith}
use Rattle.std.specs.Prelude.{reverse}
use Rattle.std.proofs.lemmas.List.{length-append, reverse-append}
use Rattle.doc_text.specs.Pending.{pending}
use Rattle.doc_text.proofs.write.push_element.Goals as goal

-- what is written more is pending less
shrinks : (out new p q : List ℕ) → new ++ p ≡ out ++ q → length out < length new → length p < length q
shrinks out new p q e h = omega (arith, ap length e, length-append new p, length-append out q)

pub loop-top-smaller : goal.loop-top-smaller
loop-top-smaller c =
    let ds = c.args.declared.now in
    let turned : reverse c.loop-top.stack.items ≡ c.in-Some.top ∷ reverse c.pop.new.self.items =
    ap reverse c.in-Some.ensures.items ∙ reverse-append c.pop.new.self.items (c.in-Some.top ∷ []) in
    let behind : c.args.depth + length c.pop.new.self.items ≡ c.args.depth + c.len.result = omega (arith, c.len.ensures) in
    shrinks c.loop-top.out c.push_next.new.out (pending ds c.args.depth (reverse c.push_next.new.stack.items)) (pending ds c.args.depth (reverse c.loop-top.stack.items))
    (c.in_ok-push_next.ensures.written c.args.depth behind ∙ ap (λ r. c.loop-top.out ++ pending ds c.args.depth r) (sym turned)) c.in_ok-push_next.ensures.grows
