use Rattle.std.proofs.Common.{◌≡◌, ◌∷◌, sym, ap, ◌∙◌, ◌++◌, append_assoc, arith}
use Rattle.std.specs.Prelude.{reverse, false}
use Rattle.module_print.specs.Pending.{pending, elements_text, expr_text, others_text}
use Rattle.module_print.proofs.Opened.{OnOk-then, others_listed}
use Rattle.module_print.proofs.print.expression.open_elements.Goals as goal

pub returns-in-Some : goal.returns-in-Some
returns-in-Some c = OnOk-then c.push_all.result c.push_all.ensures (λ e. let rest = pending (reverse c.args.stack.now.items) in let cases : c.args.elements.now ≡ c.in-Some.element.now ∷ c.in-Some.others.now = c.in-Some.ensures.cases.0 in record {
  text = ap pending e ∙ sym (append_assoc (expr_text false 0 c.in-Some.element.now) (others_text c.in-Some.others.now) rest)
      ∙ ap (λ l. l ++ rest) (sym (others_listed c.in-Some.element.now c.in-Some.others.now)) ∙ ap (λ l. elements_text l ++ rest) (sym cases);
  less = rw e (omega arith);
})
