use Rattle.std.proofs.Common.{[], ◌++◌, sym, ap, ◌∙◌, false, codes}
use Rattle.module_grammar.specs.Grammar.{guard_marks}
use Rattle.module_print.specs.Writing.{guard_written}
use Rattle.module_print.specs.Pending.{spaced, expr_text}
use Rattle.module_print.specs.Fragments.{token}
use Rattle.module_print.proofs.Opened.{OnOk-then, joined}
use Rattle.module_print.proofs.Fragmented.{guard_texts}
use Rattle.module_print.proofs.print.item.push_guard.Goals as goal

pub returns-in_ok-push_expression-in-Some : goal.returns-in_ok-push_expression-in-Some
returns-in_ok-push_expression-in-Some c = OnOk-then c.push_sign-in-Some.result c.push_sign-in-Some.ensures (λ e. joined _ _ _ ((token (codes "(") []) ++ (expr_text false 0 c.in-Some.condition)) (token (codes ")") []) (joined _ _ _ (token (codes "(") []) (expr_text false 0 c.in-Some.condition) c.in_ok-push_sign-in-Some.ensures c.in_ok-push_expression-in-Some.ensures) e
    ∙ ap (λ l. c.args.out.now ++ l) (sym (ap (λ o. spaced (guard_marks (guard_written o))) c.in-Some.is ∙ guard_texts c.in-Some.condition)))
