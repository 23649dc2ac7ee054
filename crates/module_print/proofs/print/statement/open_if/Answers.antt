use Rattle.std.proofs.Common.{ap, ◌∙◌, ◌++◌, ◌∷◌, arith, codes}
use Rattle.std.specs.Prelude.{reverse, false}
use Rattle.module_print.specs.Pending.{singles, extras, pending, expr_text}
use Rattle.module_print.specs.Writing.{whole_written}
use Rattle.module_print.proofs.Opened.{OnOk-then}
use Rattle.module_print.proofs.StatTexts.{if_says}
use Rattle.module_print.proofs.print.statement.open_if.Goals as goal

pub returns : goal.returns
returns c = OnOk-then c.push_all-2.result c.push_all-2.ensures (λ e. let m = c.in_ok-push_all.ensures in record {
  text = ap pending e ∙ ap (λ l. codes "if" ++ (32 ∷ (40 ∷ (32 ∷ (expr_text false 0 c.args.condition.now ++ (41 ∷ (32 ∷ l))))))) (ap pending m) ∙ if_says (whole_written c.args.condition.now) c.args.body.now (pending (reverse c.args.stack.now.items));
  less = omega (arith, ap singles e, ap extras e, ap singles m, ap extras m);
})
