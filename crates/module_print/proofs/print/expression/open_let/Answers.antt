use Rattle.std.proofs.Common.{ap, ◌∙◌, ◌++◌, ◌∷◌, arith, codes}
use Rattle.std.specs.Prelude.{reverse}
use Rattle.module_print.specs.Pending.{singles, extras, pending, kind_text}
use Rattle.module_print.specs.Printed.{name_text}
use Rattle.module_print.specs.Writing.{expr_written, kind_written}
use Rattle.module_print.proofs.Opened.{OnOk-then, let_says}
use Rattle.module_print.proofs.print.expression.open_let.Goals as goal

pub returns : goal.returns
returns c = OnOk-then c.push_all-2.result c.push_all-2.ensures (λ e. let m = c.in_ok-push_all.ensures in record {
  text = ap pending e ∙ ap (λ l. codes "let" ++ (32 ∷ (name_text c.args.variable.now.text ++ (32 ∷ (58 ∷ (32 ∷ (kind_text c.args.kind.now ++ l))))))) (ap pending m)
      ∙ let_says c.args.variable.now.text (kind_written c.args.kind.now) (expr_written c.args.value.now 0) (expr_written c.args.body.now 0) (pending (reverse c.args.stack.now.items));
  less = omega (arith, ap singles e, ap extras e, ap singles m, ap extras m);
})
