use Rattle.std.proofs.Common.{ap, ◌∙◌, ◌++◌, ◌∷◌, arith, codes}
use Rattle.std.specs.Prelude.{reverse}
use Rattle.module_print.specs.Pending.{singles, extras, pending}
use Rattle.module_print.specs.Printed.{name_text}
use Rattle.module_print.specs.Writing.{whole_written}
use Rattle.module_print.proofs.Opened.{OnOk-then}
use Rattle.module_print.proofs.StatTexts.{for_says}
use Rattle.module_print.proofs.print.statement.open_for.Goals as goal

pub returns : goal.returns
returns c = OnOk-then c.push_all-2.result c.push_all-2.ensures (λ e. let m = c.in_ok-push_all.ensures in record {
  text = ap pending e ∙ ap (λ l. codes "for" ++ (32 ∷ (40 ∷ (32 ∷ (name_text c.args.variable.now.text ++ (32 ∷ (codes "in" ++ (32 ∷ l)))))))) (ap pending m) ∙ for_says c.args.variable.now (whole_written c.args.values.now) c.args.body.now (pending (reverse c.args.stack.now.items));
  less = omega (arith, ap singles e, ap extras e, ap singles m, ap extras m);
})
