use Rattle.std.proofs.Common.{ap, ◌∙◌, ◌++◌, ◌∷◌, arith, codes}
use Rattle.std.specs.Prelude.{reverse}
use Rattle.module_print.specs.Pending.{begun, singles, extras, pending, expr_text, kind_text}
use Rattle.module_print.specs.Printed.{name_text}
use Rattle.module_print.specs.Writing.{expr_written, kind_written}
use Rattle.module_print.proofs.Opened.{OnOk-then, iterate_says}
use Rattle.module_print.proofs.print.expression.open_iterate.Goals as goal

pub returns : goal.returns
returns c = OnOk-then c.push_all-3.result c.push_all-3.ensures (λ e. let m = c.in_ok-push_all-2.ensures in let k = c.in_ok-push_all.ensures in record {
  text = ap pending e ∙ ap (λ l. expr_text c.args.first 6 c.args.source.now ++ (codes "->" ++ (32 ∷ (codes "iterate" ++ (32 ∷ (40 ∷ (32 ∷ (name_text c.args.variables.0.now.text ++ (32 ∷ l))))))))) (ap pending m)
      ∙ ap (λ l. expr_text c.args.first 6 c.args.source.now ++ (codes "->" ++ (32 ∷ (codes "iterate" ++ (32 ∷ (40 ∷ (32 ∷ (name_text c.args.variables.0.now.text ++ (32 ∷ (59 ∷ (32 ∷ (name_text c.args.variables.1.now.text ++ (32 ∷ (58 ∷ (32 ∷ (kind_text c.args.kind.now ++ (61 ∷ (32 ∷ l)))))))))))))))))) (ap pending k)
      ∙ iterate_says (begun c.args.first (expr_written c.args.source.now 6)) c.args.variables.0.now.text c.args.variables.1.now.text (kind_written c.args.kind.now) (expr_written c.args.start.now 0) (expr_written c.args.body.now 0) (pending (reverse c.args.stack.now.items));
  less = omega (arith, ap singles e, ap extras e, ap singles m, ap extras m, ap singles k, ap extras k);
})
