use Rattle.std.proofs.Common.{ap, ◌∙◌, arith}
use Rattle.std.specs.Prelude.{reverse}
use Rattle.module_print.specs.Pending.{pending}
use Rattle.module_print.proofs.Opened.{OnOk-then}
use Rattle.module_print.proofs.StatTexts.{assign_says}
use Rattle.module_print.proofs.print.statement.open_assignment.Goals as goal

pub returns : goal.returns
returns c = OnOk-then c.push_all.result c.push_all.ensures (λ e. record { text = ap pending e ∙ assign_says c.begins_statement-first.result c.args.object.now c.args.feature.now c.args.value.now (pending (reverse c.args.stack.now.items)) c.begins_statement-first.ensures; less = rw e (omega arith) })
