use Rattle.std.proofs.Common.{ap, ◌∙◌, arith}
use Rattle.std.specs.Prelude.{reverse}
use Rattle.module_print.specs.Pending.{pending}
use Rattle.module_print.proofs.Opened.{OnOk-then}
use Rattle.module_print.proofs.StatTexts.{else_says}
use Rattle.module_print.proofs.print.statement.open_else.Goals as goal

pub returns : goal.returns
returns c = OnOk-then c.push_all.result c.push_all.ensures (λ e. record { text = ap pending e ∙ else_says c.args.body.now (pending (reverse c.args.stack.now.items)); less = rw e (omega arith) })
