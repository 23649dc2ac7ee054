use Rattle.std.proofs.Common.{append_assoc, arith}
use Rattle.module_print.proofs.Opened.{OnOk-map, spelling-append}
use Rattle.module_print.proofs.print.expression.open_read.Goals as goal

pub returns : goal.returns
returns c = OnOk-map c.push_all.result (λ e. record { text = rw e (simp (spelling-append, append_assoc)); less = rw e (omega arith) }) c.push_all.ensures
