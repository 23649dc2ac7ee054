use Rattle.module_print.specs.Writing.{whole_written}
use Rattle.module_print.proofs.Opened.{OnOk-then}
use Rattle.module_print.proofs.StatTexts.{else_after, else_opens}
use Rattle.module_print.proofs.print.statement.open_branches.Goals as goal

pub returns-in-None : goal.returns-in-None
returns-in-None c = rw c.in-None.is c.open_if.ensures

pub returns-in_ok-open_else-in-Some : goal.returns-in_ok-open_else-in-Some
returns-in_ok-open_else-in-Some c =
    let first = rw c.as_slice.ensures at c.in_ok-open_else-in-Some.ensures in
    rw (c.in-Some.is, else_after (whole_written c.args.condition.now) c.args.body.now c.in-Some.others)
    (OnOk-then c.open_if-in-Some.result c.open_if-in-Some.ensures (λ q. else_opens _ _ _ _ _ first q))
