use Rattle.module_print.proofs.StatTexts.{stat-Eval, stat-Assign, stat-If, stat-For}
use Rattle.module_print.proofs.print.statement.open_statement.Goals as goal

pub returns-in-Eval : goal.returns-in-Eval
returns-in-Eval c = rw (c.in-Eval.is, stat-Eval c.in-Eval.value) c.open_value.ensures

pub returns-in-Assign : goal.returns-in-Assign
returns-in-Assign c = rw (c.in-Assign.is, stat-Assign c.in-Assign.object c.in-Assign.feature c.in-Assign.value) c.open_assignment.ensures

pub returns-in-If : goal.returns-in-If
returns-in-If c = rw (c.in-If.is, stat-If c.in-If.condition c.in-If.body c.in-If.others) (rw c.as_slice.ensures at c.open_branches.ensures)

pub returns-in-For : goal.returns-in-For
returns-in-For c = let h = c.in-For in rw (h.is, stat-For h.variable h.values h.body) (rw c.as_slice-in-For.ensures at c.open_for.ensures)
