use Rattle.std.proofs.Common.{◌≡◌}
use Rattle.ocl_parse.specs.Grammar.{spelt}
use Rattle.module_print.specs.Writing.{expr_written}
use Rattle.module_print.specs.Pending.{begins_open}
use Rattle.module_print.proofs.print.statement.begins_enclosed.Given as goal

-- the text of the whole begins as that of its leftmost part
abbrev pub invariant-down : goal.invariant-down
invariant-down l = begins_open (spelt (expr_written l.fn.expr 0)) ≡ begins_open (spelt (expr_written l.expr l.least))
