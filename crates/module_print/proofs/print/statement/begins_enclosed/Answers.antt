use Rattle.std.proofs.Common.{sym, ap, ◌∙◌}
use Rattle.std.specs.Prelude.{suc, false, map, codes}
use Rattle.ocl_parse.specs.Trees.{level, name}
use Rattle.ocl_parse.specs.Grammar.{spelt}
use Rattle.module_print.specs.Writing.{here, name_here, arguments, kind_written, expr_written, what_written}
use Rattle.module_print.specs.Pending.{begins_open}
use Rattle.module_print.proofs.Layers.{bare-Number, bare-Words, bare-Truth, bare-Undefined, bare-Literal, bare-Var, bare-Own, bare-Module, bare-Class, bare-Basic, bare-Coll, bare-If, bare-Let, bare-Unary, bare-Binary, bare-Read, bare-Call, bare-Loop, bare-Iterate}
use Rattle.module_print.proofs.Heads.{bare_of, enclosed_of, unary_opens, truth_opens, opens-Binary, opens-Read, opens-Call, opens-Loop, opens-Iterate}
use Rattle.module_print.proofs.print.statement.begins_enclosed.Goals as goal

pub returns-then-is_enclosed : goal.returns-then-is_enclosed
returns-then-is_enclosed c = sym (c.down.invariant ∙ ap (λ w. begins_open (spelt w)) (enclosed_of c.down.expr.now c.down.least c.is_enclosed.result c.if-is_enclosed.true c.is_enclosed.ensures))

pub returns-in-Number : goal.returns-in-Number
returns-in-Number c = sym (c.down.invariant ∙ ap (λ w. begins_open (spelt w)) (bare_of c.down.expr.now c.down.least c.is_enclosed.result c.if-is_enclosed.false c.is_enclosed.ensures ∙ ap (λ w. what_written w 0) c.in-Number.is ∙ bare-Number c.in-Number.field-0 false))

pub returns-in-Words : goal.returns-in-Words
returns-in-Words c = sym (c.down.invariant ∙ ap (λ w. begins_open (spelt w)) (bare_of c.down.expr.now c.down.least c.is_enclosed.result c.if-is_enclosed.false c.is_enclosed.ensures ∙ ap (λ w. what_written w 0) c.in-Words.is ∙ bare-Words c.in-Words.field-0 false))

pub returns-in-Truth : goal.returns-in-Truth
returns-in-Truth c = sym (c.down.invariant ∙ ap (λ w. begins_open (spelt w)) (bare_of c.down.expr.now c.down.least c.is_enclosed.result c.if-is_enclosed.false c.is_enclosed.ensures ∙ ap (λ w. what_written w 0) c.in-Truth.is ∙ bare-Truth c.in-Truth.field-0 false) ∙ truth_opens c.in-Truth.field-0)

pub returns-in-Undefined : goal.returns-in-Undefined
returns-in-Undefined c = sym (c.down.invariant ∙ ap (λ w. begins_open (spelt w)) (bare_of c.down.expr.now c.down.least c.is_enclosed.result c.if-is_enclosed.false c.is_enclosed.ensures ∙ ap (λ w. what_written w 0) c.in-Undefined.is ∙ bare-Undefined false))

pub returns-in-Literal : goal.returns-in-Literal
returns-in-Literal c = sym (c.down.invariant ∙ ap (λ w. begins_open (spelt w)) (bare_of c.down.expr.now c.down.least c.is_enclosed.result c.if-is_enclosed.false c.is_enclosed.ensures ∙ ap (λ w. what_written w 0) c.in-Literal.is ∙ bare-Literal c.in-Literal.field-0 false))

pub returns-in-Var : goal.returns-in-Var
returns-in-Var c = sym (c.down.invariant ∙ ap (λ w. begins_open (spelt w)) (bare_of c.down.expr.now c.down.least c.is_enclosed.result c.if-is_enclosed.false c.is_enclosed.ensures ∙ ap (λ w. what_written w 0) c.in-Var.is ∙ bare-Var c.in-Var.field-0 false))

pub returns-in-Own : goal.returns-in-Own
returns-in-Own c = sym (c.down.invariant ∙ ap (λ w. begins_open (spelt w)) (bare_of c.down.expr.now c.down.least c.is_enclosed.result c.if-is_enclosed.false c.is_enclosed.ensures ∙ ap (λ w. what_written w 0) c.in-Own.is ∙ bare-Own false))

pub returns-in-Module : goal.returns-in-Module
returns-in-Module c = sym (c.down.invariant ∙ ap (λ w. begins_open (spelt w)) (bare_of c.down.expr.now c.down.least c.is_enclosed.result c.if-is_enclosed.false c.is_enclosed.ensures ∙ ap (λ w. what_written w 0) c.in-Module.is ∙ bare-Module false))

pub returns-in-Class : goal.returns-in-Class
returns-in-Class c = sym (c.down.invariant ∙ ap (λ w. begins_open (spelt w)) (bare_of c.down.expr.now c.down.least c.is_enclosed.result c.if-is_enclosed.false c.is_enclosed.ensures ∙ ap (λ w. what_written w 0) c.in-Class.is ∙ bare-Class c.in-Class.field-0 false))

pub returns-in-Basic : goal.returns-in-Basic
returns-in-Basic c = sym (c.down.invariant ∙ ap (λ w. begins_open (spelt w)) (bare_of c.down.expr.now c.down.least c.is_enclosed.result c.if-is_enclosed.false c.is_enclosed.ensures ∙ ap (λ w. what_written w 0) c.in-Basic.is ∙ bare-Basic c.in-Basic.field-0 false))

pub returns-in-Coll : goal.returns-in-Coll
returns-in-Coll c = sym (c.down.invariant ∙ ap (λ w. begins_open (spelt w)) (bare_of c.down.expr.now c.down.least c.is_enclosed.result c.if-is_enclosed.false c.is_enclosed.ensures ∙ ap (λ w. what_written w 0) c.in-Coll.is ∙ bare-Coll c.in-Coll.field-0 c.in-Coll.field-1 false))

pub returns-in-If : goal.returns-in-If
returns-in-If c = sym (c.down.invariant ∙ ap (λ w. begins_open (spelt w)) (bare_of c.down.expr.now c.down.least c.is_enclosed.result c.if-is_enclosed.false c.is_enclosed.ensures ∙ ap (λ w. what_written w 0) c.in-If.is ∙ bare-If c.in-If.field-0 c.in-If.field-1 c.in-If.field-2 false))

pub returns-in-Let : goal.returns-in-Let
returns-in-Let c = sym (c.down.invariant ∙ ap (λ w. begins_open (spelt w)) (bare_of c.down.expr.now c.down.least c.is_enclosed.result c.if-is_enclosed.false c.is_enclosed.ensures ∙ ap (λ w. what_written w 0) c.in-Let.is ∙ bare-Let c.in-Let.field-0 c.in-Let.field-1 c.in-Let.field-2 c.in-Let.field-3 false))

pub returns-in-Unary : goal.returns-in-Unary
returns-in-Unary c = sym (c.down.invariant ∙ ap (λ w. begins_open (spelt w)) (bare_of c.down.expr.now c.down.least c.is_enclosed.result c.if-is_enclosed.false c.is_enclosed.ensures ∙ ap (λ w. what_written w 0) c.in-Unary.is ∙ bare-Unary c.in-Unary.field-0 c.in-Unary.field-1 false) ∙ unary_opens here c.in-Unary.field-0 (spelt (expr_written c.in-Unary.field-1 5)))

pub down-preserved-in-Binary : goal.down-preserved-in-Binary
down-preserved-in-Binary c = c.down.invariant ∙ ap (λ w. begins_open (spelt w)) (bare_of c.down.expr.now c.down.least c.is_enclosed.result c.if-is_enclosed.false c.is_enclosed.ensures ∙ ap (λ w. what_written w 0) c.in-Binary.is ∙ bare-Binary c.in-Binary.op c.in-Binary.left c.in-Binary.field-2 false) ∙ opens-Binary (expr_written c.in-Binary.left (level c.in-Binary.op)) (expr_written c.in-Binary.field-2 (suc (level c.in-Binary.op))) here c.in-Binary.op ∙ ap (λ x. begins_open (spelt (expr_written x (level c.in-Binary.op)))) (sym c.get-expr.ensures) ∙ ap (λ l. begins_open (spelt (expr_written c.get-expr.result.now l))) (sym c.level-least.ensures)

pub down-preserved-in-Read : goal.down-preserved-in-Read
down-preserved-in-Read c = c.down.invariant ∙ ap (λ w. begins_open (spelt w)) (bare_of c.down.expr.now c.down.least c.is_enclosed.result c.if-is_enclosed.false c.is_enclosed.ensures ∙ ap (λ w. what_written w 0) c.in-Read.is ∙ bare-Read c.in-Read.source c.in-Read.field-1 false) ∙ opens-Read (expr_written c.in-Read.source 6) here (name here c.in-Read.field-1) ∙ ap (λ x. begins_open (spelt (expr_written x 6))) (sym c.get-expr-in-Read.ensures)

pub down-preserved-in-Call : goal.down-preserved-in-Call
down-preserved-in-Call c = c.down.invariant ∙ ap (λ w. begins_open (spelt w)) (bare_of c.down.expr.now c.down.least c.is_enclosed.result c.if-is_enclosed.false c.is_enclosed.ensures ∙ ap (λ w. what_written w 0) c.in-Call.is ∙ bare-Call c.in-Call.source c.in-Call.field-1 c.in-Call.field-2 c.in-Call.field-3 false) ∙ opens-Call (expr_written c.in-Call.source 6) c.in-Call.field-1 here (name here c.in-Call.field-2) here (arguments (map (λ f. f 0) (map expr_written c.in-Call.field-3))) here ∙ ap (λ x. begins_open (spelt (expr_written x 6))) (sym c.get-expr-in-Call.ensures)

pub down-preserved-in-Loop : goal.down-preserved-in-Loop
down-preserved-in-Loop c = c.down.invariant ∙ ap (λ w. begins_open (spelt w)) (bare_of c.down.expr.now c.down.least c.is_enclosed.result c.if-is_enclosed.false c.is_enclosed.ensures ∙ ap (λ w. what_written w 0) c.in-Loop.is ∙ bare-Loop c.in-Loop.source c.in-Loop.field-1 c.in-Loop.field-2 c.in-Loop.field-3 false) ∙ opens-Loop (expr_written c.in-Loop.source 6) here (name here c.in-Loop.field-1) here (name_here c.in-Loop.field-2) here (expr_written c.in-Loop.field-3 0) here ∙ ap (λ x. begins_open (spelt (expr_written x 6))) (sym c.get-expr-in-Loop.ensures)

pub down-preserved : goal.down-preserved
down-preserved c = c.down.invariant ∙ ap (λ w. begins_open (spelt w)) (bare_of c.down.expr.now c.down.least c.is_enclosed.result c.if-is_enclosed.false c.is_enclosed.ensures ∙ ap (λ w. what_written w 0) c.in-Iterate.is ∙ bare-Iterate c.in-Iterate.source c.in-Iterate.field-1 c.in-Iterate.field-2 c.in-Iterate.field-3 c.in-Iterate.field-4 c.in-Iterate.field-5 false) ∙ opens-Iterate (expr_written c.in-Iterate.source 6) here (name here (codes "iterate")) here (name_here c.in-Iterate.field-1) here (name_here c.in-Iterate.field-2) here (kind_written c.in-Iterate.field-3) here (expr_written c.in-Iterate.field-4 0) here (expr_written c.in-Iterate.field-5 0) here ∙ ap (λ x. begins_open (spelt (expr_written x 6))) (sym c.get-expr-in-Iterate.ensures)
