use Rattle.module_print.proofs.Layers.{encloses-Number, encloses-Words, encloses-Truth, encloses-Undefined, encloses-Literal, encloses-Var, encloses-Own, encloses-Module, encloses-Class, encloses-Basic, encloses-Coll, encloses-If, encloses-Let, encloses-Unary, encloses-Binary, encloses-Read, encloses-Call, encloses-Loop, encloses-Iterate}
use Rattle.module_print.proofs.print.expression.is_enclosed.Goals as goal

pub returns-in-Number : goal.returns-in-Number
returns-in-Number c = rw c.in-Number.is (encloses-Number c.in-Number.field-0 c.args.first c.args.least)

pub returns-in-Words : goal.returns-in-Words
returns-in-Words c = rw c.in-Words.is (encloses-Words c.in-Words.field-0 c.args.first c.args.least)

pub returns-in-Truth : goal.returns-in-Truth
returns-in-Truth c = rw c.in-Truth.is (encloses-Truth c.in-Truth.field-0 c.args.first c.args.least)

pub returns-in-Undefined : goal.returns-in-Undefined
returns-in-Undefined c = rw c.in-Undefined.is (encloses-Undefined c.args.first c.args.least)

pub returns-in-Literal : goal.returns-in-Literal
returns-in-Literal c = rw c.in-Literal.is (encloses-Literal c.in-Literal.field-0 c.args.first c.args.least)

pub returns-in-Var : goal.returns-in-Var
returns-in-Var c = rw c.in-Var.is (encloses-Var c.in-Var.field-0 c.args.first c.args.least)

pub returns-in-Own : goal.returns-in-Own
returns-in-Own c = rw c.in-Own.is (encloses-Own c.args.first c.args.least)

pub returns-in-Module : goal.returns-in-Module
returns-in-Module c = rw c.in-Module.is (encloses-Module c.args.first c.args.least)

pub returns-in-Class : goal.returns-in-Class
returns-in-Class c = rw c.in-Class.is (encloses-Class c.in-Class.field-0 c.args.first c.args.least)

pub returns-in-Basic : goal.returns-in-Basic
returns-in-Basic c = rw c.in-Basic.is (encloses-Basic c.in-Basic.field-0 c.args.first c.args.least)

pub returns-in-Coll : goal.returns-in-Coll
returns-in-Coll c = rw c.in-Coll.is (encloses-Coll c.in-Coll.field-0 c.in-Coll.field-1 c.args.first c.args.least)

pub returns-in-If : goal.returns-in-If
returns-in-If c = rw c.in-If.is (encloses-If c.in-If.field-0 c.in-If.field-1 c.in-If.field-2 c.args.first c.args.least)

pub returns-in-Let : goal.returns-in-Let
returns-in-Let c = rw c.in-Let.is (encloses-Let c.in-Let.field-0 c.in-Let.field-1 c.in-Let.field-2 c.in-Let.field-3 c.args.first c.args.least)

pub returns-in-Unary : goal.returns-in-Unary
returns-in-Unary c = rw c.in-Unary.is (encloses-Unary c.in-Unary.field-0 c.in-Unary.field-1 c.args.first c.args.least)

pub returns-in-Binary : goal.returns-in-Binary
returns-in-Binary c = rw (c.in-Binary.is, c.level.ensures) (encloses-Binary c.in-Binary.op c.in-Binary.field-1 c.in-Binary.field-2 c.args.first c.args.least)

pub returns-in-Read : goal.returns-in-Read
returns-in-Read c = rw c.in-Read.is (encloses-Read c.in-Read.field-0 c.in-Read.field-1 c.args.first c.args.least)

pub returns-in-Call : goal.returns-in-Call
returns-in-Call c = rw c.in-Call.is (encloses-Call c.in-Call.field-0 c.in-Call.field-1 c.in-Call.field-2 c.in-Call.field-3 c.args.first c.args.least)

pub returns-in-Loop : goal.returns-in-Loop
returns-in-Loop c = rw c.in-Loop.is (encloses-Loop c.in-Loop.field-0 c.in-Loop.field-1 c.in-Loop.field-2 c.in-Loop.field-3 c.args.first c.args.least)

pub returns-in-Iterate : goal.returns-in-Iterate
returns-in-Iterate c = rw c.in-Iterate.is (encloses-Iterate c.in-Iterate.field-0 c.in-Iterate.field-1 c.in-Iterate.field-2 c.in-Iterate.field-3 c.in-Iterate.field-4 c.in-Iterate.field-5 c.args.first c.args.least)
