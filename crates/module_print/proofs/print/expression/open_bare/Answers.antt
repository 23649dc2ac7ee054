use Rattle.std.proofs.Common.{sym, ap, ◌∙◌, ◌++◌, ◌∷◌, [], arith}
use Rattle.std.specs.Prelude.{reverse, decimal}
use Rattle.ocl_parse.specs.declared.sign.Constant.TheVariants as N
use Rattle.ocl_parse.specs.Trees.{name}
use Rattle.ocl_parse.specs.Grammar.{Number, Words as Text, Lone, Literal, Variable, OfBasic, spelt, fixed}
use Rattle.module_print.specs.Writing.{here, what_written}
use Rattle.module_print.specs.Pending.{pending, spelling, bare}
use Rattle.module_print.proofs.Opened.{OnOk-then, spelling_says}
use Rattle.module_print.proofs.Layers.{bare-Number, bare-Words, bare-Truth, bare-Undefined, bare-Literal, bare-Var, bare-Own, bare-Module, bare-Class, bare-Basic, bare-Coll, bare-If, bare-Let, bare-Unary, bare-Binary, bare-Read, bare-Call, bare-Loop, bare-Iterate}
use Rattle.module_print.proofs.print.expression.open_bare.Goals as goal

pub returns-in-Number : goal.returns-in-Number
returns-in-Number c = OnOk-then c.push_all.result c.push_all.ensures (λ e. let rest = pending (reverse c.args.stack.now.items) in let how = ap (λ w. bare c.args.first (what_written w 0)) c.in-Number.is ∙ bare-Number c.in-Number.number c.args.first in record { text = ap pending e ∙ ap (λ k. decimal k ++ (32 ∷ rest)) c.magnitude.ensures ∙ spelling_says (spelt (Number here c.in-Number.number)) rest ∙ ap (λ w. spelling (spelt w) ++ rest) (sym how); less = rw e (omega arith) })

pub returns-in-Words : goal.returns-in-Words
returns-in-Words c = OnOk-then c.push_all-in-Words.result c.push_all-in-Words.ensures (λ e. let rest = pending (reverse c.args.stack.now.items) in let how = ap (λ w. bare c.args.first (what_written w 0)) c.in-Words.is ∙ bare-Words c.in-Words.words c.args.first in record { text = ap pending e ∙ spelling_says (spelt (Text here c.in-Words.words)) rest ∙ ap (λ w. spelling (spelt w) ++ rest) (sym how); less = rw e (omega arith) })

pub returns-in-Truth : goal.returns-in-Truth
returns-in-Truth c = OnOk-then c.push_all-in-Truth.result c.push_all-in-Truth.ensures (λ e. let rest = pending (reverse c.args.stack.now.items) in let how = ap (λ w. bare c.args.first (what_written w 0)) c.in-Truth.is ∙ bare-Truth c.in-Truth.is_true c.args.first in record { text = ap pending e ∙ spelling_says (fixed here c.truth_sign.result ∷ []) rest ∙ ap (λ l. spelling l ++ rest) (sym (c.truth_sign.ensures)) ∙ ap (λ w. spelling (spelt w) ++ rest) (sym how); less = rw e (omega arith) })

pub returns-in-Undefined : goal.returns-in-Undefined
returns-in-Undefined c = OnOk-then c.push_all-in-Undefined.result c.push_all-in-Undefined.ensures (λ e. let rest = pending (reverse c.args.stack.now.items) in let how = ap (λ w. bare c.args.first (what_written w 0)) c.in-Undefined.is ∙ bare-Undefined c.args.first in record { text = ap pending e ∙ spelling_says (spelt (Lone here N.Undefined)) rest ∙ ap (λ w. spelling (spelt w) ++ rest) (sym how); less = rw e (omega arith) })

pub returns-in-Literal : goal.returns-in-Literal
returns-in-Literal c = OnOk-then c.push_all-in-Literal.result c.push_all-in-Literal.ensures (λ e. let rest = pending (reverse c.args.stack.now.items) in let how = ap (λ w. bare c.args.first (what_written w 0)) c.in-Literal.is ∙ bare-Literal c.in-Literal.literal c.args.first in record { text = ap pending e ∙ spelling_says (spelt (Literal here (name here c.in-Literal.literal))) rest ∙ ap (λ w. spelling (spelt w) ++ rest) (sym how); less = rw e (omega arith) })

pub returns-in-Var : goal.returns-in-Var
returns-in-Var c = OnOk-then c.push_all-in-Var.result c.push_all-in-Var.ensures (λ e. let rest = pending (reverse c.args.stack.now.items) in let how = ap (λ w. bare c.args.first (what_written w 0)) c.in-Var.is ∙ bare-Var c.in-Var.variable c.args.first in record { text = ap pending e ∙ spelling_says (spelt (Variable (name here c.in-Var.variable))) rest ∙ ap (λ w. spelling (spelt w) ++ rest) (sym how); less = rw e (omega arith) })

pub returns-in-Own : goal.returns-in-Own
returns-in-Own c = OnOk-then c.push_all-in-Own.result c.push_all-in-Own.ensures (λ e. let rest = pending (reverse c.args.stack.now.items) in let how = ap (λ w. bare c.args.first (what_written w 0)) c.in-Own.is ∙ bare-Own c.args.first in record { text = ap pending e ∙ spelling_says (spelt (Lone here N.Own)) rest ∙ ap (λ w. spelling (spelt w) ++ rest) (sym how); less = rw e (omega arith) })

pub returns-in-Module : goal.returns-in-Module
returns-in-Module c = OnOk-then c.push_all-in-Module.result c.push_all-in-Module.ensures (λ e. let rest = pending (reverse c.args.stack.now.items) in let how = ap (λ w. bare c.args.first (what_written w 0)) c.in-Module.is ∙ bare-Module c.args.first in record { text = ap pending e ∙ spelling_says (spelt (Lone here N.Module)) rest ∙ ap (λ w. spelling (spelt w) ++ rest) (sym how); less = rw e (omega arith) })

pub returns-in-Class : goal.returns-in-Class
returns-in-Class c = rw (c.in-Class.is, bare-Class c.in-Class.class c.args.first) c.open_class.ensures

pub returns-in-Basic : goal.returns-in-Basic
returns-in-Basic c = OnOk-then c.push_all-in-Basic.result c.push_all-in-Basic.ensures (λ e. let rest = pending (reverse c.args.stack.now.items) in let how = ap (λ w. bare c.args.first (what_written w 0)) c.in-Basic.is ∙ bare-Basic c.in-Basic.word c.args.first in record { text = ap pending e ∙ spelling_says (spelt (OfBasic here c.in-Basic.word)) rest ∙ ap (λ w. spelling (spelt w) ++ rest) (sym how); less = rw e (omega arith) })

pub returns-in-Coll : goal.returns-in-Coll
returns-in-Coll c = rw (c.in-Coll.is, bare-Coll c.in-Coll.word c.in-Coll.elements c.args.first) (rw (c.as_slice.ensures) at c.open_collection.ensures)

pub returns-in-If : goal.returns-in-If
returns-in-If c = rw (c.in-If.is, bare-If c.in-If.condition c.in-If.left c.in-If.right c.args.first) (rw (c.get.ensures, c.get-in-If.ensures, c.get-in-If-2.ensures) at c.open_choice.ensures)

pub returns-in-Let : goal.returns-in-Let
returns-in-Let c = rw (c.in-Let.is, bare-Let c.in-Let.variable c.in-Let.kind c.in-Let.value c.in-Let.body c.args.first) (rw (c.get-in-Let.ensures, c.get-in-Let-2.ensures) at c.open_let.ensures)

pub returns-in-Unary : goal.returns-in-Unary
returns-in-Unary c = rw (c.in-Unary.is, bare-Unary c.in-Unary.op c.in-Unary.operand c.args.first) (rw (c.get-in-Unary.ensures) at c.open_unary.ensures)

pub returns-in-Binary : goal.returns-in-Binary
returns-in-Binary c = rw (c.in-Binary.is, bare-Binary c.in-Binary.op c.in-Binary.left c.in-Binary.right c.args.first) (rw (c.get-in-Binary.ensures, c.get-in-Binary-2.ensures) at c.open_binary.ensures)

pub returns-in-Read : goal.returns-in-Read
returns-in-Read c = rw (c.in-Read.is, bare-Read c.in-Read.source c.in-Read.feature c.args.first) (rw (c.get-in-Read.ensures) at c.open_read.ensures)

pub returns-in-Call : goal.returns-in-Call
returns-in-Call c = rw (c.in-Call.is, bare-Call c.in-Call.source c.in-Call.arrow c.in-Call.called c.in-Call.arguments c.args.first) (rw (c.get-in-Call.ensures, c.as_slice-in-Call.ensures) at c.open_call.ensures)

pub returns-in-Loop : goal.returns-in-Loop
returns-in-Loop c = rw (c.in-Loop.is, bare-Loop c.in-Loop.source c.in-Loop.called c.in-Loop.variable c.in-Loop.body c.args.first) (rw (c.get-in-Loop.ensures, c.get-in-Loop-2.ensures) at c.open_loop.ensures)

pub returns-in-Iterate : goal.returns-in-Iterate
returns-in-Iterate c = rw (c.in-Iterate.is, bare-Iterate c.in-Iterate.source c.in-Iterate.variable c.in-Iterate.outcome c.in-Iterate.kind c.in-Iterate.start c.in-Iterate.body c.args.first) (rw (c.get-in-Iterate.ensures, c.get-in-Iterate-2.ensures, c.get-in-Iterate-3.ensures) at c.open_iterate.ensures)
