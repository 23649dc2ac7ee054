use Rattle.std.proofs.Common.{sym, ◌∙◌, arith}
use Rattle.std.proofs.lemmas.List.{drop_all}
use Rattle.xmi_text.proofs.SameDeclarations.{same_prefix, same_from}
use Rattle.xmi_text.proofs.level.are_same.Goals as goal

pub loop-i-preserved : goal.loop-i-preserved
loop-i-preserved c = λ rest.
    c.loop-i.invariant
    (same_from c.loop-i.i c.args.left.now c.args.right.now c.index-left-i.result c.index-right-i.result c.loop-i-test.true (omega arith) c.index-left-i.is c.index-right-i.is
    (same_prefix c.index-left-i.result c.index-right-i.result (sym c.is_same_prefix.ensures ∙ c.if-not-is_same_prefix.false)) rest)

pub returns : goal.returns
returns c = λ is.
    c.loop-i.invariant (drop_all c.loop-i.i c.args.left.now c.loop-i-test.false ∙ sym (drop_all c.loop-i.i c.args.right.now (omega arith)))
