use Rattle.std.proofs.Common.{◌∙◌, ◌≤◌, ◌<◌, sym, ap, length, arith}
use Rattle.doc_text.specs.RawTrees.{stack_of}
use Rattle.doc_text.specs.State.{Goes, Naming, OfStart}
use Rattle.doc_text.proofs.Stacks.{too_deep, shallow}
use Rattle.doc_text.proofs.reading.markup.begins_in.Goals as goal

pub returns-then-len-ge200 : goal.returns-then-len-ge200
returns-then-len-ge200 c =
    let long : 200 ≤ length c.args.outer = omega (arith, c.len.ensures, c.if-len-ge200.true) in
    too_deep c.args.outer c.args.less c.args.symbol.kind c.args.symbol.at long

pub returns : goal.returns
returns c =
    let short : length c.args.outer < 200 = omega (arith, c.len.ensures, c.if-len-ge200.false) in
    shallow c.args.outer c.args.less c.args.symbol.kind c.args.symbol.at short
    ∙ ap (λ n. Goes (Naming (OfStart (stack_of c.args.outer) c.args.less) c.args.symbol.at n)) (sym c.in_ok-name.ensures)
