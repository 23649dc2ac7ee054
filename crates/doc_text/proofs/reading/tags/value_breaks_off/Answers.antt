use Rattle.std.proofs.Common.{◌∙◌, sym}
use Rattle.doc_text.specs.RawTrees.{stack_of}
use Rattle.doc_text.proofs.Moves.{value_cites, value_stops}
use Rattle.doc_text.proofs.reading.tags.value_breaks_off.Goals as goal

pub returns-then-is_and : goal.returns-then-is_and
returns-then-is_and c =
    let v = c.args.valuing in
    value_cites v.double (stack_of v.outer) v.tag v.name v.value c.args.symbol.kind c.args.symbol.at (sym c.is_and.ensures ∙ c.if-is_and.true)

pub returns : goal.returns
returns c =
    let v = c.args.valuing in
    value_stops v.double (stack_of v.outer) v.tag v.name v.value c.args.symbol.kind c.args.symbol.at c.requires.value c.requires.quote (sym c.is_and.ensures ∙ c.if-is_and.false)
