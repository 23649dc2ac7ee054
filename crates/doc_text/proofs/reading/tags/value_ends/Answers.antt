use Rattle.std.proofs.Common.{◌∙◌, sym, ap}
use Rattle.doc_text.specs.RawTrees.{stack_of}
use Rattle.doc_text.specs.State.{Goes, Valued}
use Rattle.doc_text.proofs.Moves.{value_closed}
use Rattle.doc_text.proofs.reading.tags.value_ends.Goals as goal

pub returns : goal.returns
returns c =
    let v = c.args.valuing in
    value_closed v.double (stack_of v.outer) v.tag v.name v.value c.args.symbol.kind c.args.symbol.at c.requires
    ∙ ap (λ t. Goes (Valued (stack_of v.outer) t)) (sym c.in_ok-longer.ensures)
