use Rattle.std.proofs.Common.{◌∙◌, sym, ap}
use Rattle.doc_text.specs.RawTrees.{stack_of}
use Rattle.doc_text.specs.State.{Goes, Valuing}
use Rattle.doc_text.proofs.Moves.{value_step}
use Rattle.doc_text.proofs.reading.tags.value_goes.Goals as goal

pub returns : goal.returns
returns c =
    let v = c.args.valuing in
    value_step v.double (stack_of v.outer) v.tag v.name v.value c.args.symbol.kind c.args.symbol.at c.requires.value
    ∙ ap (λ t. Goes (Valuing v.double (stack_of v.outer) v.tag v.name t)) (sym c.in_ok-longer.ensures)
