use Rattle.std.proofs.Common.{◌<◌, ◌≤◌, length, sym, ◌∙◌, rules}
use Rattle.model_store.proofs.Readings.{read_all, read_more, read_stops, read_done}
use Rattle.model_store.proofs.fragments.number_below.Goals as goal

pub loop-b-preserved : goal.loop-b-preserved
loop-b-preserved c =
    let low : c.loop-b.b-index < length c.args.digits.now = search rules in
    read_more c.args.bound c.args.digits.now c.loop-b.b-index c.loop-b.number c.in_ok-number.number low (sym c.in_ok-number.ensures) ∙ c.loop-b.invariant

pub returns-in_err-number : goal.returns-in_err-number
returns-in_err-number c =
    let low : c.loop-b.b-index < length c.args.digits.now = search rules in
    let some : 0 < length c.args.digits.now = search rules in
    c.from_residual.ensures
    ∙ sym (read_stops c.args.bound c.args.digits.now c.loop-b.b-index c.loop-b.number low (sym c.in_err-number.ensures))
    ∙ c.loop-b.invariant
    ∙ read_all c.args.bound c.args.digits.now some

pub returns : goal.returns
returns c =
    let done : length c.args.digits.now ≤ c.loop-b.b-index = search rules in
    let some : 0 < length c.args.digits.now = search rules in
    sym (read_done c.args.bound c.args.digits.now c.loop-b.b-index c.loop-b.number done) ∙ c.loop-b.invariant ∙ read_all c.args.bound c.args.digits.now some
