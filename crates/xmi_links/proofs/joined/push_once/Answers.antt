use Rattle.std.proofs.Common.{sym}
use Rattle.xmi_links.specs.Found.{link_in}
use Rattle.xmi_links.proofs.Crossing.{known_stays, comes}
use Rattle.xmi_links.proofs.Steps.{on_ok}
use Rattle.xmi_links.proofs.joined.push_once.Goals as goal

pub returns-then-contains : goal.returns-then-contains
returns-then-contains c = λ file R valid cross at. known_stays c.args.sketch.now.meta file (link_in c.args.link) R c.args.sketch.now c.args.pairs.now (sym c.if-contains.ensures) cross at

pub returns : goal.returns
returns c = on_ok c.push_value.result
    (λ is file R valid cross at.
    comes c.args.sketch.now.meta file (link_in c.args.link) R c.args.sketch.now c.push_value.new.self c.args.pairs.now (record { held = c.insert.new.self }) valid cross (sym c.if-contains.ensures) is
    (λ o f p. c.in_ok-insert.ensures.updates.0 (record { 0 = o; 1 = f; 2 = p })) at)
    c.push_value.ensures
