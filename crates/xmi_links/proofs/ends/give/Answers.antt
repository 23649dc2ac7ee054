use Rattle.std.proofs.Common.{sym, ap, ◌∙◌}
use Rattle.std.specs.Option.{option_copied}
use Rattle.xmi_links.specs.Found.{link_in}
use Rattle.xmi_links.proofs.EndTables.{given_many, given_known, given_new}
use Rattle.xmi_links.proofs.ends.give.Goals as goal

pub returns-then-is_many : goal.returns-then-is_many
returns-then-is_many c = given_many c.args.meta.now c.args.ends.now (link_in c.args.end) (sym c.if-is_many.ensures)

pub returns-in-Some : goal.returns-in-Some
returns-in-Some c =
    given_known c.args.meta.now c.args.ends.now (link_in c.args.end) c.in-Some.known.now (sym c.if-is_many.ensures) (sym c.in-Some.ensures.value)

pub returns : goal.returns
returns c =
    given_new c.args.meta.now c.args.ends.now (record { given = c.insert.new.self }) (link_in c.args.end) (sym c.if-is_many.ensures)
    (sym c.get.ensures.value ∙ ap option_copied c.in_default.is)
    (λ o f. c.in_ok-insert.ensures.updates.0 (record { 0 = o; 1 = f }))
