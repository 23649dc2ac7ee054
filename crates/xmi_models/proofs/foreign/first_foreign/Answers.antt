use Rattle.std.proofs.Common.{sym, ap, ◌∙◌}
use Rattle.xmi_models.specs.Faults.{foreign_in}
use Rattle.xmi_models.specs.Entries.{part_in}
use Rattle.xmi_models.specs.FoundFaults.{first_value}
use Rattle.xmi_models.proofs.Passing.{foreign_passed, foreign_found}
use Rattle.xmi_models.proofs.foreign.first_foreign.Goals as goal

pub returns-in-Some : goal.returns-in-Some
returns-in-Some c =
    let m = c.args.meta.now in
    let part = part_in c.args.part in
    foreign_found m part c.args.attributes.now c.loop-i.i c.index-attributes-i.result c.loop-i-test.true c.in-Some.text
    (sym c.in-Some.is ∙ c.in_ok-text.ensures ∙ ap (λ a. first_value (foreign_in m part a)) c.index-attributes-i.is)
    ∙ c.loop-i.invariant

pub loop-i-preserved : goal.loop-i-preserved
loop-i-preserved c =
    let m = c.args.meta.now in
    let part = part_in c.args.part in
    foreign_passed m part c.args.attributes.now c.loop-i.i c.index-attributes-i.result c.loop-i-test.true
    (sym c.in_default.is ∙ c.in_ok-text.ensures ∙ ap (λ a. first_value (foreign_in m part a)) c.index-attributes-i.is)
    ∙ c.loop-i.invariant
