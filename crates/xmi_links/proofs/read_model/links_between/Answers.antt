use Rattle.std.proofs.Common.{ap, ◌∙◌}
use Rattle.xmi_models.specs.Entries.{entries_of}
use Rattle.xmi_links.specs.References.{bearers}
use Rattle.xmi_links.specs.Found.{ids_in}
use Rattle.xmi_links.proofs.Steps.{if_ok}
use Rattle.xmi_links.proofs.read_model.links_between.Goals as goal

pub returns : goal.returns
returns c =
    let m = c.args.sketch.now in
    let file = entries_of c.args.file.now in
    if_ok c.links_of.result
    (λ found h. h (bearers m file) (c.in_ok-bearers.ensures m file (ap ids_in c.deref.ensures.value ∙ c.in_ok-ids.ensures)))
    c.links_of.ensures
