use Rattle.std.proofs.Common.{ap, ◌∙◌, arith}
use Rattle.std.specs.Prelude.{is_some}
use Rattle.ecore_meta.specs.declared.parts.Parts.{Parts}
use Rattle.xmi_names.specs.Tables.{has_skipped}
use Rattle.xmi_names.proofs.vocabulary.Vocabulary.has_skipped.Goals as goal

pub returns : goal.returns
returns c =
    let name = c.args.name.now in
    c.is_some.ensures
    ∙ ap is_some c.first_place.ensures
    ∙ c.self.invariant.skipped c.args.class.0 name (omega arith)
    ∙ ap (λ (p : Parts). has_skipped p c.args.class name) c.self.view_is
