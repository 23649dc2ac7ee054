use Rattle.std.proofs.Common.{◌∙◌}
use Rattle.std.specs.Prelude.{◌==◌, ◌&&◌}
use Rattle.xmi_models.specs.SeenFeatures.{is_given}
use Rattle.xmi_models.proofs.SeenLaws.{cond_or}
use Rattle.xmi_models.proofs.seen.note.Goals as goal

pub returns : goal.returns
returns c = λ o f.
    c.in_ok-insert.ensures.updates.0 (record { 0 = o; 1 = f })
    ∙ cond_or (c.args.object == o && c.args.feature.0 == f) (is_given c.args.seen.now o f)
