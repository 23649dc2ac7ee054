use Rattle.std.proofs.Common.{Err, ap, subst}
use Rattle.xmi_write.specs.Answers.{WritesModel}
use Rattle.atl_cli.proofs.ModelSteps.{no_ring}
use Rattle.atl_cli.proofs.model.text_of.Goals as goal

pub unreachable-requires : goal.unreachable-requires
unreachable-requires c =
    let m = c.args.model.now in
    no_ring m c.in-Err-Cycle.field-0-0 c.requires (subst (λ e. WritesModel m (Err e)) c.in-Err-Cycle.field-0-is c.in-Err-Cycle.ensures)
