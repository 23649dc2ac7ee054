use Rattle.module_states.specs.Nexts.{for_kind_of, meant}
use Rattle.module_elements.proofs.InKinds.{in_kind_goes}
use Rattle.module_elements.proofs.kind.step.Goals as goal

pub returns-in_default : goal.returns-in_default
returns-in_default c =
    rw (in_kind_goes (for_kind_of c.args.purpose) c.args.part.next c.args.part.stack (meant c.args.content) c.args.place c.in_default.not-HaveKind)
    c.kind_goes.ensures
