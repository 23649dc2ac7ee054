use Rattle.std.proofs.Common.{ap}
use Rattle.module_states.specs.Nexts.{for_kind_of, meant}
use Rattle.module_elements.proofs.InKinds.{context_goes}
use Rattle.module_elements.proofs.kind.context_goes.Goals as goal

pub returns : goal.returns
returns c =
    context_goes c.args.before (for_kind_of c.in_ok-purpose.purpose) c.new.result (meant c.args.content) c.args.place c.kind_goes.result (ap for_kind_of c.in_ok-purpose.ensures) c.new.ensures c.kind_goes.ensures
