use Rattle.atl_cli.proofs.Runs.{one_answer}
use Rattle.atl_cli.proofs.call.one_answer.Goals as goal

pub returns : goal.returns
returns c = one_answer
