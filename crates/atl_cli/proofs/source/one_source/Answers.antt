use Rattle.atl_cli.proofs.SourceWhole.{one_source}
use Rattle.atl_cli.proofs.source.one_source.Goals as goal

pub returns : goal.returns
returns c = one_source
