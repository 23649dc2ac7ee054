use Rattle.module_parse.proofs.Unfinished.{unfinished}
use Rattle.module_parse.proofs.reading.finish.finish.Goals as goal

pub returns-in_default : goal.returns-in_default
returns-in_default c = λ ts. unfinished c.args.next ts c.args.end c.in_default.not-Item c.in_default.not-InExpr
