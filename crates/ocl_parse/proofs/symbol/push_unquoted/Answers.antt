use Rattle.ocl_parse.proofs.Resolving.{unquoted_stays}
use Rattle.ocl_parse.proofs.symbol.push_unquoted.Goals as goal

pub returns : goal.returns
returns c = rw (unquoted_stays c.args.c c.if-c-eq34.false) c.push_char.ensures.ok
