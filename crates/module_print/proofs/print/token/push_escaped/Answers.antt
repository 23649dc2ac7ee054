use Rattle.std.proofs.lemmas.Bool.{cases_lt}
use Rattle.module_print.proofs.Escaping.{escaped_plain}
use Rattle.module_print.proofs.print.token.push_escaped.Goals as goal

pub returns-in-None : goal.returns-in-None
returns-in-None c = rw (escaped_plain c.args.c c.in-None.ensures (cases_lt c.args.c 128)) c.push_char.ensures.ok
