use Rattle.std.proofs.lemmas.Bool.{cases_lt}
use Rattle.doc_text.proofs.Escaping.{escaped_plain}
use Rattle.doc_text.proofs.escape.push_escaped_char.Goals as goal

pub returns-in-None : goal.returns-in-None
returns-in-None c = rw (escaped_plain c.args.place c.args.c c.in-None.ensures (cases_lt c.args.c 128)) c.push_char.ensures.ok
