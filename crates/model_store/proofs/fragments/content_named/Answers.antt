use Rattle.std.proofs.Common.{sym, ◌∙◌, lit<, None}
use Rattle.std.proofs.lemmas.Str.Pattern.{strip_prefix_char}
use Rattle.model_store.proofs.Cuts.{no_step}
use Rattle.model_store.proofs.fragments.content_named.Goals as goal

pub returns-in_err-text : goal.returns-in_err-text
returns-in_err-text c = c.from_residual.ensures ∙ sym (no_step c.args.model.now c.args.o c.args.part.now (strip_prefix_char 64 c.args.part.now None c.in_err-text.ensures.cases (lit< tt)))
