use Rattle.std.proofs.Common.{sym, ◌∙◌}
use Rattle.xmi_text.proofs.Cuts.{names_cut, names_whole}
use Rattle.xmi_text.proofs.scope.names.Goals as goal

pub returns-then-at-text : goal.returns-then-at-text
returns-then-at-text c = c.names_local.ensures ∙ sym (names_cut _ _ _ _ c.place_of-at.ensures.place c.if-at-text.true)

pub returns : goal.returns
returns c = c.names_local-2.ensures ∙ sym (names_whole _ _ _ _ c.place_of-at.ensures.place c.if-at-text.false)
