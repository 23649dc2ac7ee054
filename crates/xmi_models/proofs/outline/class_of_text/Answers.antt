use Rattle.std.proofs.Common.{◌∙◌}
use Rattle.xmi_models.specs.Scopes.{scope_of}
use Rattle.xmi_models.proofs.TypeTexts.{text_cut, text_whole}
use Rattle.xmi_models.proofs.outline.class_of_text.Goals as goal

pub returns-then-at-text : goal.returns-then-at-text
returns-then-at-text c = c.class_behind.ensures ∙ text_cut c.args.meta.now (scope_of c.args.scope.now) c.args.text.now c.place_of-at.result c.place_of-at.ensures.place c.if-at-text.true

pub returns : goal.returns
returns c = c.class_behind-2.ensures ∙ text_whole c.args.meta.now (scope_of c.args.scope.now) c.args.text.now c.place_of-at.result c.place_of-at.ensures.place c.if-at-text.false
