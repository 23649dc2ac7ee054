use Rattle.std.proofs.Common.{◌∙◌}
use Rattle.xmi_models.proofs.StrayTexts.{loud_is}
use Rattle.xmi_models.proofs.stray.is_loud.Goals as goal

pub returns : goal.returns
returns c = c.has_text.ensures ∙ loud_is c.args.element.now.children
