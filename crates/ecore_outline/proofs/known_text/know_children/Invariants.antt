use Rattle.std.proofs.Common.{drop}
use Rattle.xmi_text.specs.Markup.{sub_elements}
use Rattle.ecore_outline.specs.Texts.{AreNameTexts}
use Rattle.ecore_outline.proofs.known_text.know_children.Given as goal

abbrev pub invariant-loop-i : goal.invariant-loop-i
invariant-loop-i l = AreNameTexts (sub_elements (drop l.i l.children)) → AreNameTexts (sub_elements l.children)
