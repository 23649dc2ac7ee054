use Rattle.std.proofs.Common.{drop}
use Rattle.ecore_outline.specs.Texts.{AreAttributeTexts}
use Rattle.ecore_outline.proofs.known_text.know_attributes.Given as goal

abbrev pub invariant-loop-i : goal.invariant-loop-i
invariant-loop-i l = AreAttributeTexts (drop l.i l.attributes) → AreAttributeTexts l.attributes
