use Rattle.std.proofs.Common.{drop}
use Rattle.ecore_outline.specs.Entries.{entries_of}
use Rattle.ecore_outline.specs.Texts.{AreTexts}
use Rattle.ecore_outline.proofs.known_text.know_texts.Given as goal

abbrev pub invariant-loop-i : goal.invariant-loop-i
invariant-loop-i l = AreTexts (entries_of (drop l.i l.file)) → AreTexts (entries_of l.file)
