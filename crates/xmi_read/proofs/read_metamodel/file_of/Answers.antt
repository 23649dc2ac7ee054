use Rattle.std.proofs.Common.{sym, ap, ◌∙◌, subst}
use Rattle.ecore_outline.specs.Entries.{entries_of}
use Rattle.ecore_outline.specs.Texts.{AreTexts}
use Rattle.xmi_read.proofs.read_metamodel.file_of.Goals as goal

pub returns-clause-outline : goal.returns-clause-outline
returns-clause-outline c = ap entries_of c.in_ok-file.ensures ∙ c.in_ok-entries.ensures

pub returns-clause-texts : goal.returns-clause-texts
returns-clause-texts c = subst AreTexts (ap entries_of (c.deref.ensures.value ∙ sym c.in_ok-file.ensures)) c.know_texts.ensures
