-- The namespace that a prefix stands for, as the code holds it.
use Rattle.std.specs.Prelude.{ℕ, List, []}
use Rattle.doc_text.specs.Namespaces.{xml_space}
use Rattle.doc_text.specs.declared.reading.names.Space.{Space}
use Rattle.doc_text.specs.declared.reading.names.Space.TheVariants.{Nowhere, Predeclared, Declared}

abbrev pub uri : Space → List ℕ
uri Nowhere = []
uri Predeclared = xml_space
uri (Declared text) = text.now
