-- The characters that are to come, as the code holds them.
use Rattle.std.specs.Prelude.{ℕ, List, ◌++◌}
use Rattle.std.specs.Str.{chars}
use Rattle.doc_text.specs.Characters.{tail}
use Rattle.doc_text.specs.declared.source.Source.{Source}
use Rattle.doc_text.specs.declared.source.Source.TheVariants.{Letters, Bytes}
use Rattle.doc_text.specs.declared.source.Decoded.{Decoded}

abbrev pub coming : Source → List ℕ
coming (Letters text) = chars text.now
coming (Bytes bytes) = bytes.now

-- with one more for a byte that no character has
abbrev pub letters : Decoded → List ℕ
letters d = coming d.source ++ tail d.whole
