use Rattle.std.proofs.Common.{◌≡◌, length, ℕ, List, ◌++◌}
use Rattle.std.specs.Str.Iter.{char_indices_rest, char_indices_offset}
use Rattle.atl_base.specs.XmlText.{IsXmlText}
use Rattle.atl_base.proofs.xml_text.first_outside.Given as goal

-- what has been seen is a text, and the rest follows it
abbrev pub invariant-loop-at : goal.invariant-loop-at
invariant-loop-at l = (seen : List ℕ) × IsXmlText seen × (l.text ≡ seen ++ char_indices_rest l.at-iterator) × (length seen ≡ char_indices_offset l.at-iterator)
