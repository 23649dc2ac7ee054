use Rattle.std.proofs.Common.{◌≡◌, ◌++◌}
use Rattle.std.specs.List.{flat_map}
use Rattle.std.specs.Str.Iter.{chars_rest}
use Rattle.atl_base.specs.XmlText.{IsXmlText}
use Rattle.ocl_parse.specs.Symbols.{unquoted}
use Rattle.ocl_parse.proofs.symbol.unquoted.Given as goal

-- with what is left the name is whole, and what is left is a text
abbrev pub invariant-loop-c : goal.invariant-loop-c
invariant-loop-c l = (l.name ++ flat_map unquoted (chars_rest l.c-iterator) ≡ flat_map unquoted l.text) × IsXmlText (chars_rest l.c-iterator)
