use Rattle.std.proofs.Common.{◌≡◌, ◌++◌}
use Rattle.std.specs.Str.Iter.{chars_rest}
use Rattle.atl_base.specs.XmlText.{IsXmlText}
use Rattle.ocl_parse.specs.Symbols.{resolved, resolved_from}
use Rattle.ocl_parse.proofs.symbol.resolved.Given as goal

-- with what is left the text is whole, and what is left is a text
abbrev pub invariant-loop-c : goal.invariant-loop-c
invariant-loop-c l = (l.words ++ resolved_from l.behind (chars_rest l.c-iterator) ≡ resolved l.text) × IsXmlText (chars_rest l.c-iterator)
