use Rattle.std.proofs.Common.{◌≡◌, ℕ, List, ◌++◌}
use Rattle.std.specs.List.{flat_map}
use Rattle.std.specs.Str.Iter.{chars_rest}
use Rattle.atl_base.specs.XmlText.{IsXmlText}
use Rattle.module_print.specs.Printed.{escaped}
use Rattle.module_print.proofs.print.token.push_all_escaped.Given as goal

-- what has been seen is written, and what is left is a text
abbrev pub invariant-loop-c : goal.invariant-loop-c
invariant-loop-c l = (seen : List ℕ) × (l.words ≡ seen ++ chars_rest l.c-iterator) × (l.out ≡ l.initial.out ++ flat_map escaped seen) × IsXmlText (chars_rest l.c-iterator)
