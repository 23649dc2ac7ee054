use Rattle.std.proofs.Common.{◌≡◌, ◌++◌, map, drop}
use Rattle.xmi_text.specs.Keys.{keys_of}
use Rattle.xmi_names.specs.Tables.{literal_key}
use Rattle.xmi_names.proofs.tables.push_literals.Given as goal

abbrev pub invariant-loop-i : goal.invariant-loop-i
invariant-loop-i l = keys_of l.keys.items ++ map (literal_key l.number) (drop l.i l.literals) ≡ keys_of l.fn.keys.items ++ map (literal_key l.number) l.literals
