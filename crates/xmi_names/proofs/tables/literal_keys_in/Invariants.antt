use Rattle.std.proofs.Common.{◌≡◌, ◌++◌, drop}
use Rattle.xmi_text.specs.Keys.{keys_of}
use Rattle.xmi_names.specs.Tables.{literal_keys_from, literal_keys}
use Rattle.xmi_names.proofs.tables.literal_keys_in.Given as goal

abbrev pub invariant-loop-i : goal.invariant-loop-i
invariant-loop-i l = keys_of l.keys.items ++ literal_keys_from l.i (drop l.i l.enums) ≡ literal_keys l.enums
