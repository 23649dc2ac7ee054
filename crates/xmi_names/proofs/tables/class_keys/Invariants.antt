use Rattle.std.proofs.Common.{◌≡◌, ◌++◌, map, drop}
use Rattle.xmi_text.specs.Keys.{keys_of}
use Rattle.xmi_names.specs.Tables.{class_key}
use Rattle.xmi_names.proofs.tables.class_keys.Given as goal

abbrev pub invariant-loop-i : goal.invariant-loop-i
invariant-loop-i l = keys_of l.keys.items ++ map class_key (drop l.i l.classes) ≡ map class_key l.classes
