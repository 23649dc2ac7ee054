use Rattle.std.proofs.Common.{◌≡◌, ◌++◌, map, drop}
use Rattle.xmi_text.specs.Keys.{keys_of}
use Rattle.xmi_names.specs.Tables.{package_key}
use Rattle.xmi_names.proofs.tables.package_keys.Given as goal

abbrev pub invariant-loop-i : goal.invariant-loop-i
invariant-loop-i l = keys_of l.keys.items ++ map package_key (drop l.i l.packages) ≡ map package_key l.packages
