use Rattle.std.proofs.Common.{◌≡◌, ◌++◌, map, drop}
use Rattle.xmi_text.specs.Keys.{keys_of}
use Rattle.ecore_names.specs.Literals.{enum_key}
use Rattle.ecore_names.proofs.literals.enum_keys.Given as goal

abbrev pub invariant-loop-i : goal.invariant-loop-i
invariant-loop-i l = keys_of l.list.items ++ map enum_key (keys_of (drop l.i l.keys)) ≡ map enum_key (keys_of l.keys)
