use Rattle.std.proofs.Common.{◌≡◌, ◌++◌, map, drop}
use Rattle.xmi_text.specs.Keys.{keys_of, prefix_key}
use Rattle.xmi_text.proofs.level.prefix_keys.Given as goal

abbrev pub invariant-loop-i : goal.invariant-loop-i
invariant-loop-i l = keys_of l.keys.items ++ map prefix_key (drop l.i l.declared) ≡ map prefix_key l.declared
