use Rattle.std.proofs.Common.{◌≡◌, ◌++◌, map, drop}
use Rattle.xmi_text.specs.Keys.{keys_of}
use Rattle.ecore_names.specs.Classifiers.{named}
use Rattle.ecore_names.specs.FileTables.{rows_of}
use Rattle.ecore_names.proofs.classifiers.name_keys.Given as goal

abbrev pub invariant-loop-i : goal.invariant-loop-i
invariant-loop-i l = keys_of l.keys.items ++ map named (rows_of (drop l.i l.rows)) ≡ map named (rows_of l.rows)
