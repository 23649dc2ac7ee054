use Rattle.std.proofs.Common.{◌≡◌, ◌++◌, map, drop}
use Rattle.xmi_text.specs.Keys.{keys_of}
use Rattle.ecore_names.specs.Classifiers.{numbered}
use Rattle.ecore_names.specs.FileTables.{rows_of}
use Rattle.ecore_names.proofs.classifiers.number_keys.Given as goal

abbrev pub invariant-loop-i : goal.invariant-loop-i
invariant-loop-i l = keys_of l.keys.items ++ map numbered (rows_of (drop l.i l.rows)) ≡ map numbered (rows_of l.rows)
