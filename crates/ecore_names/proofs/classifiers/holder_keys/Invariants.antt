use Rattle.std.proofs.Common.{◌≡◌, ◌++◌, drop}
use Rattle.ecore_outline.specs.Entries.{entries_of}
use Rattle.xmi_text.specs.Keys.{keys_of}
use Rattle.ecore_names.specs.Classifiers.{holders_from, holders_in}
use Rattle.ecore_names.proofs.classifiers.holder_keys.Given as goal

abbrev pub invariant-loop-i : goal.invariant-loop-i
invariant-loop-i l = keys_of l.keys.items ++ holders_from (entries_of (drop l.i l.entries)) ≡ holders_in (entries_of l.entries)
