use Rattle.std.proofs.Common.{◌≡◌, ◌++◌, ◌≤◌, map, drop}
use Rattle.ecore_outline.specs.Entries.{entries_of}
use Rattle.ecore_names.specs.Targets.{own_of}
use Rattle.xmi_text.specs.Keys.{keys_of}
use Rattle.ecore_names.specs.Owns.{owns_from, row_key, row_own}
use Rattle.ecore_names.proofs.owns.push_owns.Given as goal

-- what is to come from the entries that are left completes the rows
abbrev pub invariant-loop-i : goal.invariant-loop-i
invariant-loop-i l = record {
  keys : keys_of l.keys.items ++ map row_key (owns_from l.kept l.classes l.features (entries_of (drop l.i l.entries))) ≡ keys_of l.fn.keys.items ++ map row_key (owns_from l.kept 0 0 (entries_of l.entries));
  owns : map own_of l.owns.items ++ map row_own (owns_from l.kept l.classes l.features (entries_of (drop l.i l.entries))) ≡ map own_of l.fn.owns.items ++ map row_own (owns_from l.kept 0 0 (entries_of l.entries));
  classes : l.classes ≤ l.i;
  features : l.features ≤ l.i;
}
