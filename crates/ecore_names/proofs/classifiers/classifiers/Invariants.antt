use Rattle.std.proofs.Common.{◌≡◌, ◌++◌, ◌≤◌, map, drop}
use Rattle.ecore_outline.specs.Entries.{entries_of}
use Rattle.ecore_names.specs.Targets.{stand_of}
use Rattle.ecore_names.specs.Classifiers.{classifiers_from, classifiers_in, row_in, holders_in, alias_of}
use Rattle.ecore_names.specs.FileTables.{rows_of}
use Rattle.ecore_names.proofs.classifiers.classifiers.Given as goal

abbrev pub invariant-loop-i : goal.invariant-loop-i
invariant-loop-i l = record {
  told : rows_of l.rows.items ++ map (row_in (holders_in (entries_of l.entries))) (classifiers_from (stand_of l.stand) (entries_of (drop l.i l.entries)))
      ≡ map (row_in (holders_in (entries_of l.entries))) (classifiers_in (entries_of l.entries));
  alias : l.alias ≡ alias_of (holders_in (entries_of l.entries)) l.stand.holder.now;
  packages : l.stand.packages ≤ l.i;
  classes : l.stand.classes ≤ l.i;
  enums : l.stand.enums ≤ l.i;
}
