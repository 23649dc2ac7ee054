use Rattle.std.proofs.Common.{◌≡◌, drop}
use Rattle.ecore_rows.specs.Rows.{type_behind}
use Rattle.ecore_outline.specs.Entries.{entries_of}
use Rattle.ecore_rows.proofs.typed.type_behind.Given as goal

abbrev pub invariant-loop-i : goal.invariant-loop-i
invariant-loop-i l = type_behind (entries_of (drop l.i l.behind)) ≡ type_behind (entries_of l.behind)
