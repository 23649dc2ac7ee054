use Rattle.std.proofs.Common.{◌≡◌, ◌++◌, drop}
use Rattle.xmi_read.specs.Groups.{literals_behind}
use Rattle.ecore_outline.specs.Entries.{entries_of}
use Rattle.xmi_read.proofs.enums.literals.Given as goal

abbrev pub invariant-loop-i : goal.invariant-loop-i
invariant-loop-i l = l.list ++ literals_behind (entries_of (drop l.i l.behind)) ≡ literals_behind (entries_of l.behind)
