use Rattle.std.proofs.Common.{◌≡◌, ◌++◌, drop}
use Rattle.xmi_read.specs.Groups.{enums_in}
use Rattle.ecore_outline.specs.Entries.{entries_of}
use Rattle.xmi_read.proofs.enums.enums.Given as goal

abbrev pub invariant-loop-i : goal.invariant-loop-i
invariant-loop-i l = l.list ++ enums_in (entries_of (drop l.i l.file)) ≡ enums_in (entries_of l.file)
