use Rattle.std.proofs.Common.{◌≡◌, ◌++◌, drop}
use Rattle.xmi_read.specs.Groups.{packages_in}
use Rattle.ecore_outline.specs.Entries.{entries_of}
use Rattle.xmi_read.proofs.packages.packages.Given as goal

abbrev pub invariant-loop-i : goal.invariant-loop-i
invariant-loop-i l = l.list ++ packages_in (entries_of (drop l.i l.file)) ≡ packages_in (entries_of l.file)
