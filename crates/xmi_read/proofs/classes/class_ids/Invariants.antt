use Rattle.std.proofs.Common.{◌≡◌, ◌++◌, map, drop}
use Rattle.xmi_read.specs.Parts.{class_no}
use Rattle.xmi_read.proofs.classes.class_ids.Given as goal

abbrev pub invariant-loop-i : goal.invariant-loop-i
invariant-loop-i l = l.list ++ map class_no (drop l.i l.numbers) ≡ map class_no l.numbers
