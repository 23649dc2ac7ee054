use Rattle.std.proofs.Common.{◌-◌, ◌≤◌, length}
use Rattle.xmi_write.specs.Climbs.{AreAbove}
use Rattle.xmi_write.proofs.cycles.cyclic.Given as goal

-- what stands so many steps above
abbrev pub invariant-loop-steps : goal.invariant-loop-steps
invariant-loop-steps l = record {
  some : 1 ≤ l.steps;
  above : AreAbove l.model l.steps l.above.items;
}

abbrev pub decreases-loop-steps : goal.decreases-loop-steps
decreases-loop-steps l = length l.model.objects - l.steps
