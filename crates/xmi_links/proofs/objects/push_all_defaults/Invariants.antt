use Rattle.std.proofs.Common.{◌≡◌, drop}
use Rattle.xmi_links.specs.Stages.{all_defaulted}
use Rattle.xmi_links.proofs.objects.push_all_defaults.Given as goal

-- what is left completes it
abbrev pub invariant-loop-i : goal.invariant-loop-i
invariant-loop-i l = all_defaulted l.meta l.o (drop l.i l.features) l.sketch ≡ all_defaulted l.meta l.o l.features l.fn.sketch
