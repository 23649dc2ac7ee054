use Rattle.std.proofs.Common.{◌≡◌, ◌+◌, drop}
use Rattle.xmi_text.specs.Cuts.{place_of}
use Rattle.xmi_text.proofs.cut.place_of.Given as goal

abbrev pub invariant-loop-i : goal.invariant-loop-i
invariant-loop-i l = l.i + place_of l.mark (drop l.i l.text) ≡ place_of l.mark l.text
