use Rattle.std.proofs.Common.{take}
use Rattle.std.specs.Prelude.{false, flat_map}
use Rattle.xmi_links.specs.References.{both_ways}
use Rattle.xmi_links.specs.Found.{IsGiven, links_in}
use Rattle.xmi_links.proofs.links.give_all.Given as goal

-- no clash so far
abbrev pub invariant-loop-i : goal.invariant-loop-i
invariant-loop-i l = IsGiven l.meta l.fn.ends (flat_map (both_ways l.meta) (links_in (take l.i l.links))) false l.ends
