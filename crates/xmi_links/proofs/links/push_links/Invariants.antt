use Rattle.std.proofs.Common.{◌≡◌, ◌++◌, take}
use Rattle.xmi_links.specs.Found.{links_in}
use Rattle.xmi_links.proofs.links.push_links.Given as goal

abbrev pub invariant-loop-i : goal.invariant-loop-i
invariant-loop-i l = links_in l.links.items ≡ links_in l.fn.links.items ++ links_in (take l.i l.more)
