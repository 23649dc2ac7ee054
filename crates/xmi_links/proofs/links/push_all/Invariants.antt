use Rattle.std.proofs.Common.{◌≡◌, ◌++◌, List, take, drop}
use Rattle.std.specs.Prelude.{flat_map}
use Rattle.xmi_links.specs.References.{Link, ends_fault, ends_of}
use Rattle.xmi_links.specs.Found.{AreEnds, references_in}
use Rattle.xmi_links.specs.Linking.{AreFollowed}
use Rattle.xmi_links.proofs.links.push_all.Given as goal

-- those so far are followed, and those that are left tell the fault
abbrev pub invariant-loop-i : goal.invariant-loop-i
invariant-loop-i l = (before : List Link) → AreEnds l.meta before l.fn.found.ends →
    AreFollowed l.meta before (references_in (take l.i l.references)) l.fn.found l.found
    × (ends_fault l.meta (before ++ flat_map (ends_of l.meta) (references_in (take l.i l.references))) (references_in (drop l.i l.references)) ≡ ends_fault l.meta before (references_in l.references))
