use Rattle.std.proofs.Common.{◌≡◌, List, drop}
use Rattle.ecore_meta.specs.Valid.{IsMetamodel}
use Rattle.xmi_models.specs.Outline.{Entry}
use Rattle.xmi_links.specs.Found.{links_in}
use Rattle.xmi_links.specs.Stages.{AreReferences, IsReached, Referred, all_back}
use Rattle.xmi_links.proofs.joined.push_all_back.Given as goal

-- what is left completes what is reached
abbrev pub invariant-loop-i : goal.invariant-loop-i
invariant-loop-i l = (file : List Entry) (R : Referred) → IsMetamodel l.meta → AreReferences l.meta (links_in l.links) → IsReached l.meta file R l.fn.sketch l.fn.pairs
    → (S : Referred) × IsReached l.meta file S l.sketch l.pairs × (all_back l.meta (links_in (drop l.i l.links)) S ≡ all_back l.meta (links_in l.links) R)
