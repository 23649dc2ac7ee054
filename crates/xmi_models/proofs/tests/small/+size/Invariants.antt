use Rattle.std.proofs.Common.{◌≡◌, ◌+◌, map, take}
use Rattle.doc_text.specs.Sizes.{size_of_child, total}
use Rattle.xmi_models.proofs.tests.small.+size.Given as goal

-- the children so far were taken off
abbrev pub invariant-past_children-loop-i : goal.invariant-past_children-loop-i
invariant-past_children-loop-i l = l.rest + total (map size_of_child (take l.i l.children)) ≡ l.left
