use Rattle.std.proofs.Common.{◌≡◌, ◌++◌, drop, map}
use Rattle.model_store.specs.Texts.{value_text}
use Rattle.xmi_write.specs.Values.{joined, joined_from}
use Rattle.xmi_write.proofs.values.push_values.Given as goal

-- the texts so far, and those of the rest
abbrev pub invariant-loop-cell : goal.invariant-loop-cell
invariant-loop-cell l = l.out ++ joined_from l.is_first (map (value_text l.model l.f) (drop l.cell-index l.cells)) ≡ l.fn.out ++ joined (map (value_text l.model l.f) l.cells)
