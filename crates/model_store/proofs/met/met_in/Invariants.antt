use Rattle.std.proofs.Common.{take}
use Rattle.model_store.specs.Rows.{Knows}
use Rattle.model_store.proofs.met.met_in.Given as goal

-- the values so far
abbrev pub invariant-loop-cell : goal.invariant-loop-cell
invariant-loop-cell l = Knows l.met (take l.cell-index l.cells)
