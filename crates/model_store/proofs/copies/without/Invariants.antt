use Rattle.std.proofs.Common.{◌≡◌, ◌++◌, drop}
use Rattle.model_store.specs.Contents.{without}
use Rattle.model_store.proofs.copies.without.Given as goal

-- what is kept so far, and what is kept of the rest
abbrev pub invariant-loop-cell : goal.invariant-loop-cell
invariant-loop-cell l = l.slot ++ without l.p (drop l.cell-index l.cells) ≡ without l.p l.cells
