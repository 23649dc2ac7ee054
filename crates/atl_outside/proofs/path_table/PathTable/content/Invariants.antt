use Rattle.std.proofs.Common.{◌≡◌, drop}
use Rattle.atl_outside.proofs.Pairs.{found}
use Rattle.atl_outside.proofs.path_table.PathTable.content.Given as goal

abbrev pub invariant-loop-pair : goal.invariant-loop-pair
invariant-loop-pair l = found l.path (drop l.pair-index l.pair-items) ≡ found l.path l.pair-items
