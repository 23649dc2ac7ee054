use Rattle.std.proofs.Common.{take}
use Rattle.std.specs.Prelude.{AllPairs, ◌≢◌}
use Rattle.atl_cli.proofs.words.names_differ.Given as goal

-- the names so far differ
abbrev pub invariant-loop-at : goal.invariant-loop-at
invariant-loop-at l = AllPairs (λ p q. p.name ≢ q.name) (take l.at l.pairs)
