use Rattle.std.proofs.Common.{◌≢◌, ◌<◌, ℕ, get_or}
use Rattle.atl_cli.specs.declared.words.Pair.{Pair}
use Rattle.atl_cli.proofs.transform.path_of.Given as goal

-- no pair so far has the name
abbrev pub invariant-loop-pair : goal.invariant-loop-pair
invariant-loop-pair l = (k : ℕ) (d : Pair) → k < l.pair-index → (get_or l.pairs k d).name ≢ l.name
