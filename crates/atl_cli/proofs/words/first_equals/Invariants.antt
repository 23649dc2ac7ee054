use Rattle.std.proofs.Common.{◌≡◌, take, false}
use Rattle.atl_cli.specs.Words.{has_equals}
use Rattle.atl_cli.proofs.words.first_equals.Given as goal

-- no equals sign so far
abbrev pub invariant-loop-at : goal.invariant-loop-at
invariant-loop-at l = has_equals (take l.at l.bytes) ≡ false
