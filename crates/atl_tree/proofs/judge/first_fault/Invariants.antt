use Rattle.std.proofs.Common.{◌≡◌, drop, false}
use Rattle.atl_tree.specs.Tokens.{first_fault}
use Rattle.atl_tree.proofs.judge.first_fault.Given as goal

-- the first fault of what is left is the first of all
abbrev pub invariant-loop-i : goal.invariant-loop-i
invariant-loop-i l = first_fault l.led (drop l.i l.tokens) ≡ first_fault false l.tokens
