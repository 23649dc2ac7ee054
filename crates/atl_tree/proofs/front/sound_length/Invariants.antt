use Rattle.std.proofs.Common.{◌≡◌, ◌++◌, drop, take, false}
use Rattle.atl_tree.specs.Front.{before_fault}
use Rattle.atl_tree.proofs.front.sound_length.Given as goal

-- the tokens so far stand before the first fault, and those of what is left behind them
abbrev pub invariant-loop-i : goal.invariant-loop-i
invariant-loop-i l = take l.i l.tokens ++ before_fault l.led (drop l.i l.tokens) ≡ before_fault false l.tokens
