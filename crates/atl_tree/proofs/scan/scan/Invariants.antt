use Rattle.std.specs.Str.Iter.{chars_rest}
use Rattle.atl_tree.proofs.Simulation.{Agrees}
use Rattle.atl_tree.proofs.scan.scan.Given as goal

-- the tokens so far and the cursor are the machine's, before what is left of the text
abbrev pub invariant-loop-c : goal.invariant-loop-c
invariant-loop-c l = Agrees l.text l.from l.list l.cursor (chars_rest l.c-iterator)
