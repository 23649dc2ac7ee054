use Rattle.std.proofs.Common.{◌≡◌, drop, true, false}
use Rattle.module_grammar.specs.Marks.{marks}
use Rattle.module_states.specs.Machine.{run, read}
use Rattle.module_states.specs.Nexts.{state_of}
use Rattle.module_parse.proofs.reading.run.run.Given as goal

-- what the rest gives from here is what all tokens give
abbrev pub invariant-loop-i : goal.invariant-loop-i
invariant-loop-i l = run true (state_of l.next) (marks l.led (drop l.i l.tokens)) ≡ read true (marks false l.tokens)
