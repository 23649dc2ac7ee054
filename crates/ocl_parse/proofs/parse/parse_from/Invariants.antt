use Rattle.std.proofs.Common.{◌≡◌, drop, true}
use Rattle.ocl_parse.specs.Symbols.{lexemes}
use Rattle.ocl_parse.specs.Reading.{lexemes_at}
use Rattle.ocl_parse.specs.Machine.{run, read}
use Rattle.ocl_parse.proofs.parse.parse_from.Given as goal

-- what reading on gives is what reading all gives
abbrev pub invariant-loop-i : goal.invariant-loop-i
invariant-loop-i l = run true l.stack l.next (lexemes l.led (drop l.i l.tokens)) ≡ read true (lexemes_at l.from l.tokens)
