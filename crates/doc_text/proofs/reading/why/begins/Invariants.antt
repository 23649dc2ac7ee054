use Rattle.std.proofs.Common.{◌≡◌, drop}
use Rattle.doc_text.specs.Machine.{begins}
use Rattle.doc_text.proofs.reading.why.begins.Given as goal

-- the rest of the word is what decides
abbrev pub invariant-loop-i : goal.invariant-loop-i
invariant-loop-i l = begins (drop l.i l.word) l.left.symbols ≡ begins l.word l.rest.symbols
