use Rattle.std.proofs.Common.{◌≡◌, ◌++◌, take, drop}
use Rattle.doc_text.specs.Characters.{ascii}
use Rattle.doc_text.proofs.source.decode_ascii.Given as goal

abbrev pub invariant-loop-i : goal.invariant-loop-i
invariant-loop-i l = take l.i l.bytes ++ ascii (drop l.i l.bytes) ≡ ascii l.bytes
