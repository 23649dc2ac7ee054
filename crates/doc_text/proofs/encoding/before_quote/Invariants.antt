use Rattle.std.proofs.Common.{◌≡◌, [], take, drop}
use Rattle.doc_text.specs.Encodings.{before_quote}
use Rattle.doc_text.proofs.encoding.before_quote.Given as goal

abbrev pub invariant-loop-i : goal.invariant-loop-i
invariant-loop-i l = before_quote l.quote (take l.i l.bytes) (drop l.i l.bytes) ≡ before_quote l.quote [] l.bytes
