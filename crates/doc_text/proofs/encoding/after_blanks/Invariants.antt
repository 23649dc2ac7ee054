use Rattle.std.proofs.Common.{◌≡◌, drop}
use Rattle.doc_text.specs.Encodings.{after_all, is_blank_byte}
use Rattle.doc_text.proofs.encoding.after_blanks.Given as goal

abbrev pub invariant-loop-i : goal.invariant-loop-i
invariant-loop-i l = after_all is_blank_byte (drop l.i l.bytes) ≡ after_all is_blank_byte l.bytes
