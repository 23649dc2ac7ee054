use Rattle.std.proofs.Common.{◌≡◌, ◌≤◌, length, drop}
use Rattle.doc_text.specs.Encodings.{after_word}
use Rattle.doc_text.proofs.encoding.after_word.Given as goal

abbrev pub invariant-loop-i : goal.invariant-loop-i
invariant-loop-i l = (after_word (drop l.i l.word) (drop l.i l.bytes) ≡ after_word l.word l.bytes) × (l.i ≤ length l.bytes)
