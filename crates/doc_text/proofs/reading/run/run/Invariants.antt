use Rattle.std.proofs.Common.{◌≡◌, true, length}
use Rattle.doc_text.specs.Machine.{run, read}
use Rattle.doc_text.specs.Nexts.{state_of}
use Rattle.doc_text.specs.Symbols.{AreSound}
use Rattle.doc_text.proofs.reading.run.run.Given as goal

-- what the rest gives from here is what all characters give
abbrev pub invariant-loop-next : goal.invariant-loop-next
invariant-loop-next l = record {
  gives : run true l.cursor.end (state_of l.next) l.cursor.symbols ≡ read true l.fn.cursor.end l.fn.cursor.symbols;
  ends : l.cursor.end ≡ l.fn.cursor.end;
  sound : AreSound l.cursor.symbols;
}

-- each turn takes a character
abbrev pub decreases-loop-next : goal.decreases-loop-next
decreases-loop-next l = length l.cursor.symbols
