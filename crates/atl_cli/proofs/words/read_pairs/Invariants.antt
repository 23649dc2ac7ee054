use Rattle.std.proofs.Common.{◌≡◌, take}
use Rattle.std.specs.Prelude.{All, map}
use Rattle.atl_cli.specs.Words.{IsPair, pair_word}
use Rattle.atl_cli.proofs.words.read_pairs.Given as goal

-- the words so far are these pairs
abbrev pub invariant-loop-word : goal.invariant-loop-word
invariant-loop-word l = record { pairs : All IsPair l.pairs; spelled : take l.word-index l.words ≡ map pair_word l.pairs }
