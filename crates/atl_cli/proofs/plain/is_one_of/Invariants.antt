use Rattle.std.proofs.Common.{◌≡◌, take, false, map}
use Rattle.atl_cli.specs.OneRule.{is_among}
use Rattle.atl_cli.proofs.plain.is_one_of.Given as goal

-- none of the words so far is the name
abbrev pub invariant-loop-word : goal.invariant-loop-word
invariant-loop-word l = is_among l.name (map (λ w. w.now) (take l.word-index l.words)) ≡ false
