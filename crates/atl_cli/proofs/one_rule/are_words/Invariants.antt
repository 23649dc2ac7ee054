use Rattle.std.proofs.Common.{◌≡◌, take, map}
use Rattle.atl_cli.proofs.one_rule.are_words.Given as goal

-- the texts so far are those
abbrev pub invariant-loop-at : goal.invariant-loop-at
invariant-loop-at l = take l.at (map (λ t. t.text) l.tokens) ≡ take l.at (map (λ w. w.now) l.words)
