use Rattle.std.proofs.Common.{◌≡◌, map, take}
use Rattle.atl_cli.proofs.operands.texts.Given as goal

-- the texts so far
abbrev pub invariant-loop-string : goal.invariant-loop-string
invariant-loop-string l = l.texts ≡ map (λ s. s.now) (take l.string-index l.strings)
