use Rattle.std.proofs.Common.{◌≡◌, map, take}
use Rattle.std.specs.Prelude.{All}
use Rattle.atl_base.specs.XmlText.{IsXmlText}
use Rattle.atl_cli.proofs.operands.strings.Given as goal

-- the words so far, and each is a text
abbrev pub invariant-loop-word : goal.invariant-loop-word
invariant-loop-word l = record { same : map (λ s. s.now) l.strings.items ≡ take l.word-index l.words; texts : All IsXmlText (take l.word-index l.words) }
