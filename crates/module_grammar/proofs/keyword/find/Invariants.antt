use Rattle.std.proofs.Common.{◌≡◌, drop, map}
use Rattle.module_grammar.specs.Keywords.{find}
use Rattle.module_grammar.proofs.keyword.find.Given as goal

-- what is found among the words that are left is found among all
abbrev pub invariant-loop-word : goal.invariant-loop-word
invariant-loop-word l = find l.text (map (λ w. (w.0.now, w.1)) (drop l.word-index l.words)) ≡ find l.text (map (λ w. (w.0.now, w.1)) l.words)
