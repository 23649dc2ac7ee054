use Rattle.std.proofs.Common.{◌≡◌, ◌++◌, ◌-◌, ◌≤◌, map, take, drop}
use Rattle.xmi_text.specs.Markup.{words_from, words_of}
use Rattle.xmi_text.proofs.words.words.Given as goal

abbrev pub invariant-loop-i : goal.invariant-loop-i
invariant-loop-i l = record {
  told : map (λ w. w.now) l.words.items ++ words_from (take (l.i - l.begin) (drop l.begin l.text)) (drop l.i l.text) ≡ words_of l.text;
  within : l.begin ≤ l.i;
}
