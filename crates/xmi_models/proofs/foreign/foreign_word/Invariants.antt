use Rattle.std.proofs.Common.{◌≡◌, map, drop}
use Rattle.std.specs.Prelude.{find}
use Rattle.xmi_text.specs.Markup.{words_of}
use Rattle.xmi_text.specs.Fragments.{names_file}
use Rattle.xmi_models.proofs.foreign.foreign_word.Given as goal

-- none of the words so far names a file
abbrev pub invariant-loop-i : goal.invariant-loop-i
invariant-loop-i l = find names_file (map (λ w. w.now) (drop l.i l.words.items)) ≡ find names_file (words_of l.text)
