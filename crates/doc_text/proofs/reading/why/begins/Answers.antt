use Rattle.std.proofs.Common.{◌≡◌, ◌<◌, ℕ, List, [], ◌∷◌, length, drop, false, refl, sym, ap, ◌∙◌, arith, length-drop}
use Rattle.doc_text.specs.Machine.{begins}
use Rattle.doc_text.proofs.reading.why.begins.Goals as goal

nothing : (word : List ℕ) → 0 < length word → begins word [] ≡ false
nothing [] h = grind (arith, h)
nothing (c ∷ word) h = refl

-- the characters end before the word
ends : (word : List ℕ) (i : ℕ) → i < length word → begins (drop i word) [] ≡ false
ends word i h = nothing (drop i word) (grind (arith, length-drop))

pub returns-in-None : goal.returns-in-None
returns-in-None c =
    sym (ends c.args.word.now c.loop-i.i c.loop-i-test.true) ∙ sym (ap (begins (drop c.loop-i.i c.args.word.now)) c.in-None.ensures.0) ∙ c.loop-i.invariant
