use Rattle.std.proofs.Common.{◌≡◌, ◌<◌, ◌≤◌, ℕ, List, [], ◌∷◌, length, drop, refl, sym, ap, ◌∙◌, arith, length-drop}
use Rattle.std.proofs.lemmas.List.{drop_all}
use Rattle.std.specs.Prelude.{None}
use Rattle.doc_text.specs.Encodings.{after_word}
use Rattle.doc_text.proofs.encoding.after_word.Goals as goal

nothing : (w : List ℕ) → 0 < length w → after_word w [] ≡ None
nothing [] h = grind (arith, h)
nothing (c ∷ w) h = refl

-- the bytes end before the word
ends : (w bs : List ℕ) (i : ℕ) → i < length w → length bs ≤ i → after_word (drop i w) (drop i bs) ≡ None
ends w bs i h k = ap (after_word (drop i w)) (drop_all i bs k) ∙ nothing (drop i w) (grind (arith, length-drop))

pub returns-then-i-bytes : goal.returns-then-i-bytes
returns-then-i-bytes c = sym c.loop-i.invariant.0 ∙ ends c.args.word.now c.args.bytes.now c.loop-i.i c.loop-i-test.true c.if-i-bytes.true
