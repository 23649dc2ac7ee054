-- Words of a text are texts.
use Rattle.std.proofs.Common.{◌≡◌, ℕ, ◌<◌, List, [], ◌∷◌, ◌++◌, length, get_or, refl, sym, subst, append_assoc, arith}
use Rattle.std.specs.Prelude.{Bool, true, false, ◌==◌, ◌||◌, if◌then◌else◌}
use Rattle.std.specs.Str.{IsCharBoundary}
use Rattle.std.proofs.lemmas.Bool.{eqb-true}
use Rattle.std.proofs.lemmas.List.{append-nil, length-append}
use Rattle.std.proofs.lemmas.Str.{IsCharBoundary-before_ascii, encode_ascii}
use Rattle.std.proofs.Math.Seq.{take-append_seam, drop-append_seam}
use Rattle.atl_base.specs.XmlText.{IsXmlText}
use Rattle.atl_base.proofs.XmlTexts.{IsXmlText-take, IsXmlText-drop, IsXmlText-parts}
use Rattle.xmi_text.specs.Markup.{is_blank, and_word, words_from, words_of}
use Rattle.xmi_text.proofs.Tests.{true-false}

abbrev pub AreWordTexts : List (List ℕ) → Type 0
AreWordTexts [] = Unit {0}
AreWordTexts (w ∷ ws) = IsXmlText w × AreWordTexts ws

pub append_texts : (ws more : List (List ℕ)) → AreWordTexts ws → AreWordTexts more → AreWordTexts (ws ++ more)
append_texts [] more h k = k
append_texts (w ∷ ws) more h k = (h.0, append_texts ws more h.1 k)

blank_small : (c : ℕ) → is_blank c ≡ true → c < 128
blank_small c h = by (c == 32) (c == 9) (c == 10) (c == 13) refl refl refl refl h
  where
    by : (s t n r : Bool) → (c == 32) ≡ s → (c == 9) ≡ t → (c == 10) ≡ n → (c == 13) ≡ r → (s || t || n || r) ≡ true → c < 128
    by true t n r a b d e h = omega (arith, eqb-true c 32 a)
    by false true n r a b d e h = omega (arith, eqb-true c 9 b)
    by false false true r a b d e h = omega (arith, eqb-true c 10 d)
    by false false false true a b d e h = omega (arith, eqb-true c 13 e)
    by false false false false a b d e h = absurd (true-false (sym h))

seam : (word : List ℕ) (c : ℕ) (cs : List ℕ) → get_or (word ++ (c ∷ cs)) (length word) 0 ≡ c
seam [] c cs = refl
seam (w ∷ word) c cs = seam word c cs

-- a text is cut in front of a blank, and behind it
module _ (word : List ℕ) (c : ℕ) (cs : List ℕ) (small : c < 128) (text : IsXmlText (word ++ (c ∷ cs))) where
  boundary : IsCharBoundary (word ++ (c ∷ cs)) (length word)
  boundary = IsCharBoundary-before_ascii (word ++ (c ∷ cs)) (length word) (omega (arith, length-append word (c ∷ cs))) (omega (arith, seam word c cs))

  pub front_is_text : IsXmlText word
  front_is_text = subst IsXmlText (take-append_seam word (c ∷ cs)) (IsXmlText-take (word ++ (c ∷ cs)) (length word) text boundary)

  pub behind_is_text : IsXmlText cs
  behind_is_text =
      let rest : IsXmlText (c ∷ cs) = subst IsXmlText (drop-append_seam word (c ∷ cs)) (IsXmlText-drop (word ++ (c ∷ cs)) (length word) text boundary) in
      (IsXmlText-parts c cs (subst (λ l. IsXmlText (l ++ cs)) (sym (encode_ascii c small)) rest)).1

and_word_text : (word : List ℕ) (ws : List (List ℕ)) → IsXmlText word → AreWordTexts ws → AreWordTexts (and_word word ws)
and_word_text [] ws h k = k
and_word_text (c ∷ cs) ws h k = (h, k)

from_text : (word rest : List ℕ) → IsXmlText (word ++ rest) → AreWordTexts (words_from word rest)
from_text word [] h = and_word_text word [] (subst IsXmlText (append-nil word) h) tt
from_text word (c ∷ cs) h =
    by (is_blank c) refl (λ e. from_text [] cs (behind_is_text word c cs (blank_small c e) h))
    (from_text (word ++ (c ∷ [])) cs (subst IsXmlText (sym (append_assoc word (c ∷ []) cs)) h))
  where
    by : (b : Bool) → is_blank c ≡ b → (is_blank c ≡ true → AreWordTexts (words_from [] cs)) → AreWordTexts (words_from (word ++ (c ∷ [])) cs)
        → AreWordTexts (if b then and_word word (words_from [] cs) else words_from (word ++ (c ∷ [])) cs)
    by true e f k = and_word_text word (words_from [] cs) (front_is_text word c cs (blank_small c e) h) (f e)
    by false e f k = k

pub words_are_texts : (text : List ℕ) → IsXmlText text → AreWordTexts (words_of text)
words_are_texts text h = from_text [] text h
