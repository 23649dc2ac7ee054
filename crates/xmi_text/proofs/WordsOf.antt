-- The words of a text, character by character.
use Rattle.std.proofs.Common.{◌≡◌, ℕ, suc, ◌+◌, ◌-◌, ◌<◌, ◌≤◌, List, [], ◌∷◌, ◌++◌, length, get_or, take, drop, sym, ap, ◌∙◌, add-one, arith, length-drop}
use Rattle.std.specs.Prelude.{true, false, if◌then◌else◌}
use Rattle.std.proofs.Math.Seq.{drop-cons, take-suc}
use Rattle.std.proofs.lemmas.List.{get_or-drop}
use Rattle.xmi_text.specs.Markup.{is_blank, and_word, words_from}

cut : (text : List ℕ) (i : ℕ) → i < length text → drop i text ≡ get_or text i 0 ∷ drop (i + 1) text
cut text i h = drop-cons text i 0 h ∙ ap (λ k. get_or text i 0 ∷ drop k text) (sym (add-one i))

empty : (text : List ℕ) (n : ℕ) → take (n - n) text ≡ []
empty text n = let e : n - n ≡ 0 = omega arith in ap (λ k. take k text) e

pub at_blank : (text : List ℕ) (b i : ℕ) → i < length text → is_blank (get_or text i 0) ≡ true
    → words_from (take (i - b) (drop b text)) (drop i text)
    ≡ and_word (take (i - b) (drop b text)) (words_from (take (i + 1 - (i + 1)) (drop (i + 1) text)) (drop (i + 1) text))
at_blank text b i h e = let word = take (i - b) (drop b text) in
    ap (words_from word) (cut text i h)
    ∙ ap (λ t. if t then and_word word (words_from [] (drop (i + 1) text)) else words_from (word ++ (get_or text i 0 ∷ [])) (drop (i + 1) text)) e
    ∙ ap (λ w. and_word word (words_from w (drop (i + 1) text))) (sym (empty (drop (i + 1) text) (i + 1)))

longer : (text : List ℕ) (b i : ℕ) → b ≤ i → i < length text → take (i - b) (drop b text) ++ (get_or text i 0 ∷ []) ≡ take (i + 1 - b) (drop b text)
longer text b i l h =
    let lt : i - b < length (drop b text) = omega (arith, length-drop b text) in
    let there : b + (i - b) ≡ i = omega arith in
    let up : suc (i - b) ≡ i + 1 - b = omega arith in
    ap (λ x. take (i - b) (drop b text) ++ (x ∷ [])) (sym (get_or-drop b text (i - b) 0 ∙ ap (λ k. get_or text k 0) there))
    ∙ sym (take-suc (drop b text) (i - b) 0 lt)
    ∙ ap (λ k. take k (drop b text)) up

pub at_letter : (text : List ℕ) (b i : ℕ) → b ≤ i → i < length text → is_blank (get_or text i 0) ≡ false
    → words_from (take (i - b) (drop b text)) (drop i text) ≡ words_from (take (i + 1 - b) (drop b text)) (drop (i + 1) text)
at_letter text b i l h e =
    ap (words_from (take (i - b) (drop b text))) (cut text i h)
    ∙ ap (λ t. if t then and_word (take (i - b) (drop b text)) (words_from [] (drop (i + 1) text)) else words_from (take (i - b) (drop b text) ++ (get_or text i 0 ∷ [])) (drop (i + 1) text)) e
    ∙ ap (λ w. words_from w (drop (i + 1) text)) (longer text b i l h)
