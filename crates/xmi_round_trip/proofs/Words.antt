-- Words joined by blanks are split into the same words.
use Rattle.std.proofs.Common.{◌≡◌, ◌≢◌, ℕ, false, List, [], ◌∷◌, ◌++◌, map, refl, sym, ap, ◌∙◌, append-nil, append_assoc}
use Rattle.std.specs.Prelude.{Contains, if◌then◌else◌}
use Rattle.std.specs.List.{list_any}
use Rattle.std.proofs.lemmas.Bool.{or_parts}
use Rattle.model_store.proofs.Thinned.{Contains_first, Contains_later}
use Rattle.xmi_text.specs.Markup.{and_word, is_blank, words_from, words_of}
use Rattle.xmi_write.specs.Values.{joined, joined_from}

-- some text without a blank
pub record IsWord (text : List ℕ) : Type 0 where
  pub some : text ≢ []
  pub whole : list_any is_blank text ≡ false

-- what is no blank goes to the word that has begun
goes_on : (word text rest : List ℕ) → list_any is_blank text ≡ false → words_from word (text ++ rest) ≡ words_from (word ++ text) rest
goes_on word [] rest h = ap (λ w. words_from w rest) (sym (append-nil word))
goes_on word (c ∷ cs) rest h =
    let p = or_parts (is_blank c) (list_any is_blank cs) h in
    ap (λ b. if b then and_word word (words_from [] (cs ++ rest)) else words_from (word ++ (c ∷ [])) (cs ++ rest)) p.0
    ∙ goes_on (word ++ (c ∷ [])) cs rest p.1
    ∙ ap (λ w. words_from w rest) (append_assoc word (c ∷ []) cs)

-- some text is a word
is_kept : (text : List ℕ) (words : List (List ℕ)) → text ≢ [] → and_word text words ≡ text ∷ words
is_kept [] words h = absurd (h refl)
is_kept (c ∷ cs) words h = refl

module _ {X : Type 0} (text : X → List ℕ) where
  -- behind a word that has begun
  behind_word : (word : List ℕ) (xs : List X) → ((x : X) → Contains xs x → IsWord (text x)) → words_from word (joined_from false (map text xs)) ≡ and_word word (map text xs)
  behind_word word [] h = refl
  behind_word word (x ∷ xs) h =
      let w = h x (Contains_first x xs) in
      ap (and_word word) (
      goes_on [] (text x) (joined_from false (map text xs)) w.whole
      ∙ behind_word (text x) xs (λ y m. h y (Contains_later x y xs m))
      ∙ is_kept (text x) (map text xs) w.some
      )

  -- the words of what is joined of them
  pub words_joined : (xs : List X) → ((x : X) → Contains xs x → IsWord (text x)) → words_of (joined (map text xs)) ≡ map text xs
  words_joined [] h = refl
  words_joined (x ∷ xs) h =
      let w = h x (Contains_first x xs) in
      goes_on [] (text x) (joined_from false (map text xs)) w.whole
      ∙ behind_word (text x) xs (λ y m. h y (Contains_later x y xs m))
      ∙ is_kept (text x) (map text xs) w.some
