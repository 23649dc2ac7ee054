-- Names without their quotes and texts with their escapes resolved, byte by byte and character by character: no byte of a
-- wide character is a quote or a backslash.
use Rattle.std.proofs.Common.{◌≡◌, ◌≢◌, ℕ, suc, ◌<◌, ◌≤◌, ◌⊎◌, inl, inr, true, false, List, [], ◌∷◌, ◌++◌, length, get_or, refl, sym, ap, ◌∙◌, arith, append_assoc}
use Rattle.std.specs.Char.{encode_utf8}
use Rattle.std.specs.List.{flat_map}
use Rattle.std.proofs.lemmas.Bool.{cases_lt}
use Rattle.std.proofs.lemmas.Bool.Decides.{nat_tests}
use Rattle.std.proofs.lemmas.List.{append-nil}
use Rattle.std.proofs.lemmas.Str.{encode_ascii, inside_one, length-encode, len_utf8_bounds}
use Rattle.atl_base.specs.XmlText.{is_xml_character}
use Rattle.ocl_parse.specs.Symbols.{unquoted, resolved_char, resolved_from}

-- each byte is one of a wide character
abbrev Wide : List ℕ → Type 0
Wide bs = (k : ℕ) → k < length bs → 128 ≤ get_or bs k 0

wide_byte : (c k : ℕ) → 128 ≤ c → k < length (encode_utf8 c) → (get_or (encode_utf8 c) k 0 < 128) ⊎ (128 ≤ get_or (encode_utf8 c) k 0) → 128 ≤ get_or (encode_utf8 c) k 0
wide_byte c k h lt (inl small) = omega (arith, inside_one c [] (encode_utf8 c) k (sym (append-nil (encode_utf8 c))) lt small)
wide_byte c k h lt (inr large) = large

wide : (c : ℕ) → 128 ≤ c → Wide (encode_utf8 c)
wide c h = λ k lt. wide_byte c k h lt (cases_lt _ _)

tail : (b : ℕ) (bs : List ℕ) → Wide (b ∷ bs) → Wide bs
tail b bs h = λ k lt. h (suc k) (omega (arith, lt))

unquoted_byte : (b : ℕ) → b ≢ 34 → unquoted b ≡ b ∷ []
unquoted_byte b h = grind (arith, nat_tests)

unquoted_wide : (bs : List ℕ) → Wide bs → flat_map unquoted bs ≡ bs
unquoted_wide [] h = refl
unquoted_wide (b ∷ bs) h =
    let large : 128 ≤ b = h 0 (omega arith) in
    ap (λ l. l ++ flat_map unquoted bs) (unquoted_byte b (omega (arith, large))) ∙ ap (λ l. b ∷ l) (unquoted_wide bs (tail b bs h))

unquoted_by : (c : ℕ) → c ≢ 34 → (c < 128) ⊎ (128 ≤ c) → flat_map unquoted (encode_utf8 c) ≡ encode_utf8 c
unquoted_by c n (inl h) = ap (flat_map unquoted) (encode_ascii c h) ∙ append-nil (unquoted c) ∙ unquoted_byte c n ∙ sym (encode_ascii c h)
unquoted_by c n (inr h) = unquoted_wide (encode_utf8 c) (wide c h)

-- a character that is no quote stays
pub unquoted_stays : (c : ℕ) → c ≢ 34 → flat_map unquoted (encode_utf8 c) ≡ encode_utf8 c
unquoted_stays c n = unquoted_by c n (cases_lt c 128)

-- a quote goes
pub unquoted_goes : (c : ℕ) → c ≡ 34 → flat_map unquoted (encode_utf8 c) ≡ []
unquoted_goes c e = ap (λ k. flat_map unquoted (encode_utf8 k)) e ∙ ap (flat_map unquoted) (encode_ascii 34 (omega arith))

resolved_byte : (b : ℕ) (rest : List ℕ) → b ≢ 92 → b ≢ 39 → resolved_from false (b ∷ rest) ≡ b ∷ resolved_from false rest
resolved_byte b rest h k = grind (arith, nat_tests)

resolved_wide : (bs rest : List ℕ) → Wide bs → resolved_from false (bs ++ rest) ≡ bs ++ resolved_from false rest
resolved_wide [] rest h = refl
resolved_wide (b ∷ bs) rest h =
    let large : 128 ≤ b = h 0 (omega arith) in
    resolved_byte b (bs ++ rest) (omega (arith, large)) (omega (arith, large)) ∙ ap (λ l. b ∷ l) (resolved_wide bs rest (tail b bs h))

char_stays : (c : ℕ) → 128 ≤ c → resolved_char c ≡ c
char_stays c h = grind (arith, nat_tests)

behind_wide : (bs rest : List ℕ) → 0 < length bs → Wide bs → resolved_from true (bs ++ rest) ≡ bs ++ resolved_from false rest
behind_wide [] rest p h = absurd (omega (arith, p))
behind_wide (b ∷ bs) rest p h =
    let large : 128 ≤ b = h 0 (omega arith) in
    ap (λ k. k ∷ resolved_from false (bs ++ rest)) (char_stays b large) ∙ ap (λ l. b ∷ l) (resolved_wide bs rest (tail b bs h))

char_small : (c : ℕ) → c < 128 → resolved_char c < 128
char_small c h = grind (arith, nat_tests)

behind_by : (c : ℕ) (rest : List ℕ) → (c < 128) ⊎ (128 ≤ c) → resolved_from true (encode_utf8 c ++ rest) ≡ encode_utf8 (resolved_char c) ++ resolved_from false rest
behind_by c rest (inl h) =
    ap (λ l. resolved_from true (l ++ rest)) (encode_ascii c h) ∙ ap (λ l. l ++ resolved_from false rest) (sym (encode_ascii (resolved_char c) (char_small c h)))
behind_by c rest (inr h) =
    behind_wide (encode_utf8 c) rest (omega (arith, length-encode c, len_utf8_bounds c)) (wide c h) ∙ ap (λ k. encode_utf8 k ++ resolved_from false rest) (sym (char_stays c h))

-- a character behind a backslash
pub resolved_behind : (words : List ℕ) (c : ℕ) (rest : List ℕ) → words ++ resolved_from true (encode_utf8 c ++ rest) ≡ (words ++ encode_utf8 (resolved_char c)) ++ resolved_from false rest
resolved_behind words c rest = ap (λ l. words ++ l) (behind_by c rest (cases_lt c 128)) ∙ sym (append_assoc words (encode_utf8 (resolved_char c)) (resolved_from false rest))

plain_by : (c : ℕ) (rest : List ℕ) → c ≢ 92 → c ≢ 39 → (c < 128) ⊎ (128 ≤ c) → resolved_from false (encode_utf8 c ++ rest) ≡ encode_utf8 c ++ resolved_from false rest
plain_by c rest n m (inl h) =
    ap (λ l. resolved_from false (l ++ rest)) (encode_ascii c h) ∙ resolved_byte c rest n m ∙ ap (λ l. l ++ resolved_from false rest) (sym (encode_ascii c h))
plain_by c rest n m (inr h) = resolved_wide (encode_utf8 c) rest (wide c h)

-- a character that is no backslash and no quote
pub resolved_plain : (words : List ℕ) (c : ℕ) (rest : List ℕ) → c ≢ 92 → c ≢ 39 → words ++ resolved_from false (encode_utf8 c ++ rest) ≡ (words ++ encode_utf8 c) ++ resolved_from false rest
resolved_plain words c rest n m = ap (λ l. words ++ l) (plain_by c rest n m (cases_lt c 128)) ∙ sym (append_assoc words (encode_utf8 c) (resolved_from false rest))

-- a backslash
pub resolved_backslash : (words : List ℕ) (c : ℕ) (rest : List ℕ) → c ≡ 92 → words ++ resolved_from false (encode_utf8 c ++ rest) ≡ words ++ resolved_from true rest
resolved_backslash words c rest e = ap (λ k. words ++ resolved_from false (encode_utf8 k ++ rest)) e ∙ ap (λ l. words ++ resolved_from false (l ++ rest)) (encode_ascii 92 (omega arith))

-- a quote
pub resolved_quote : (words : List ℕ) (c : ℕ) (rest : List ℕ) → c ≡ 39 → words ++ resolved_from false (encode_utf8 c ++ rest) ≡ words ++ resolved_from false rest
resolved_quote words c rest e = ap (λ k. words ++ resolved_from false (encode_utf8 k ++ rest)) e ∙ ap (λ l. words ++ resolved_from false (l ++ rest)) (encode_ascii 39 (omega arith))

-- what is behind a backslash is a character of XML text, too
pub resolved_xml : (c : ℕ) → is_xml_character c ≡ true → is_xml_character (resolved_char c) ≡ true
resolved_xml c h = grind (arith, nat_tests)
