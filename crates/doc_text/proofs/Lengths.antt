-- There are no more characters than bytes.
use Rattle.std.proofs.Common.{◌≡◌, ◌≤◌, ◌+◌, ◌-◌, ◌*◌, ℕ, zero, suc, List, [], ◌∷◌, ◌++◌, length, take, refl, sym, subst, arith}
use Rattle.std.proofs.lemmas.List.{length-append, length-take-le}
use Rattle.std.proofs.lemmas.Str.{utf8_valid_len_le}
use Rattle.std.proofs.lemmas.Bool.{eqb-false}
use Rattle.std.specs.Prelude.{Bool, true, false, if◌then◌else◌, ◌==◌, ◌&&◌, nat_lt}
use Rattle.std.specs.Str.{chars, chars_after, continuation_len, lead_bits}
use Rattle.std.specs.Str.Lossy.{utf8_valid_len}
use Rattle.doc_text.specs.Encodings.{Encoding, Utf8, Ascii, Latin}
use Rattle.doc_text.specs.Characters.{ascii, decoded, no_character, without_mark}

one_longer : (c : ℕ) (xs : List ℕ) (m : ℕ) → length xs ≤ m + 1 → length (c ∷ xs) ≤ suc m + 1
one_longer c xs m h = grind (arith, h)

as_long : (xs : List ℕ) (m : ℕ) → length xs ≤ m + 1 → length xs ≤ suc m + 1
as_long xs m h = grind (arith, h)

within : (xs : List ℕ) (m : ℕ) → length xs ≤ m + 1 → length xs ≤ suc m
within xs m h = grind (arith, h)

after_len : (bs : List ℕ) (n c : ℕ) → length (chars_after n c bs) ≤ length bs + 1
after_len [] zero c = grind arith
after_len [] (suc n) c = grind arith
after_len (b ∷ bs) zero c = one_longer c (chars_after (continuation_len b) (lead_bits b) bs) (length bs) (after_len bs (continuation_len b) (lead_bits b))
after_len (b ∷ bs) (suc n) c = as_long (chars_after n (c * 64 + (b - 128)) bs) (length bs) (after_len bs n (c * 64 + (b - 128)))

chars_len : (bs : List ℕ) → length (chars bs) ≤ length bs
unfolding chars
chars_len [] = grind arith
chars_len (b ∷ bs) = within (chars_after (continuation_len b) (lead_bits b) bs) (length bs) (after_len bs (continuation_len b) (lead_bits b))

ascii_len : (bs : List ℕ) → length (ascii bs) ≤ length bs
ascii_len [] = grind arith
ascii_len (b ∷ bs) = on (nat_lt b 128) (ascii_len bs)
  where
    on : (t : Bool) → length (ascii bs) ≤ length bs → length (if t then b ∷ ascii bs else no_character ∷ []) ≤ length (b ∷ bs)
    on true h = grind (arith, h)
    on false h = grind (arith, h)

utf8_len : (bs : List ℕ) → length (decoded Utf8 bs) ≤ length bs
utf8_len bs = on (utf8_valid_len bs == length bs) refl
  where
    front : length (chars (take (utf8_valid_len bs) bs)) ≤ utf8_valid_len bs
    front = subst (λ n. length (chars (take (utf8_valid_len bs) bs)) ≤ n) (length-take-le (utf8_valid_len bs) bs (utf8_valid_len_le bs)) (chars_len (take (utf8_valid_len bs) bs))

    on : (t : Bool) → (utf8_valid_len bs == length bs) ≡ t → length (chars (take (utf8_valid_len bs) bs) ++ (if t then [] else no_character ∷ [])) ≤ length bs
    on true h = subst (λ n. n ≤ length bs) (sym (length-append (chars (take (utf8_valid_len bs) bs)) [])) (grind (arith, front, utf8_valid_len_le bs))
    on false h = subst (λ n. n ≤ length bs) (sym (length-append (chars (take (utf8_valid_len bs) bs)) (no_character ∷ []))) (grind (arith, front, utf8_valid_len_le bs, eqb-false (utf8_valid_len bs) (length bs) h))

pub decoded_len : (e : Encoding) (bs : List ℕ) → length (decoded e bs) ≤ length bs
decoded_len Utf8 bs = utf8_len bs
decoded_len Ascii bs = ascii_len bs
decoded_len Latin bs = grind arith

pub mark_len : (bs : List ℕ) → length (without_mark bs) ≤ length bs
mark_len [] = grind arith
mark_len (a ∷ []) = grind arith
mark_len (a ∷ b ∷ []) = grind arith
mark_len (a ∷ b ∷ c ∷ rest) = on (a == 239 && b == 187 && c == 191)
  where
    on : (t : Bool) → length (if t then rest else a ∷ b ∷ c ∷ rest) ≤ length (a ∷ b ∷ c ∷ rest)
    on true = grind arith
    on false = grind arith
