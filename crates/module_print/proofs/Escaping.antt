-- Escaping a text byte by byte is escaping it character by character, since no byte of a wide character has an escape.
use Rattle.std.proofs.Common.{◌≡◌, ℕ, suc, ◌<◌, ◌≤◌, ◌⊎◌, inl, inr, List, [], ◌∷◌, ◌++◌, length, get_or, refl, sym, ap, ◌∙◌, arith}
use Rattle.std.specs.Char.{encode_utf8}
use Rattle.std.specs.List.{flat_map}
use Rattle.std.proofs.lemmas.Bool.{cases_lt}
use Rattle.std.proofs.lemmas.Bool.Decides.{nat_tests}
use Rattle.std.proofs.lemmas.List.{append-nil}
use Rattle.std.proofs.lemmas.Str.{encode_ascii, inside_one}
use Rattle.module_print.specs.Printed.{escaped}

-- a byte of a wide character stands for itself
pub itself : (b : ℕ) → 128 ≤ b → escaped b ≡ b ∷ []
itself b h = grind (arith, nat_tests)

all_themselves : (bs : List ℕ) → ((k : ℕ) → k < length bs → 128 ≤ get_or bs k 0) → flat_map escaped bs ≡ bs
all_themselves [] h = refl
all_themselves (b ∷ bs) h =
    ap (λ l. l ++ flat_map escaped bs) (itself b (h 0 (omega arith))) ∙ ap (λ l. b ∷ l) (all_themselves bs (λ k lt. h (suc k) (omega (arith, lt))))

wide : (c k : ℕ) → 128 ≤ c → k < length (encode_utf8 c) → (get_or (encode_utf8 c) k 0 < 128) ⊎ (128 ≤ get_or (encode_utf8 c) k 0) → 128 ≤ get_or (encode_utf8 c) k 0
wide c k h lt (inl small) = omega (arith, inside_one c [] (encode_utf8 c) k (sym (append-nil (encode_utf8 c))) lt small)
wide c k h lt (inr large) = large

pub escaped_wide : (c : ℕ) → 128 ≤ c → flat_map escaped (encode_utf8 c) ≡ encode_utf8 c
escaped_wide c h = all_themselves (encode_utf8 c) (λ k lt. wide c k h lt (cases_lt _ _))

pub escaped_ascii : (c : ℕ) → c < 128 → flat_map escaped (encode_utf8 c) ≡ escaped c
escaped_ascii c h = ap (flat_map escaped) (encode_ascii c h) ∙ append-nil (escaped c)

pub escaped_plain : (c : ℕ) → (c < 128 → escaped c ≡ c ∷ []) → (c < 128) ⊎ (128 ≤ c) → flat_map escaped (encode_utf8 c) ≡ encode_utf8 c
escaped_plain c e (inl h) = escaped_ascii c h ∙ e h ∙ sym (encode_ascii c h)
escaped_plain c e (inr h) = escaped_wide c h
