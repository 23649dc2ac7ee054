-- Laws of escaping: byte by byte it is character by character, since no byte of a wide character is escaped.
use Rattle.std.proofs.Common.{◌≡◌, ℕ, suc, ◌<◌, ◌≤◌, ◌⊎◌, inl, inr, List, [], ◌∷◌, ◌++◌, length, get_or, refl, sym, ap, ◌∙◌, arith}
use Rattle.std.specs.Char.{encode_utf8}
use Rattle.std.specs.List.{flat_map}
use Rattle.std.proofs.lemmas.Bool.{cases_lt}
use Rattle.std.proofs.lemmas.Bool.Decides.{nat_tests}
use Rattle.std.proofs.lemmas.List.{append-nil}
use Rattle.std.proofs.lemmas.Str.{encode_ascii, inside_one}
use Rattle.doc_text.specs.declared.escape.Escapes.{Escapes}
use Rattle.doc_text.specs.declared.escape.Escapes.TheVariants.{Value, Text}
use Rattle.doc_text.specs.Escapes.{escaped}

-- a byte of a wide character stands for itself
itself : (place : Escapes) (b : ℕ) → 128 ≤ b → escaped place b ≡ b ∷ []
itself Value b h = grind (arith, nat_tests)
itself Text b h = grind (arith, nat_tests)

all_themselves : (place : Escapes) (bs : List ℕ) → ((k : ℕ) → k < length bs → 128 ≤ get_or bs k 0) → flat_map (escaped place) bs ≡ bs
all_themselves place [] h = refl
all_themselves place (b ∷ bs) h =
    ap (λ l. l ++ flat_map (escaped place) bs) (itself place b (h 0 (omega arith))) ∙ ap (λ l. b ∷ l) (all_themselves place bs (λ k lt. h (suc k) (omega (arith, lt))))

wide : (c k : ℕ) → 128 ≤ c → k < length (encode_utf8 c) → (get_or (encode_utf8 c) k 0 < 128) ⊎ (128 ≤ get_or (encode_utf8 c) k 0) → 128 ≤ get_or (encode_utf8 c) k 0
wide c k h lt (inl small) = omega (arith, inside_one c [] (encode_utf8 c) k (sym (append-nil (encode_utf8 c))) lt small)
wide c k h lt (inr large) = large

pub escaped_wide : (place : Escapes) (c : ℕ) → 128 ≤ c → flat_map (escaped place) (encode_utf8 c) ≡ encode_utf8 c
escaped_wide place c h = all_themselves place (encode_utf8 c) (λ k lt. wide c k h lt (cases_lt _ _))

pub escaped_ascii : (place : Escapes) (c : ℕ) → c < 128 → flat_map (escaped place) (encode_utf8 c) ≡ escaped place c
escaped_ascii place c h = ap (flat_map (escaped place)) (encode_ascii c h) ∙ append-nil (escaped place c)

pub escaped_plain : (place : Escapes) (c : ℕ) → (c < 128 → escaped place c ≡ c ∷ []) → (c < 128) ⊎ (128 ≤ c) → flat_map (escaped place) (encode_utf8 c) ≡ encode_utf8 c
escaped_plain place c e (inl h) = escaped_ascii place c h ∙ e h ∙ sym (encode_ascii c h)
escaped_plain place c e (inr h) = escaped_wide place c h
