-- A text that is a signed number of 64 bits is read as one.
use Rattle.std.proofs.Common.{◌≡◌, ℕ, zero, suc, ◌+◌, ◌-◌, ◌*◌, ◌<◌, ◌≤◌, ◌^◌, Bool, true, false, List, [], ◌∷◌, length, drop, refl, sym, ap, subst, ◌∙◌, ⊎_elim, arith, cond, w64, pos, FitsSigned}
use Rattle.std.specs.Prelude.{nat_le, nat_eq, neg_ℤ, fold}
use Rattle.std.specs.Int.{is_in_range, IsInRange}
use Rattle.std.specs.Char.{digit_value}
use Rattle.std.specs.List.{list_all}
use Rattle.std.specs.Str.Parse.{AllDigits, IsNumeral, digits_value, digits_value_after, without_leading_sign, signed_digits_value}
use Rattle.std.proofs.lemmas.Bool.{and_parts, leb-true, ne_eqb}
use Rattle.std.proofs.lemmas.Str.{digit_value_digit}
use Rattle.ecore_meta.specs.Valid.{IsDigits, IsIntText, number_of}

in_range : (c : ℕ) → is_in_range 48 57 c ≡ true → IsInRange 48 57 c
in_range c e = let parts = and_parts (nat_le 48 c) (nat_le c 57) e in (leb-true 48 c parts.0, leb-true c 57 parts.1)

digits_are : (ds : List ℕ) → list_all (is_in_range 48 57) ds ≡ true → AllDigits 10 ds
digits_are [] e = tt
digits_are (c ∷ cs) e =
    let parts = and_parts (is_in_range 48 57 c) (list_all (is_in_range 48 57) cs) e in
    let r = in_range c parts.0 in
    let d = digit_value_digit c r in
    (omega (arith, d, r.0, r.1), digits_are cs parts.1)

pub value_after : (n : ℕ) (ds : List ℕ) → list_all (is_in_range 48 57) ds ≡ true → digits_value_after 10 n ds ≡ fold (λ k digit. 10 * k + (digit - 48)) n ds
value_after n [] e = refl
value_after n (c ∷ cs) e =
    let parts = and_parts (is_in_range 48 57 c) (list_all (is_in_range 48 57) cs) e in
    let r = in_range c parts.0 in
    let d = digit_value_digit c r in
    let step : n * 10 + digit_value c ≡ 10 * n + (c - 48) = omega (arith, d, r.0) in
    ap (λ k. digits_value_after 10 k cs) step ∙ value_after (10 * n + (c - 48)) cs parts.1

some_digits : (ds : List ℕ) → IsDigits ds → 0 < length ds
some_digits [] h = absurd (h.some refl)
some_digits (c ∷ cs) h = omega arith

-- what the sign leaves
abbrev rest_of : Bool → Bool → List ℕ → List ℕ
rest_of minus plus text = cond minus (drop 1 text) (drop (cond plus 1 0) text)

abbrev IsRead : Bool → Bool → List ℕ → Type 0
IsRead minus plus text = IsNumeral 10 (rest_of minus plus text)
    × FitsSigned w64 (cond minus (neg_ℤ (pos (digits_value 10 (rest_of minus plus text)))) (pos (digits_value 10 (rest_of minus plus text))))

fits_below : (n : ℕ) → n ≤ 2 ^ 63 → FitsSigned w64 (neg_ℤ (pos n))
fits_below zero h = record { sfits = omega arith }
fits_below (suc n) h = record { sfits = omega arith }

unsigned : (text : List ℕ) → IsDigits text → number_of text < 2 ^ 63 → IsNumeral 10 (without_leading_sign text) × FitsSigned w64 (signed_digits_value 10 text)
unsigned [] h small = absurd (h.some refl)
unsigned (c ∷ cs) h small =
    let parts = and_parts (is_in_range 48 57 c) (list_all (is_in_range 48 57) cs) h.digits in
    let r = in_range c parts.0 in
    let low : 48 ≤ c = r.0 in
    let minus : nat_eq c 45 ≡ false = ne_eqb c 45 (λ e. let no : ⊥ = omega (arith, e, low) in no) in
    let plus : nat_eq c 43 ≡ false = ne_eqb c 43 (λ e. let no : ⊥ = omega (arith, e, low) in no) in
    let value : digits_value 10 (c ∷ cs) ≡ number_of (c ∷ cs) = value_after 0 (c ∷ cs) h.digits in
    let read : IsRead false false (c ∷ cs) = ((some_digits (c ∷ cs) h, digits_are (c ∷ cs) h.digits), subst (λ n. FitsSigned w64 (pos n)) (sym value) (record { sfits = small })) in
    subst (λ m. IsRead m (nat_eq c 43) (c ∷ cs)) (sym minus) (subst (λ p. IsRead false p (c ∷ cs)) (sym plus) read)

negative : (digits : List ℕ) → IsDigits digits → number_of digits ≤ 2 ^ 63 → IsNumeral 10 (without_leading_sign (45 ∷ digits)) × FitsSigned w64 (signed_digits_value 10 (45 ∷ digits))
negative digits h small =
    let value : digits_value 10 digits ≡ number_of digits = value_after 0 digits h.digits in
    ((some_digits digits h, digits_are digits h.digits), subst (λ n. FitsSigned w64 (neg_ℤ (pos n))) (sym value) (fits_below (number_of digits) small))

pub is_read : (text : List ℕ) → IsIntText text → IsNumeral 10 (without_leading_sign text) × FitsSigned w64 (signed_digits_value 10 text)
is_read text h = ⊎_elim
    (λ (a : IsDigits text × (number_of text < 2 ^ 63)). unsigned text a.0 a.1)
    (λ (b : (digits : List ℕ) × (text ≡ 45 ∷ digits) × IsDigits digits × (number_of digits ≤ 2 ^ 63)).
    subst (λ t. IsNumeral 10 (without_leading_sign t) × FitsSigned w64 (signed_digits_value 10 t)) (sym b.1) (negative b.0 b.2 b.3))
    h
