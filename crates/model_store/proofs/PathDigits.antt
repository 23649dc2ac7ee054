-- The numbers in fragments are read back, and no part of a fragment has a slash.
use Rattle.std.proofs.Common.{◌≡◌, ℕ, ◌<◌, ◌≤◌, ◌^◌, Bool, true, false, List, [], ◌∷◌, ◌++◌, length, refl, sym, ap, ◌∙◌, arith, None}
use Rattle.std.specs.Prelude.{nat_le, slice_get, if◌then◌else◌}
use Rattle.std.specs.Fmt.{decimal}
use Rattle.std.specs.Int.{is_in_range, IsInRange}
use Rattle.std.specs.List.{list_all, list_any}
use Rattle.std.specs.Str.Parse.{AllDigits}
use Rattle.std.proofs.lemmas.Bool.{and_from, and_parts, le-leb, leb-true, eqb-true, ne_eqb, or_parts, or_from, true≢false, false_from_ne_true}
use Rattle.std.proofs.lemmas.Fmt.{decimal_is_IsNumeral}
use Rattle.std.proofs.lemmas.Str.Parse.{digit_from_value}
use Rattle.ecore_meta.specs.Valid.{number_of}
use Rattle.ecore_meta.specs.Names.{IsName, is_plain_name, begins_name, continues_name}
use Rattle.model_store.specs.Paths.{are_digits, at_number, is_slash}
use Rattle.model_store.proofs.Numbers.{value_after}

digit_in_range : (c : ℕ) → IsInRange 48 57 c → is_in_range 48 57 c ≡ true
digit_in_range c r = and_from _ _ (le-leb 48 c r.0) (le-leb c 57 r.1)

all_in_range : (ds : List ℕ) → AllDigits 10 ds → list_all (is_in_range 48 57) ds ≡ true
all_in_range [] h = refl
all_in_range (c ∷ cs) h = and_from _ _ (digit_in_range c (digit_from_value c h.0)) (all_in_range cs h.1)

are_digits_from : (ds : List ℕ) → 0 < length ds → list_all (is_in_range 48 57) ds ≡ true → are_digits ds ≡ true
are_digits_from [] h e = absurd (omega (arith, h))
are_digits_from (d ∷ ds) h e = e

-- a number in decimal is read back
pub digits_read : (n : ℕ) → n < 2 ^ 64 → are_digits (decimal n) ≡ true
digits_read n h = let x = decimal_is_IsNumeral n h in are_digits_from (decimal n) x.0.0 (all_in_range (decimal n) x.0.1)

pub number_read : (n : ℕ) → n < 2 ^ 64 → number_of (decimal n) ≡ n
number_read n h = let x = decimal_is_IsNumeral n h in sym (value_after 0 (decimal n) (all_in_range (decimal n) x.0.1)) ∙ x.1

pub at_decimal : {X : Type 0} (xs : List X) (n : ℕ) → n < 2 ^ 64 → at_number xs (decimal n) ≡ slice_get xs n
at_decimal xs n h = ap (λ b. if b then slice_get xs (number_of (decimal n)) else None) (digits_read n h) ∙ ap (slice_get xs) (number_read n h)

-- ## No slashes

-- of one byte: that some test passes which a slash does not
digit_no_slash : (c : ℕ) → is_in_range 48 57 c ≡ true → is_slash c ≡ false
digit_no_slash c e =
    let parts = and_parts (nat_le 48 c) (nat_le c 57) e in
    let low : 48 ≤ c = leb-true 48 c parts.0 in
    ne_eqb c 47 (λ s. let no : ⊥ = omega (arith, s, low) in no)

digits_no_slash : (ds : List ℕ) → list_all (is_in_range 48 57) ds ≡ true → list_any is_slash ds ≡ false
digits_no_slash [] e = refl
digits_no_slash (d ∷ ds) e = let parts = and_parts (is_in_range 48 57 d) (list_all (is_in_range 48 57) ds) e in or_from _ _ (digit_no_slash d parts.0) (digits_no_slash ds parts.1)

pub decimal_no_slash : (n : ℕ) → n < 2 ^ 64 → list_any is_slash (decimal n) ≡ false
decimal_no_slash n h = digits_no_slash (decimal n) (all_in_range (decimal n) (decimal_is_IsNumeral n h).0.1)

-- a test that a slash does not pass
passing_no_slash : (test : ℕ → Bool) → test 47 ≡ false → (c : ℕ) → test c ≡ true → is_slash c ≡ false
passing_no_slash test e c h = false_from_ne_true (is_slash c) (λ s. true≢false (sym h ∙ ap test (eqb-true c 47 s) ∙ e))

all_no_slash : (cs : List ℕ) → list_all continues_name cs ≡ true → list_any is_slash cs ≡ false
all_no_slash [] e = refl
all_no_slash (c ∷ cs) e = let parts = and_parts (continues_name c) (list_all continues_name cs) e in or_from _ _ (passing_no_slash continues_name refl c parts.0) (all_no_slash cs parts.1)

plain_no_slash : (name : List ℕ) → is_plain_name name ≡ true → list_any is_slash name ≡ false
plain_no_slash [] e = refl
plain_no_slash (c ∷ cs) e = let parts = and_parts (begins_name c) (list_all continues_name cs) e in or_from _ _ (passing_no_slash begins_name refl c parts.0) (all_no_slash cs parts.1)

pub name_no_slash : (name : List ℕ) → IsName name → list_any is_slash name ≡ false
name_no_slash name h = plain_no_slash name h.plain

pub any_append : (p : ℕ → Bool) (xs ys : List ℕ) → list_any p xs ≡ false → list_any p ys ≡ false → list_any p (xs ++ ys) ≡ false
any_append p [] ys e h = h
any_append p (x ∷ xs) ys e h = let parts = or_parts (p x) (list_any p xs) e in or_from _ _ parts.0 (any_append p xs ys parts.1 h)
