-- Decimal digits are text of ASCII.
use Rattle.std.proofs.Common.{◌≡◌, ℕ, ◌<◌, ◌≤◌, ◌^◌, true, List, [], ◌∷◌, refl, arith}
use Rattle.std.specs.Fmt.{decimal}
use Rattle.std.specs.Int.{is_in_range, IsInRange}
use Rattle.std.specs.List.{list_all}
use Rattle.std.specs.Str.Parse.{AllDigits}
use Rattle.std.proofs.lemmas.Bool.{and_from, or_left, or_right, lt-ltb, le-leb}
use Rattle.std.proofs.lemmas.Fmt.{decimal_is_IsNumeral}
use Rattle.std.proofs.lemmas.Str.Parse.{digit_from_value}
use Rattle.atl_base.specs.XmlText.{is_ascii_text}

ascii_digit : (c : ℕ) → IsInRange 48 57 c → is_ascii_text c ≡ true
ascii_digit c r =
    let low : 48 ≤ c = r.0 in
    let high : c ≤ 57 = r.1 in
    let range : is_in_range 0x20 0xD7FF c ≡ true = and_from _ _ (le-leb 0x20 c (omega arith)) (le-leb c 0xD7FF (omega arith)) in
    and_from _ _ (lt-ltb c 128 (omega arith)) (or_left _ _ (or_left _ _ (or_right _ _ range)))

digits_ascii : (ds : List ℕ) → AllDigits 10 ds → list_all is_ascii_text ds ≡ true
digits_ascii [] h = refl
digits_ascii (c ∷ cs) h = and_from _ _ (ascii_digit c (digit_from_value c h.0)) (digits_ascii cs h.1)

pub decimal_ascii : (n : ℕ) → n < 2 ^ 64 → list_all is_ascii_text (decimal n) ≡ true
decimal_ascii n h = digits_ascii (decimal n) (decimal_is_IsNumeral n h).0.1
