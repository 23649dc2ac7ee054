-- Laws of the value of digits, as they are read one by one.
use Rattle.std.proofs.Common.{◌≡◌, ℕ, ◌+◌, ◌-◌, ◌*◌, ◌/◌, cond, ◌<◌, ◌≤◌, true, false, List, [], ◌∷◌, length, drop, get_or, refl, sym, ap, ◌∙◌, arith}
use Rattle.std.proofs.lemmas.List.{drop_more, drop_all}
use Rattle.std.specs.Char.{is_ascii_digit}
use Rattle.atl_tree.specs.Pieces.{is_digit}
use Rattle.atl_tree.specs.Tokens.{value_from}

pub value-digit : (n c : ℕ) (cs : List ℕ) → is_digit c ≡ true → value_from n (c ∷ cs) ≡ value_from (n * 10 + (c - 48)) cs
unfolding value_from
value-digit n c cs h = ap (λ b. cond b (value_from (n * 10 + (c - 48)) cs) n) h

pub value-other : (n c : ℕ) (cs : List ℕ) → is_digit c ≡ false → value_from n (c ∷ cs) ≡ n
unfolding value_from
value-other n c cs h = ap (λ b. cond b (value_from (n * 10 + (c - 48)) cs) n) h

pub value-nil : (n : ℕ) → value_from n [] ≡ n
unfolding value_from
value-nil n = refl

-- more digits make no smaller value
pub value-grows : (n : ℕ) (cs : List ℕ) → n ≤ value_from n cs
unfolding value_from
value-grows n [] = omega arith
value-grows n (c ∷ cs) = elim (is_digit c) as (λ b. n ≤ cond b (value_from (n * 10 + (c - 48)) cs) n)
    [ true ↦ omega (arith, value-grows (n * 10 + (c - 48)) cs) | false ↦ omega arith ]

digit-is : (c : ℕ) → is_ascii_digit c ≡ is_digit c
unfolding is_digit
digit-is c = refl

-- at a place of a text: the value goes on with a digit, and is that of the ones before at another character and at the end
pub value-on : (text : List ℕ) (i n d : ℕ) → i < length text → true ≡ is_ascii_digit (get_or text i 0) → d ≡ get_or text i 0 - 48 → value_from n (drop i text) ≡ value_from (n * 10 + d) (drop (i + 1) text)
value-on text i n d h t e =
    ap (value_from n) (drop_more text i 0 h) ∙ value-digit n (get_or text i 0) (drop (i + 1) text) (sym (digit-is (get_or text i 0)) ∙ sym t) ∙ ap (λ k. value_from (n * 10 + k) (drop (i + 1) text)) (sym e)

pub value-stops : (text : List ℕ) (i n : ℕ) → i < length text → false ≡ is_ascii_digit (get_or text i 0) → value_from n (drop i text) ≡ n
value-stops text i n h f =
    ap (value_from n) (drop_more text i 0 h) ∙ value-other n (get_or text i 0) (drop (i + 1) text) (sym (digit-is (get_or text i 0)) ∙ sym f)

pub value-ends : (text : List ℕ) (i n : ℕ) → length text ≤ i → value_from n (drop i text) ≡ n
value-ends text i n h = ap (value_from n) (drop_all i text h) ∙ value-nil n

-- what the sum of value and digit is, by the test before it
pub too-wide : (n d greatest : ℕ) → d ≤ greatest → (greatest - d) / 10 < n → greatest < n * 10 + d
too-wide n d greatest h g = omega arith

pub within : (n d greatest : ℕ) → d ≤ greatest → n ≤ (greatest - d) / 10 → n * 10 + d ≤ greatest
within n d greatest h g = omega arith
