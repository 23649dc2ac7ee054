-- Numbers in fragments, read digit by digit below a bound, and what they pick from a list.
use Rattle.std.proofs.Common.{◌≡◌, ℕ, ◌+◌, ◌-◌, ◌*◌, ◌<◌, ◌≤◌, Bool, true, false, List, [], ◌∷◌, length, drop, refl, sym, ap, ◌∙◌, arith, Option, Some, None}
use Rattle.std.specs.Prelude.{◌&&◌, nat_lt, slice_index_or, slice_get, fold, if◌then◌else◌}
use Rattle.std.specs.Int.{is_in_range}
use Rattle.std.specs.List.{list_all}
use Rattle.std.specs.Option.{option_and_then}
use Rattle.std.proofs.lemmas.Bool.{le-ltb, ltb-true, ltb-false, true≢false}
use Rattle.std.proofs.Math.ListN.{drop_of_length-le}
use Rattle.std.proofs.lemmas.List.{drop_more}
use Rattle.std.proofs.lemmas.Option.{none-some, same_Some, slice_get_past}
use Rattle.ecore_meta.specs.Valid.{number_of}
use Rattle.model_store.specs.Paths.{are_digits, at_number}

abbrev is_digit : ℕ → Bool
is_digit = is_in_range 48 57

-- one digit more
abbrev pub longer : ℕ → ℕ → ℕ
longer n b = 10 * n + (b - 48)

abbrev value : ℕ → List ℕ → ℕ
value = fold longer

value_grows : (n : ℕ) (bs : List ℕ) → n ≤ value n bs
value_grows n [] = omega arith
value_grows n (b ∷ bs) = let h : longer n b ≤ value (longer n b) bs = value_grows (longer n b) bs in omega (arith, h)

-- a number, where a test of it and of its digits passes
abbrev pub where_both : Bool → Bool → ℕ → Option ℕ
where_both digits low n = if digits && low then Some n else None

module _ (bound : ℕ) where
  abbrev pub next : ℕ → ℕ → Option ℕ
  next n b = where_both (is_digit b) (nat_lt (longer n b) bound) (longer n b)

  abbrev pub read : ℕ → List ℕ → Option ℕ
  read n [] = Some n
  read n (b ∷ bs) = option_and_then (λ k. read k bs) (next n b)

  abbrev whole : ℕ → List ℕ → Option ℕ
  whole n bs = where_both (list_all is_digit bs) (nat_lt (value n bs) bound) (value n bs)

  last_digit : (d l : Bool) (v : ℕ) → option_and_then (λ (k : ℕ). Some k) (where_both d l v) ≡ where_both (d && true) l v
  last_digit true true v = refl
  last_digit true false v = refl
  last_digit false l v = refl

  none_low : (all low : Bool) (n : ℕ) → low ≡ false → None ≡ where_both all low n
  none_low true true n e = absurd (true≢false e)
  none_low true false n e = refl
  none_low false low n e = refl

  one_more : (d l : Bool) (v c : ℕ) (cs : List ℕ) → nat_lt v bound ≡ l → read v (c ∷ cs) ≡ whole v (c ∷ cs)
      → option_and_then (λ k. read k (c ∷ cs)) (where_both d l v) ≡ where_both (d && list_all is_digit (c ∷ cs)) (nat_lt (value v (c ∷ cs)) bound) (value v (c ∷ cs))
  one_more true true v c cs e h = h
  one_more true false v c cs e h =
      let grows : v ≤ value v (c ∷ cs) = value_grows v (c ∷ cs) in
      let past : bound ≤ v = ltb-false v bound e in
      none_low (list_all is_digit (c ∷ cs)) (nat_lt (value v (c ∷ cs)) bound) (value v (c ∷ cs)) (le-ltb (value v (c ∷ cs)) bound (omega (arith, grows, past)))
  one_more false l v c cs e h = refl

  pub read_is : (n b : ℕ) (bs : List ℕ) → read n (b ∷ bs) ≡ whole n (b ∷ bs)
  read_is n b [] = last_digit (is_digit b) (nat_lt (longer n b) bound) (longer n b)
  read_is n b (c ∷ cs) = one_more (is_digit b) (nat_lt (longer n b) bound) (longer n b) c cs refl (read_is (longer n b) c cs)

  -- what a loop over the digits gives
  pub read_all : (bs : List ℕ) → 0 < length bs → read 0 bs ≡ where_both (are_digits bs) (nat_lt (number_of bs) bound) (number_of bs)
  read_all [] h = absurd (omega (arith, h))
  read_all (b ∷ bs) h = read_is 0 b bs

  -- the digit at a place, and the end
  module _ (bs : List ℕ) (i n : ℕ) where
    abbrev rest : Option ℕ → Option ℕ
    rest = option_and_then (λ k. read k (drop (i + 1) bs))

    read_at : i < length bs → read n (drop i bs) ≡ rest (next n (slice_index_or bs i 0))
    read_at h = ap (read n) (drop_more bs i 0 h)

    pub read_more : (k : ℕ) → i < length bs → next n (slice_index_or bs i 0) ≡ Some k → read k (drop (i + 1) bs) ≡ read n (drop i bs)
    read_more k h is = sym (read_at h ∙ ap rest is)

    pub read_stops : i < length bs → next n (slice_index_or bs i 0) ≡ None → read n (drop i bs) ≡ None
    read_stops h is = read_at h ∙ ap rest is

    pub read_done : length bs ≤ i → read n (drop i bs) ≡ Some n
    read_done h = ap (read n) (drop_of_length-le bs h)

-- ## The element of a number

module _ {X : Type 0} (xs : List X) (digits : List ℕ) where
  abbrev pub place : Option ℕ
  place = where_both (are_digits digits) (nat_lt (number_of digits) (length xs)) (number_of digits)

  abbrev at : Bool → Option X
  at d = if d then slice_get xs (number_of digits) else None

  found : (d l : Bool) (k : ℕ) → nat_lt (number_of digits) (length xs) ≡ l → where_both d l (number_of digits) ≡ Some k → (k < length xs) × (at d ≡ slice_get xs k)
  found true true k e h = let same : number_of digits ≡ k = same_Some (number_of digits) k h in let low = ltb-true (number_of digits) (length xs) e in (omega (arith, same, low), ap (slice_get xs) same)
  found true false k e h = absurd (none-some k h)
  found false l k e h = absurd (none-some k h)

  pub at_place : (k : ℕ) → place ≡ Some k → (k < length xs) × (at_number xs digits ≡ slice_get xs k)
  at_place k h = found (are_digits digits) (nat_lt (number_of digits) (length xs)) k refl h

  missed : (d l : Bool) → nat_lt (number_of digits) (length xs) ≡ l → where_both d l (number_of digits) ≡ None → at d ≡ None
  missed true true e h = absurd (none-some (number_of digits) (sym h))
  missed true false e h = slice_get_past xs (number_of digits) (ltb-false (number_of digits) (length xs) e)
  missed false l e h = refl

  pub at_no_place : place ≡ None → at_number xs digits ≡ None
  at_no_place h = missed (are_digits digits) (nat_lt (number_of digits) (length xs)) refl h
