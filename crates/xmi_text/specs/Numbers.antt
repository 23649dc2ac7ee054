-- Numbers in attributes: digits, bounds of features, and texts of whole numbers.
-- (Ecore: upperBound, defaultValueLiteral.)
use Rattle.std.specs.Prelude.{ℕ, ◌&&◌, Bool, false, List, [], ◌∷◌, ◌==◌, ◌||◌, not, nat_lt, nat_le, if◌then◌else◌}
use Rattle.std.specs.List.{list_all}
use Rattle.std.specs.Int.{is_in_range}
use Rattle.ecore_meta.specs.Valid.{number_of}

-- decimal digits without a leading zero
abbrev pub is_number : List ℕ → Bool
is_number [] = false
is_number (c ∷ []) = is_in_range 48 57 c
is_number (c ∷ (d ∷ cs)) = is_in_range 49 57 c && list_all (is_in_range 48 57) (d ∷ cs)

-- ## Bounds and whole numbers

abbrev pub is_digits : List ℕ → Bool
is_digits [] = false
is_digits (c ∷ cs) = list_all (is_in_range 48 57) (c ∷ cs)

-- an upper bound is -1, -2 or at least 1
abbrev pub is_upper : List ℕ → Bool
is_upper [] = false
is_upper (c ∷ cs) =
    if c == 45 then is_digits cs && (number_of cs == 1 || number_of cs == 2)
    else is_digits (c ∷ cs) && not (number_of (c ∷ cs) == 0)

-- -1, or above 1
abbrev pub is_many_upper : List ℕ → Bool
is_many_upper [] = false
is_many_upper (c ∷ cs) = if c == 45 then number_of cs == 1 else nat_lt 1 (number_of (c ∷ cs))

-- an optional - and digits, of a signed number of 64 bits
abbrev pub is_int_text : List ℕ → Bool
is_int_text [] = false
is_int_text (c ∷ cs) =
    if c == 45 then is_digits cs && nat_le (number_of cs) 9223372036854775808
    else is_digits (c ∷ cs) && nat_lt (number_of (c ∷ cs)) 9223372036854775808
