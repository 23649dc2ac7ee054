-- Plain names: a letter or _, and then letters, digits and _, all of ASCII.
use Rattle.std.specs.Prelude.{ℕ, ◌||◌, ◌&&◌, ◌==◌, Bool, false, List, [], ◌∷◌}
use Rattle.std.specs.Int.{is_in_range}
use Rattle.std.specs.List.{list_all}

abbrev pub begins_name : ℕ → Bool
begins_name c = is_in_range 97 122 c || is_in_range 65 90 c || c == 95

abbrev pub continues_name : ℕ → Bool
continues_name c = begins_name c || is_in_range 48 57 c

abbrev pub is_plain_name : List ℕ → Bool
is_plain_name [] = false
is_plain_name (c ∷ cs) = begins_name c && list_all continues_name cs
