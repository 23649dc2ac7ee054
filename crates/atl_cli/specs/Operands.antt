-- The operands of a command without options, from the words behind it. The first `--` is dropped; before it no word of
-- two or more characters begins with a hyphen; and no word is empty.
use Rattle.std.specs.Prelude.{ℕ, ◌==◌, ◌||◌, ◌&&◌, Bool, true, false, not, List, [], ◌∷◌, Option, None, Some, if◌then◌else◌, codes}
use Rattle.std.specs.Option.{option_map}
use Rattle.std.specs.Str.{bytes_eq}

abbrev pub is_empty_word : List ℕ → Bool
is_empty_word [] = true
is_empty_word (c ∷ word) = false

abbrev pub is_option_word : List ℕ → Bool
is_option_word [] = false
is_option_word (c ∷ []) = false
is_option_word (c ∷ d ∷ word) = c == 45

-- the operands of the rest of the words, where `free` says that the `--` has stood before them
abbrev pub operands_from : Bool → List (List ℕ) → Option (List (List ℕ))
operands_from free [] = Some []
operands_from free (word ∷ words) =
    if not free && bytes_eq word (codes "--") then operands_from true words
    else if is_empty_word word || (not free && is_option_word word) then None
    else option_map (λ rest. word ∷ rest) (operands_from free words)

abbrev pub operands : List (List ℕ) → Option (List (List ℕ))
operands words = operands_from false words
