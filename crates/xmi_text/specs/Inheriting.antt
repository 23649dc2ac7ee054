-- What a class inherits, where each class has its supertypes by their numbers, also where classes inherit from themselves.
-- (Ecore: eAllSuperTypes.)
use Rattle.std.specs.Prelude.{ℕ, zero, suc, ◌==◌, ◌||◌, Bool, List, [], length, slice_index_or}
use Rattle.std.specs.List.{list_any}

-- a class is another one or inherits from it, by at most so many steps
abbrev pub inherits : ℕ → List (List ℕ) → ℕ → ℕ → Bool
inherits zero supers c d = c == d
inherits (suc n) supers c d = c == d || list_any (λ s. inherits n supers s d) (slice_index_or supers c [])

-- more steps than there are classes lead nowhere else
abbrev pub conforms : List (List ℕ) → ℕ → ℕ → Bool
conforms supers = inherits (length supers) supers

-- a class that inherits from itself
abbrev pub is_own_super : List (List ℕ) → ℕ → Bool
is_own_super supers c = list_any (λ s. conforms supers s c) (slice_index_or supers c [])
