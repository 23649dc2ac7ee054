-- How a reference is written: a file's name before a `#`, and behind it what it names by package, class and feature.
-- (EMF: the fragments `//A`, `/n/A` and `//A/f`, behind `#` or alone.)
use Rattle.std.specs.Prelude.{ℕ, ◌==◌, Bool, false, List, [], ◌∷◌, Option, Some, None, option_map, if◌then◌else◌, ◌&&◌}
use Rattle.std.specs.List.{list_any}

abbrev pub has_hash : List ℕ → Bool
has_hash = list_any (λ c. c == 35)

-- text before a `#`: the name of a file
abbrev pub names_file : List ℕ → Bool
names_file [] = false
names_file (c ∷ cs) = if c == 35 then false else has_hash cs

-- what follows the `#`, where one stands first
abbrev pub fragment : List ℕ → List ℕ
fragment [] = []
fragment (c ∷ cs) = if c == 35 then cs else c ∷ cs

abbrev pub with_first : ℕ → List (List ℕ) → List (List ℕ)
with_first c [] = (c ∷ []) ∷ []
with_first c (part ∷ parts) = (c ∷ part) ∷ parts

-- the parts between slashes
abbrev pub parts_of : List ℕ → List (List ℕ)
parts_of [] = [] ∷ []
parts_of (c ∷ cs) = if c == 47 then [] ∷ parts_of cs else with_first c (parts_of cs)

-- a classifier of a package, or of any
pub record Path : Type 0 where
  pub holder : List ℕ
  pub name : List ℕ

abbrev pub path : List ℕ → List ℕ → Path
path p n = record { holder = p; name = n }

-- without a name nothing is named
abbrev pub named_path : List ℕ → List ℕ → Option Path
named_path p [] = None
named_path p n = Some (path p n)

abbrev pub path_of : List (List ℕ) → Option Path
path_of ([] ∷ p ∷ n ∷ []) = named_path p n
path_of parts = None

-- and a feature of it
abbrev pub named_feature : List ℕ → List ℕ → List ℕ → Option (Path × List ℕ)
named_feature p n [] = None
named_feature p n f = option_map (λ c. (c, f)) (named_path p n)

abbrev pub feature_path_of : List (List ℕ) → Option (Path × List ℕ)
feature_path_of ([] ∷ p ∷ n ∷ f ∷ []) = named_feature p n f
feature_path_of parts = None

-- ## Files

-- the file that a reference names, before its first `#`
abbrev pub file_of : List ℕ → List ℕ
file_of [] = []
file_of (c ∷ cs) = if c == 35 then [] else c ∷ file_of cs

abbrev pub behind_hash : List ℕ → List ℕ
behind_hash [] = []
behind_hash (c ∷ cs) = if c == 35 then cs else behind_hash cs

abbrev pub behind_slashes : List ℕ → List ℕ
behind_slashes (a ∷ b ∷ cs) = if a == 47 && b == 47 then cs else []
behind_slashes cs = []
