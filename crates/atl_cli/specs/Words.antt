-- The words of `transform`: the command, the module's path, and four pairs NAME=path in any order.
use Rattle.std.specs.Prelude.{◌≡◌, ◌≢◌, ℕ, ◌+◌, ◌<◌, ◌==◌, Bool, false, not, List, [], ◌∷◌, ◌++◌, map, length, take, drop, IsTrue, All, AllPairs, codes}
use Rattle.std.specs.List.{list_any, list_all}
use Rattle.atl_cli.specs.declared.words.Pair.{Pair}
use Rattle.atl_cli.specs.declared.words.Request.{Request}

-- a word that is neither empty nor an option
abbrev pub is_plain_word : List ℕ → Bool
is_plain_word [] = false
is_plain_word (c ∷ cs) = not (c == 45)

-- a name and a path, neither empty, around the first equals sign
abbrev pub pair_word : Pair → List ℕ
pair_word p = p.name ++ (61 ∷ p.path)

abbrev pub has_equals : List ℕ → Bool
has_equals bytes = list_any (λ c. c == 61) bytes

-- the first equals sign stands there
pub record SplitsAt (bytes : List ℕ) (at : ℕ) : Type 0 where
  pub within : at < length bytes
  pub parts : bytes ≡ take at bytes ++ (61 ∷ drop (at + 1) bytes)
  pub first : has_equals (take at bytes) ≡ false

pub record IsPair (p : Pair) : Type 0 where
  pub first : has_equals p.name ≡ false
  pub name : p.name ≢ []
  pub path : p.path ≢ []

pub record IsRequest (words : List (List ℕ)) (r : Request) : Type 0 where
  pub spelled : words ≡ codes "transform" ∷ (r.module ∷ map pair_word r.pairs)
  pub plain : IsTrue (list_all is_plain_word words)
  pub four : length r.pairs ≡ 4
  pub pairs : All IsPair r.pairs
  pub differ : AllPairs (λ p q. p.name ≢ q.name) r.pairs
