-- Names within what bears a number, and where each stands first in a list. The tables of a file are made of such places.
use Rattle.std.specs.Prelude.{◌≡◌, ℕ, ◌==◌, ◌&&◌, Bool, List, map, bytes_eq, Option}
use Rattle.std.specs.HashMap.{HashMap, get_by}
use Rattle.std.specs.List.{position_from}
use Rattle.doc_text.specs.declared.tree.Prefix.{Prefix}
use Rattle.xmi_text.specs.declared.keys.Key.{Key as CodeKey}

abbrev pub Key : Type 0
Key = ℕ × List ℕ

abbrev pub is_key : ℕ → List ℕ → Key → Bool
is_key n q k = k.0 == n && bytes_eq k.1 q

-- the place of the first of these
abbrev pub place_of : ℕ → List ℕ → List Key → Option ℕ
place_of n q keys = position_from (is_key n q) 0 keys

abbrev pub key_of : CodeKey → Key
key_of k = (k.number, k.text.now)

abbrev pub keys_of : List CodeKey → List Key
keys_of = map key_of

-- what a table says of a key
abbrev pub has_place : {S : Type 0} → HashMap CodeKey ℕ S → ℕ → List ℕ → Option ℕ
has_place places n q = get_by (λ k. n == k.number && bytes_eq q k.text.now) places

-- a table says of each key where it stands first
abbrev pub AreFirsts : {S : Type 0} → HashMap CodeKey ℕ S → List Key → Type 0
AreFirsts places keys = (n : ℕ) (q : List ℕ) → has_place places n q ≡ place_of n q keys

-- what a namespace declaration is found by
abbrev pub prefix_key : Prefix → Key
prefix_key d = (0, d.prefix)
