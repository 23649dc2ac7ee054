-- What files hold: a finite map from paths to bytes, with the paths in the order of their bytes. Other crates read it by
-- `content_of`, `bytes_at` and `with_content`, and by their two laws.
use Rattle.std.specs.Prelude.{◌≡◌, ◌≢◌, ℕ, List, [], map, unwrap_or, Vec, Some, None}
use Rattle.std.specs.declared.option.Option.{Option}
use Rattle.std.specs.declared.alloc.Global.{Global}
use Rattle.std.specs.Ordering.{nat_cmp}
use Rattle.std.specs.Cmp.Lexicographic.{slice_cmp}
use Rattle.std.specs.Coded.{Coded, coded_list, coded_ℕ}
use Rattle.std.specs.FinMap as map

abbrev pub Held : Type 0
Held = map.FinMap (slice_cmp nat_cmp) (List ℕ)

-- the bytes at a path, if it is held
abbrev pub content_of : Held → List ℕ → Option (List ℕ)
content_of held path = map.get held path

-- the bytes at a path: none where it is not held
abbrev pub bytes_at : Held → List ℕ → List ℕ
bytes_at held path = unwrap_or (content_of held path) []

-- the same with these bytes at the path
abbrev pub with_content : Held → List ℕ → List ℕ → Held
with_content held path bytes = map.insert held path bytes

-- where both are told, every other path has what it had
abbrev pub SameElsewhere : List ℕ → Option Held → Option Held → Type 0
SameElsewhere path (Some before) (Some after) = (other : List ℕ) → other ≢ path → content_of after other ≡ content_of before other
SameElsewhere path (Some before) None = Unit {0}
SameElsewhere path None after = Unit {0}

-- what pairs of a path and bytes hold; of a path that stands twice, the first pair counts
abbrev pub held_of : List (List ℕ × Vec ℕ Global) → Held
held_of pairs = map.from_entries (map (λ pair. (pair.0, pair.1.items)) pairs)

abbrev pub held_code : Coded Held
held_code = map.code (coded_list coded_ℕ) (coded_list coded_ℕ)
