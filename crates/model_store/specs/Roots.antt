-- Lists of roots whose numbers rise, and those that are not among given numbers.
use Rattle.std.specs.Prelude.{◌≡◌, ℕ, ◌==◌, ◌<◌, ◌≤◌, Bool, true, List, length, drop, filter, not}
use Rattle.std.specs.List.{AllPairs, list_any}
use Rattle.atl_base.specs.declared.numbers.ObjId.{ObjId}

-- each number is less than those after it
abbrev pub Rise : List ObjId → Type 0
Rise = AllPairs (λ x y. x.0 < y.0)

-- The roots are what a list has from a place on, and perhaps their numbers are known to rise.
pub record IsKnown (list : List ObjId) (from : ℕ) (rise : Bool) : Type 0 where
  pub within : from ≤ length list
  pub rises : rise ≡ true → Rise (drop from list)

abbrev pub is_among : List ℕ → ObjId → Bool
is_among numbers r = list_any (λ n. n == r.0) numbers

abbrev pub without_all : List ℕ → List ObjId → List ObjId
without_all numbers = filter (λ r. not (is_among numbers r))
