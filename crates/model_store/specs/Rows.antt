-- Whether a slot has a value, by a set of values of one sort where one is kept.
use Rattle.std.specs.Prelude.{◌≡◌, ℕ, Bool, List, nat_eq}
use Rattle.std.specs.List.{list_any}
use Rattle.std.specs.Ordering.{int_eq}
use Rattle.std.specs.HashSet.{contains, contains_text}
use Rattle.model_store.specs.declared.met.Met.{Met}
use Rattle.model_store.specs.declared.met.Met.TheVariants.{Objects, Ints, Texts}
use Rattle.model_store.specs.declared.parts.Cellv.{Cellv}
use Rattle.model_store.specs.declared.parts.Cellv.TheVariants.{Words, Int, Truth, Literal, Obj}
use Rattle.model_store.specs.Writes.{same_value}

-- what the set says of a value of its sort, and what is said of the others
abbrev pub met_or : Met → Cellv → Bool → Bool
met_or (Objects objects) (Obj p) other = contains nat_eq objects p.0
met_or (Ints ints) (Int n) other = contains int_eq ints n
met_or (Texts texts) (Words t) other = contains_text texts t
met_or _ _ other = other

-- The set says of each value of its sort whether it is among some values.
pub record Knows (met : Met) (cells : List Cellv) : Type 0 where
  pub all : (v : Cellv) → met_or met v (list_any (same_value v) cells) ≡ list_any (same_value v) cells
