-- What an index of declarations has of a prefix. There is none before the first declaration.
use Rattle.std.specs.Prelude.{ℕ, List, Option, Some, None, Box}
use Rattle.std.specs.HashMap.{HashMap, get_by_text}
use Rattle.std.specs.declared.string.String.{String}

abbrev pub place_in : {Y S A : Type 0} → Option (Box (HashMap (String Y) ℕ S) A) → List ℕ → Option ℕ
place_in None p = None
place_in (Some index) p = get_by_text index.value p
