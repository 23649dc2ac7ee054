-- Values that may be missing: what is looked up by one, and the lesser of two.
use Rattle.std.specs.Prelude.{ℕ, min, Option, Some, None}

-- what a value leads to, where there is one
abbrev pub then_ : {A B : Type 0} → Option A → (A → Option B) → Option B
then_ (Some a) f = f a
then_ None f = None

-- the lesser of two places, where both are
abbrev pub earlier : Option ℕ → Option ℕ → Option ℕ
earlier None b = b
earlier (Some a) None = Some a
earlier (Some a) (Some b) = Some (min a b)
