-- When bytes are refused as a text. Want of memory says nothing of them.
use Rattle.std.specs.Prelude.{ℕ, Result, Ok, Err}
use Rattle.atl_base.specs.declared.text.TextRefusal.{TextRefusal}
use Rattle.atl_base.specs.declared.text.TextRefusal.TheVariants.{BadByte, Memory}

-- a refused byte stands at a position with this property
abbrev pub Refuses : {T : Type 0} → Result T TextRefusal → (ℕ → Type 0) → Type 0
Refuses (Ok t) P = Unit {0}
Refuses (Err (BadByte n)) P = P n
Refuses (Err Memory) P = Unit {0}
