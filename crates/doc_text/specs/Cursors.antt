-- What is left of a document's characters: with their places, and with the place after the last.
use Rattle.std.specs.Prelude.{ℕ, ◌≤◌, ◌+◌, List, ◌∷◌, length, Bool, true, false}
use Rattle.atl_base.specs.declared.place.Place.{Place}
use Rattle.doc_text.specs.Symbols.{Symbol}
use Rattle.doc_text.specs.Characters.{placed, end_place}

pub record Rest : Type 0 where
  pub symbols : List Symbol
  pub end : Place

-- these characters from a line and a column on
abbrev pub rest_at : ℕ → ℕ → List ℕ → Rest
rest_at line column cs = record { symbols = placed false line column cs; end = end_place line column cs }

-- where the next character stands: on the next line, or in the next column
abbrev pub rest_after : Bool → ℕ → ℕ → List ℕ → Rest
rest_after true line column cs = rest_at (line + 1) 1 cs
rest_after false line column cs = rest_at line (column + 1) cs

-- the rest with a character before it
abbrev pub before : Symbol → Rest → Rest
before s r = record { symbols = s ∷ r.symbols; end = r.end }

-- lines and columns that can be counted on
pub record IsCounted (line column : ℕ) (cs : List ℕ) : Type 0 where
  pub begun : 1 ≤ line
  pub lines : line + length cs ≤ 4294967295
  pub columns : column + length cs ≤ 4294967295
