-- The literals of enumerations: those that stand behind an enumeration in its outline, each with its text.
-- (Ecore: EEnum, EEnumLiteral.)
use Rattle.std.specs.Prelude.{ℕ, suc, ◌==◌, ◌&&◌, Bool, true, false, List, [], ◌∷◌, codes, Option, Some, None, if◌then◌else◌}
use Rattle.std.specs.Option.{option_map_or}
use Rattle.xmi_text.specs.Markup.{given}
use Rattle.ecore_outline.specs.Outline.{Entry, Role, Literal, is_enum_role, name_of}

-- the text of a literal: its own, else its name
abbrev pub literal_text : Entry → List ℕ
literal_text e = option_map_or (λ text. text) (given (codes "literal") e.site.element) (name_of e)

abbrev pub is_literal_role : Role → Bool
is_literal_role Literal = true
is_literal_role r = false

-- the literals of the enumeration of this number, where so many enumerations stand before
abbrev pub literals_from : ℕ → ℕ → List Entry → List Entry
literals_from enum n [] = []
literals_from enum n (e ∷ es) =
    if is_enum_role e.role then literals_from enum (suc n) es
    else if is_literal_role e.role && n == suc enum then e ∷ literals_from enum n es
    else literals_from enum n es

abbrev pub literals_of : List Entry → ℕ → List Entry
literals_of file enum = literals_from enum 0 file

abbrev pub first_text : List Entry → Option (List ℕ)
first_text [] = None
first_text (e ∷ es) = Some (literal_text e)
