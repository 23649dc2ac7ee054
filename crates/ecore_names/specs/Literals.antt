-- The literals of the enumerations of a file, in their order, each by its enumeration and text.
use Rattle.std.specs.Prelude.{ℕ, zero, suc, List, [], ◌∷◌, ◌++◌, if◌then◌else◌}
use Rattle.ecore_outline.specs.Outline.{Entry, is_enum_role}
use Rattle.ecore_outline.specs.Enumerations.{is_literal_role, literal_text}
use Rattle.xmi_text.specs.Keys.{Key}

-- a literal of the last of so many enumerations
abbrev pub literal_key : ℕ → Entry → List Key
literal_key zero e = []
literal_key (suc enum) e = if is_literal_role e.role then (enum, literal_text e) ∷ [] else []

abbrev pub literal_keys_from : ℕ → List Entry → List Key
literal_keys_from enums [] = []
literal_keys_from enums (e ∷ es) = literal_key enums e ++ literal_keys_from (if is_enum_role e.role then suc enums else enums) es

abbrev pub literal_keys : List Entry → List Key
literal_keys = literal_keys_from 0

abbrev pub key_text : Key → List ℕ
key_text k = k.1

-- a literal by its enumeration alone
abbrev pub enum_key : Key → Key
enum_key k = (k.0, [])
