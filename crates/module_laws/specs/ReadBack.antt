-- What is said of canonical text: its tokens are the canonical marks, and the same module is read from it, places aside.
use Rattle.std.specs.Prelude.{◌≡◌, ℕ, true, false, List, map, Ok, encode_utf8_all}
use Rattle.atl_tree.specs.declared.token.Tokens.{Tokens}
use Rattle.atl_tree.specs.declared.module.Module.{Module}
use Rattle.atl_tree.specs.Tokens.{tokens_of}
use Rattle.module_grammar.specs.Marks.{Content, Mark, marks}
use Rattle.module_grammar.specs.Grammar.{WrittenModule, ModuleFits, module_marks, module_tree}
use Rattle.module_laws.specs.Held.{IsWellFormed}
use Rattle.module_print.specs.Writing.{module_written}
use Rattle.module_print.specs.Printed.{printed}
use Rattle.module_laws.specs.Places.{placed_module}
use Rattle.module_parse.specs.Reading.{module_of_text}

abbrev pub contents : List Mark → List Content
contents ms = map (λ m. m.content) ms

-- the text's tokens have the canonical marks of the module, places aside
abbrev pub TokensAre : Module → List ℕ → Type 0
TokensAre m cs = (l : Tokens) × (tokens_of cs ≡ Ok l) × (contents (marks false l.list) ≡ contents (module_marks (module_written m)))

-- the canonical text of a well-formed module is one of characters, and their tokens are the canonical marks
abbrev pub HasItsMarks : Module → Type 0
HasItsMarks m = IsWellFormed m → ((cs : List ℕ) × (encode_utf8_all cs ≡ printed m)) × ((cs : List ℕ) → encode_utf8_all cs ≡ printed m → TokensAre m cs)

-- two trees of what is written that are one tree where their places are left aside
abbrev pub AreSame : Module → Module → Type 0
AreSame m n = (v : WrittenModule) × (w : WrittenModule) × (module_tree v ≡ m) × (module_tree w ≡ n) × (module_tree (placed_module v) ≡ module_tree (placed_module w))

-- the same module is read from the text, places aside
abbrev pub IsReadFrom : Module → List ℕ → Type 0
IsReadFrom m text = (n : Module) × (module_of_text text ≡ Ok n) × AreSame m n

-- a well-formed module is read back from its canonical text, where it nests no deeper than the limit
abbrev pub IsReadBack : Module → Type 0
IsReadBack m = IsWellFormed m → ModuleFits true (module_written m) → (cs : List ℕ) → encode_utf8_all cs ≡ printed m → IsReadFrom m cs

-- what is read from a text is read back from its canonical text
abbrev pub IsReadAgain : List ℕ → Type 0
IsReadAgain text = (m : Module) → module_of_text text ≡ Ok m → (cs : List ℕ) → encode_utf8_all cs ≡ printed m → IsReadFrom m cs

-- what is read from a text is well-formed
abbrev pub GivesWellFormed : List ℕ → Type 0
GivesWellFormed text = (m : Module) → module_of_text text ≡ Ok m → IsWellFormed m
