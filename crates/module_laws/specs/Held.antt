-- Well-formed modules: trees of the grammar with names, texts and numbers that tokens can have.
use Rattle.std.specs.Prelude.{◌≡◌, ◌≤◌, ℕ, ℤ, pos, false, true, List, [], ◌∷◌, encode_utf8_all}
use Rattle.std.specs.List.{list_all}
use Rattle.atl_tree.specs.Pieces.{is_in_quotes}
use Rattle.atl_tree.specs.declared.module.Module.{Module}
use Rattle.ocl_parse.specs.declared.symbol.Symbol.TheVariants.{Number, Words, Name as Named, Fixed}
use Rattle.module_grammar.specs.Marks.{Content, Word, Shared, Mark}
use Rattle.module_grammar.specs.Grammar.{WrittenModule, ModuleFits, module_marks, module_tree}

-- it is one of characters, and none of them is a double quote or a line feed
abbrev pub IsNameText : List ℕ → Type 0
IsNameText s = (cs : List ℕ) × (list_all is_in_quotes cs ≡ true) × (encode_utf8_all cs ≡ s)

-- it is one of characters
abbrev pub IsWordsText : List ℕ → Type 0
IsWordsText s = (cs : List ℕ) × (encode_utf8_all cs ≡ s)

abbrev pub IsNumber : ℤ → Type 0
IsNumber n = (k : ℕ) × (n ≡ pos k) × (k ≤ 9223372036854775807)

-- the name, the text or the number of a mark is one that a token can have
abbrev pub IsHeld : Content → Type 0
IsHeld (Word k) = Unit {0}
IsHeld (Shared (Number n)) = IsNumber n
IsHeld (Shared (Words s)) = IsWordsText s
IsHeld (Shared (Named s)) = IsNameText s
IsHeld (Shared (Fixed s)) = Unit {0}

abbrev pub AreHeld : List Mark → Type 0
AreHeld [] = Unit {0}
AreHeld (t ∷ ts) = IsHeld t.content × AreHeld ts

-- a tree of the grammar, whatever its depth
abbrev pub IsWellFormed : Module → Type 0
IsWellFormed m = (w : WrittenModule) × ModuleFits false w × AreHeld (module_marks w) × (module_tree w ≡ m)
