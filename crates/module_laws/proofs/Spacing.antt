-- Marks whose tokens are read as them: a keyword stands nowhere where a plain word is read as a name.
use Rattle.std.specs.Prelude.{◌≡◌, ◌||◌, Bool, true, false, List, [], ◌∷◌}
use Rattle.ocl_parse.specs.declared.sign.Sign.{Sign as SomeSign}
use Rattle.ocl_parse.specs.declared.sign.Sign.TheVariants as S
use Rattle.ocl_parse.specs.declared.symbol.Symbol.TheVariants.{Number, Words, Name as Named, Fixed}
use Rattle.module_grammar.specs.declared.keyword.Keyword.TheVariants as W
use Rattle.module_grammar.specs.Marks.{Content, Word, Shared, Mark}
use Rattle.module_laws.specs.Held.{IsNameText, IsWordsText, IsNumber}

-- a word behind it is read as a name
abbrev pub is_lead : Content → Bool
is_lead (Shared (Fixed S.Dot)) = true
is_lead (Shared (Fixed S.Arrow)) = true
is_lead (Shared (Fixed S.Bang)) = true
is_lead t = false

-- and so is one before it
abbrev pub is_gives : Content → Bool
is_gives (Word W.Gives) = true
is_gives t = false

abbrev pub is_name : Content → Bool
is_name (Shared (Named s)) = true
is_name t = false

abbrev pub gives_next : List Content → Bool
gives_next [] = false
gives_next (t ∷ ts) = is_gives t

-- what stands where a word is read as a name is a name
abbrev pub Clear : Bool → List Content → Type 0
Clear led [] = Unit {0}
Clear led (t ∷ ts) = ((led || gives_next ts) ≡ true → is_name t ≡ true) × Clear (is_lead t) ts

-- a keyword or a mark that expressions have
abbrev pub IsSign : SomeSign → Type 0
IsSign S.Other = ⊥
IsSign s = Unit {0}

-- marks that a token can have
abbrev pub IsGood : Content → Type 0
IsGood (Word k) = Unit {0}
IsGood (Shared (Number n)) = IsNumber n
IsGood (Shared (Words s)) = IsWordsText s
IsGood (Shared (Named s)) = IsNameText s
IsGood (Shared (Fixed s)) = IsSign s

abbrev pub AreGood : List Mark → Type 0
AreGood [] = Unit {0}
AreGood (t ∷ ts) = IsGood t.content × AreGood ts
