-- What each token is to the grammar. After . and -> and ! and before <- a plain word is read as a name, and else it may
-- be a keyword. A name stands without its double quotes, a text without its single quotes and with its escapes resolved.
use Rattle.std.specs.Prelude.{ℕ, pos, ◌||◌, ◌==◌, Bool, true, false, List, [], ◌∷◌, Option, None, Some, if◌then◌else◌, nat_lt}
use Rattle.std.specs.List.{flat_map}
use Rattle.atl_base.specs.declared.place.Place.{Place}
use Rattle.atl_tree.specs.declared.token.Token.{Token}
use Rattle.atl_tree.specs.declared.token.TokenSort.{TokenSort}
use Rattle.atl_tree.specs.declared.token.TokenSort.TheVariants as T
use Rattle.atl_tree.specs.Tokens.{value_from, leads_name, begins_arrow}
use Rattle.ocl_parse.specs.declared.sign.Sign.{Sign}
use Rattle.ocl_parse.specs.declared.symbol.Symbol.{Symbol}
use Rattle.ocl_parse.specs.declared.symbol.Symbol.TheVariants.{Number, Words, Name, Fixed}
use Rattle.ocl_parse.specs.Signs.{word, mark}

-- no token of a module has a greater number
abbrev pub at_most : ℕ → ℕ
at_most n = if nat_lt 9223372036854775807 n then 9223372036854775807 else n

abbrev pub value_of : List ℕ → ℕ
value_of text = at_most (value_from 0 text)

-- a byte of a name: a double quote is none
abbrev pub unquoted : ℕ → List ℕ
unquoted c = if c == 34 then [] else c ∷ []

-- what \n \t \r stand for; \\ and \' stand for what is behind the backslash
abbrev pub resolved_char : ℕ → ℕ
resolved_char c = if c == 110 then 10 else if c == 116 then 9 else if c == 114 then 13 else c

-- the bytes of a text, where `behind` says that the one before is the backslash of an escape
abbrev pub resolved_from : Bool → List ℕ → List ℕ
resolved_from behind [] = []
resolved_from true (c ∷ cs) = resolved_char c ∷ resolved_from false cs
resolved_from false (c ∷ cs) = if c == 92 then resolved_from true cs else if c == 39 then resolved_from false cs else c ∷ resolved_from false cs

abbrev pub resolved : List ℕ → List ℕ
resolved text = resolved_from false text

abbrev pub fixed_or_name : Option Sign → List ℕ → Symbol
fixed_or_name (Some s) text = Fixed s
fixed_or_name None text = Name text

abbrev pub plain : List ℕ → Bool → Symbol
plain text true = Name text
plain text false = fixed_or_name (word text) text

abbrev pub symbol_of : TokenSort → List ℕ → Bool → Symbol
symbol_of T.Plain text named = plain text named
symbol_of T.Quoted text named = Name (flat_map unquoted text)
symbol_of T.Words text named = Words (resolved text)
symbol_of T.Number text named = Number (pos (value_of text))
symbol_of T.Mark text named = Fixed (mark text)

-- a symbol and where it stands
pub record Lexeme : Type 0 where
  pub symbol : Symbol
  pub place : Place

abbrev pub lexeme : Place → Symbol → Lexeme
lexeme p s = record { symbol = s; place = p }

-- the symbols of tokens, where `led` says that the one before them leads a name
abbrev pub lexemes : Bool → List Token → List Lexeme
lexemes led [] = []
lexemes led (t ∷ ts) = lexeme t.place (symbol_of t.sort t.text (led || begins_arrow ts)) ∷ lexemes (leads_name t) ts
