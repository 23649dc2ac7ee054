-- What each token is to the grammar of modules: a keyword that no expression has, or a symbol of expressions.
use Rattle.std.specs.Prelude.{ℕ, ◌||◌, Bool, false, List, [], ◌∷◌, map, Option, None, Some}
use Rattle.atl_base.specs.declared.place.Place.{Place}
use Rattle.atl_tree.specs.declared.name.Name.{Name}
use Rattle.atl_tree.specs.declared.token.Token.{Token}
use Rattle.atl_tree.specs.declared.token.TokenSort.{TokenSort}
use Rattle.atl_tree.specs.declared.token.TokenSort.TheVariants as T
use Rattle.atl_tree.specs.Tokens.{leads_name, begins_arrow}
use Rattle.ocl_parse.specs.declared.sign.Sign.{Sign}
use Rattle.ocl_parse.specs.declared.sign.Sign.TheVariants as S
use Rattle.ocl_parse.specs.declared.symbol.Symbol.{Symbol}
use Rattle.ocl_parse.specs.declared.symbol.Symbol.TheVariants.{Name as Named, Fixed}
use Rattle.ocl_parse.specs.Symbols.{Lexeme, symbol_of}
use Rattle.ocl_parse.specs.Grammar.{Written, spelt, Kind, kind_spelt}
use Rattle.module_grammar.specs.declared.keyword.Keyword.{Keyword}
use Rattle.module_grammar.specs.Keywords.{keyword, arrow}

pub data Content : Type 0 where
  Word : Keyword → Content
  Shared : Symbol → Content

-- a token's content, and where it stands
pub record Mark : Type 0 where
  pub content : Content
  pub place : Place

abbrev pub mark : Place → Content → Mark
mark p c = record { content = c; place = p }

abbrev pub word : Place → Keyword → Mark
word p k = mark p (Word k)

abbrev pub sign : Place → Sign → Mark
sign p s = mark p (Shared (Fixed s))

abbrev pub called : Name → Mark
called n = mark n.place (Shared (Named n.text))

abbrev pub shared : Lexeme → Mark
shared t = mark t.place (Shared t.symbol)

-- what a token is to an expression
abbrev pub symbol : Content → Symbol
symbol (Word k) = Fixed S.Other
symbol (Shared s) = s

-- the marks that an expression and a type are written in
abbrev pub expression : Written → List Mark
expression w = map shared (spelt w)

abbrev pub kind_marks : Kind → List Mark
kind_marks k = map shared (kind_spelt k)

abbrev pub word_or : Option Keyword → Symbol → Content
word_or (Some k) s = Word k
word_or None s = Shared s

-- a plain word that is read as a name is no keyword
abbrev pub content_of : TokenSort → List ℕ → Bool → Content
content_of T.Plain text false = word_or (keyword text) (symbol_of T.Plain text false)
content_of T.Mark text named = word_or (arrow text) (symbol_of T.Mark text named)
content_of sort text named = Shared (symbol_of sort text named)

-- the marks of tokens, where `led` says that the one before them leads a name
abbrev pub marks : Bool → List Token → List Mark
marks led [] = []
marks led (t ∷ ts) = mark t.place (content_of t.sort t.text (led || begins_arrow ts)) ∷ marks (leads_name t) ts
