-- The canonical text of a module: the marks of what is canonically written, with one blank between; `module`, `create`,
-- each helper and each rule on a line of its own.
use Rattle.std.specs.Prelude.{ℕ, nat_abs, ◌||◌, ◌&&◌, ◌==◌, Bool, false, not, List, [], ◌∷◌, ◌++◌, is_some, if◌then◌else◌, codes, decimal}
use Rattle.std.specs.List.{flat_map, list_all}
use Rattle.atl_tree.specs.Pieces.{is_letter, is_digit}
use Rattle.atl_tree.specs.declared.expr.BinaryOp.{BinaryOp}
use Rattle.atl_tree.specs.declared.expr.BinaryOp.TheVariants as O
use Rattle.atl_tree.specs.declared.kind.BasicWord.{BasicWord}
use Rattle.atl_tree.specs.declared.kind.BasicWord.TheVariants as B
use Rattle.atl_tree.specs.declared.kind.CollWord.{CollWord}
use Rattle.atl_tree.specs.declared.kind.CollWord.TheVariants as C
use Rattle.atl_tree.specs.declared.module.Module.{Module}
use Rattle.ocl_parse.specs.declared.sign.Constant.{Constant}
use Rattle.ocl_parse.specs.declared.sign.Constant.TheVariants as N
use Rattle.ocl_parse.specs.declared.sign.Ender.{Ender}
use Rattle.ocl_parse.specs.declared.sign.Ender.TheVariants as E
use Rattle.ocl_parse.specs.declared.sign.Sign.{Sign}
use Rattle.ocl_parse.specs.declared.sign.Sign.TheVariants as S
use Rattle.ocl_parse.specs.declared.symbol.Symbol.{Symbol}
use Rattle.ocl_parse.specs.declared.symbol.Symbol.TheVariants as T
use Rattle.ocl_parse.specs.Signs.{word as sign_of}
use Rattle.module_grammar.specs.declared.keyword.Keyword.{Keyword}
use Rattle.module_grammar.specs.declared.keyword.Keyword.TheVariants as W
use Rattle.module_grammar.specs.Marks.{Content, Word, Shared, Mark, word, sign, called}
use Rattle.module_grammar.specs.Grammar.{Items, NoItems, MoreItems, WrittenModule, Composed, models_marks, item_marks}
use Rattle.module_print.specs.Writing.{module_written}

-- a letter or _, and then letters, digits and _
abbrev pub is_plain : List ℕ → Bool
is_plain [] = false
is_plain (c ∷ cs) = is_letter c && list_all (λ d. is_letter d || is_digit d) cs

-- in double quotes exactly where it is a keyword or not of the plain form
abbrev pub name_text : List ℕ → List ℕ
name_text s = if is_plain s && not (is_some (sign_of s)) then s else 34 ∷ (s ++ (34 ∷ []))

-- a byte of a text: each that has an escape is written as that
abbrev pub escaped : ℕ → List ℕ
escaped c =
    if c == 10 then codes "\\n" else if c == 9 then codes "\\t" else if c == 13 then codes "\\r" else if c == 92 then codes "\\\\"
    else if c == 39 then codes "\\'" else c ∷ []

abbrev pub words_text : List ℕ → List ℕ
words_text s = 39 ∷ (flat_map escaped s ++ (39 ∷ []))

abbrev pub operator_text : BinaryOp → List ℕ
operator_text O.And = codes "and"
operator_text O.Or = codes "or"
operator_text O.Xor = codes "xor"
operator_text O.Implies = codes "implies"
operator_text O.Eq = codes "="
operator_text O.Ne = codes "<>"
operator_text O.Lt = codes "<"
operator_text O.Gt = codes ">"
operator_text O.Le = codes "<="
operator_text O.Ge = codes ">="
operator_text O.Plus = codes "+"
operator_text O.Minus = codes "-"
operator_text O.Times = codes "*"
operator_text O.Div = codes "div"
operator_text O.Mod = codes "mod"

abbrev pub constant_text : Constant → List ℕ
constant_text N.True = codes "true"
constant_text N.False = codes "false"
constant_text N.Undefined = codes "OclUndefined"
constant_text N.Own = codes "self"
constant_text N.Module = codes "thisModule"

abbrev pub basic_text : BasicWord → List ℕ
basic_text B.Words = codes "String"
basic_text B.Whole = codes "Integer"
basic_text B.Truth = codes "Boolean"
basic_text B.Any = codes "OclAny"

abbrev pub coll_text : CollWord → List ℕ
coll_text C.Sequence = codes "Sequence"
coll_text C.Set = codes "Set"
coll_text C.Bag = codes "Bag"
coll_text C.OrderedSet = codes "OrderedSet"

abbrev pub ender_text : Ender → List ℕ
ender_text E.Close = codes ")"
ender_text E.CloseBrace = codes "}"
ender_text E.Comma = codes ","
ender_text E.Bar = codes "|"
ender_text E.Then = codes "then"
ender_text E.Else = codes "else"
ender_text E.Endif = codes "endif"
ender_text E.In = codes "in"

-- nothing that is written has the last of these
abbrev pub sign_text : Sign → List ℕ
sign_text (S.Operator o) = operator_text o
sign_text S.Not = codes "not"
sign_text (S.Constant c) = constant_text c
sign_text (S.Basic w) = basic_text w
sign_text (S.Coll w) = coll_text w
sign_text S.Let = codes "let"
sign_text S.If = codes "if"
sign_text S.Dot = codes "."
sign_text S.Arrow = codes "->"
sign_text S.Open = codes "("
sign_text S.OpenBrace = codes "{"
sign_text S.Colon = codes ":"
sign_text S.Semicolon = codes ";"
sign_text S.Bang = codes "!"
sign_text S.Hash = codes "#"
sign_text (S.End c) = ender_text c
sign_text S.Other = []

abbrev pub keyword_text : Keyword → List ℕ
keyword_text W.Module = codes "module"
keyword_text W.Create = codes "create"
keyword_text W.From = codes "from"
keyword_text W.Refining = codes "refining"
keyword_text W.Uses = codes "uses"
keyword_text W.Query = codes "query"
keyword_text W.Library = codes "library"
keyword_text W.Helper = codes "helper"
keyword_text W.Context = codes "context"
keyword_text W.Def = codes "def"
keyword_text W.Rule = codes "rule"
keyword_text W.Lazy = codes "lazy"
keyword_text W.Unique = codes "unique"
keyword_text W.Abstract = codes "abstract"
keyword_text W.Entrypoint = codes "entrypoint"
keyword_text W.Endpoint = codes "endpoint"
keyword_text W.Extends = codes "extends"
keyword_text W.Using = codes "using"
keyword_text W.To = codes "to"
keyword_text W.Do = codes "do"
keyword_text W.For = codes "for"
keyword_text W.Gives = codes "<-"

abbrev pub symbol_text : Symbol → List ℕ
symbol_text (T.Number n) = decimal (nat_abs n)
symbol_text (T.Words s) = words_text s
symbol_text (T.Name s) = name_text s
symbol_text (T.Fixed s) = sign_text s

abbrev pub mark_text : Content → List ℕ
mark_text (Word k) = keyword_text k
mark_text (Shared s) = symbol_text s

-- the marks of a line with a blank between, and a line feed
abbrev pub line_text : List Mark → List ℕ
line_text [] = 10 ∷ []
line_text (t ∷ []) = mark_text t.content ++ (10 ∷ [])
line_text (t ∷ u ∷ ts) = mark_text t.content ++ (32 ∷ line_text (u ∷ ts))

abbrev pub items_text : Items → List ℕ
items_text NoItems = []
items_text (MoreItems is i) = items_text is ++ line_text (item_marks i)

abbrev pub text_of : WrittenModule → List ℕ
text_of (Composed p n q r ts s ss t is) =
    line_text (word p W.Module ∷ called n ∷ sign q S.Semicolon ∷ []) ++ (line_text (word r W.Create ∷ (models_marks ts ++ (word s W.From ∷ (models_marks ss ++ (sign t S.Semicolon ∷ [])))))
    ++ items_text is)

abbrev pub printed : Module → List ℕ
printed m = text_of (module_written m)
