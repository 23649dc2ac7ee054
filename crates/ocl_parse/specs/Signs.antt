-- Keywords and marks, by what they do in an expression. A keyword that no expression has is told apart from a name.
use Rattle.std.specs.Prelude.{ℕ, ◌||◌, Bool, List, [], ◌∷◌, Option, None, Some, if◌then◌else◌, codes}
use Rattle.std.specs.Str.{bytes_eq}
use Rattle.atl_tree.specs.declared.expr.BinaryOp.TheVariants as O
use Rattle.atl_tree.specs.declared.kind.BasicWord.TheVariants as B
use Rattle.atl_tree.specs.declared.kind.CollWord.TheVariants as C
use Rattle.ocl_parse.specs.declared.sign.Constant.TheVariants as N
use Rattle.ocl_parse.specs.declared.sign.Ender.TheVariants as E
use Rattle.ocl_parse.specs.declared.sign.Sign.{Sign}
use Rattle.ocl_parse.specs.declared.sign.Sign.TheVariants as S

-- what the first of these words that is the text does
abbrev pub find : List ℕ → List (List ℕ × Sign) → Option Sign
find text [] = None
find text (w ∷ ws) = if bytes_eq text w.0 then Some w.1 else find text ws

unfoldable pub operator_words : List (List ℕ × Sign)
operator_words =
    (codes "and", S.Operator O.And) ∷ (codes "or", S.Operator O.Or) ∷ (codes "xor", S.Operator O.Xor) ∷ (codes "implies", S.Operator O.Implies)
    ∷ (codes "div", S.Operator O.Div) ∷ (codes "mod", S.Operator O.Mod) ∷ (codes "not", S.Not) ∷ []

unfoldable pub structure_words : List (List ℕ × Sign)
structure_words =
    (codes "let", S.Let) ∷ (codes "in", S.End E.In) ∷ (codes "if", S.If) ∷ (codes "then", S.End E.Then) ∷ (codes "else", S.End E.Else)
    ∷ (codes "endif", S.End E.Endif) ∷ []

unfoldable pub constant_words : List (List ℕ × Sign)
constant_words =
    (codes "true", S.Constant N.True) ∷ (codes "false", S.Constant N.False) ∷ (codes "OclUndefined", S.Constant N.Undefined)
    ∷ (codes "self", S.Constant N.Own) ∷ (codes "thisModule", S.Constant N.Module) ∷ []

unfoldable pub type_words : List (List ℕ × Sign)
type_words =
    (codes "String", S.Basic B.Words) ∷ (codes "Integer", S.Basic B.Whole) ∷ (codes "Boolean", S.Basic B.Truth) ∷ (codes "OclAny", S.Basic B.Any)
    ∷ (codes "Sequence", S.Coll C.Sequence) ∷ (codes "Set", S.Coll C.Set) ∷ (codes "Bag", S.Coll C.Bag) ∷ (codes "OrderedSet", S.Coll C.OrderedSet) ∷ []

-- the other keywords
unfoldable pub other_words : List (List ℕ × Sign)
other_words =
    (codes "module", S.Other) ∷ (codes "create", S.Other) ∷ (codes "from", S.Other) ∷ (codes "refining", S.Other) ∷ (codes "uses", S.Other)
    ∷ (codes "query", S.Other) ∷ (codes "library", S.Other) ∷ (codes "helper", S.Other) ∷ (codes "context", S.Other) ∷ (codes "def", S.Other)
    ∷ (codes "rule", S.Other) ∷ (codes "lazy", S.Other) ∷ (codes "unique", S.Other) ∷ (codes "abstract", S.Other) ∷ (codes "entrypoint", S.Other)
    ∷ (codes "endpoint", S.Other) ∷ (codes "extends", S.Other) ∷ (codes "using", S.Other) ∷ (codes "to", S.Other) ∷ (codes "do", S.Other)
    ∷ (codes "for", S.Other) ∷ (codes "Tuple", S.Other) ∷ (codes "TupleType", S.Other) ∷ (codes "Map", S.Other) ∷ (codes "Real", S.Other) ∷ []

unfoldable pub marks : List (List ℕ × Sign)
marks =
    (codes "=", S.Operator O.Eq) ∷ (codes "<>", S.Operator O.Ne) ∷ (codes "<", S.Operator O.Lt) ∷ (codes ">", S.Operator O.Gt) ∷ (codes "<=", S.Operator O.Le)
    ∷ (codes ">=", S.Operator O.Ge) ∷ (codes "+", S.Operator O.Plus) ∷ (codes "-", S.Operator O.Minus) ∷ (codes "*", S.Operator O.Times)
    ∷ (codes ".", S.Dot) ∷ (codes "->", S.Arrow) ∷ (codes "(", S.Open) ∷ (codes ")", S.End E.Close) ∷ (codes "{", S.OpenBrace) ∷ (codes "}", S.End E.CloseBrace)
    ∷ (codes ",", S.End E.Comma) ∷ (codes "|", S.End E.Bar) ∷ (codes ":", S.Colon) ∷ (codes ";", S.Semicolon) ∷ (codes "!", S.Bang) ∷ (codes "#", S.Hash) ∷ []

abbrev pub or_else : Option Sign → Option Sign → Option Sign
or_else (Some s) o = Some s
or_else None o = o

-- what a plain word does, where it is a keyword
abbrev pub word : List ℕ → Option Sign
word text =
    or_else (find text operator_words) (or_else (find text structure_words) (or_else (find text constant_words)
    (or_else (find text type_words) (find text other_words))))

abbrev pub or_other : Option Sign → Sign
or_other (Some s) = s
or_other None = S.Other

abbrev pub mark : List ℕ → Sign
mark text = or_other (find text marks)

-- the iterators with one variable
abbrev pub is_iterator : List ℕ → Bool
is_iterator name =
    bytes_eq name (codes "exists") || bytes_eq name (codes "forAll") || bytes_eq name (codes "one") || bytes_eq name (codes "isUnique")
    || bytes_eq name (codes "any") || bytes_eq name (codes "select") || bytes_eq name (codes "reject") || bytes_eq name (codes "collect")
    || bytes_eq name (codes "sortedBy")

-- the iterator with two
abbrev pub is_iterate : List ℕ → Bool
is_iterate name = bytes_eq name (codes "iterate")
