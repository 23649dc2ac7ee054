-- The grammar of expressions: what is written, by productions, with the symbols that it is written in and its tree. Each
-- name and each place is that of a symbol. The switch b says whether the depth counts.
use Rattle.std.specs.Prelude.{ℕ, ℤ, suc, ◌≤◌, ◌≡◌, Bool, true, false, List, [], ◌∷◌, ◌++◌}
use Rattle.atl_base.specs.declared.place.Place.{Place}
use Rattle.atl_tree.specs.declared.name.Name.{Name}
use Rattle.atl_tree.specs.declared.kind.BasicWord.{BasicWord}
use Rattle.atl_tree.specs.declared.kind.CollWord.{CollWord}
use Rattle.atl_tree.specs.declared.kind.KindNode.{KindNode}
use Rattle.atl_tree.specs.declared.kind.KindSort.TheVariants as Q
use Rattle.atl_tree.specs.declared.expr.Expr.{Expr}
use Rattle.atl_tree.specs.declared.expr.ExprKind.TheVariants as K
use Rattle.atl_tree.specs.declared.expr.UnaryOp.{UnaryOp}
use Rattle.atl_tree.specs.declared.expr.UnaryOp.TheVariants as U
use Rattle.atl_tree.specs.declared.expr.BinaryOp.{BinaryOp}
use Rattle.atl_tree.specs.declared.expr.BinaryOp.TheVariants as O
use Rattle.ocl_parse.specs.declared.sign.Constant.{Constant}
use Rattle.ocl_parse.specs.declared.sign.Ender.TheVariants as E
use Rattle.ocl_parse.specs.declared.sign.Sign.{Sign}
use Rattle.ocl_parse.specs.declared.sign.Sign.TheVariants as S
use Rattle.ocl_parse.specs.declared.symbol.Symbol.TheVariants as T
use Rattle.ocl_parse.specs.Signs.{is_iterator, is_iterate}
use Rattle.ocl_parse.specs.Symbols.{Lexeme, lexeme}
use Rattle.ocl_parse.specs.Depth.{is_shallow}
use Rattle.ocl_parse.specs.Trees.{expr, kind, class, level, constant, binary, unary, variable, feature, callee, call, iterator, iterate, collection, choice, within}

-- a keyword or a mark, and a name, at a place
abbrev pub fixed : Place → Sign → Lexeme
fixed p s = lexeme p (T.Fixed s)

abbrev pub named : Name → Lexeme
named n = lexeme n.place (T.Name n.text)

-- a type
pub data Kind : Type 0 where
  -- String, Integer, Boolean, OclAny
  Basic : Place → BasicWord → Kind
  -- meta ! class
  Class : Name → Place → Name → Kind
  -- Sequence ( type )
  Coll : Place → CollWord → Place → Kind → Place → Kind

abbrev pub kind_spelt : Kind → List Lexeme
kind_spelt (Basic p w) = fixed p (S.Basic w) ∷ []
kind_spelt (Class m p c) = named m ∷ fixed p S.Bang ∷ named c ∷ []
kind_spelt (Coll p w q k r) = fixed p (S.Coll w) ∷ fixed q S.Open ∷ (kind_spelt k ++ (fixed r (S.End E.Close) ∷ []))

abbrev pub kind_of : Kind → KindNode
kind_of (Basic p w) = kind p (Q.Basic w)
kind_of (Class m p c) = kind m.place (Q.Class (class m c.text))
kind_of (Coll p w q k r) = kind p (Q.Coll w (kind_of k))

mutual
  -- an expression
  pub data Written : Type 0 where
    Number : Place → ℤ → Written
    Words : Place → List ℕ → Written
    -- true, false, OclUndefined, self, thisModule
    Lone : Place → Constant → Written
    -- # name
    Literal : Place → Name → Written
    Variable : Name → Written
    -- meta ! class
    OfClass : Name → Place → Name → Written
    OfBasic : Place → BasicWord → Written
    -- Set { elements }
    Elements : Place → CollWord → Place → Arguments → Place → Written
    -- if condition then left else right endif
    If : Place → Written → Place → Written → Place → Written → Place → Written
    -- ( expression )
    Round : Place → Written → Place → Written
    -- let name : type = value in body
    Let : Place → Name → Place → Kind → Place → Written → Place → Written → Written
    -- not operand, - operand
    Unary : Place → UnaryOp → Written → Written
    -- left op right
    Binary : Written → Place → BinaryOp → Written → Written
    -- source . name
    Read : Written → Place → Name → Written
    -- source . name ( arguments ), or with -> where the flag is true
    Call : Written → Bool → Place → Name → Place → Arguments → Place → Written
    -- source -> iterator ( variable | body )
    Loop : Written → Place → Name → Place → Name → Place → Written → Place → Written
    -- source -> iterate ( variable ; result : type = start | body )
    Iterate : Written → Place → Name → Place → Name → Place → Name → Place → Kind → Place → Written → Place → Written → Place → Written

  -- none, one, or some with commas between
  pub data Arguments : Type 0 where
    None : Arguments
    One : Written → Arguments
    More : Arguments → Place → Written → Arguments

abbrev pub unary_sign : UnaryOp → Sign
unary_sign U.Not = S.Not
unary_sign U.Neg = S.Operator O.Minus

abbrev pub dot_or_arrow : Bool → Sign
dot_or_arrow true = S.Arrow
dot_or_arrow false = S.Dot

abbrev mutual
  -- the symbols that it is written in
  pub spelt : Written → List Lexeme
  spelt (Number p n) = lexeme p (T.Number n) ∷ []
  spelt (Words p s) = lexeme p (T.Words s) ∷ []
  spelt (Lone p c) = fixed p (S.Constant c) ∷ []
  spelt (Literal p n) = fixed p S.Hash ∷ named n ∷ []
  spelt (Variable n) = named n ∷ []
  spelt (OfClass m p c) = named m ∷ fixed p S.Bang ∷ named c ∷ []
  spelt (OfBasic p w) = fixed p (S.Basic w) ∷ []
  spelt (Elements p w q es r) = fixed p (S.Coll w) ∷ fixed q S.OpenBrace ∷ (listed es ++ (fixed r (S.End E.CloseBrace) ∷ []))
  spelt (If p c q a r b s) =
      fixed p S.If ∷ (spelt c ++ (fixed q (S.End E.Then) ∷ (spelt a ++ (fixed r (S.End E.Else) ∷ (spelt b ++ (fixed s (S.End E.Endif) ∷ []))))))
  spelt (Round p w q) = fixed p S.Open ∷ (spelt w ++ (fixed q (S.End E.Close) ∷ []))
  spelt (Let p n q k r e s b) =
      fixed p S.Let ∷ named n ∷ fixed q S.Colon ∷ (kind_spelt k ++ (fixed r (S.Operator O.Eq) ∷ (spelt e ++ (fixed s (S.End E.In) ∷ spelt b))))
  spelt (Unary p o w) = fixed p (unary_sign o) ∷ spelt w
  spelt (Binary a p o b) = spelt a ++ (fixed p (S.Operator o) ∷ spelt b)
  spelt (Read a p n) = spelt a ++ (fixed p S.Dot ∷ named n ∷ [])
  spelt (Call a arrow p n q es r) = spelt a ++ (fixed p (dot_or_arrow arrow) ∷ named n ∷ fixed q S.Open ∷ (listed es ++ (fixed r (S.End E.Close) ∷ [])))
  spelt (Loop a p n q x r e s) =
      spelt a ++ (fixed p S.Arrow ∷ named n ∷ fixed q S.Open ∷ named x ∷ fixed r (S.End E.Bar) ∷ (spelt e ++ (fixed s (S.End E.Close) ∷ [])))
  spelt (Iterate a p n q x r y s k t i u e v) =
      spelt a ++ (fixed p S.Arrow ∷ named n ∷ fixed q S.Open ∷ named x ∷ fixed r S.Semicolon ∷ named y ∷ fixed s S.Colon
      ∷ (kind_spelt k ++ (fixed t (S.Operator O.Eq) ∷ (spelt i ++ (fixed u (S.End E.Bar) ∷ (spelt e ++ (fixed v (S.End E.Close) ∷ [])))))))

  pub listed : Arguments → List Lexeme
  listed None = []
  listed (One e) = spelt e
  listed (More es p e) = listed es ++ (fixed p (S.End E.Comma) ∷ spelt e)

abbrev mutual
  -- its tree: parentheses leave nothing
  pub tree_of : Written → Expr
  tree_of (Number p n) = expr p (K.Number n)
  tree_of (Words p s) = expr p (K.Words s)
  tree_of (Lone p c) = expr p (constant c)
  tree_of (Literal p n) = expr p (K.Literal n.text)
  tree_of (Variable n) = variable n
  tree_of (OfClass m p c) = expr m.place (K.Class (class m c.text))
  tree_of (OfBasic p w) = expr p (K.Basic w)
  tree_of (Elements p w q es r) = collection w p (trees es)
  tree_of (If p c q a r b s) = choice p (tree_of c) (tree_of a) (tree_of b)
  tree_of (Round p w q) = tree_of w
  tree_of (Let p n q k r e s b) = within p n (kind_of k) (tree_of e) (tree_of b)
  tree_of (Unary p o w) = unary p o (tree_of w)
  tree_of (Binary a p o b) = binary (tree_of a) p o (tree_of b)
  tree_of (Read a p n) = feature (tree_of a) n
  tree_of (Call a arrow p n q es r) = call (callee (tree_of a) arrow n) (trees es)
  tree_of (Loop a p n q x r e s) = iterator (callee (tree_of a) true n) x (tree_of e)
  tree_of (Iterate a p n q x r y s k t i u e v) = iterate (callee (tree_of a) true n) x y (kind_of k) (tree_of i) (tree_of e)

  pub trees : Arguments → List Expr
  trees None = []
  trees (One e) = tree_of e ∷ []
  trees (More es p e) = trees es ++ (tree_of e ∷ [])

-- some stand there
abbrev pub AreSome : Arguments → Type 0
AreSome None = ⊥
AreSome (One e) = Unit {0}
AreSome (More es p e) = Unit {0}

module _ (b : Bool) where
  -- an expression may begin d deep
  abbrev pub Begins : ℕ → Type 0
  Begins d = is_shallow b d ≡ true

  abbrev mutual
    -- it may stand d deep where the operators of level l and above may
    pub Fits : ℕ → ℕ → Written → Type 0
    Fits l d (Number p n) = Begins d
    Fits l d (Words p s) = Begins d
    Fits l d (Lone p c) = Begins d
    Fits l d (Literal p n) = Begins d
    Fits l d (Variable n) = Begins d
    Fits l d (OfClass m p c) = Begins d
    Fits l d (OfBasic p w) = Begins d
    Fits l d (Elements p w q es r) = Begins d × FitAll (suc d) es
    Fits l d (If p c q a r e s) = Begins d × Fits 0 (suc d) c × Fits 0 (suc d) a × Fits 0 (suc d) e
    Fits l d (Round p w q) = Begins d × Fits 0 (suc d) w
    Fits l d (Let p n q k r e s w) = (l ≡ 0) × Begins d × Fits 0 (suc d) e × Fits 0 (suc d) w
    Fits l d (Unary p o w) = (l ≤ 5) × Begins d × Fits 5 (suc d) w
    Fits l d (Binary a p o w) = (l ≤ level o) × Fits (level o) d a × Fits (suc (level o)) d w
    Fits l d (Read a p n) = Fits 6 d a
    Fits l d (Call a arrow p n q es r) = Fits 6 d a × FitAll (suc d) es
    Fits l d (Loop a p n q x r e s) = (is_iterator n.text ≡ true) × Fits 6 d a × Fits 0 (suc d) e
    Fits l d (Iterate a p n q x r y s k t i u e v) = (is_iterate n.text ≡ true) × Fits 6 d a × Fits 0 (suc d) i × Fits 0 (suc d) e

    pub FitAll : ℕ → Arguments → Type 0
    FitAll d None = Unit {0}
    FitAll d (One e) = Fits 0 d e
    FitAll d (More es p e) = AreSome es × FitAll d es × Fits 0 d e

  -- these symbols have this tree
  abbrev pub IsExpr : List Lexeme → Expr → Type 0
  IsExpr ts e = (w : Written) × Fits 0 0 w × (spelt w ≡ ts) × (tree_of w ≡ e)
