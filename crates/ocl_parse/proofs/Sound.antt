-- What is read was written.
use Rattle.std.proofs.Common.{◌≡◌, ℕ, suc, ◌<◌, ◌≤◌, List, [], ◌∷◌, ◌++◌, refl, sym, ap, ◌∙◌, subst, arith, append_assoc}
use Rattle.std.proofs.lemmas.Bool.Decides.{nat_tests}
use Rattle.std.specs.Prelude.{Bool, true, false, nat_le, if◌then◌else◌}
use Rattle.atl_base.specs.declared.place.Place.{Place}
use Rattle.atl_tree.specs.declared.name.Name.{Name}
use Rattle.atl_tree.specs.declared.kind.KindNode.{KindNode}
use Rattle.atl_tree.specs.declared.kind.KindSort.TheVariants as Q
use Rattle.atl_tree.specs.declared.expr.Expr.{Expr}
use Rattle.atl_tree.specs.declared.expr.ExprKind.TheVariants as K
use Rattle.atl_tree.specs.declared.expr.UnaryOp.{UnaryOp}
use Rattle.atl_tree.specs.declared.expr.UnaryOp.TheVariants as U
use Rattle.atl_tree.specs.declared.expr.BinaryOp.{BinaryOp}
use Rattle.atl_tree.specs.declared.expr.BinaryOp.TheVariants as O
use Rattle.ocl_parse.specs.declared.sign.Ender.{Ender}
use Rattle.ocl_parse.specs.declared.sign.Ender.TheVariants as E
use Rattle.ocl_parse.specs.declared.sign.Sign.{Sign}
use Rattle.ocl_parse.specs.declared.sign.Sign.TheVariants as S
use Rattle.ocl_parse.specs.declared.symbol.Symbol.{Symbol}
use Rattle.ocl_parse.specs.declared.symbol.Symbol.TheVariants as T
use Rattle.ocl_parse.specs.declared.frame.Callee.{Callee}
use Rattle.ocl_parse.specs.declared.frame.Frame.{Frame}
use Rattle.ocl_parse.specs.declared.frame.Frame.TheVariants as F
use Rattle.ocl_parse.specs.declared.frame.Next.{Next}
use Rattle.ocl_parse.specs.declared.frame.Next.TheVariants as N
use Rattle.ocl_parse.specs.Signs.{is_iterator, is_iterate}
use Rattle.ocl_parse.specs.Symbols.{Lexeme, lexeme}
use Rattle.ocl_parse.specs.Depth.{deep, is_shallow}
use Rattle.ocl_parse.specs.Trees.{expr, kind, name, level, constant, binary, unary, variable, feature, callee, call, iterator, iterate, collection, choice, within}
use Rattle.ocl_parse.specs.Grammar.{fixed, named, Kind, Basic, Class, Coll, kind_spelt, kind_of, Written, Number, Words, Lone, Literal, Variable, OfClass, OfBasic, Elements, If, Round, Let, Unary, Binary, Read, Call, Loop, Iterate, Arguments, None, One, More, unary_sign, dot_or_arrow, spelt, listed, tree_of, trees, Begins, Fits, FitAll, IsExpr}
use Rattle.ocl_parse.specs.Machine.{Step, Goes, Stops, Refuses, TooDeep, before, closed, at_close, at_close_brace, at_comma, at_bar, at_then, at_else, at_endif, at_in, at, have_sign, have, word, kind_closed, kind_given, kind_sign, a_kind, have_kind, begins, at_let, operand_sign, operand, argued, unargued, first_bar, first_semicolon, first, argument, step, last, End, Expected, Deep, over, after, ended, run}
use Rattle.ocl_parse.specs.Machine.{Read as IsRead}
use Rattle.ocl_parse.proofs.Accepts.{Admits, admits_dot, low}

admits_unary : (fs : List Frame) → Admits 5 fs
admits_unary [] = tt
admits_unary (F.Left a p o ∷ fs) = low o
admits_unary (F.Unary o p ∷ fs) = omega arith
admits_unary (f ∷ fs) = tt

-- what stands in parentheses, up to a comma
abbrev pub with_comma : Arguments → Place → List Lexeme → List Lexeme
with_comma None c rest = rest
with_comma (One e) c rest = spelt e ++ (fixed c (S.End E.Comma) ∷ rest)
with_comma (More es p e) c rest = listed (More es p e) ++ (fixed c (S.End E.Comma) ∷ rest)

abbrev add : Arguments → Place → Written → Arguments
add None c w = One w
add (One e) c w = More (One e) c w
add (More es p e) c w = More (More es p e) c w

added : (bs : Arguments) (c : Place) (w : Written) (rest : List Lexeme) → listed (add bs c w) ++ rest ≡ with_comma bs c (spelt w ++ rest)
added None c w rest = refl
added (One e) c w rest = append_assoc (spelt e) (fixed c (S.End E.Comma) ∷ spelt w) rest
added (More es p e) c w rest = append_assoc (listed (More es p e)) (fixed c (S.End E.Comma) ∷ spelt w) rest

comma_added : (bs : Arguments) (c : Place) (w : Written) (z : Place) (rest : List Lexeme) → with_comma (add bs c w) z rest ≡ with_comma bs c (spelt w ++ (fixed z (S.End E.Comma) ∷ rest))
comma_added None c w z rest = refl
comma_added (One e) c w z rest = append_assoc (spelt e) (fixed c (S.End E.Comma) ∷ spelt w) (fixed z (S.End E.Comma) ∷ rest)
comma_added (More es p e) c w z rest = append_assoc (listed (More es p e)) (fixed c (S.End E.Comma) ∷ spelt w) (fixed z (S.End E.Comma) ∷ rest)

trees_added : (bs : Arguments) (c : Place) (w : Written) → trees (add bs c w) ≡ trees bs ++ (tree_of w ∷ [])
trees_added None c w = refl
trees_added (One e) c w = refl
trees_added (More es p e) c w = refl

-- the symbols of a call up to its (, before what follows them
abbrev called_by : Written → Place → Sign → Name → Place → List Lexeme → List Lexeme
called_by w p s n q rest = spelt w ++ (fixed p s ∷ named n ∷ fixed q S.Open ∷ rest)

-- of iterate up to its second variable's :
abbrev folded_by : Written → Place → Name → Place → Name → Place → Name → Place → List Lexeme → List Lexeme
folded_by w p n q v s y t rest = called_by w p S.Arrow n q (named v ∷ fixed s S.Semicolon ∷ named y ∷ fixed t S.Colon ∷ rest)

-- of let up to its :
abbrev let_by : Place → Name → Place → List Lexeme → List Lexeme
let_by p n q rest = fixed p S.Let ∷ named n ∷ fixed q S.Colon ∷ rest

module _ (b : Bool) where
  -- a tree and what was written for it
  pub record Spelt (l d : ℕ) (e : Expr) : Type 0 where
    pub w : Written
    pub fits : Fits b l d w
    pub tree : tree_of w ≡ e

  -- before the rest stand the symbols of what is open, and together they are all
  abbrev pub Stand : List Frame → List Lexeme → List Lexeme → Type 0
  Stand [] rest all = rest ≡ all
  Stand (F.Round ∷ fs) rest all = (p : Place) × Begins b (deep fs) × Stand fs (fixed p S.Open ∷ rest) all
  Stand (F.Arguments c es ∷ fs) rest all = (x : Spelt 6 (deep fs) c.source) × (p : Place) × (q : Place) × (z : Place) × (bs : Arguments) × FitAll b (suc (deep fs)) bs × (trees bs ≡ es) × Stand fs (called_by x.w p (dot_or_arrow c.arrow) c.name q (with_comma bs z rest)) all
  Stand (F.Body c v ∷ fs) rest all = (x : Spelt 6 (deep fs) c.source) × (p : Place) × (q : Place) × (s : Place) × (is_iterator c.name.text ≡ true) × Stand fs (called_by x.w p S.Arrow c.name q (named v ∷ fixed s (S.End E.Bar) ∷ rest)) all
  Stand (F.OutcomeKind c v y ∷ fs) rest all = (x : Spelt 6 (deep fs) c.source) × (p : Place) × (q : Place) × (s : Place) × (t : Place) × (is_iterate c.name.text ≡ true) × Stand fs (folded_by x.w p c.name q v s y t rest) all
  Stand (F.Start c v y k ∷ fs) rest all = (x : Spelt 6 (deep fs) c.source) × (p : Place) × (q : Place) × (s : Place) × (t : Place) × (is_iterate c.name.text ≡ true) × (h : Kind) × (kind_of h ≡ k) × (u : Place) × Stand fs (folded_by x.w p c.name q v s y t (kind_spelt h ++ (fixed u (S.Operator O.Eq) ∷ rest))) all
  Stand (F.Fold c v y k i ∷ fs) rest all = (x : Spelt 6 (deep fs) c.source) × (p : Place) × (q : Place) × (s : Place) × (t : Place) × (is_iterate c.name.text ≡ true) × (h : Kind) × (kind_of h ≡ k) × (u : Place) × (j : Spelt 0 (suc (deep fs)) i) × (z : Place) × Stand fs (folded_by x.w p c.name q v s y t (kind_spelt h ++ (fixed u (S.Operator O.Eq) ∷ (spelt j.w ++ (fixed z (S.End E.Bar) ∷ rest))))) all
  Stand (F.Elements w p es ∷ fs) rest all = (q : Place) × (z : Place) × (bs : Arguments) × Begins b (deep fs) × FitAll b (suc (deep fs)) bs × (trees bs ≡ es) × Stand fs (fixed p (S.Coll w) ∷ fixed q S.OpenBrace ∷ with_comma bs z rest) all
  Stand (F.Condition p ∷ fs) rest all = Begins b (deep fs) × Stand fs (fixed p S.If ∷ rest) all
  Stand (F.Then p c ∷ fs) rest all = Begins b (deep fs) × (x : Spelt 0 (suc (deep fs)) c) × (q : Place) × Stand fs (fixed p S.If ∷ (spelt x.w ++ (fixed q (S.End E.Then) ∷ rest))) all
  Stand (F.Else p c a ∷ fs) rest all = Begins b (deep fs) × (x : Spelt 0 (suc (deep fs)) c) × (y : Spelt 0 (suc (deep fs)) a) × (q : Place) × (r : Place) × Stand fs (fixed p S.If ∷ (spelt x.w ++ (fixed q (S.End E.Then) ∷ (spelt y.w ++ (fixed r (S.End E.Else) ∷ rest))))) all
  Stand (F.LetKind p n ∷ fs) rest all = Begins b (deep fs) × Admits 0 fs × (q : Place) × Stand fs (let_by p n q rest) all
  Stand (F.Value p n k ∷ fs) rest all = Begins b (deep fs) × Admits 0 fs × (q : Place) × (h : Kind) × (kind_of h ≡ k) × (r : Place) × Stand fs (let_by p n q (kind_spelt h ++ (fixed r (S.Operator O.Eq) ∷ rest))) all
  Stand (F.Within p n k v ∷ fs) rest all = Begins b (deep fs) × Admits 0 fs × (q : Place) × (h : Kind) × (kind_of h ≡ k) × (r : Place) × (x : Spelt 0 (suc (deep fs)) v) × (s : Place) × Stand fs (let_by p n q (kind_spelt h ++ (fixed r (S.Operator O.Eq) ∷ (spelt x.w ++ (fixed s (S.End E.In) ∷ rest))))) all
  Stand (F.Unary o p ∷ fs) rest all = Begins b (deep fs) × Stand fs (fixed p (unary_sign o) ∷ rest) all
  Stand (F.Left a p o ∷ fs) rest all = Admits (level o) fs × (x : Spelt (level o) (deep fs) a) × Stand fs (spelt x.w ++ (fixed p (S.Operator o) ∷ rest)) all
  Stand (F.CollKind w p ∷ fs) rest all = (q : Place) × Stand fs (fixed p (S.Coll w) ∷ fixed q S.Open ∷ rest) all

  abbrev pub Stands : List Frame → Next → List Lexeme → List Lexeme → Type 0
  Stands fs N.Operand rest all = Stand fs rest all
  Stands fs (N.Argument c) rest all = (x : Spelt 6 (deep fs) c.source) × (p : Place) × (q : Place) × Stand fs (called_by x.w p (dot_or_arrow c.arrow) c.name q rest) all
  Stands fs (N.First c v) rest all = (x : Spelt 6 (deep fs) c.source) × (p : Place) × (q : Place) × (c.arrow ≡ true) × Stand fs (called_by x.w p (dot_or_arrow c.arrow) c.name q (named v ∷ rest)) all
  Stands fs (N.Word n) rest all = Begins b (deep fs) × Stand fs (named n ∷ rest) all
  Stands fs (N.ClassName n) rest all = Begins b (deep fs) × (p : Place) × Stand fs (named n ∷ fixed p S.Bang ∷ rest) all
  Stands fs (N.Literal p) rest all = Begins b (deep fs) × Stand fs (fixed p S.Hash ∷ rest) all
  Stands fs (N.Brace w p) rest all = Begins b (deep fs) × Stand fs (fixed p (S.Coll w) ∷ rest) all
  Stands fs (N.Element w p) rest all = Begins b (deep fs) × (q : Place) × Stand fs (fixed p (S.Coll w) ∷ fixed q S.OpenBrace ∷ rest) all
  Stands fs (N.LetName p) rest all = Begins b (deep fs) × Admits 0 fs × Stand fs (fixed p S.Let ∷ rest) all
  Stands fs (N.LetColon p n) rest all = Begins b (deep fs) × Admits 0 fs × Stand fs (fixed p S.Let ∷ named n ∷ rest) all
  Stands fs (N.OutcomeName c v) rest all = (x : Spelt 6 (deep fs) c.source) × (p : Place) × (q : Place) × (s : Place) × (is_iterate c.name.text ≡ true) × Stand fs (called_by x.w p S.Arrow c.name q (named v ∷ fixed s S.Semicolon ∷ rest)) all
  Stands fs (N.OutcomeColon c v y) rest all = (x : Spelt 6 (deep fs) c.source) × (p : Place) × (q : Place) × (s : Place) × (is_iterate c.name.text ≡ true) × Stand fs (called_by x.w p S.Arrow c.name q (named v ∷ fixed s S.Semicolon ∷ named y ∷ rest)) all
  Stands fs N.Kind rest all = Stand fs rest all
  Stands fs (N.KindOpen w p) rest all = Stand fs (fixed p (S.Coll w) ∷ rest) all
  Stands fs (N.KindBang n) rest all = Stand fs (named n ∷ rest) all
  Stands fs (N.KindClass n) rest all = (p : Place) × Stand fs (named n ∷ fixed p S.Bang ∷ rest) all
  Stands fs (N.HaveKind k) rest all = (h : Kind) × (kind_of h ≡ k) × Stand fs (kind_spelt h ++ rest) all
  Stands fs (N.Feature a) rest all = (x : Spelt 6 (deep fs) a) × (p : Place) × Stand fs (spelt x.w ++ (fixed p S.Dot ∷ rest)) all
  Stands fs (N.Named a n) rest all = (x : Spelt 6 (deep fs) a) × (p : Place) × Stand fs (spelt x.w ++ (fixed p S.Dot ∷ named n ∷ rest)) all
  Stands fs (N.ArrowName a) rest all = (x : Spelt 6 (deep fs) a) × (p : Place) × Stand fs (spelt x.w ++ (fixed p S.Arrow ∷ rest)) all
  Stands fs (N.ArrowOpen a n) rest all = (x : Spelt 6 (deep fs) a) × (p : Place) × Stand fs (spelt x.w ++ (fixed p S.Arrow ∷ named n ∷ rest)) all
  Stands fs (N.Have e) rest all = (x : Spelt 6 (deep fs) e) × Stand fs (spelt x.w ++ rest) all

  -- a step's answer, at a symbol t before the rest
  abbrev pub StepStands : Lexeme → List Lexeme → List Lexeme → Step → Type 0
  StepStands t rest all (Goes gs m) = Stands gs m rest all
  StepStands t rest all (Stops gs e) = (l : ℕ) × (x : Spelt l (deep gs) e) × Admits l gs × Stand gs (spelt x.w ++ (t ∷ rest)) all
  StepStands t rest all Refuses = Unit {0}
  StepStands t rest all (TooDeep p) = Unit {0}

  fits_less : (w : Written) (l m d : ℕ) → m ≤ l → Fits b l d w → Fits b m d w
  fits_less (Let p n q k r e s t) l m d le f = let z = f.0 in (omega (arith, z, le), f.1, f.2, f.3)
  fits_less (Unary p o w) l m d le f = let z = f.0 in (omega (arith, z, le), f.1, f.2)
  fits_less (Binary x p o y) l m d le f = let z = f.0 in (omega (arith, z, le), f.1, f.2)
  fits_less w l m d le f = f

  abbrev weaker : (l m d : ℕ) (e : Expr) → m ≤ l → Spelt l d e → Spelt m d e
  weaker l m d e le x = record { w = x.w; fits = fits_less x.w l m d le x.fits; tree = x.tree }

  abbrev two : (l d : ℕ) (a : Expr) (p : Place) (o : BinaryOp) (e : Expr) → level o < l → Spelt (level o) d a → Spelt l d e → Spelt (level o) d (binary a p o e)
  two l d a p o e lt x y = record {
    w = Binary x.w p o y.w;
    fits = (omega arith, x.fits, fits_less y.w l (suc (level o)) d (omega (arith, lt)) y.fits);
    tree = ap (λ u. binary u p o (tree_of y.w)) x.tree ∙ ap (λ u. binary a p o u) y.tree;
  }

  abbrev one : (l d : ℕ) (o : UnaryOp) (p : Place) (e : Expr) → 5 ≤ l → Begins b d → Spelt l (suc d) e → Spelt 5 d (unary p o e)
  one l d o p e le h x = record { w = Unary p o x.w; fits = (omega arith, h, fits_less x.w l 5 (suc d) le x.fits); tree = ap (λ u. unary p o u) x.tree }

  abbrev let_of : (d : ℕ) (p : Place) (n : Name) (q : Place) (h : Kind) (k : KindNode) (r s : Place) (a e : Expr) → Begins b d → kind_of h ≡ k → Spelt 0 (suc d) a → Spelt 0 (suc d) e → Spelt 0 d (within p n k a e)
  let_of d p n q h k r s a e g i x y = record {
    w = Let p n q h r x.w s y.w;
    fits = (refl, g, x.fits, y.fits);
    tree = ap (λ u. within p n u (tree_of x.w) (tree_of y.w)) i ∙ ap (λ u. within p n k u (tree_of y.w)) x.tree ∙ ap (λ u. within p n k a u) y.tree;
  }

  let_stand : (p : Place) (n : Name) (q : Place) (h : Kind) (r : Place) (x : Written) (s : Place) (y : Written) (fs : List Frame) (rest all : List Lexeme) → Stand fs (let_by p n q (kind_spelt h ++ (fixed r (S.Operator O.Eq) ∷ (spelt x ++ (fixed s (S.End E.In) ∷ (spelt y ++ rest)))))) all → Stand fs (spelt (Let p n q h r x s y) ++ rest) all
  let_stand p n q h r x s y fs rest all st =
      rw (append_assoc (kind_spelt h) (fixed r (S.Operator O.Eq) ∷ (spelt x ++ (fixed s (S.End E.In) ∷ spelt y))) rest)
      (rw (append_assoc (spelt x) (fixed s (S.End E.In) ∷ spelt y) rest) st)

  -- what ends at a closing symbol
  closes : (l : ℕ) (fs : List Frame) (e : Expr) (rest all : List Lexeme) (k : List Frame → Expr → Step) (P : Step → Type 0) → (x : Spelt l (deep fs) e) → Admits l fs → Stand fs (spelt x.w ++ rest) all → ((gs : List Frame) (a : Expr) (y : Spelt 0 (deep gs) a) → Admits 0 gs → Stand gs (spelt y.w ++ rest) all → P (k gs a)) → P (closed fs e k)
  closes l [] e rest all k P x ad st g = g [] e (weaker l 0 0 e (omega arith) x) tt st
  closes l (F.Left a p o ∷ fs) e rest all k P x ad st g =
      closes (level o) fs (binary a p o e) rest all k P (two l (deep fs) a p o e ad st.1 x) st.0 (rw (append_assoc (spelt st.1.w) (fixed p (S.Operator o) ∷ spelt x.w) rest) st.2) g
  closes l (F.Unary o p ∷ fs) e rest all k P x ad st g =
      closes 5 fs (unary p o e) rest all k P (one l (deep fs) o p e ad st.0 x) (admits_unary fs) st.1 g
  closes l (F.Within p n t v ∷ fs) e rest all k P x ad st g =
      closes 0 fs (within p n t v e) rest all k P (let_of (deep fs) p n st.2 st.3 t st.5 st.7 v e st.0 st.4 st.6 (weaker l 0 (suc (deep fs)) e (omega arith) x)) st.1
      (let_stand p n st.2 st.3 st.5 st.6.w st.7 x.w fs rest all st.8) g
  closes l (f ∷ fs) e rest all k P x ad st g = g (f ∷ fs) e (weaker l 0 (deep (f ∷ fs)) e (omega arith) x) tt st

  -- what ends at an operator
  ends : (m l : ℕ) (fs : List Frame) (e : Expr) (rest all : List Lexeme) (k : List Frame → Expr → Step) (P : Step → Type 0) → l ≤ m → l ≤ 5 → (x : Spelt m (deep fs) e) → Admits m fs → Stand fs (spelt x.w ++ rest) all → ((gs : List Frame) (a : Expr) (y : Spelt l (deep gs) a) → Admits l gs → Stand gs (spelt y.w ++ rest) all → P (k gs a)) → P (before l fs e k)
  ends m l [] e rest all k P le lo x ad st g = g [] e (weaker m l 0 e le x) tt st
  ends m l (F.Left a p o ∷ fs) e rest all k P le lo x ad st g =
      pick (λ h. ends (level o) l fs (binary a p o e) rest all k P h lo (two m (deep fs) a p o e ad st.1 x) st.0 (rw (append_assoc (spelt st.1.w) (fixed p (S.Operator o) ∷ spelt x.w) rest) st.2) g) (nat_le l (level o)) refl
    where
      pick : (l ≤ level o → P (before l fs (binary a p o e) k)) → (t : Bool) → nat_le l (level o) ≡ t → P (if t then before l fs (binary a p o e) k else k (F.Left a p o ∷ fs) e)
      pick again true h = again (grind (arith, nat_tests))
      pick again false h = g (F.Left a p o ∷ fs) e (weaker m l (deep fs) e le x) (grind (arith, nat_tests)) st
  ends m l (F.Unary o p ∷ fs) e rest all k P le lo x ad st g =
      ends 5 l fs (unary p o e) rest all k P lo lo (one m (deep fs) o p e ad st.0 x) (admits_unary fs) st.1 g
  ends m l (f ∷ fs) e rest all k P le lo x ad st g = g (f ∷ fs) e (weaker m l (deep (f ∷ fs)) e le x) tt st

  fit_added : (d : ℕ) (bs : Arguments) (c : Place) (w : Written) → FitAll b d bs → Fits b 0 d w → FitAll b d (add bs c w)
  fit_added d None c w f g = g
  fit_added d (One e) c w f g = (tt, f, g)
  fit_added d (More es p e) c w f g = (tt, f, g)

  trees_of : (d : ℕ) (bs : Arguments) (c : Place) (e : Expr) (es : List Expr) (y : Spelt 0 d e) → trees bs ≡ es → trees (add bs c y.w) ≡ es ++ (e ∷ [])
  trees_of d bs c e es y h = trees_added bs c y.w ∙ ap (λ l. l ++ (tree_of y.w ∷ [])) h ∙ ap (λ u. es ++ (u ∷ [])) y.tree

  abbrev Handles : Sign → (List Frame → Expr → Step) → Type 0
  Handles s f = (z : Place) (rest all : List Lexeme) (gs : List Frame) (e : Expr) (y : Spelt 0 (deep gs) e) → Admits 0 gs → Stand gs (spelt y.w ++ (fixed z s ∷ rest)) all → StepStands (fixed z s) rest all (f gs e)

  close_handles : Handles (S.End E.Close) at_close
  close_handles z rest all (F.Round ∷ gs) e y ad st = (record { w = Round st.0 y.w z; fits = (st.1, y.fits); tree = y.tree }, rw (append_assoc (spelt y.w) (fixed z (S.End E.Close) ∷ []) rest) st.2)
  close_handles z rest all (F.Arguments c es ∷ gs) e y ad st =
      let bs = add st.4 st.3 y.w in
      let tail = fixed st.1 (dot_or_arrow c.arrow) ∷ named c.name ∷ fixed st.2 S.Open ∷ (listed bs ++ (fixed z (S.End E.Close) ∷ [])) in (
        record {
          w = Call st.0.w c.arrow st.1 c.name st.2 bs z;
          fits = (st.0.fits, fit_added (suc (deep gs)) st.4 st.3 y.w st.5 y.fits);
          tree = ap (λ u. call (callee u c.arrow c.name) (trees bs)) st.0.tree ∙ ap (λ l. call c l) (trees_of (suc (deep gs)) st.4 st.3 e es y st.6);
        },
        rw (append_assoc (spelt st.0.w) tail rest)
            (rw (append_assoc (listed bs) (fixed z (S.End E.Close) ∷ []) rest)
            (rw (added st.4 st.3 y.w (fixed z (S.End E.Close) ∷ rest)) st.7)),
      )
  close_handles z rest all (F.Body c v ∷ gs) e y ad st =
      let end = fixed z (S.End E.Close) ∷ [] in (
        record {
          w = Loop st.0.w st.1 c.name st.2 v st.3 y.w z;
          fits = (st.4, st.0.fits, y.fits);
          tree = ap (λ u. iterator (callee u true c.name) v (tree_of y.w)) st.0.tree ∙ ap (λ u. iterator c v u) y.tree;
        },
        rw (append_assoc (spelt st.0.w) (fixed st.1 S.Arrow ∷ named c.name ∷ fixed st.2 S.Open ∷ named v ∷ fixed st.3 (S.End E.Bar) ∷ (spelt y.w ++ end)) rest)
            (rw (append_assoc (spelt y.w) end rest) st.5),
      )
  close_handles z rest all (F.Fold c v x k i ∷ gs) e y ad st =
      let end = fixed z (S.End E.Close) ∷ [] in
      let turn = fixed st.10 (S.End E.Bar) ∷ (spelt y.w ++ end) in
      let start = fixed st.8 (S.Operator O.Eq) ∷ (spelt st.9.w ++ turn) in (
        record {
          w = Iterate st.0.w st.1 c.name st.2 v st.3 x st.4 st.6 st.8 st.9.w st.10 y.w z;
          fits = (st.5, st.0.fits, st.9.fits, y.fits);
          tree = ap (λ u. iterate (callee u true c.name) v x (kind_of st.6) (tree_of st.9.w) (tree_of y.w)) st.0.tree
              ∙ ap (λ u. iterate c v x u (tree_of st.9.w) (tree_of y.w)) st.7 ∙ ap (λ u. iterate c v x k u (tree_of y.w)) st.9.tree ∙ ap (λ u. iterate c v x k i u) y.tree;
        },
        rw (append_assoc (spelt st.0.w) (fixed st.1 S.Arrow ∷ named c.name ∷ fixed st.2 S.Open ∷ named v ∷ fixed st.3 S.Semicolon ∷ named x ∷ fixed st.4 S.Colon ∷ (kind_spelt st.6 ++ start)) rest)
            (rw (append_assoc (kind_spelt st.6) start rest)
            (rw (append_assoc (spelt st.9.w) turn rest)
            (rw (append_assoc (spelt y.w) end rest) st.11))),
      )
  close_handles z rest all gs e y ad st = (0, y, ad, st)

  brace_handles : Handles (S.End E.CloseBrace) at_close_brace
  brace_handles z rest all (F.Elements w p es ∷ gs) e y ad st =
      let bs = add st.2 st.1 y.w in (
        record {
          w = Elements p w st.0 bs z;
          fits = (st.3, fit_added (suc (deep gs)) st.2 st.1 y.w st.4 y.fits);
          tree = ap (λ l. collection w p l) (trees_of (suc (deep gs)) st.2 st.1 e es y st.5);
        },
        rw (append_assoc (listed bs) (fixed z (S.End E.CloseBrace) ∷ []) rest)
            (rw (added st.2 st.1 y.w (fixed z (S.End E.CloseBrace) ∷ rest)) st.6),
      )
  brace_handles z rest all gs e y ad st = (0, y, ad, st)

  comma_handles : Handles (S.End E.Comma) at_comma
  comma_handles z rest all (F.Arguments c es ∷ gs) e y ad st = (
    st.0,
    st.1,
    st.2,
    z,
    add st.4 st.3 y.w,
    fit_added (suc (deep gs)) st.4 st.3 y.w st.5 y.fits,
    trees_of (suc (deep gs)) st.4 st.3 e es y st.6,
    rw (comma_added st.4 st.3 y.w z rest) st.7,
  )
  comma_handles z rest all (F.Elements w p es ∷ gs) e y ad st = (
    st.0,
    z,
    add st.2 st.1 y.w,
    st.3,
    fit_added (suc (deep gs)) st.2 st.1 y.w st.4 y.fits,
    trees_of (suc (deep gs)) st.2 st.1 e es y st.5,
    rw (comma_added st.2 st.1 y.w z rest) st.6,
  )
  comma_handles z rest all gs e y ad st = (0, y, ad, st)

  bar_handles : Handles (S.End E.Bar) at_bar
  bar_handles z rest all (F.Start c v x k ∷ gs) e y ad st = (st.0, st.1, st.2, st.3, st.4, st.5, st.6, st.7, st.8, y, z, st.9)
  bar_handles z rest all gs e y ad st = (0, y, ad, st)

  then_handles : Handles (S.End E.Then) at_then
  then_handles z rest all (F.Condition p ∷ gs) e y ad st = (st.0, y, z, st.1)
  then_handles z rest all gs e y ad st = (0, y, ad, st)

  else_handles : Handles (S.End E.Else) at_else
  else_handles z rest all (F.Then p c ∷ gs) e y ad st = (st.0, st.1, y, st.2, z, st.3)
  else_handles z rest all gs e y ad st = (0, y, ad, st)

  endif_handles : Handles (S.End E.Endif) at_endif
  endif_handles z rest all (F.Else p c a ∷ gs) e y ad st =
      let end = fixed z (S.End E.Endif) ∷ [] in
      let other = fixed st.4 (S.End E.Else) ∷ (spelt y.w ++ end) in (
        record {
          w = If p st.1.w st.3 st.2.w st.4 y.w z;
          fits = (st.0, st.1.fits, st.2.fits, y.fits);
          tree = ap (λ u. choice p u (tree_of st.2.w) (tree_of y.w)) st.1.tree ∙ ap (λ u. choice p c u (tree_of y.w)) st.2.tree ∙ ap (λ u. choice p c a u) y.tree;
        },
        rw (append_assoc (spelt st.1.w) (fixed st.3 (S.End E.Then) ∷ (spelt st.2.w ++ other)) rest)
            (rw (append_assoc (spelt st.2.w) other rest)
            (rw (append_assoc (spelt y.w) end rest) st.5)),
      )
  endif_handles z rest all gs e y ad st = (0, y, ad, st)

  in_handles : Handles (S.End E.In) at_in
  in_handles z rest all (F.Value p n k ∷ gs) e y ad st = (st.0, st.1, st.2, st.3, st.4, st.5, y, z, st.6)
  in_handles z rest all gs e y ad st = (0, y, ad, st)

  at_handles : (c : Ender) → Handles (S.End c) (at c)
  at_handles E.Close = close_handles
  at_handles E.CloseBrace = brace_handles
  at_handles E.Comma = comma_handles
  at_handles E.Bar = bar_handles
  at_handles E.Then = then_handles
  at_handles E.Else = else_handles
  at_handles E.Endif = endif_handles
  at_handles E.In = in_handles

  sign_stands : (fs : List Frame) (e : Expr) (s : Sign) (p : Place) (rest all : List Lexeme) (x : Spelt 6 (deep fs) e) → Stand fs (spelt x.w ++ (fixed p s ∷ rest)) all → StepStands (fixed p s) rest all (have_sign fs e s p)
  sign_stands fs e (S.Operator o) p rest all x st =
      ends 6 (level o) fs e (fixed p (S.Operator o) ∷ rest) all (λ gs a. Goes (F.Left a p o ∷ gs) N.Operand) (StepStands (fixed p (S.Operator o)) rest all) (let lt = low o in omega (arith, lt)) (let lt = low o in omega (arith, lt)) x (admits_dot fs) st (λ gs a y ad s. (ad, y, s))
  sign_stands fs e S.Dot p rest all x st = (x, p, st)
  sign_stands fs e S.Arrow p rest all x st = (x, p, st)
  sign_stands fs e (S.End c) p rest all x st = closes 6 fs e (fixed p (S.End c) ∷ rest) all (at c) (StepStands (fixed p (S.End c)) rest all) x (admits_dot fs) st (at_handles c p rest all)
  sign_stands fs e s p rest all x st = (6, x, admits_dot fs, st)

  have_stands : (fs : List Frame) (e : Expr) (s : Symbol) (p : Place) (rest all : List Lexeme) (x : Spelt 6 (deep fs) e) → Stand fs (spelt x.w ++ (lexeme p s ∷ rest)) all → StepStands (lexeme p s) rest all (have fs e s p)
  have_stands fs e (T.Fixed s) p rest all x st = sign_stands fs e s p rest all x st
  have_stands fs e s p rest all x st = (6, x, admits_dot fs, st)

  begun : (fs : List Frame) (p : Place) (next : Step) (t : Lexeme) (rest all : List Lexeme) → (Begins b (deep fs) → StepStands t rest all next) → StepStands t rest all (begins b fs p next)
  begun fs p next t rest all g = on (is_shallow b (deep fs)) refl
    where
      on : (c : Bool) → is_shallow b (deep fs) ≡ c → StepStands t rest all (if c then next else TooDeep p)
      on true h = g h
      on false h = tt

  let_stands : (fs : List Frame) (p : Place) (rest all : List Lexeme) → Stand fs (fixed p S.Let ∷ rest) all → StepStands (fixed p S.Let) rest all (at_let b fs p)
  let_stands [] p rest all st = begun [] p (Goes [] (N.LetName p)) (fixed p S.Let) rest all (λ d. (d, tt, st))
  let_stands (F.Left a q o ∷ fs) p rest all st = tt
  let_stands (F.Unary o q ∷ fs) p rest all st = tt
  let_stands (f ∷ fs) p rest all st = begun (f ∷ fs) p (Goes (f ∷ fs) (N.LetName p)) (fixed p S.Let) rest all (λ d. (d, tt, st))

  operand_sign_stands : (fs : List Frame) (s : Sign) (p : Place) (rest all : List Lexeme) → Stand fs (fixed p s ∷ rest) all → StepStands (fixed p s) rest all (operand_sign b fs s p)
  operand_sign_stands fs (S.Constant c) p rest all st = begun fs p (Goes fs (N.Have (expr p (constant c)))) (fixed p (S.Constant c)) rest all (λ d. (record { w = Lone p c; fits = d; tree = refl }, st))
  operand_sign_stands fs (S.Basic w) p rest all st = begun fs p (Goes fs (N.Have (expr p (K.Basic w)))) (fixed p (S.Basic w)) rest all (λ d. (record { w = OfBasic p w; fits = d; tree = refl }, st))
  operand_sign_stands fs (S.Coll w) p rest all st = begun fs p (Goes fs (N.Brace w p)) (fixed p (S.Coll w)) rest all (λ d. (d, st))
  operand_sign_stands fs (S.Operator O.Minus) p rest all st = begun fs p (Goes (F.Unary U.Neg p ∷ fs) N.Operand) (fixed p (S.Operator O.Minus)) rest all (λ d. (d, st))
  operand_sign_stands fs S.Not p rest all st = begun fs p (Goes (F.Unary U.Not p ∷ fs) N.Operand) (fixed p S.Not) rest all (λ d. (d, st))
  operand_sign_stands fs S.Open p rest all st = begun fs p (Goes (F.Round ∷ fs) N.Operand) (fixed p S.Open) rest all (λ d. (p, d, st))
  operand_sign_stands fs S.If p rest all st = begun fs p (Goes (F.Condition p ∷ fs) N.Operand) (fixed p S.If) rest all (λ d. (d, st))
  operand_sign_stands fs S.Hash p rest all st = begun fs p (Goes fs (N.Literal p)) (fixed p S.Hash) rest all (λ d. (d, st))
  operand_sign_stands fs S.Let p rest all st = let_stands fs p rest all st
  operand_sign_stands fs s p rest all st = tt

  operand_stands : (fs : List Frame) (s : Symbol) (p : Place) (rest all : List Lexeme) → Stand fs (lexeme p s ∷ rest) all → StepStands (lexeme p s) rest all (operand b fs s p)
  operand_stands fs (T.Number n) p rest all st = begun fs p (Goes fs (N.Have (expr p (K.Number n)))) (lexeme p (T.Number n)) rest all (λ d. (record { w = Number p n; fits = d; tree = refl }, st))
  operand_stands fs (T.Words s) p rest all st = begun fs p (Goes fs (N.Have (expr p (K.Words s)))) (lexeme p (T.Words s)) rest all (λ d. (record { w = Words p s; fits = d; tree = refl }, st))
  operand_stands fs (T.Name s) p rest all st = begun fs p (Goes fs (N.Word (name p s))) (lexeme p (T.Name s)) rest all (λ d. (d, st))
  operand_stands fs (T.Fixed s) p rest all st = operand_sign_stands fs s p rest all st

  word_stands : (fs : List Frame) (n : Name) (s : Symbol) (p : Place) (rest all : List Lexeme) → Begins b (deep fs) → Stand fs (named n ∷ lexeme p s ∷ rest) all → StepStands (lexeme p s) rest all (word fs n s p)
  word_stands fs n (T.Fixed S.Bang) p rest all d st = (d, p, st)
  word_stands fs n s p rest all d st = have_stands fs (variable n) s p rest all (record { w = Variable n; fits = d; tree = refl }) st

  argued_stands : (fs : List Frame) (c : Callee) (n : Name) (s : Symbol) (p : Place) (rest all : List Lexeme) → Stands fs (N.First c n) (lexeme p s ∷ rest) all → StepStands (lexeme p s) rest all (argued b fs c n s p)
  argued_stands fs c n s p rest all st = begun (F.Arguments c [] ∷ fs) n.place (word (F.Arguments c [] ∷ fs) n s p) (lexeme p s) rest all
      (λ d. word_stands (F.Arguments c [] ∷ fs) n s p rest all d (st.0, st.1, st.2, p, None, tt, refl, st.4))

  unargued_stands : (fs : List Frame) (c : Callee) (n : Name) (t : Lexeme) (rest all : List Lexeme) → StepStands t rest all (unargued b fs c n)
  unargued_stands fs c n t rest all = begun (F.Arguments c [] ∷ fs) n.place Refuses t rest all (λ d. tt)

  bar_stands : (fs : List Frame) (c : Callee) (n : Name) (p : Place) (rest all : List Lexeme) → Stands fs (N.First c n) (fixed p (S.End E.Bar) ∷ rest) all → StepStands (fixed p (S.End E.Bar)) rest all (first_bar b fs c n)
  bar_stands fs c n p rest all st = on (is_iterator c.name.text) refl
    where
      on : (t : Bool) → is_iterator c.name.text ≡ t → StepStands (fixed p (S.End E.Bar)) rest all (if t then Goes (F.Body c n ∷ fs) N.Operand else unargued b fs c n)
      on true h = (st.0, st.1, st.2, p, h, subst (λ w. Stand fs (called_by st.0.w st.1 (dot_or_arrow w) c.name st.2 (named n ∷ fixed p (S.End E.Bar) ∷ rest)) all) st.3 st.4)
      on false h = unargued_stands fs c n (fixed p (S.End E.Bar)) rest all

  semicolon_stands : (fs : List Frame) (c : Callee) (n : Name) (p : Place) (rest all : List Lexeme) → Stands fs (N.First c n) (fixed p S.Semicolon ∷ rest) all → StepStands (fixed p S.Semicolon) rest all (first_semicolon b fs c n)
  semicolon_stands fs c n p rest all st = on (is_iterate c.name.text) refl
    where
      on : (t : Bool) → is_iterate c.name.text ≡ t → StepStands (fixed p S.Semicolon) rest all (if t then Goes fs (N.OutcomeName c n) else unargued b fs c n)
      on true h = (st.0, st.1, st.2, p, h, subst (λ w. Stand fs (called_by st.0.w st.1 (dot_or_arrow w) c.name st.2 (named n ∷ fixed p S.Semicolon ∷ rest)) all) st.3 st.4)
      on false h = unargued_stands fs c n (fixed p S.Semicolon) rest all

  first_stands : (fs : List Frame) (c : Callee) (n : Name) (s : Symbol) (p : Place) (rest all : List Lexeme) → Stands fs (N.First c n) (lexeme p s ∷ rest) all → StepStands (lexeme p s) rest all (first b fs c n s p)
  first_stands fs c n (T.Fixed (S.End E.Bar)) p rest all st = bar_stands fs c n p rest all st
  first_stands fs c n (T.Fixed S.Semicolon) p rest all st = semicolon_stands fs c n p rest all st
  first_stands fs c n s p rest all st = argued_stands fs c n s p rest all st

  opened_stands : (fs : List Frame) (c : Callee) (s : Symbol) (p : Place) (rest all : List Lexeme) → Stands fs (N.Argument c) (lexeme p s ∷ rest) all → StepStands (lexeme p s) rest all (operand b (F.Arguments c [] ∷ fs) s p)
  opened_stands fs c s p rest all st = operand_stands (F.Arguments c [] ∷ fs) s p rest all (st.0, st.1, st.2, p, None, tt, refl, st.3)

  argument_stands : (fs : List Frame) (c : Callee) (s : Symbol) (p : Place) (rest all : List Lexeme) → Stands fs (N.Argument c) (lexeme p s ∷ rest) all → StepStands (lexeme p s) rest all (argument b fs c s p)
  argument_stands fs c (T.Fixed (S.End E.Close)) p rest all st =
      let tail = fixed st.1 (dot_or_arrow c.arrow) ∷ named c.name ∷ fixed st.2 S.Open ∷ fixed p (S.End E.Close) ∷ [] in
      (record { w = Call st.0.w c.arrow st.1 c.name st.2 None p; fits = (st.0.fits, tt); tree = ap (λ u. call (callee u c.arrow c.name) []) st.0.tree }, rw (append_assoc (spelt st.0.w) tail rest) st.3)
  argument_stands fs c (T.Name s) p rest all st = on c.arrow refl
    where
      on : (t : Bool) → c.arrow ≡ t → StepStands (lexeme p (T.Name s)) rest all (if t then Goes fs (N.First c (name p s)) else operand b (F.Arguments c [] ∷ fs) (T.Name s) p)
      on true h = (st.0, st.1, st.2, h, st.3)
      on false h = opened_stands fs c (T.Name s) p rest all st
  argument_stands fs c s p rest all st = opened_stands fs c s p rest all st

  closed_kind : (fs : List Frame) (k : KindNode) (p : Place) (rest all : List Lexeme) → Stands fs (N.HaveKind k) (fixed p (S.End E.Close) ∷ rest) all → StepStands (fixed p (S.End E.Close)) rest all (kind_closed fs k)
  closed_kind (F.CollKind w q ∷ fs) k p rest all st =
      (Coll q w st.2.0 st.0 p, ap (λ u. kind q (Q.Coll w u)) st.1, rw (append_assoc (kind_spelt st.0) (fixed p (S.End E.Close) ∷ []) rest) st.2.1)
  closed_kind fs k p rest all st = tt

  given_kind : (fs : List Frame) (k : KindNode) (p : Place) (rest all : List Lexeme) → Stands fs (N.HaveKind k) (fixed p (S.Operator O.Eq) ∷ rest) all → StepStands (fixed p (S.Operator O.Eq)) rest all (kind_given fs k)
  given_kind (F.LetKind q n ∷ fs) k p rest all st = (st.2.0, st.2.1, st.2.2, st.0, st.1, p, st.2.3)
  given_kind (F.OutcomeKind c v y ∷ fs) k p rest all st = (st.2.0, st.2.1, st.2.2, st.2.3, st.2.4, st.2.5, st.0, st.1, p, st.2.6)
  given_kind fs k p rest all st = tt

  kind_sign_stands : (fs : List Frame) (s : Sign) (p : Place) (rest all : List Lexeme) → Stand fs (fixed p s ∷ rest) all → StepStands (fixed p s) rest all (kind_sign fs s p)
  kind_sign_stands fs (S.Basic w) p rest all st = (Basic p w, refl, st)
  kind_sign_stands fs (S.Coll w) p rest all st = st
  kind_sign_stands fs s p rest all st = tt

  a_kind_stands : (fs : List Frame) (s : Symbol) (p : Place) (rest all : List Lexeme) → Stand fs (lexeme p s ∷ rest) all → StepStands (lexeme p s) rest all (a_kind fs s p)
  a_kind_stands fs (T.Name s) p rest all st = st
  a_kind_stands fs (T.Fixed s) p rest all st = kind_sign_stands fs s p rest all st
  a_kind_stands fs s p rest all st = tt

  have_kind_stands : (fs : List Frame) (k : KindNode) (s : Symbol) (p : Place) (rest all : List Lexeme) → Stands fs (N.HaveKind k) (lexeme p s ∷ rest) all → StepStands (lexeme p s) rest all (have_kind fs k s)
  have_kind_stands fs k (T.Fixed (S.End E.Close)) p rest all st = closed_kind fs k p rest all st
  have_kind_stands fs k (T.Fixed (S.Operator O.Eq)) p rest all st = given_kind fs k p rest all st
  have_kind_stands fs k s p rest all st = tt

  abbrev feature_of : (d : ℕ) (a : Expr) (p : Place) (n : Name) → Spelt 6 d a → Spelt 6 d (feature a n)
  feature_of d a p n x = record { w = Read x.w p n; fits = x.fits; tree = ap (λ u. feature u n) x.tree }

  pub step_stands : (fs : List Frame) (m : Next) (s : Symbol) (p : Place) (rest all : List Lexeme) → Stands fs m (lexeme p s ∷ rest) all → StepStands (lexeme p s) rest all (step b fs m s p)
  step_stands fs N.Operand s p rest all st = operand_stands fs s p rest all st
  step_stands fs (N.Argument c) s p rest all st = argument_stands fs c s p rest all st
  step_stands fs (N.First c n) s p rest all st = first_stands fs c n s p rest all st
  step_stands fs (N.Word n) s p rest all st = word_stands fs n s p rest all st.0 st.1
  step_stands fs (N.ClassName n) (T.Name s) p rest all st = (record { w = OfClass n st.1 (name p s); fits = st.0; tree = refl }, st.2)
  step_stands fs (N.ClassName n) s p rest all st = tt
  step_stands fs (N.Literal q) (T.Name s) p rest all st = (record { w = Literal q (name p s); fits = st.0; tree = refl }, st.1)
  step_stands fs (N.Literal q) s p rest all st = tt
  step_stands fs (N.Brace w q) (T.Fixed S.OpenBrace) p rest all st = (st.0, p, st.1)
  step_stands fs (N.Brace w q) s p rest all st = tt
  step_stands fs (N.Element w q) (T.Fixed (S.End E.CloseBrace)) p rest all st = (record { w = Elements q w st.1 None p; fits = (st.0, tt); tree = refl }, st.2)
  step_stands fs (N.Element w q) s p rest all st = operand_stands (F.Elements w q [] ∷ fs) s p rest all (st.1, p, None, st.0, tt, refl, st.2)
  step_stands fs (N.LetName q) (T.Name s) p rest all st = st
  step_stands fs (N.LetName q) s p rest all st = tt
  step_stands fs (N.LetColon q n) (T.Fixed S.Colon) p rest all st = (st.0, st.1, p, st.2)
  step_stands fs (N.LetColon q n) s p rest all st = tt
  step_stands fs (N.OutcomeName c v) (T.Name s) p rest all st = st
  step_stands fs (N.OutcomeName c v) s p rest all st = tt
  step_stands fs (N.OutcomeColon c v y) (T.Fixed S.Colon) p rest all st = (st.0, st.1, st.2, st.3, p, st.4, st.5)
  step_stands fs (N.OutcomeColon c v y) s p rest all st = tt
  step_stands fs N.Kind s p rest all st = a_kind_stands fs s p rest all st
  step_stands fs (N.KindOpen w q) (T.Fixed S.Open) p rest all st = (p, st)
  step_stands fs (N.KindOpen w q) s p rest all st = tt
  step_stands fs (N.KindBang n) (T.Fixed S.Bang) p rest all st = (p, st)
  step_stands fs (N.KindBang n) s p rest all st = tt
  step_stands fs (N.KindClass n) (T.Name s) p rest all st = (Class n st.0 (name p s), refl, st.1)
  step_stands fs (N.KindClass n) s p rest all st = tt
  step_stands fs (N.HaveKind k) s p rest all st = have_kind_stands fs k s p rest all st
  step_stands fs (N.Feature a) (T.Name s) p rest all st = st
  step_stands fs (N.Feature a) s p rest all st = tt
  step_stands fs (N.Named a n) (T.Fixed S.Open) p rest all st = (st.0, st.1, p, st.2)
  step_stands fs (N.Named a n) s p rest all st =
      have_stands fs (feature a n) s p rest all (feature_of (deep fs) a st.1 n st.0) (rw (append_assoc (spelt st.0.w) (fixed st.1 S.Dot ∷ named n ∷ []) (lexeme p s ∷ rest)) st.2)
  step_stands fs (N.ArrowName a) (T.Name s) p rest all st = st
  step_stands fs (N.ArrowName a) s p rest all st = tt
  step_stands fs (N.ArrowOpen a n) (T.Fixed S.Open) p rest all st = (st.0, st.1, p, st.2)
  step_stands fs (N.ArrowOpen a n) s p rest all st = tt
  step_stands fs (N.Have e) s p rest all st = have_stands fs e s p rest all st.0 st.1

  -- what was read has the grammar's form, and the rest stands behind it
  abbrev pub ReadOf : List Lexeme → End → Type 0
  ReadOf all (IsRead e rest) = (front : List Lexeme) × (all ≡ front ++ rest) × IsExpr b front e
  ReadOf all (Expected r) = Unit {0}
  ReadOf all (Deep p) = Unit {0}

  pub over_stands : (l : ℕ) (fs : List Frame) (e : Expr) (rest all : List Lexeme) (x : Spelt l (deep fs) e) → Admits l fs → Stand fs (spelt x.w ++ rest) all → ReadOf all (over fs e rest)
  over_stands l [] e rest all x ad st = (spelt x.w, sym st, (x.w, fits_less x.w l 0 0 (omega arith) x.fits, refl, x.tree))
  over_stands l (F.Left a p o ∷ fs) e rest all x ad st = over_stands (level o) fs (binary a p o e) rest all (two l (deep fs) a p o e ad st.1 x) st.0 (rw (append_assoc (spelt st.1.w) (fixed p (S.Operator o) ∷ spelt x.w) rest) st.2)
  over_stands l (F.Unary o p ∷ fs) e rest all x ad st = over_stands 5 fs (unary p o e) rest all (one l (deep fs) o p e ad st.0 x) (admits_unary fs) st.1
  over_stands l (F.Within p n k v ∷ fs) e rest all x ad st =
      over_stands 0 fs (within p n k v e) rest all (let_of (deep fs) p n st.2 st.3 k st.5 st.7 v e st.0 st.4 st.6 (weaker l 0 (suc (deep fs)) e (omega arith) x)) st.1 (let_stand p n st.2 st.3 st.5 st.6.w st.7 x.w fs rest all st.8)
  over_stands l (f ∷ fs) e rest all x ad st = tt

  last_stands : (fs : List Frame) (m : Next) (all : List Lexeme) → Stands fs m [] all → ReadOf all (after (last b fs m) [] ended)
  last_stands fs (N.Have e) all st = over_stands 6 fs e [] all st.0 (admits_dot fs) st.1
  last_stands fs (N.Word n) all st = over_stands 6 fs (variable n) [] all (record { w = Variable n; fits = st.0; tree = refl }) (admits_dot fs) st.1
  last_stands fs (N.Named a n) all st = over_stands 6 fs (feature a n) [] all (feature_of (deep fs) a st.1 n st.0) (admits_dot fs) (rw (append_assoc (spelt st.0.w) (fixed st.1 S.Dot ∷ named n ∷ []) []) st.2)
  last_stands fs (N.First c n) all st = on (is_shallow b (suc (deep fs)))
    where
      on : (t : Bool) → ReadOf all (after (if t then Refuses else TooDeep n.place) [] ended)
      on true = tt
      on false = tt
  last_stands fs m all st = tt

  pub sound : (ts : List Lexeme) (fs : List Frame) (m : Next) (all : List Lexeme) → Stands fs m ts all → ReadOf all (run b fs m ts)
  sound [] fs m all st = last_stands fs m all st
  sound (t ∷ ts) fs m all st = on (λ gs n. sound ts gs n all) (step b fs m t.symbol t.place) (step_stands fs m t.symbol t.place ts all st)
    where
      on : ((gs : List Frame) (n : Next) → Stands gs n ts all → ReadOf all (run b gs n ts)) → (u : Step) → StepStands (lexeme t.place t.symbol) ts all u → ReadOf all (after u (t ∷ ts) (λ gs n. run b gs n ts))
      on again (Goes gs n) h = again gs n h
      on again (Stops gs e) h = over_stands h.0 gs e (t ∷ ts) all h.1 h.2 h.3
      on again Refuses h = tt
      on again (TooDeep p) h = tt
