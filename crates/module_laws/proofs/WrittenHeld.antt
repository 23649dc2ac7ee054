-- What is canonically written for an expression has names, texts and numbers that tokens can have where the expression has
-- such, and each of its places is the same.
use Rattle.std.proofs.Common.{◌≡◌, ℕ, suc, List, [], ◌∷◌, ◌++◌, refl, sym, ap, ◌∙◌, subst}
use Rattle.std.specs.Prelude.{Bool, true, false, codes, nat_lt}
use Rattle.atl_base.specs.declared.place.Place.{Place}
use Rattle.atl_tree.specs.declared.expr.UnaryOp.{UnaryOp}
use Rattle.atl_tree.specs.declared.expr.UnaryOp.TheVariants as U
use Rattle.atl_tree.specs.declared.expr.BinaryOp.TheVariants as O
use Rattle.atl_tree.specs.declared.expr.ExprKind.TheOpen as E
use Rattle.atl_tree.specs.declared.expr.ExprKind.TheVariants as K
use Rattle.atl_tree.specs.Pieces.{is_in_quotes}
use Rattle.ocl_parse.specs.declared.sign.Constant.{Constant}
use Rattle.ocl_parse.specs.declared.sign.Constant.TheVariants as N
use Rattle.ocl_parse.specs.declared.sign.Ender.TheVariants as Z
use Rattle.ocl_parse.specs.declared.sign.Sign.TheVariants as S
use Rattle.ocl_parse.specs.Symbols.{Lexeme}
use Rattle.ocl_parse.specs.Trees.{expr, name, class, level, constant}
use Rattle.ocl_parse.specs.Grammar.{Written, Number, Words, Lone, Literal, Variable, OfClass, OfBasic, Elements, If, Round, Let, Unary, Binary, Read, Call, Loop, Iterate, Arguments, None, One, More, Kind, Basic, Class, Coll, spelt, listed, kind_spelt, kind_of, tree_of, trees, fixed, named, unary_sign, dot_or_arrow, Fits, FitAll}
use Rattle.module_grammar.specs.Marks.{Shared}
use Rattle.module_print.specs.Writing.{here, kind_written, round_where, expr_written}
use Rattle.module_laws.specs.Places.{placed_kind, placed, all_placed}
use Rattle.module_laws.specs.Held.{IsNameText, IsHeld}
use Rattle.module_laws.proofs.Spacing.{IsSign, IsGood}
use Rattle.module_laws.proofs.ReadMarks.{small_text}
use Rattle.module_laws.proofs.Says.{written_is, kind_says, written_all, written_last, some_trees}

abbrev pub AreHeldIn : List Lexeme → Type 0
AreHeldIn [] = Unit {0}
AreHeldIn (t ∷ ts) = IsHeld (Shared t.symbol) × AreHeldIn ts

abbrev pub AreGoodIn : List Lexeme → Type 0
AreGoodIn [] = Unit {0}
AreGoodIn (t ∷ ts) = IsGood (Shared t.symbol) × AreGoodIn ts

held_parts : (xs ys : List Lexeme) → AreHeldIn (xs ++ ys) → AreHeldIn xs × AreHeldIn ys
held_parts [] ys h = (tt, h)
held_parts (x ∷ xs) ys h = let r = held_parts xs ys h.1 in ((h.0, r.0), r.1)

pub join : (xs ys : List Lexeme) → AreGoodIn xs → AreGoodIn ys → AreGoodIn (xs ++ ys)
join [] ys g h = h
join (x ∷ xs) ys g h = (g.0, join xs ys g.1 h)

-- its marks are good, and each of its places is the same
abbrev pub IsFine : Written → Type 0
IsFine u = AreGoodIn (spelt u) × (placed u ≡ u)

abbrev AllFine : Arguments → Type 0
AllFine es = AreGoodIn (listed es) × (all_placed es ≡ es)

abbrev pub KindIsFine : Kind → Type 0
KindIsFine k = AreGoodIn (kind_spelt k) × (placed_kind k ≡ k)

good_kind : (k : Kind) → AreHeldIn (kind_spelt k) → KindIsFine (placed_kind k)
good_kind (Basic p w) h = ((tt, tt), refl)
good_kind (Class m p c) h = ((h.0, (tt, (h.1.1.0, tt))), refl)
good_kind (Coll p w q k r) h =
    let g = held_parts (kind_spelt k) (fixed r (S.End Z.Close) ∷ []) h.1.1 in
    let x = good_kind k g.0 in
    ((tt, (tt, join (kind_spelt (placed_kind k)) (fixed here (S.End Z.Close) ∷ []) x.0 (tt, tt))), ap (λ it. Coll here w here it here) x.1)

pub written_kind : (k : Kind) → AreHeldIn (kind_spelt k) → KindIsFine (kind_written (kind_of k))
written_kind k h = subst KindIsFine (sym (kind_says k)) (good_kind k h)

round_good : (t : Bool) (u : Written) → IsFine u → IsFine (round_where t u)
round_good true u g = ((tt, join (spelt u) (fixed here (S.End Z.Close) ∷ []) g.0 (tt, tt)), ap (λ it. Round here it here) g.1)
round_good false u g = g

unary_good : (o : UnaryOp) → IsSign (unary_sign o)
unary_good U.Not = tt
unary_good U.Neg = tt

arrow_good : (b : Bool) → IsSign (dot_or_arrow b)
arrow_good true = tt
arrow_good false = tt

iterate_good : IsNameText (codes "iterate")
unfolding is_in_quotes
iterate_good = (codes "iterate", refl, small_text (codes "iterate") refl)

lone_good : (p : Place) (c : Constant) (l : ℕ) → IsFine (expr_written (expr p (constant c)) l)
lone_good p N.True l = rw (written_is p (E.Truth true) (K.Truth true) l (K.rolls-Truth true)) ((tt, tt), refl)
lone_good p N.False l = rw (written_is p (E.Truth false) (K.Truth false) l (K.rolls-Truth false)) ((tt, tt), refl)
lone_good p N.Undefined l = rw (written_is p E.Undefined K.Undefined l K.rolls-Undefined) ((tt, tt), refl)
lone_good p N.Own l = rw (written_is p E.Own K.Own l K.rolls-Own) ((tt, tt), refl)
lone_good p N.Module l = rw (written_is p E.Module K.Module l K.rolls-Module) ((tt, tt), refl)

mutual
  pub good : (v : Written) (lo d : ℕ) → Fits false lo d v → AreHeldIn (spelt v) → (l : ℕ) → IsFine (expr_written (tree_of v) l)
  good (Number p n) lo d f h l =
      rw (written_is p (E.Number n) (K.Number n) l (K.rolls-Number n))
      ((h.0, tt), refl)
  good (Words p s) lo d f h l =
      rw (written_is p (E.Words s) (K.Words s) l (K.rolls-Words s))
      ((h.0, tt), refl)
  good (Lone p c) lo d f h l = lone_good p c l
  good (Literal p n) lo d f h l =
      rw (written_is p (E.Literal n.text) (K.Literal n.text) l (K.rolls-Literal n.text))
      ((tt, (h.1.0, tt)), refl)
  good (Variable n) lo d f h l =
      rw (written_is n.place (E.Var n.text) (K.Var n.text) l (K.rolls-Var n.text))
      ((h.0, tt), refl)
  good (OfClass m p c) lo d f h l =
      rw (written_is m.place (E.Class (class m c.text)) (K.Class (class m c.text)) l (K.rolls-Class (class m c.text)))
      ((h.0, (tt, (h.1.1.0, tt))), refl)
  good (OfBasic p w) lo d f h l =
      rw (written_is p (E.Basic w) (K.Basic w) l (K.rolls-Basic w))
      ((tt, tt), refl)
  good (Elements p w q es r) lo d f h l =
      let g2 = held_parts (listed es) (fixed r (S.End Z.CloseBrace) ∷ []) h.1.1 in
      let x2 = good_all es (suc d) f.1 g2.0 in
      rw (written_is p (E.Coll w (trees es)) (K.Coll w (trees es)) l (K.rolls-Coll w (trees es)))
      ((tt, (tt, join (listed (written_all (trees es))) (fixed here (S.End Z.CloseBrace) ∷ []) x2.0 (tt, tt))), ap (λ it. Elements here w here it here) x2.1)
  good (If p c q a r e s) lo d f h l =
      let g1 = held_parts (spelt c) (fixed q (S.End Z.Then) ∷ (spelt a ++ (fixed r (S.End Z.Else) ∷ (spelt e ++ (fixed s (S.End Z.Endif) ∷ []))))) h.1 in
      let x1 = good c 0 (suc d) f.1 g1.0 0 in
      let g3 = held_parts (spelt a) (fixed r (S.End Z.Else) ∷ (spelt e ++ (fixed s (S.End Z.Endif) ∷ []))) g1.1.1 in
      let x3 = good a 0 (suc d) f.2 g3.0 0 in
      let g5 = held_parts (spelt e) (fixed s (S.End Z.Endif) ∷ []) g3.1.1 in
      let x5 = good e 0 (suc d) f.3 g5.0 0 in
      rw (written_is p (E.If (tree_of c) (tree_of a) (tree_of e)) (K.If (tree_of c) (tree_of a) (tree_of e)) l (K.rolls-If (tree_of c) (tree_of a) (tree_of e)))
      ((tt, join (spelt (expr_written (tree_of c) 0)) (fixed here (S.End Z.Then) ∷ (spelt (expr_written (tree_of a) 0) ++ (fixed here (S.End Z.Else) ∷ (spelt (expr_written (tree_of e) 0) ++ (fixed here (S.End Z.Endif) ∷ []))))) x1.0 (tt, join (spelt (expr_written (tree_of a) 0)) (fixed here (S.End Z.Else) ∷ (spelt (expr_written (tree_of e) 0) ++ (fixed here (S.End Z.Endif) ∷ []))) x3.0 (tt, join (spelt (expr_written (tree_of e) 0)) (fixed here (S.End Z.Endif) ∷ []) x5.0 (tt, tt)))), ap (λ it. If here it here (placed (expr_written (tree_of a) 0)) here (placed (expr_written (tree_of e) 0)) here) x1.1 ∙ ap (λ it. If here (expr_written (tree_of c) 0) here it here (placed (expr_written (tree_of e) 0)) here) x3.1 ∙ ap (λ it. If here (expr_written (tree_of c) 0) here (expr_written (tree_of a) 0) here it here) x5.1)
  good (Round p w q) lo d f h l = good w 0 (suc d) f.1 (held_parts (spelt w) (fixed q (S.End Z.Close) ∷ []) h.1).0 l
  good (Let p n q k r e s w) lo d f h l =
      let g3 = held_parts (kind_spelt k) (fixed r (S.Operator O.Eq) ∷ (spelt e ++ (fixed s (S.End Z.In) ∷ (spelt w)))) h.1.1.1 in
      let x3 = written_kind k g3.0 in
      let g5 = held_parts (spelt e) (fixed s (S.End Z.In) ∷ (spelt w)) g3.1.1 in
      let x5 = good e 0 (suc d) f.2 g5.0 0 in
      let x7 = good w 0 (suc d) f.3 g5.1.1 0 in
      rw (written_is p (E.Let n (kind_of k) (tree_of e) (tree_of w)) (K.Let n (kind_of k) (tree_of e) (tree_of w)) l (K.rolls-Let n (kind_of k) (tree_of e) (tree_of w)))
      (round_good (nat_lt 0 l) (Let here (name here n.text) here (kind_written (kind_of k)) here (expr_written (tree_of e) 0) here (expr_written (tree_of w) 0)) ((tt, (h.1.0, (tt, join (kind_spelt (kind_written (kind_of k))) (fixed here (S.Operator O.Eq) ∷ (spelt (expr_written (tree_of e) 0) ++ (fixed here (S.End Z.In) ∷ (spelt (expr_written (tree_of w) 0))))) x3.0 (tt, join (spelt (expr_written (tree_of e) 0)) (fixed here (S.End Z.In) ∷ (spelt (expr_written (tree_of w) 0))) x5.0 (tt, x7.0))))), ap (λ it. Let here (name here n.text) here it here (placed (expr_written (tree_of e) 0)) here (placed (expr_written (tree_of w) 0))) x3.1 ∙ ap (λ it. Let here (name here n.text) here (kind_written (kind_of k)) here it here (placed (expr_written (tree_of w) 0))) x5.1 ∙ ap (λ it. Let here (name here n.text) here (kind_written (kind_of k)) here (expr_written (tree_of e) 0) here it) x7.1))
  good (Unary p o w) lo d f h l =
      let x1 = good w 5 (suc d) f.2 h.1 5 in
      rw (written_is p (E.Unary o (tree_of w)) (K.Unary o (tree_of w)) l (K.rolls-Unary o (tree_of w)))
      (round_good (nat_lt 5 l) (Unary here o (expr_written (tree_of w) 5)) ((unary_good o, x1.0), ap (λ it. Unary here o it) x1.1))
  good (Binary a p o w) lo d f h l =
      let g0 = held_parts (spelt a) (fixed p (S.Operator o) ∷ (spelt w)) h in
      let x0 = good a (level o) d f.1 g0.0 (level o) in
      let x2 = good w (suc (level o)) d f.2 g0.1.1 (suc (level o)) in
      rw (written_is p (E.Binary o (tree_of a) (tree_of w)) (K.Binary o (tree_of a) (tree_of w)) l (K.rolls-Binary o (tree_of a) (tree_of w)))
      (round_good (nat_lt (level o) l) (Binary (expr_written (tree_of a) (level o)) here o (expr_written (tree_of w) (suc (level o)))) (join (spelt (expr_written (tree_of a) (level o))) (fixed here (S.Operator o) ∷ (spelt (expr_written (tree_of w) (suc (level o))))) x0.0 (tt, x2.0), ap (λ it. Binary it here o (placed (expr_written (tree_of w) (suc (level o))))) x0.1 ∙ ap (λ it. Binary (expr_written (tree_of a) (level o)) here o it) x2.1))
  good (Read a p n) lo d f h l =
      let g0 = held_parts (spelt a) (fixed p S.Dot ∷ (named n ∷ [])) h in
      let x0 = good a 6 d f g0.0 6 in
      rw (written_is n.place (E.Read (tree_of a) n.text) (K.Read (tree_of a) n.text) l (K.rolls-Read (tree_of a) n.text))
      (join (spelt (expr_written (tree_of a) 6)) (fixed here S.Dot ∷ (named (name here n.text) ∷ [])) x0.0 (tt, (g0.1.1.0, tt)), ap (λ it. Read it here (name here n.text)) x0.1)
  good (Call a arrow p n q es r) lo d f h l =
      let g0 = held_parts (spelt a) (fixed p (dot_or_arrow arrow) ∷ (named n ∷ (fixed q S.Open ∷ (listed es ++ (fixed r (S.End Z.Close) ∷ []))))) h in
      let x0 = good a 6 d f.0 g0.0 6 in
      let g4 = held_parts (listed es) (fixed r (S.End Z.Close) ∷ []) g0.1.1.1.1 in
      let x4 = good_all es (suc d) f.1 g4.0 in
      rw (written_is n.place (E.Call (tree_of a) arrow n.text (trees es)) (K.Call (tree_of a) arrow n.text (trees es)) l (K.rolls-Call (tree_of a) arrow n.text (trees es)))
      (join (spelt (expr_written (tree_of a) 6)) (fixed here (dot_or_arrow arrow) ∷ (named (name here n.text) ∷ (fixed here S.Open ∷ (listed (written_all (trees es)) ++ (fixed here (S.End Z.Close) ∷ []))))) x0.0 (arrow_good arrow, (g0.1.1.0, (tt, join (listed (written_all (trees es))) (fixed here (S.End Z.Close) ∷ []) x4.0 (tt, tt)))), ap (λ it. Call it arrow here (name here n.text) here (all_placed (written_all (trees es))) here) x0.1 ∙ ap (λ it. Call (expr_written (tree_of a) 6) arrow here (name here n.text) here it here) x4.1)
  good (Loop a p n q x r e s) lo d f h l =
      let g0 = held_parts (spelt a) (fixed p S.Arrow ∷ (named n ∷ (fixed q S.Open ∷ (named x ∷ (fixed r (S.End Z.Bar) ∷ (spelt e ++ (fixed s (S.End Z.Close) ∷ []))))))) h in
      let x0 = good a 6 d f.1 g0.0 6 in
      let g6 = held_parts (spelt e) (fixed s (S.End Z.Close) ∷ []) g0.1.1.1.1.1.1 in
      let x6 = good e 0 (suc d) f.2 g6.0 0 in
      rw (written_is n.place (E.Loop (tree_of a) n.text x (tree_of e)) (K.Loop (tree_of a) n.text x (tree_of e)) l (K.rolls-Loop (tree_of a) n.text x (tree_of e)))
      (join (spelt (expr_written (tree_of a) 6)) (fixed here S.Arrow ∷ (named (name here n.text) ∷ (fixed here S.Open ∷ (named (name here x.text) ∷ (fixed here (S.End Z.Bar) ∷ (spelt (expr_written (tree_of e) 0) ++ (fixed here (S.End Z.Close) ∷ []))))))) x0.0 (tt, (g0.1.1.0, (tt, (g0.1.1.1.1.0, (tt, join (spelt (expr_written (tree_of e) 0)) (fixed here (S.End Z.Close) ∷ []) x6.0 (tt, tt)))))), ap (λ it. Loop it here (name here n.text) here (name here x.text) here (placed (expr_written (tree_of e) 0)) here) x0.1 ∙ ap (λ it. Loop (expr_written (tree_of a) 6) here (name here n.text) here (name here x.text) here it here) x6.1)
  good (Iterate a p n q x r y s k t i u e v) lo d f h l =
      let g0 = held_parts (spelt a) (fixed p S.Arrow ∷ (named n ∷ (fixed q S.Open ∷ (named x ∷ (fixed r S.Semicolon ∷ (named y ∷ (fixed s S.Colon ∷ (kind_spelt k ++ (fixed t (S.Operator O.Eq) ∷ (spelt i ++ (fixed u (S.End Z.Bar) ∷ (spelt e ++ (fixed v (S.End Z.Close) ∷ []))))))))))))) h in
      let x0 = good a 6 d f.1 g0.0 6 in
      let g8 = held_parts (kind_spelt k) (fixed t (S.Operator O.Eq) ∷ (spelt i ++ (fixed u (S.End Z.Bar) ∷ (spelt e ++ (fixed v (S.End Z.Close) ∷ []))))) g0.1.1.1.1.1.1.1.1 in
      let x8 = written_kind k g8.0 in
      let g10 = held_parts (spelt i) (fixed u (S.End Z.Bar) ∷ (spelt e ++ (fixed v (S.End Z.Close) ∷ []))) g8.1.1 in
      let x10 = good i 0 (suc d) f.2 g10.0 0 in
      let g12 = held_parts (spelt e) (fixed v (S.End Z.Close) ∷ []) g10.1.1 in
      let x12 = good e 0 (suc d) f.3 g12.0 0 in
      rw (written_is n.place (E.Iterate (tree_of a) x y (kind_of k) (tree_of i) (tree_of e)) (K.Iterate (tree_of a) x y (kind_of k) (tree_of i) (tree_of e)) l (K.rolls-Iterate (tree_of a) x y (kind_of k) (tree_of i) (tree_of e)))
      (join (spelt (expr_written (tree_of a) 6)) (fixed here S.Arrow ∷ (named (name here (codes "iterate")) ∷ (fixed here S.Open ∷ (named (name here x.text) ∷ (fixed here S.Semicolon ∷ (named (name here y.text) ∷ (fixed here S.Colon ∷ (kind_spelt (kind_written (kind_of k)) ++ (fixed here (S.Operator O.Eq) ∷ (spelt (expr_written (tree_of i) 0) ++ (fixed here (S.End Z.Bar) ∷ (spelt (expr_written (tree_of e) 0) ++ (fixed here (S.End Z.Close) ∷ []))))))))))))) x0.0 (tt, (iterate_good, (tt, (g0.1.1.1.1.0, (tt, (g0.1.1.1.1.1.1.0, (tt, join (kind_spelt (kind_written (kind_of k))) (fixed here (S.Operator O.Eq) ∷ (spelt (expr_written (tree_of i) 0) ++ (fixed here (S.End Z.Bar) ∷ (spelt (expr_written (tree_of e) 0) ++ (fixed here (S.End Z.Close) ∷ []))))) x8.0 (tt, join (spelt (expr_written (tree_of i) 0)) (fixed here (S.End Z.Bar) ∷ (spelt (expr_written (tree_of e) 0) ++ (fixed here (S.End Z.Close) ∷ []))) x10.0 (tt, join (spelt (expr_written (tree_of e) 0)) (fixed here (S.End Z.Close) ∷ []) x12.0 (tt, tt)))))))))), ap (λ it. Iterate it here (name here (codes "iterate")) here (name here x.text) here (name here y.text) here (placed_kind (kind_written (kind_of k))) here (placed (expr_written (tree_of i) 0)) here (placed (expr_written (tree_of e) 0)) here) x0.1 ∙ ap (λ it. Iterate (expr_written (tree_of a) 6) here (name here (codes "iterate")) here (name here x.text) here (name here y.text) here it here (placed (expr_written (tree_of i) 0)) here (placed (expr_written (tree_of e) 0)) here) x8.1 ∙ ap (λ it. Iterate (expr_written (tree_of a) 6) here (name here (codes "iterate")) here (name here x.text) here (name here y.text) here (kind_written (kind_of k)) here it here (placed (expr_written (tree_of e) 0)) here) x10.1 ∙ ap (λ it. Iterate (expr_written (tree_of a) 6) here (name here (codes "iterate")) here (name here x.text) here (name here y.text) here (kind_written (kind_of k)) here (expr_written (tree_of i) 0) here it here) x12.1)

  good_all : (es : Arguments) (d : ℕ) → FitAll false d es → AreHeldIn (listed es) → AllFine (written_all (trees es))
  good_all None d f h = (tt, refl)
  good_all (One e) d f h = let x = good e 0 d f h 0 in (x.0, ap (λ it. One it) x.1)
  good_all (More es p e) d f h =
      let g = held_parts (listed es) (fixed p (S.End Z.Comma) ∷ spelt e) h in
      let x = good_all es d f.1 g.0 in
      let y = good e 0 d f.2 g.1.1 0 in
      rw (written_last (trees es) (tree_of e) (some_trees es f.0)) (
        join (listed (written_all (trees es))) (fixed here (S.End Z.Comma) ∷ spelt (expr_written (tree_of e) 0)) x.0 (tt, y.0),
        ap (λ it. More it here (placed (expr_written (tree_of e) 0))) x.1 ∙ ap (λ it. More (written_all (trees es)) here it) y.1,
      )
