-- What is canonically written for an expression is of the grammar, and has its tree up to places.
use Rattle.std.proofs.Common.{◌≡◌, ℕ, suc, ◌≤◌, List, [], ◌∷◌, ◌++◌, refl, sym, ap, ◌∙◌, arith}
use Rattle.std.proofs.lemmas.Bool.Decides.{nat_tests}
use Rattle.std.proofs.lemmas.List.{map-append}
use Rattle.std.specs.Prelude.{Bool, true, false, map, nat_lt, codes}
use Rattle.atl_base.specs.declared.place.Place.{Place}
use Rattle.atl_tree.specs.declared.kind.KindNode.{KindNode, fold_out-KindNode}
use Rattle.atl_tree.specs.declared.kind.KindSort.{KindSort, roll-KindSort, map-KindSort, fold-KindSort, fold-roll-KindSort}
use Rattle.atl_tree.specs.declared.kind.KindSort.TheOpen as Q
use Rattle.atl_tree.specs.declared.kind.KindSort.TheVariants as L
use Rattle.atl_tree.specs.declared.expr.Expr.{Expr}
use Rattle.atl_tree.specs.declared.expr.ExprKind.{ExprKind, roll-ExprKind, map-ExprKind}
use Rattle.atl_tree.specs.declared.expr.ExprKind.TheOpen as E
use Rattle.atl_tree.specs.declared.expr.ExprKind.TheVariants as K
use Rattle.ocl_parse.specs.declared.sign.Constant.{Constant}
use Rattle.ocl_parse.specs.declared.sign.Constant.TheVariants as N
use Rattle.ocl_parse.specs.Trees.{expr, kind, name, class, level, constant, binary, unary, feature, callee, call, iterator, iterate, collection, choice, within}
use Rattle.ocl_parse.specs.Grammar.{Written, Number, Words, Lone, Literal, Variable, OfClass, OfBasic, Elements, If, Round, Let, Unary, Binary, Read, Call, Loop, Iterate, Arguments, None, One, More, Kind, Basic, Class, Coll, kind_of, tree_of, trees, AreSome, Fits, FitAll}
use Rattle.module_print.specs.Writing.{here, name_here, kind_layer, kind_written, round_where, more, arguments, layer, expr_written, what_written}
use Rattle.module_laws.specs.Places.{placed_kind, placed, all_placed}
use Rattle.module_print.proofs.Writings.{expr_is, what_is}

-- a node is written by its parts
pub written_is : (p : Place) (y : E.ExprKind-F ExprKind Expr) (k : ExprKind) (l : ℕ) → roll-ExprKind y ≡ k → expr_written (expr p k) l ≡ layer (map-ExprKind _ _ _ _ what_written expr_written y) l
written_is p y k l h = ap (λ f. f l) (expr_is (expr p k) ∙ ap what_written (sym h) ∙ what_is y)

unfoldable sort_written : KindSort → Kind
sort_written = fold-KindSort Kind Kind kind_layer (λ k. k.what)

kind_is : (k : KindNode) → kind_written k ≡ sort_written k.what
unfolding kind_written sort_written
kind_is k = fold_out-KindNode _ _ kind_layer (λ x. x.what) k

sort_is : (y : Q.KindSort-F KindSort KindNode) → sort_written (roll-KindSort y) ≡ kind_layer (map-KindSort _ _ _ _ sort_written kind_written y)
unfolding kind_written sort_written
sort_is y = fold-roll-KindSort _ _ kind_layer (λ x. x.what) y

pub kind_says : (k : Kind) → kind_written (kind_of k) ≡ placed_kind k
kind_says (Basic p w) = kind_is (kind p (L.Basic w)) ∙ ap sort_written (sym (L.rolls-Basic w)) ∙ sort_is (Q.Basic w)
kind_says (Class m p c) = kind_is (kind m.place (L.Class (class m c.text))) ∙ ap sort_written (sym (L.rolls-Class (class m c.text))) ∙ sort_is (Q.Class (class m c.text))
kind_says (Coll p w q k r) =
    kind_is (kind p (L.Coll w (kind_of k))) ∙ ap sort_written (sym (L.rolls-Coll w (kind_of k))) ∙ sort_is (Q.Coll w (kind_of k)) ∙ ap (λ u. Coll here w here u here) (kind_says k)

-- it stands where level l may, and has the other's tree
abbrev pub Says : ℕ → Written → Written → Type 0
Says l u v = ((d : ℕ) → Fits false l d u) × (tree_of u ≡ tree_of (placed v))

round_says : (t : Bool) (l m : ℕ) (u v : Written) → nat_lt m l ≡ t → ((j : ℕ) → j ≤ m → Says j u v) → Says l (round_where t u) v
round_says true l m u v h s = let x = s 0 (omega arith) in ((λ d. (refl, x.0 (suc d))), x.1)
round_says false l m u v h s = s l (grind (arith, nat_tests))

abbrev pub alone : Expr → Written
alone e = expr_written e 0

abbrev pub written_all : List Expr → Arguments
written_all es = arguments (map (λ e. e 0) (map expr_written es))

more_last : (bs : Arguments) (ws : List Written) (w : Written) → more bs (ws ++ (w ∷ [])) ≡ More (more bs ws) here w
more_last bs [] w = refl
more_last bs (x ∷ ws) w = more_last (More bs here x) ws w

abbrev pub IsSome : List Expr → Type 0
IsSome [] = ⊥
IsSome (e ∷ es) = Unit {0}

pub written_last : (es : List Expr) (e : Expr) → IsSome es → written_all (es ++ (e ∷ [])) ≡ More (written_all es) here (alone e)
written_last [] e h = absurd h
written_last (x ∷ es) e h =
    ap (λ l. more (One (alone x)) (map (λ f. f 0) l)) (map-append expr_written es (e ∷ [])) ∙ ap (λ l. more (One (alone x)) l) (map-append (λ f. f 0) (map expr_written es) (expr_written e ∷ []))
    ∙ more_last (One (alone x)) (map (λ f. f 0) (map expr_written es)) (alone e)

some_last : (es : List Expr) (e : Expr) → IsSome (es ++ (e ∷ []))
some_last [] e = tt
some_last (x ∷ es) e = tt

pub some_trees : (es : Arguments) → AreSome es → IsSome (trees es)
some_trees None h = absurd h
some_trees (One e) h = tt
some_trees (More es p e) h = some_last (trees es) (tree_of e)

pub some_written : (es : List Expr) → IsSome es → AreSome (written_all es)
some_written [] h = absurd h
some_written (e ∷ es) h = on (One (alone e)) (map (λ f. f 0) (map expr_written es)) tt
  where
    on : (bs : Arguments) (ws : List Written) → AreSome bs → AreSome (more bs ws)
    on bs [] g = g
    on bs (w ∷ ws) g = on (More bs here w) ws tt

abbrev SayAll : Arguments → Type 0
SayAll es = ((d : ℕ) → FitAll false d (written_all (trees es))) × (trees (written_all (trees es)) ≡ trees (all_placed es))

abbrev SaysSame : Written → Type 0
SaysSame v = (l : ℕ) → Says l (expr_written (tree_of v) l) v

lone_says : (p : Place) (c : Constant) (l : ℕ) → Says l (expr_written (expr p (constant c)) l) (Lone p c)
lone_says p N.True l = rw (written_is p (E.Truth true) (K.Truth true) l (K.rolls-Truth true)) ((λ d. refl), refl)
lone_says p N.False l = rw (written_is p (E.Truth false) (K.Truth false) l (K.rolls-Truth false)) ((λ d. refl), refl)
lone_says p N.Undefined l = rw (written_is p E.Undefined K.Undefined l K.rolls-Undefined) ((λ d. refl), refl)
lone_says p N.Own l = rw (written_is p E.Own K.Own l K.rolls-Own) ((λ d. refl), refl)
lone_says p N.Module l = rw (written_is p E.Module K.Module l K.rolls-Module) ((λ d. refl), refl)

mutual
  pub says : (v : Written) (m d : ℕ) → Fits false m d v → SaysSame v
  says (Number p n) m d f l = rw (written_is p (E.Number n) (K.Number n) l (K.rolls-Number n)) ((λ d. refl), refl)
  says (Words p s) m d f l = rw (written_is p (E.Words s) (K.Words s) l (K.rolls-Words s)) ((λ d. refl), refl)
  says (Lone p c) m d f l = lone_says p c l
  says (Literal p n) m d f l = rw (written_is p (E.Literal n.text) (K.Literal n.text) l (K.rolls-Literal n.text)) ((λ d. refl), refl)
  says (Variable n) m d f l = rw (written_is n.place (E.Var n.text) (K.Var n.text) l (K.rolls-Var n.text)) ((λ d. refl), refl)
  says (OfClass x p c) m d f l = rw (written_is x.place (E.Class (class x c.text)) (K.Class (class x c.text)) l (K.rolls-Class (class x c.text))) ((λ d. refl), refl)
  says (OfBasic p w) m d f l = rw (written_is p (E.Basic w) (K.Basic w) l (K.rolls-Basic w)) ((λ d. refl), refl)
  says (Elements p w q es r) m d f l =
      let h = all_say es (suc d) f.1 in
      rw (written_is p (E.Coll w (trees es)) (K.Coll w (trees es)) l (K.rolls-Coll w (trees es))) ((λ k. (refl, h.0 (suc k))), ap (λ u. collection w here u) h.1)
  says (If p c q a r e s) m d f l =
      let x = says c 0 (suc d) f.1 0 in
      let y = says a 0 (suc d) f.2 0 in
      let z = says e 0 (suc d) f.3 0 in
      rw (written_is p (E.If (tree_of c) (tree_of a) (tree_of e)) (K.If (tree_of c) (tree_of a) (tree_of e)) l (K.rolls-If (tree_of c) (tree_of a) (tree_of e))) (
        (λ k. (refl, x.0 (suc k), y.0 (suc k), z.0 (suc k))),
        ap (λ u. choice here u (tree_of (alone (tree_of a))) (tree_of (alone (tree_of e)))) x.1 ∙ ap (λ u. choice here (tree_of (placed c)) u (tree_of (alone (tree_of e)))) y.1 ∙ ap (λ u. choice here (tree_of (placed c)) (tree_of (placed a)) u) z.1,
      )
  says (Round p w q) m d f l = says w 0 (suc d) f.1 l
  says (Let p n q k r e s w) m d f l =
      let x = says e 0 (suc d) f.2 0 in
      let y = says w 0 (suc d) f.3 0 in
      rw (written_is p (E.Let n (kind_of k) (tree_of e) (tree_of w)) (K.Let n (kind_of k) (tree_of e) (tree_of w)) l (K.rolls-Let n (kind_of k) (tree_of e) (tree_of w)))
      (round_says (nat_lt 0 l) l 0 (Let here (name_here n) here (kind_written (kind_of k)) here (alone (tree_of e)) here (alone (tree_of w))) (Let p n q k r e s w) refl
      (λ j le. (
        (λ i. (omega (arith, le), refl, x.0 (suc i), y.0 (suc i))),
        ap (λ u. within here (name_here n) (kind_of u) (tree_of (alone (tree_of e))) (tree_of (alone (tree_of w)))) (kind_says k)
            ∙ ap (λ u. within here (name_here n) (kind_of (placed_kind k)) u (tree_of (alone (tree_of w)))) x.1 ∙ ap (λ u. within here (name_here n) (kind_of (placed_kind k)) (tree_of (placed e)) u) y.1,
      )))
  says (Unary p o w) m d f l =
      let x = says w 5 (suc d) f.2 5 in
      rw (written_is p (E.Unary o (tree_of w)) (K.Unary o (tree_of w)) l (K.rolls-Unary o (tree_of w)))
      (round_says (nat_lt 5 l) l 5 (Unary here o (expr_written (tree_of w) 5)) (Unary p o w) refl (λ j le. ((λ i. (le, refl, x.0 (suc i))), ap (λ u. unary here o u) x.1)))
  says (Binary a p o w) m d f l =
      let x = says a (level o) d f.1 (level o) in
      let y = says w (suc (level o)) d f.2 (suc (level o)) in
      rw (written_is p (E.Binary o (tree_of a) (tree_of w)) (K.Binary o (tree_of a) (tree_of w)) l (K.rolls-Binary o (tree_of a) (tree_of w)))
      (round_says (nat_lt (level o) l) l (level o) (Binary (expr_written (tree_of a) (level o)) here o (expr_written (tree_of w) (suc (level o)))) (Binary a p o w) refl
      (λ j le. ((λ i. (le, x.0 i, y.0 i)), ap (λ u. binary u here o (tree_of (expr_written (tree_of w) (suc (level o))))) x.1 ∙ ap (λ u. binary (tree_of (placed a)) here o u) y.1)))
  says (Read a p n) m d f l =
      let x = says a 6 d f 6 in
      rw (written_is n.place (E.Read (tree_of a) n.text) (K.Read (tree_of a) n.text) l (K.rolls-Read (tree_of a) n.text)) (x.0, ap (λ u. feature u (name_here n)) x.1)
  says (Call a arrow p n q es r) m d f l =
      let x = says a 6 d f.0 6 in
      let h = all_say es (suc d) f.1 in
      rw (written_is n.place (E.Call (tree_of a) arrow n.text (trees es)) (K.Call (tree_of a) arrow n.text (trees es)) l (K.rolls-Call (tree_of a) arrow n.text (trees es)))
      ((λ k. (x.0 k, h.0 (suc k))), ap (λ u. call (callee u arrow (name_here n)) (trees (written_all (trees es)))) x.1 ∙ ap (λ u. call (callee (tree_of (placed a)) arrow (name_here n)) u) h.1)
  says (Loop a p n q v r e s) m d f l =
      let x = says a 6 d f.1 6 in
      let y = says e 0 (suc d) f.2 0 in
      rw (written_is n.place (E.Loop (tree_of a) n.text v (tree_of e)) (K.Loop (tree_of a) n.text v (tree_of e)) l (K.rolls-Loop (tree_of a) n.text v (tree_of e))) (
        (λ k. (f.0, x.0 k, y.0 (suc k))),
        ap (λ u. iterator (callee u true (name_here n)) (name_here v) (tree_of (alone (tree_of e)))) x.1 ∙ ap (λ u. iterator (callee (tree_of (placed a)) true (name_here n)) (name_here v) u) y.1,
      )
  says (Iterate a p n q v r y s k t i u e z) m d f l =
      let x = says a 6 d f.1 6 in
      let g = says i 0 (suc d) f.2 0 in
      let h = says e 0 (suc d) f.3 0 in
      rw (written_is n.place (E.Iterate (tree_of a) v y (kind_of k) (tree_of i) (tree_of e)) (K.Iterate (tree_of a) v y (kind_of k) (tree_of i) (tree_of e)) l (K.rolls-Iterate (tree_of a) v y (kind_of k) (tree_of i) (tree_of e))) (
        (λ j. (refl, x.0 j, g.0 (suc j), h.0 (suc j))),
        ap (λ w. iterate (callee w true (name here (codes "iterate"))) (name_here v) (name_here y) (kind_of (kind_written (kind_of k))) (tree_of (alone (tree_of i))) (tree_of (alone (tree_of e)))) x.1
            ∙ ap (λ w. iterate (callee (tree_of (placed a)) true (name_here n)) (name_here v) (name_here y) (kind_of w) (tree_of (alone (tree_of i))) (tree_of (alone (tree_of e)))) (kind_says k)
            ∙ ap (λ w. iterate (callee (tree_of (placed a)) true (name_here n)) (name_here v) (name_here y) (kind_of (placed_kind k)) w (tree_of (alone (tree_of e)))) g.1
            ∙ ap (λ w. iterate (callee (tree_of (placed a)) true (name_here n)) (name_here v) (name_here y) (kind_of (placed_kind k)) (tree_of (placed i)) w) h.1,
      )

  all_say : (es : Arguments) (d : ℕ) → FitAll false d es → SayAll es
  all_say None d f = ((λ k. tt), refl)
  all_say (One e) d f = let x = says e 0 d f 0 in (x.0, ap (λ u. u ∷ []) x.1)
  all_say (More es p e) d f =
      let h = all_say es d f.1 in
      let x = says e 0 d f.2 0 in
      let i = some_trees es f.0 in
      rw (written_last (trees es) (tree_of e) i)
      ((λ k. (some_written (trees es) i, h.0 k, x.0 k)), ap (λ u. u ++ (tree_of (alone (tree_of e)) ∷ [])) h.1 ∙ ap (λ u. trees (all_placed es) ++ (u ∷ [])) x.1)
