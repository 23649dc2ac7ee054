-- What is canonically written for an expression stands no deeper than the expression.
use Rattle.std.proofs.Common.{◌≡◌, ℕ, suc, ◌≤◌, refl, sym, ◌∙◌, arith}
use Rattle.std.specs.Prelude.{Bool, true, false, codes, nat_lt, if◌then◌else◌}
use Rattle.std.proofs.lemmas.Bool.Decides.{nat_tests}
use Rattle.atl_base.specs.declared.place.Place.{Place}
use Rattle.atl_tree.specs.declared.expr.BinaryOp.{BinaryOp}
use Rattle.atl_tree.specs.declared.expr.ExprKind.TheOpen as E
use Rattle.atl_tree.specs.declared.expr.ExprKind.TheVariants as K
use Rattle.ocl_parse.specs.declared.sign.Constant.{Constant}
use Rattle.ocl_parse.specs.declared.sign.Constant.TheVariants as N
use Rattle.ocl_parse.specs.Depth.{is_shallow}
use Rattle.ocl_parse.specs.Trees.{expr, name, class, level, constant}
use Rattle.ocl_parse.specs.Grammar.{Written, Number, Words, Lone, Literal, Variable, OfClass, OfBasic, Elements, If, Round, Let, Unary, Binary, Read, Call, Loop, Iterate, Arguments, None, One, More, spelt, kind_of, tree_of, trees, Fits, FitAll}
use Rattle.module_grammar.specs.Grammar.{begins_if, Whole}
use Rattle.module_print.specs.Pending.{begins_open}
use Rattle.module_print.specs.Writing.{here, kind_written, round_where, expr_written, whole_written, round_leftmost, beginning}
use Rattle.module_laws.proofs.Says.{written_is, written_all, written_last, some_trees, some_written}
use Rattle.module_print.proofs.Heads.{round_begins, unary_begins, unary_opens, choice_begins, opens-Binary, begins-Binary, opens-Read, begins-Read, opens-Call, begins-Call, opens-Loop, begins-Loop, opens-Iterate, begins-Iterate}

less_deep : (d : ℕ) → is_shallow true (suc d) ≡ true → is_shallow true d ≡ true
less_deep d h = grind (arith, nat_tests)

-- what may stand so deep may stand less deep
mutual
  less : (v : Written) (l d : ℕ) → Fits true l (suc d) v → Fits true l d v
  less (Number p n) l d f = less_deep d f
  less (Words p s) l d f = less_deep d f
  less (Literal p n) l d f = less_deep d f
  less (Variable n) l d f = less_deep d f
  less (OfClass c p n) l d f = less_deep d f
  less (OfBasic p w) l d f = less_deep d f
  less (Lone p c) l d f = less_deep d f
  less (Elements p w q es r) l d f = (less_deep d f.0, less_all es (suc d) f.1)
  less (If p c q a r e s) l d f = (less_deep d f.0, less c 0 (suc d) f.1, less a 0 (suc d) f.2, less e 0 (suc d) f.3)
  less (Round p w q) l d f = (less_deep d f.0, less w 0 (suc d) f.1)
  less (Let p n q k r e s w) l d f = (f.0, less_deep d f.1, less e 0 (suc d) f.2, less w 0 (suc d) f.3)
  less (Unary p o w) l d f = (f.0, less_deep d f.1, less w 5 (suc d) f.2)
  less (Binary a p o w) l d f = (f.0, less a (level o) d f.1, less w (suc (level o)) d f.2)
  less (Read a p n) l d f = less a 6 d f
  less (Call a arrow p n q es r) l d f = (less a 6 d f.0, less_all es (suc d) f.1)
  less (Loop a p n q x r e s) l d f = (f.0, less a 6 d f.1, less e 0 (suc d) f.2)
  less (Iterate a p n q x r y s k t i u e v) l d f = (f.0, less a 6 d f.1, less i 0 (suc d) f.2, less e 0 (suc d) f.3)

  less_all : (es : Arguments) (d : ℕ) → FitAll true (suc d) es → FitAll true d es
  less_all None d f = tt
  less_all (One e) d f = less e 0 d f
  less_all (More es p e) d f = (f.0, less_all es d f.1, less e 0 d f.2)

-- an expression begins as deep as it stands
begun : (v : Written) (l d : ℕ) → Fits true l d v → is_shallow true d ≡ true
begun (Number p n) l d f = f
begun (Words p s) l d f = f
begun (Literal p n) l d f = f
begun (Variable n) l d f = f
begun (OfClass c p n) l d f = f
begun (OfBasic p w) l d f = f
begun (Lone p c) l d f = f
begun (Elements p w q es r) l d f = f.0
begun (If p c q a r e s) l d f = f.0
begun (Round p w q) l d f = f.0
begun (Let p n q k r e s w) l d f = f.1
begun (Unary p o w) l d f = f.1
begun (Binary a p o w) l d f = begun a (level o) d f.1
begun (Read a p n) l d f = begun a 6 d f
begun (Call a arrow p n q es r) l d f = begun a 6 d f.0
begun (Loop a p n q x r e s) l d f = begun a 6 d f.1
begun (Iterate a p n q x r y s k t i u e v) l d f = begun a 6 d f.1

rounded : (t : Bool) (m l d : ℕ) (u : Written) → nat_lt m l ≡ t → ((k : ℕ) → k ≤ m → Fits true k (suc d) u) → Fits true l d (round_where t u)
rounded true m l d u h f = let x = f 0 (omega arith) in (less_deep d (begun u 0 (suc d) x), x)
rounded false m l d u h f = less u l d (f l (grind (arith, nat_tests)))

unrounded : (t : Bool) (m l d : ℕ) (u : Written) → nat_lt m l ≡ t → l ≤ m → Fits true l d u → Fits true l d (round_where t u)
unrounded true m l d u h le f = absurd (grind (arith, nat_tests))
unrounded false m l d u h le f = f

lone_shallow : (p : Place) (c : Constant) (l d : ℕ) → is_shallow true d ≡ true → Fits true l d (expr_written (expr p (constant c)) l)
lone_shallow p N.True l d f = rw (written_is p (E.Truth true) (K.Truth true) l (K.rolls-Truth true)) f
lone_shallow p N.False l d f = rw (written_is p (E.Truth false) (K.Truth false) l (K.rolls-Truth false)) f
lone_shallow p N.Undefined l d f = rw (written_is p E.Undefined K.Undefined l K.rolls-Undefined) f
lone_shallow p N.Own l d f = rw (written_is p E.Own K.Own l K.rolls-Own) f
lone_shallow p N.Module l d f = rw (written_is p E.Module K.Module l K.rolls-Module) f

-- what is canonically written stands where the expression does, and with parentheses where that may stand deeper by one
mutual
  shallow : (v : Written) (m d l : ℕ) → l ≤ m → Fits true m d v → Fits true l d (expr_written (tree_of v) l)
  shallow (Number p n) m d l le f = rw (written_is p (E.Number n) (K.Number n) l (K.rolls-Number n)) f
  shallow (Words p s) m d l le f = rw (written_is p (E.Words s) (K.Words s) l (K.rolls-Words s)) f
  shallow (Literal p n) m d l le f = rw (written_is p (E.Literal n.text) (K.Literal n.text) l (K.rolls-Literal n.text)) f
  shallow (Variable n) m d l le f = rw (written_is n.place (E.Var n.text) (K.Var n.text) l (K.rolls-Var n.text)) f
  shallow (OfClass c p n) m d l le f = rw (written_is c.place (E.Class (class c n.text)) (K.Class (class c n.text)) l (K.rolls-Class (class c n.text))) f
  shallow (OfBasic p w) m d l le f = rw (written_is p (E.Basic w) (K.Basic w) l (K.rolls-Basic w)) f
  shallow (Lone p c) m d l le f = lone_shallow p c l d f
  shallow (Elements p w q es r) m d l le f = rw (written_is p (E.Coll w (trees es)) (K.Coll w (trees es)) l (K.rolls-Coll w (trees es))) (f.0, shallow_all es (suc d) f.1)
  shallow (If p c q a r e s) m d l le f = rw (written_is p (E.If (tree_of c) (tree_of a) (tree_of e)) (K.If (tree_of c) (tree_of a) (tree_of e)) l (K.rolls-If (tree_of c) (tree_of a) (tree_of e))) (f.0, shallow c 0 (suc d) 0 (omega arith) f.1, shallow a 0 (suc d) 0 (omega arith) f.2, shallow e 0 (suc d) 0 (omega arith) f.3)
  shallow (Read a p n) m d l le f = rw (written_is n.place (E.Read (tree_of a) n.text) (K.Read (tree_of a) n.text) l (K.rolls-Read (tree_of a) n.text)) (shallow a 6 d 6 (omega arith) f)
  shallow (Call a arrow p n q es r) m d l le f = rw (written_is n.place (E.Call (tree_of a) arrow n.text (trees es)) (K.Call (tree_of a) arrow n.text (trees es)) l (K.rolls-Call (tree_of a) arrow n.text (trees es))) (shallow a 6 d 6 (omega arith) f.0, shallow_all es (suc d) f.1)
  shallow (Loop a p n q x r e s) m d l le f = rw (written_is n.place (E.Loop (tree_of a) n.text x (tree_of e)) (K.Loop (tree_of a) n.text x (tree_of e)) l (K.rolls-Loop (tree_of a) n.text x (tree_of e))) (f.0, shallow a 6 d 6 (omega arith) f.1, shallow e 0 (suc d) 0 (omega arith) f.2)
  shallow (Iterate a p n q x r y s k t i u e v) m d l le f = rw (written_is n.place (E.Iterate (tree_of a) x y (kind_of k) (tree_of i) (tree_of e)) (K.Iterate (tree_of a) x y (kind_of k) (tree_of i) (tree_of e)) l (K.rolls-Iterate (tree_of a) x y (kind_of k) (tree_of i) (tree_of e))) (refl, shallow a 6 d 6 (omega arith) f.1, shallow i 0 (suc d) 0 (omega arith) f.2, shallow e 0 (suc d) 0 (omega arith) f.3)
  shallow (Round p w q) m d l le f = spare w 0 d l f.1
  shallow (Let p n q k r e s w) m d l le f = rw (written_is p (E.Let n (kind_of k) (tree_of e) (tree_of w)) (K.Let n (kind_of k) (tree_of e) (tree_of w)) l (K.rolls-Let n (kind_of k) (tree_of e) (tree_of w))) (unrounded (nat_lt 0 l) 0 l d (Let here (name here n.text) here (kind_written (kind_of k)) here (expr_written (tree_of e) 0) here (expr_written (tree_of w) 0)) refl (omega (arith, le, f.0)) (omega (arith, le, f.0), f.1, shallow e 0 (suc d) 0 (omega arith) f.2, shallow w 0 (suc d) 0 (omega arith) f.3))
  shallow (Unary p o w) m d l le f = rw (written_is p (E.Unary o (tree_of w)) (K.Unary o (tree_of w)) l (K.rolls-Unary o (tree_of w))) (unrounded (nat_lt 5 l) 5 l d (Unary here o (expr_written (tree_of w) 5)) refl (omega (arith, le, f.0)) (omega (arith, le, f.0), f.1, shallow w 5 (suc d) 5 (omega arith) f.2))
  shallow (Binary a p o w) m d l le f = rw (written_is p (E.Binary o (tree_of a) (tree_of w)) (K.Binary o (tree_of a) (tree_of w)) l (K.rolls-Binary o (tree_of a) (tree_of w))) (unrounded (nat_lt (level o) l) (level o) l d (Binary (expr_written (tree_of a) (level o)) here o (expr_written (tree_of w) (suc (level o)))) refl (omega (arith, le, f.0)) (omega (arith, le, f.0), shallow a (level o) d (level o) (omega arith) f.1, shallow w (suc (level o)) d (suc (level o)) (omega arith) f.2))

  spare : (v : Written) (m d l : ℕ) → Fits true m (suc d) v → Fits true l d (expr_written (tree_of v) l)
  spare (Number p n) m d l f = rw (written_is p (E.Number n) (K.Number n) l (K.rolls-Number n)) (less_deep d f)
  spare (Words p s) m d l f = rw (written_is p (E.Words s) (K.Words s) l (K.rolls-Words s)) (less_deep d f)
  spare (Literal p n) m d l f = rw (written_is p (E.Literal n.text) (K.Literal n.text) l (K.rolls-Literal n.text)) (less_deep d f)
  spare (Variable n) m d l f = rw (written_is n.place (E.Var n.text) (K.Var n.text) l (K.rolls-Var n.text)) (less_deep d f)
  spare (OfClass c p n) m d l f = rw (written_is c.place (E.Class (class c n.text)) (K.Class (class c n.text)) l (K.rolls-Class (class c n.text))) (less_deep d f)
  spare (OfBasic p w) m d l f = rw (written_is p (E.Basic w) (K.Basic w) l (K.rolls-Basic w)) (less_deep d f)
  spare (Lone p c) m d l f = lone_shallow p c l d (less_deep d f)
  spare (Elements p w q es r) m d l f = rw (written_is p (E.Coll w (trees es)) (K.Coll w (trees es)) l (K.rolls-Coll w (trees es))) (less (Elements here w here (written_all (trees es)) here) l d (f.0, shallow_all es (suc (suc d)) f.1))
  spare (If p c q a r e s) m d l f = rw (written_is p (E.If (tree_of c) (tree_of a) (tree_of e)) (K.If (tree_of c) (tree_of a) (tree_of e)) l (K.rolls-If (tree_of c) (tree_of a) (tree_of e))) (less (If here (expr_written (tree_of c) 0) here (expr_written (tree_of a) 0) here (expr_written (tree_of e) 0) here) l d (f.0, shallow c 0 (suc (suc d)) 0 (omega arith) f.1, shallow a 0 (suc (suc d)) 0 (omega arith) f.2, shallow e 0 (suc (suc d)) 0 (omega arith) f.3))
  spare (Read a p n) m d l f = rw (written_is n.place (E.Read (tree_of a) n.text) (K.Read (tree_of a) n.text) l (K.rolls-Read (tree_of a) n.text)) (less (Read (expr_written (tree_of a) 6) here (name here n.text)) l d (shallow a 6 (suc d) 6 (omega arith) f))
  spare (Call a arrow p n q es r) m d l f = rw (written_is n.place (E.Call (tree_of a) arrow n.text (trees es)) (K.Call (tree_of a) arrow n.text (trees es)) l (K.rolls-Call (tree_of a) arrow n.text (trees es))) (less (Call (expr_written (tree_of a) 6) arrow here (name here n.text) here (written_all (trees es)) here) l d (shallow a 6 (suc d) 6 (omega arith) f.0, shallow_all es (suc (suc d)) f.1))
  spare (Loop a p n q x r e s) m d l f = rw (written_is n.place (E.Loop (tree_of a) n.text x (tree_of e)) (K.Loop (tree_of a) n.text x (tree_of e)) l (K.rolls-Loop (tree_of a) n.text x (tree_of e))) (less (Loop (expr_written (tree_of a) 6) here (name here n.text) here (name here x.text) here (expr_written (tree_of e) 0) here) l d (f.0, shallow a 6 (suc d) 6 (omega arith) f.1, shallow e 0 (suc (suc d)) 0 (omega arith) f.2))
  spare (Iterate a p n q x r y s k t i u e v) m d l f = rw (written_is n.place (E.Iterate (tree_of a) x y (kind_of k) (tree_of i) (tree_of e)) (K.Iterate (tree_of a) x y (kind_of k) (tree_of i) (tree_of e)) l (K.rolls-Iterate (tree_of a) x y (kind_of k) (tree_of i) (tree_of e))) (less (Iterate (expr_written (tree_of a) 6) here (name here (codes "iterate")) here (name here x.text) here (name here y.text) here (kind_written (kind_of k)) here (expr_written (tree_of i) 0) here (expr_written (tree_of e) 0) here) l d (refl, shallow a 6 (suc d) 6 (omega arith) f.1, shallow i 0 (suc (suc d)) 0 (omega arith) f.2, shallow e 0 (suc (suc d)) 0 (omega arith) f.3))
  spare (Round p w q) m d l f = less (expr_written (tree_of w) l) l d (spare w 0 (suc d) l f.1)
  spare (Let p n q k r e s w) m d l f = rw (written_is p (E.Let n (kind_of k) (tree_of e) (tree_of w)) (K.Let n (kind_of k) (tree_of e) (tree_of w)) l (K.rolls-Let n (kind_of k) (tree_of e) (tree_of w))) (rounded (nat_lt 0 l) 0 l d (Let here (name here n.text) here (kind_written (kind_of k)) here (expr_written (tree_of e) 0) here (expr_written (tree_of w) 0)) refl (λ j le. (omega (arith, le), f.1, shallow e 0 (suc (suc d)) 0 (omega arith) f.2, shallow w 0 (suc (suc d)) 0 (omega arith) f.3)))
  spare (Unary p o w) m d l f = rw (written_is p (E.Unary o (tree_of w)) (K.Unary o (tree_of w)) l (K.rolls-Unary o (tree_of w))) (rounded (nat_lt 5 l) 5 l d (Unary here o (expr_written (tree_of w) 5)) refl (λ j le. (le, f.1, shallow w 5 (suc (suc d)) 5 (omega arith) f.2)))
  spare (Binary a p o w) m d l f = rw (written_is p (E.Binary o (tree_of a) (tree_of w)) (K.Binary o (tree_of a) (tree_of w)) l (K.rolls-Binary o (tree_of a) (tree_of w))) (rounded (nat_lt (level o) l) (level o) l d (Binary (expr_written (tree_of a) (level o)) here o (expr_written (tree_of w) (suc (level o)))) refl (λ j le. (le, shallow a (level o) (suc d) (level o) (omega arith) f.1, shallow w (suc (level o)) (suc d) (suc (level o)) (omega arith) f.2)))

  shallow_all : (es : Arguments) (d : ℕ) → FitAll true d es → FitAll true d (written_all (trees es))
  shallow_all None d f = tt
  shallow_all (One e) d f = shallow e 0 d 0 (omega arith) f
  shallow_all (More es p e) d f =
      let i = some_trees es f.0 in
      rw (written_last (trees es) (tree_of e) i) (some_written (trees es) i, shallow_all es d f.1, shallow e 0 d 0 (omega arith) f.2)

-- where an expression stands without parentheses at its head, so does what is canonically written
no_opening : (t : Bool) (m l : ℕ) (u : Written) → nat_lt m l ≡ t → l ≤ m → begins_open (spelt u) ≡ false → begins_open (spelt (round_where t u)) ≡ false
no_opening true m l u h le f = absurd (grind (arith, nat_tests))
no_opening false m l u h le f = f

lone_opens : (p : Place) (c : Constant) (l : ℕ) → begins_open (spelt (expr_written (expr p (constant c)) l)) ≡ false
lone_opens p N.True l = rw (written_is p (E.Truth true) (K.Truth true) l (K.rolls-Truth true)) refl
lone_opens p N.False l = rw (written_is p (E.Truth false) (K.Truth false) l (K.rolls-Truth false)) refl
lone_opens p N.Undefined l = rw (written_is p E.Undefined K.Undefined l K.rolls-Undefined) refl
lone_opens p N.Own l = rw (written_is p E.Own K.Own l K.rolls-Own) refl
lone_opens p N.Module l = rw (written_is p E.Module K.Module l K.rolls-Module) refl

opens : (v : Written) (m d l : ℕ) → l ≤ m → Fits true m d v → begins_open (spelt v) ≡ false → begins_open (spelt (expr_written (tree_of v) l)) ≡ false
opens (Number p n) m d l le f h = rw (written_is p (E.Number n) (K.Number n) l (K.rolls-Number n)) refl
opens (Words p s) m d l le f h = rw (written_is p (E.Words s) (K.Words s) l (K.rolls-Words s)) refl
opens (Literal p n) m d l le f h = rw (written_is p (E.Literal n.text) (K.Literal n.text) l (K.rolls-Literal n.text)) refl
opens (Variable n) m d l le f h = rw (written_is n.place (E.Var n.text) (K.Var n.text) l (K.rolls-Var n.text)) refl
opens (OfClass c p n) m d l le f h = rw (written_is c.place (E.Class (class c n.text)) (K.Class (class c n.text)) l (K.rolls-Class (class c n.text))) refl
opens (OfBasic p w) m d l le f h = rw (written_is p (E.Basic w) (K.Basic w) l (K.rolls-Basic w)) refl
opens (Lone p c) m d l le f h = lone_opens p c l
opens (Elements p w q es r) m d l le f h = rw (written_is p (E.Coll w (trees es)) (K.Coll w (trees es)) l (K.rolls-Coll w (trees es))) refl
opens (If p c q a r e s) m d l le f h = rw (written_is p (E.If (tree_of c) (tree_of a) (tree_of e)) (K.If (tree_of c) (tree_of a) (tree_of e)) l (K.rolls-If (tree_of c) (tree_of a) (tree_of e))) refl
opens (Round p w q) m d l le f h = absurd cc
opens (Let p n q k r e s w) m d l le f h = rw (written_is p (E.Let n (kind_of k) (tree_of e) (tree_of w)) (K.Let n (kind_of k) (tree_of e) (tree_of w)) l (K.rolls-Let n (kind_of k) (tree_of e) (tree_of w))) (no_opening (nat_lt 0 l) 0 l (Let here (name here n.text) here (kind_written (kind_of k)) here (expr_written (tree_of e) 0) here (expr_written (tree_of w) 0)) refl (omega (arith, le, f.0)) refl)
opens (Unary p o w) m d l le f h = rw (written_is p (E.Unary o (tree_of w)) (K.Unary o (tree_of w)) l (K.rolls-Unary o (tree_of w))) (no_opening (nat_lt 5 l) 5 l (Unary here o (expr_written (tree_of w) 5)) refl (omega (arith, le, f.0)) (unary_opens here o (spelt (expr_written (tree_of w) 5))))
opens (Binary a p o w) m d l le f h = rw (written_is p (E.Binary o (tree_of a) (tree_of w)) (K.Binary o (tree_of a) (tree_of w)) l (K.rolls-Binary o (tree_of a) (tree_of w))) (no_opening (nat_lt (level o) l) (level o) l (Binary (expr_written (tree_of a) (level o)) here o (expr_written (tree_of w) (suc (level o)))) refl (omega (arith, le, f.0)) (opens-Binary (expr_written (tree_of a) (level o)) (expr_written (tree_of w) (suc (level o))) here o ∙ opens a (level o) d (level o) (omega arith) f.1 (sym (opens-Binary a w p o) ∙ h)))
opens (Read a p n) m d l le f h = rw (written_is n.place (E.Read (tree_of a) n.text) (K.Read (tree_of a) n.text) l (K.rolls-Read (tree_of a) n.text)) (opens-Read (expr_written (tree_of a) 6) here (name here n.text) ∙ opens a 6 d 6 (omega arith) f (sym (opens-Read a p n) ∙ h))
opens (Call a arrow p n q es r) m d l le f h = rw (written_is n.place (E.Call (tree_of a) arrow n.text (trees es)) (K.Call (tree_of a) arrow n.text (trees es)) l (K.rolls-Call (tree_of a) arrow n.text (trees es))) (opens-Call (expr_written (tree_of a) 6) arrow here (name here n.text) here (written_all (trees es)) here ∙ opens a 6 d 6 (omega arith) f.0 (sym (opens-Call a arrow p n q es r) ∙ h))
opens (Loop a p n q x r e s) m d l le f h = rw (written_is n.place (E.Loop (tree_of a) n.text x (tree_of e)) (K.Loop (tree_of a) n.text x (tree_of e)) l (K.rolls-Loop (tree_of a) n.text x (tree_of e))) (opens-Loop (expr_written (tree_of a) 6) here (name here n.text) here (name here x.text) here (expr_written (tree_of e) 0) here ∙ opens a 6 d 6 (omega arith) f.1 (sym (opens-Loop a p n q x r e s) ∙ h))
opens (Iterate a p n q x r y s k t i u e v) m d l le f h = rw (written_is n.place (E.Iterate (tree_of a) x y (kind_of k) (tree_of i) (tree_of e)) (K.Iterate (tree_of a) x y (kind_of k) (tree_of i) (tree_of e)) l (K.rolls-Iterate (tree_of a) x y (kind_of k) (tree_of i) (tree_of e))) (opens-Iterate (expr_written (tree_of a) 6) here (name here (codes "iterate")) here (name here x.text) here (name here y.text) here (kind_written (kind_of k)) here (expr_written (tree_of i) 0) here (expr_written (tree_of e) 0) here ∙ opens a 6 d 6 (omega arith) f.1 (sym (opens-Iterate a p n q x r y s k t i u e v) ∙ h))

-- and with its leftmost expression in parentheses, where all may stand deeper by one
no_if : (u : Written) (l d : ℕ) → begins_if (spelt u) ≡ false → begins_if (spelt u) ≡ true → Fits true l d (round_leftmost u)
no_if u l d h k = absurd cc

round_no_if : (t : Bool) (u : Written) → begins_if (spelt u) ≡ false → begins_if (spelt (round_where t u)) ≡ false
round_no_if true u h = round_begins here here u
round_no_if false u h = h

lone_begins : (p : Place) (c : Constant) (l : ℕ) → begins_if (spelt (expr_written (expr p (constant c)) l)) ≡ false
lone_begins p N.True l = rw (written_is p (E.Truth true) (K.Truth true) l (K.rolls-Truth true)) refl
lone_begins p N.False l = rw (written_is p (E.Truth false) (K.Truth false) l (K.rolls-Truth false)) refl
lone_begins p N.Undefined l = rw (written_is p E.Undefined K.Undefined l K.rolls-Undefined) refl
lone_begins p N.Own l = rw (written_is p E.Own K.Own l K.rolls-Own) refl
lone_begins p N.Module l = rw (written_is p E.Module K.Module l K.rolls-Module) refl

-- which a whole in parentheses has not to its left
left_binary : (t : Bool) (a w : Written) (o : BinaryOp) (l d : ℕ) → nat_lt (level o) l ≡ t → begins_if (spelt (round_where t (Binary a here o w))) ≡ true
    → (begins_if (spelt a) ≡ true → Fits true (level o) d (round_leftmost a)) → Fits true (suc (level o)) d w → Fits true l d (round_leftmost (round_where t (Binary a here o w)))
left_binary true a w o l d h k f g = absurd (let no : begins_if (spelt (Round here (Binary a here o w) here)) ≡ false = round_begins here here (Binary a here o w) in cc)
left_binary false a w o l d h k f g = (grind (arith, nat_tests), f (sym (begins-Binary a w here o) ∙ k), g)

-- what a hypothesis on an equal expression gives
abbrev Left : ℕ → ℕ → Written → Type 0
Left l d u = begins_if (spelt u) ≡ true → Fits true l d (round_leftmost u)

spare_left : (v : Written) (m d l : ℕ) → Fits true m (suc d) v → Left l d (expr_written (tree_of v) l)
spare_left (Number p n) m d l f = rw (written_is p (E.Number n) (K.Number n) l (K.rolls-Number n)) (λ h. absurd cc)
spare_left (Words p s) m d l f = rw (written_is p (E.Words s) (K.Words s) l (K.rolls-Words s)) (λ h. absurd cc)
spare_left (Literal p n) m d l f = rw (written_is p (E.Literal n.text) (K.Literal n.text) l (K.rolls-Literal n.text)) (λ h. absurd cc)
spare_left (Variable n) m d l f = rw (written_is n.place (E.Var n.text) (K.Var n.text) l (K.rolls-Var n.text)) (λ h. absurd cc)
spare_left (OfClass c p n) m d l f = rw (written_is c.place (E.Class (class c n.text)) (K.Class (class c n.text)) l (K.rolls-Class (class c n.text))) (λ h. absurd cc)
spare_left (OfBasic p w) m d l f = rw (written_is p (E.Basic w) (K.Basic w) l (K.rolls-Basic w)) (λ h. absurd cc)
spare_left (Lone p c) m d l f = no_if (expr_written (expr p (constant c)) l) l d (lone_begins p c l)
spare_left (Elements p w q es r) m d l f = rw (written_is p (E.Coll w (trees es)) (K.Coll w (trees es)) l (K.rolls-Coll w (trees es))) (λ h. absurd cc)
spare_left (If p c q a r e s) m d l f = rw (written_is p (E.If (tree_of c) (tree_of a) (tree_of e)) (K.If (tree_of c) (tree_of a) (tree_of e)) l (K.rolls-If (tree_of c) (tree_of a) (tree_of e))) (λ h. (less_deep d f.0, (f.0, shallow c 0 (suc (suc d)) 0 (omega arith) f.1, shallow a 0 (suc (suc d)) 0 (omega arith) f.2, shallow e 0 (suc (suc d)) 0 (omega arith) f.3)))
spare_left (Round p w q) m d l f = λ h. less (round_leftmost (expr_written (tree_of w) l)) l d (spare_left w 0 (suc d) l f.1 h)
spare_left (Let p n q k r e s w) m d l f = rw (written_is p (E.Let n (kind_of k) (tree_of e) (tree_of w)) (K.Let n (kind_of k) (tree_of e) (tree_of w)) l (K.rolls-Let n (kind_of k) (tree_of e) (tree_of w))) (no_if (round_where (nat_lt 0 l) (Let here (name here n.text) here (kind_written (kind_of k)) here (expr_written (tree_of e) 0) here (expr_written (tree_of w) 0))) l d (round_no_if (nat_lt 0 l) (Let here (name here n.text) here (kind_written (kind_of k)) here (expr_written (tree_of e) 0) here (expr_written (tree_of w) 0)) refl))
spare_left (Unary p o w) m d l f = rw (written_is p (E.Unary o (tree_of w)) (K.Unary o (tree_of w)) l (K.rolls-Unary o (tree_of w))) (no_if (round_where (nat_lt 5 l) (Unary here o (expr_written (tree_of w) 5))) l d (round_no_if (nat_lt 5 l) (Unary here o (expr_written (tree_of w) 5)) (unary_begins here o (spelt (expr_written (tree_of w) 5)))))
spare_left (Binary a p o w) m d l f = rw (written_is p (E.Binary o (tree_of a) (tree_of w)) (K.Binary o (tree_of a) (tree_of w)) l (K.rolls-Binary o (tree_of a) (tree_of w))) (λ h. left_binary (nat_lt (level o) l) (expr_written (tree_of a) (level o)) (expr_written (tree_of w) (suc (level o))) o l d refl h (spare_left a (level o) d (level o) f.1) (spare w (suc (level o)) d (suc (level o)) f.2))
spare_left (Read a p n) m d l f = rw (written_is n.place (E.Read (tree_of a) n.text) (K.Read (tree_of a) n.text) l (K.rolls-Read (tree_of a) n.text)) (λ h. spare_left a 6 d 6 f (sym (begins-Read (expr_written (tree_of a) 6) here (name here n.text)) ∙ h))
spare_left (Call a arrow p n q es r) m d l f = rw (written_is n.place (E.Call (tree_of a) arrow n.text (trees es)) (K.Call (tree_of a) arrow n.text (trees es)) l (K.rolls-Call (tree_of a) arrow n.text (trees es))) (λ h. (spare_left a 6 d 6 f.0 (sym (begins-Call (expr_written (tree_of a) 6) arrow here (name here n.text) here (written_all (trees es)) here) ∙ h), less_all (written_all (trees es)) (suc d) (shallow_all es (suc (suc d)) f.1)))
spare_left (Loop a p n q x r e s) m d l f = rw (written_is n.place (E.Loop (tree_of a) n.text x (tree_of e)) (K.Loop (tree_of a) n.text x (tree_of e)) l (K.rolls-Loop (tree_of a) n.text x (tree_of e))) (λ h. (f.0, spare_left a 6 d 6 f.1 (sym (begins-Loop (expr_written (tree_of a) 6) here (name here n.text) here (name here x.text) here (expr_written (tree_of e) 0) here) ∙ h), spare e 0 (suc d) 0 f.2))
spare_left (Iterate a p n q x r y s k t i u e v) m d l f = rw (written_is n.place (E.Iterate (tree_of a) x y (kind_of k) (tree_of i) (tree_of e)) (K.Iterate (tree_of a) x y (kind_of k) (tree_of i) (tree_of e)) l (K.rolls-Iterate (tree_of a) x y (kind_of k) (tree_of i) (tree_of e))) (λ h. (refl, spare_left a 6 d 6 f.1 (sym (begins-Iterate (expr_written (tree_of a) 6) here (name here (codes "iterate")) here (name here x.text) here (name here y.text) here (kind_written (kind_of k)) here (expr_written (tree_of i) 0) here (expr_written (tree_of e) 0) here) ∙ h), spare i 0 (suc d) 0 f.2, spare e 0 (suc d) 0 f.3))

-- where the expression itself does not begin so
left : (v : Written) (m d l : ℕ) → l ≤ m → Fits true m d v → begins_if (spelt v) ≡ false → Left l d (expr_written (tree_of v) l)
left (Number p n) m d l le f b = rw (written_is p (E.Number n) (K.Number n) l (K.rolls-Number n)) (λ h. absurd cc)
left (Words p s) m d l le f b = rw (written_is p (E.Words s) (K.Words s) l (K.rolls-Words s)) (λ h. absurd cc)
left (Literal p n) m d l le f b = rw (written_is p (E.Literal n.text) (K.Literal n.text) l (K.rolls-Literal n.text)) (λ h. absurd cc)
left (Variable n) m d l le f b = rw (written_is n.place (E.Var n.text) (K.Var n.text) l (K.rolls-Var n.text)) (λ h. absurd cc)
left (OfClass c p n) m d l le f b = rw (written_is c.place (E.Class (class c n.text)) (K.Class (class c n.text)) l (K.rolls-Class (class c n.text))) (λ h. absurd cc)
left (OfBasic p w) m d l le f b = rw (written_is p (E.Basic w) (K.Basic w) l (K.rolls-Basic w)) (λ h. absurd cc)
left (Lone p c) m d l le f b = no_if (expr_written (expr p (constant c)) l) l d (lone_begins p c l)
left (Elements p w q es r) m d l le f b = rw (written_is p (E.Coll w (trees es)) (K.Coll w (trees es)) l (K.rolls-Coll w (trees es))) (λ h. absurd cc)
left (If p c q a r e s) m d l le f b = rw (written_is p (E.If (tree_of c) (tree_of a) (tree_of e)) (K.If (tree_of c) (tree_of a) (tree_of e)) l (K.rolls-If (tree_of c) (tree_of a) (tree_of e))) (no_if (If here (expr_written (tree_of c) 0) here (expr_written (tree_of a) 0) here (expr_written (tree_of e) 0) here) l d (choice_begins here here here here (expr_written (tree_of c) 0) (expr_written (tree_of a) 0) (expr_written (tree_of e) 0) ∙ opens c 0 (suc d) 0 (omega arith) f.1 (sym (choice_begins p q r s c a e) ∙ b)))
left (Round p w q) m d l le f b = spare_left w 0 d l f.1
left (Let p n q k r e s w) m d l le f b = rw (written_is p (E.Let n (kind_of k) (tree_of e) (tree_of w)) (K.Let n (kind_of k) (tree_of e) (tree_of w)) l (K.rolls-Let n (kind_of k) (tree_of e) (tree_of w))) (no_if (round_where (nat_lt 0 l) (Let here (name here n.text) here (kind_written (kind_of k)) here (expr_written (tree_of e) 0) here (expr_written (tree_of w) 0))) l d (round_no_if (nat_lt 0 l) (Let here (name here n.text) here (kind_written (kind_of k)) here (expr_written (tree_of e) 0) here (expr_written (tree_of w) 0)) refl))
left (Unary p o w) m d l le f b = rw (written_is p (E.Unary o (tree_of w)) (K.Unary o (tree_of w)) l (K.rolls-Unary o (tree_of w))) (no_if (round_where (nat_lt 5 l) (Unary here o (expr_written (tree_of w) 5))) l d (round_no_if (nat_lt 5 l) (Unary here o (expr_written (tree_of w) 5)) (unary_begins here o (spelt (expr_written (tree_of w) 5)))))
left (Binary a p o w) m d l le f b = rw (written_is p (E.Binary o (tree_of a) (tree_of w)) (K.Binary o (tree_of a) (tree_of w)) l (K.rolls-Binary o (tree_of a) (tree_of w))) (λ h. left_binary (nat_lt (level o) l) (expr_written (tree_of a) (level o)) (expr_written (tree_of w) (suc (level o))) o l d refl h (left a (level o) d (level o) (omega arith) f.1 (sym (begins-Binary a w p o) ∙ b)) (shallow w (suc (level o)) d (suc (level o)) (omega arith) f.2))
left (Read a p n) m d l le f b = rw (written_is n.place (E.Read (tree_of a) n.text) (K.Read (tree_of a) n.text) l (K.rolls-Read (tree_of a) n.text)) (λ h. left a 6 d 6 (omega arith) f (sym (begins-Read a p n) ∙ b) (sym (begins-Read (expr_written (tree_of a) 6) here (name here n.text)) ∙ h))
left (Call a arrow p n q es r) m d l le f b = rw (written_is n.place (E.Call (tree_of a) arrow n.text (trees es)) (K.Call (tree_of a) arrow n.text (trees es)) l (K.rolls-Call (tree_of a) arrow n.text (trees es))) (λ h. (left a 6 d 6 (omega arith) f.0 (sym (begins-Call a arrow p n q es r) ∙ b) (sym (begins-Call (expr_written (tree_of a) 6) arrow here (name here n.text) here (written_all (trees es)) here) ∙ h), shallow_all es (suc d) f.1))
left (Loop a p n q x r e s) m d l le f b = rw (written_is n.place (E.Loop (tree_of a) n.text x (tree_of e)) (K.Loop (tree_of a) n.text x (tree_of e)) l (K.rolls-Loop (tree_of a) n.text x (tree_of e))) (λ h. (f.0, left a 6 d 6 (omega arith) f.1 (sym (begins-Loop a p n q x r e s) ∙ b) (sym (begins-Loop (expr_written (tree_of a) 6) here (name here n.text) here (name here x.text) here (expr_written (tree_of e) 0) here) ∙ h), shallow e 0 (suc d) 0 (omega arith) f.2))
left (Iterate a p n q x r y s k t i u e v) m d l le f b = rw (written_is n.place (E.Iterate (tree_of a) x y (kind_of k) (tree_of i) (tree_of e)) (K.Iterate (tree_of a) x y (kind_of k) (tree_of i) (tree_of e)) l (K.rolls-Iterate (tree_of a) x y (kind_of k) (tree_of i) (tree_of e))) (λ h. (refl, left a 6 d 6 (omega arith) f.1 (sym (begins-Iterate a p n q x r y s k t i u e v) ∙ b) (sym (begins-Iterate (expr_written (tree_of a) 6) here (name here (codes "iterate")) here (name here x.text) here (name here y.text) here (kind_written (kind_of k)) here (expr_written (tree_of i) 0) here (expr_written (tree_of e) 0) here) ∙ h), shallow i 0 (suc d) 0 (omega arith) f.2, shallow e 0 (suc d) 0 (omega arith) f.3))

pub whole_shallow : (e : Written) → Whole true e → Whole true (whole_written (tree_of e))
whole_shallow e f = shallow e 0 0 0 (omega arith) f

pub beginning_shallow : (e : Written) → begins_if (spelt e) ≡ false → Whole true e → Whole true (beginning (whole_written (tree_of e)))
beginning_shallow e b f = on (begins_if (spelt w)) refl
  where
    w : Written
    w = whole_written (tree_of e)

    on : (t : Bool) → begins_if (spelt w) ≡ t → Whole true (if t then round_leftmost w else w)
    on true h = left e 0 0 0 (omega arith) f b h
    on false h = whole_shallow e f
