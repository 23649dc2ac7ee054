-- Each kind of node as it is written canonically, and where it stands in parentheses.
use Rattle.std.proofs.Common.{◌≡◌, ℕ, suc, List, refl, sym, ap, ◌∙◌, true, false, arith}
use Rattle.std.specs.Prelude.{ℤ, Bool, nat_lt, map, codes, if◌then◌else◌}
use Rattle.std.proofs.lemmas.Bool.Decides.{nat_tests}
use Rattle.atl_tree.specs.declared.name.Name.{Name}
use Rattle.atl_tree.specs.declared.name.ClassRef.{ClassRef}
use Rattle.atl_tree.specs.declared.kind.BasicWord.{BasicWord}
use Rattle.atl_tree.specs.declared.kind.CollWord.{CollWord}
use Rattle.atl_tree.specs.declared.kind.KindNode.{KindNode, fold_out-KindNode}
use Rattle.atl_tree.specs.declared.kind.KindSort.{KindSort, roll-KindSort, map-KindSort, fold-KindSort, fold-roll-KindSort}
use Rattle.atl_tree.specs.declared.kind.KindSort.TheOpen as Q
use Rattle.atl_tree.specs.declared.kind.KindSort.TheVariants as L
use Rattle.atl_tree.specs.declared.expr.Expr.{Expr}
use Rattle.atl_tree.specs.declared.expr.ExprKind.TheOpen as E
use Rattle.atl_tree.specs.declared.expr.ExprKind.TheVariants as K
use Rattle.atl_tree.specs.declared.expr.UnaryOp.{UnaryOp}
use Rattle.atl_tree.specs.declared.expr.BinaryOp.{BinaryOp}
use Rattle.ocl_parse.specs.declared.sign.Constant.TheVariants as N
use Rattle.atl_tree.specs.Pieces.{is_letter, is_digit}
use Rattle.ocl_parse.specs.Signs as G
use Rattle.ocl_parse.specs.Trees.{name, level}
use Rattle.ocl_parse.specs.Grammar.{Written, Number, Words as Text, Lone, Literal, Variable, OfClass, OfBasic, Elements, If as Choice, Round, Let, Unary, Binary, Read, Call, Loop, Iterate, Kind, Basic, Class, Coll}
use Rattle.module_print.specs.Writing.{here, name_here, truth, arguments, round_where, kind_layer, kind_written, expr_written, what_written}
use Rattle.module_print.specs.Pending.{begun, bare}
use Rattle.module_print.specs.Printed.{name_text}
use Rattle.module_print.proofs.Writings.{what_is}

layer-Number : (n : ℤ) (l : ℕ) → what_written (K.Number n) l ≡ Number here n
layer-Number n l = ap (λ f. f l) (ap what_written (sym (K.rolls-Number n)) ∙ what_is (E.Number n))

layer-Words : (s : List ℕ) (l : ℕ) → what_written (K.Words s) l ≡ Text here s
layer-Words s l = ap (λ f. f l) (ap what_written (sym (K.rolls-Words s)) ∙ what_is (E.Words s))

layer-Truth : (t : Bool) (l : ℕ) → what_written (K.Truth t) l ≡ truth t
layer-Truth t l = ap (λ f. f l) (ap what_written (sym (K.rolls-Truth t)) ∙ what_is (E.Truth t))

layer-Undefined : (l : ℕ) → what_written K.Undefined l ≡ Lone here N.Undefined
layer-Undefined l = ap (λ f. f l) (ap what_written (sym K.rolls-Undefined) ∙ what_is E.Undefined)

layer-Literal : (s : List ℕ) (l : ℕ) → what_written (K.Literal s) l ≡ Literal here (name here s)
layer-Literal s l = ap (λ f. f l) (ap what_written (sym (K.rolls-Literal s)) ∙ what_is (E.Literal s))

layer-Var : (s : List ℕ) (l : ℕ) → what_written (K.Var s) l ≡ Variable (name here s)
layer-Var s l = ap (λ f. f l) (ap what_written (sym (K.rolls-Var s)) ∙ what_is (E.Var s))

layer-Own : (l : ℕ) → what_written K.Own l ≡ Lone here N.Own
layer-Own l = ap (λ f. f l) (ap what_written (sym K.rolls-Own) ∙ what_is E.Own)

layer-Module : (l : ℕ) → what_written K.Module l ≡ Lone here N.Module
layer-Module l = ap (λ f. f l) (ap what_written (sym K.rolls-Module) ∙ what_is E.Module)

layer-Class : (c : ClassRef) (l : ℕ) → what_written (K.Class c) l ≡ OfClass (name here c.meta) here (name here c.class)
layer-Class c l = ap (λ f. f l) (ap what_written (sym (K.rolls-Class c)) ∙ what_is (E.Class c))

layer-Basic : (w : BasicWord) (l : ℕ) → what_written (K.Basic w) l ≡ OfBasic here w
layer-Basic w l = ap (λ f. f l) (ap what_written (sym (K.rolls-Basic w)) ∙ what_is (E.Basic w))

layer-Coll : (w : CollWord) (es : List Expr) (l : ℕ) → what_written (K.Coll w es) l ≡ Elements here w here (arguments (map (λ f. f 0) (map expr_written es))) here
layer-Coll w es l = ap (λ f. f l) (ap what_written (sym (K.rolls-Coll w es)) ∙ what_is (E.Coll w es))

layer-If : (c : Expr) (a : Expr) (b : Expr) (l : ℕ) → what_written (K.If c a b) l ≡ Choice here (expr_written c 0) here (expr_written a 0) here (expr_written b 0) here
layer-If c a b l = ap (λ f. f l) (ap what_written (sym (K.rolls-If c a b)) ∙ what_is (E.If c a b))

layer-Let : (n : Name) (k : KindNode) (a : Expr) (b : Expr) (l : ℕ) → what_written (K.Let n k a b) l ≡ round_where (nat_lt 0 l) (Let here (name_here n) here (kind_written k) here (expr_written a 0) here (expr_written b 0))
layer-Let n k a b l = ap (λ f. f l) (ap what_written (sym (K.rolls-Let n k a b)) ∙ what_is (E.Let n k a b))

layer-Unary : (o : UnaryOp) (a : Expr) (l : ℕ) → what_written (K.Unary o a) l ≡ round_where (nat_lt 5 l) (Unary here o (expr_written a 5))
layer-Unary o a l = ap (λ f. f l) (ap what_written (sym (K.rolls-Unary o a)) ∙ what_is (E.Unary o a))

layer-Binary : (o : BinaryOp) (a : Expr) (b : Expr) (l : ℕ) → what_written (K.Binary o a b) l ≡ round_where (nat_lt (level o) l) (Binary (expr_written a (level o)) here o (expr_written b (suc (level o))))
layer-Binary o a b l = ap (λ f. f l) (ap what_written (sym (K.rolls-Binary o a b)) ∙ what_is (E.Binary o a b))

layer-Read : (a : Expr) (s : List ℕ) (l : ℕ) → what_written (K.Read a s) l ≡ Read (expr_written a 6) here (name here s)
layer-Read a s l = ap (λ f. f l) (ap what_written (sym (K.rolls-Read a s)) ∙ what_is (E.Read a s))

layer-Call : (a : Expr) (arrow : Bool) (s : List ℕ) (es : List Expr) (l : ℕ) → what_written (K.Call a arrow s es) l ≡ Call (expr_written a 6) arrow here (name here s) here (arguments (map (λ f. f 0) (map expr_written es))) here
layer-Call a arrow s es l = ap (λ f. f l) (ap what_written (sym (K.rolls-Call a arrow s es)) ∙ what_is (E.Call a arrow s es))

layer-Loop : (a : Expr) (s : List ℕ) (x : Name) (e : Expr) (l : ℕ) → what_written (K.Loop a s x e) l ≡ Loop (expr_written a 6) here (name here s) here (name_here x) here (expr_written e 0) here
layer-Loop a s x e l = ap (λ f. f l) (ap what_written (sym (K.rolls-Loop a s x e)) ∙ what_is (E.Loop a s x e))

layer-Iterate : (a : Expr) (x : Name) (y : Name) (k : KindNode) (i : Expr) (e : Expr) (l : ℕ) → what_written (K.Iterate a x y k i e) l ≡ Iterate (expr_written a 6) here (name here (codes "iterate")) here (name_here x) here (name_here y) here (kind_written k) here (expr_written i 0) here (expr_written e 0) here
layer-Iterate a x y k i e l = ap (λ f. f l) (ap what_written (sym (K.rolls-Iterate a x y k i e)) ∙ what_is (E.Iterate a x y k i e))

rounds : (first t : Bool) (w : Written) → begun first w ≡ bare first w → begun first (round_where t w) ≡ (if t then Round here w here else bare first w)
rounds true true w h = refl
rounds false true w h = refl
rounds first false w h = h

none_below : (n : ℕ) → nat_lt n 0 ≡ false
none_below n = grind (arith, nat_tests)

pub encloses-Number : (n : ℤ) (first : Bool) (l : ℕ) → begun first (what_written (K.Number n) l) ≡ bare first (what_written (K.Number n) 0)
encloses-Number n true l = ap (begun true) (layer-Number n l) ∙ sym (ap (bare true) (layer-Number n 0))
encloses-Number n false l = (layer-Number n l) ∙ sym (layer-Number n 0)

pub encloses-Words : (s : List ℕ) (first : Bool) (l : ℕ) → begun first (what_written (K.Words s) l) ≡ bare first (what_written (K.Words s) 0)
encloses-Words s true l = ap (begun true) (layer-Words s l) ∙ sym (ap (bare true) (layer-Words s 0))
encloses-Words s false l = (layer-Words s l) ∙ sym (layer-Words s 0)

pub encloses-Truth : (t : Bool) (first : Bool) (l : ℕ) → begun first (what_written (K.Truth t) l) ≡ bare first (what_written (K.Truth t) 0)
encloses-Truth true true l = ap (begun true) (layer-Truth true l) ∙ sym (ap (bare true) (layer-Truth true 0))
encloses-Truth false true l = ap (begun true) (layer-Truth false l) ∙ sym (ap (bare true) (layer-Truth false 0))
encloses-Truth t false l = (layer-Truth t l) ∙ sym (layer-Truth t 0)

pub encloses-Undefined : (first : Bool) (l : ℕ) → begun first (what_written K.Undefined l) ≡ bare first (what_written K.Undefined 0)
encloses-Undefined true l = ap (begun true) (layer-Undefined l) ∙ sym (ap (bare true) (layer-Undefined 0))
encloses-Undefined false l = (layer-Undefined l) ∙ sym (layer-Undefined 0)

pub encloses-Literal : (s : List ℕ) (first : Bool) (l : ℕ) → begun first (what_written (K.Literal s) l) ≡ bare first (what_written (K.Literal s) 0)
encloses-Literal s true l = ap (begun true) (layer-Literal s l) ∙ sym (ap (bare true) (layer-Literal s 0))
encloses-Literal s false l = (layer-Literal s l) ∙ sym (layer-Literal s 0)

pub encloses-Var : (s : List ℕ) (first : Bool) (l : ℕ) → begun first (what_written (K.Var s) l) ≡ bare first (what_written (K.Var s) 0)
encloses-Var s true l = ap (begun true) (layer-Var s l) ∙ sym (ap (bare true) (layer-Var s 0))
encloses-Var s false l = (layer-Var s l) ∙ sym (layer-Var s 0)

pub encloses-Own : (first : Bool) (l : ℕ) → begun first (what_written K.Own l) ≡ bare first (what_written K.Own 0)
encloses-Own true l = ap (begun true) (layer-Own l) ∙ sym (ap (bare true) (layer-Own 0))
encloses-Own false l = (layer-Own l) ∙ sym (layer-Own 0)

pub encloses-Module : (first : Bool) (l : ℕ) → begun first (what_written K.Module l) ≡ bare first (what_written K.Module 0)
encloses-Module true l = ap (begun true) (layer-Module l) ∙ sym (ap (bare true) (layer-Module 0))
encloses-Module false l = (layer-Module l) ∙ sym (layer-Module 0)

pub encloses-Class : (c : ClassRef) (first : Bool) (l : ℕ) → begun first (what_written (K.Class c) l) ≡ bare first (what_written (K.Class c) 0)
encloses-Class c true l = ap (begun true) (layer-Class c l) ∙ sym (ap (bare true) (layer-Class c 0))
encloses-Class c false l = (layer-Class c l) ∙ sym (layer-Class c 0)

pub encloses-Basic : (w : BasicWord) (first : Bool) (l : ℕ) → begun first (what_written (K.Basic w) l) ≡ bare first (what_written (K.Basic w) 0)
encloses-Basic w true l = ap (begun true) (layer-Basic w l) ∙ sym (ap (bare true) (layer-Basic w 0))
encloses-Basic w false l = (layer-Basic w l) ∙ sym (layer-Basic w 0)

pub encloses-Coll : (w : CollWord) (es : List Expr) (first : Bool) (l : ℕ) → begun first (what_written (K.Coll w es) l) ≡ bare first (what_written (K.Coll w es) 0)
encloses-Coll w es true l = ap (begun true) (layer-Coll w es l) ∙ sym (ap (bare true) (layer-Coll w es 0))
encloses-Coll w es false l = (layer-Coll w es l) ∙ sym (layer-Coll w es 0)

pub encloses-If : (c : Expr) (a : Expr) (b : Expr) (first : Bool) (l : ℕ) → begun first (what_written (K.If c a b) l) ≡ (if first then Round here (what_written (K.If c a b) 0) here else bare first (what_written (K.If c a b) 0))
encloses-If c a b true l = ap (begun true) (layer-If c a b l) ∙ ap (λ w. Round here w here) (sym (layer-If c a b 0))
encloses-If c a b false l = (layer-If c a b l) ∙ sym (layer-If c a b 0)

same-Let : (n : Name) (k : KindNode) (a : Expr) (b : Expr) (first : Bool) → begun first (Let here (name_here n) here (kind_written k) here (expr_written a 0) here (expr_written b 0)) ≡ bare first (Let here (name_here n) here (kind_written k) here (expr_written a 0) here (expr_written b 0))
same-Let n k a b true = refl
same-Let n k a b false = refl

pub encloses-Let : (n : Name) (k : KindNode) (a : Expr) (b : Expr) (first : Bool) (l : ℕ) → begun first (what_written (K.Let n k a b) l) ≡ (if nat_lt 0 l then Round here (what_written (K.Let n k a b) 0) here else bare first (what_written (K.Let n k a b) 0))
encloses-Let n k a b first l = ap (begun first) (layer-Let n k a b l) ∙ rounds first (nat_lt 0 l) (Let here (name_here n) here (kind_written k) here (expr_written a 0) here (expr_written b 0)) (same-Let n k a b first) ∙ ap (λ w. if nat_lt 0 l then Round here w here else bare first w) (sym ((layer-Let n k a b 0)))

same-Unary : (o : UnaryOp) (a : Expr) (first : Bool) → begun first (Unary here o (expr_written a 5)) ≡ bare first (Unary here o (expr_written a 5))
same-Unary o a true = refl
same-Unary o a false = refl

pub encloses-Unary : (o : UnaryOp) (a : Expr) (first : Bool) (l : ℕ) → begun first (what_written (K.Unary o a) l) ≡ (if nat_lt 5 l then Round here (what_written (K.Unary o a) 0) here else bare first (what_written (K.Unary o a) 0))
encloses-Unary o a first l = ap (begun first) (layer-Unary o a l) ∙ rounds first (nat_lt 5 l) (Unary here o (expr_written a 5)) (same-Unary o a first) ∙ ap (λ w. if nat_lt 5 l then Round here w here else bare first w) (sym ((layer-Unary o a 0)))

same-Binary : (o : BinaryOp) (a : Expr) (b : Expr) (first : Bool) → begun first (Binary (expr_written a (level o)) here o (expr_written b (suc (level o)))) ≡ bare first (Binary (expr_written a (level o)) here o (expr_written b (suc (level o))))
same-Binary o a b true = refl
same-Binary o a b false = refl

pub encloses-Binary : (o : BinaryOp) (a : Expr) (b : Expr) (first : Bool) (l : ℕ) → begun first (what_written (K.Binary o a b) l) ≡ (if nat_lt (level o) l then Round here (what_written (K.Binary o a b) 0) here else bare first (what_written (K.Binary o a b) 0))
encloses-Binary o a b first l = ap (begun first) (layer-Binary o a b l) ∙ rounds first (nat_lt (level o) l) (Binary (expr_written a (level o)) here o (expr_written b (suc (level o)))) (same-Binary o a b first) ∙ ap (λ w. if nat_lt (level o) l then Round here w here else bare first w) (sym ((layer-Binary o a b 0) ∙ ap (λ t. round_where t (Binary (expr_written a (level o)) here o (expr_written b (suc (level o))))) (none_below (level o))))

pub encloses-Read : (a : Expr) (s : List ℕ) (first : Bool) (l : ℕ) → begun first (what_written (K.Read a s) l) ≡ bare first (what_written (K.Read a s) 0)
encloses-Read a s true l = ap (begun true) (layer-Read a s l) ∙ sym (ap (bare true) (layer-Read a s 0))
encloses-Read a s false l = (layer-Read a s l) ∙ sym (layer-Read a s 0)

pub encloses-Call : (a : Expr) (arrow : Bool) (s : List ℕ) (es : List Expr) (first : Bool) (l : ℕ) → begun first (what_written (K.Call a arrow s es) l) ≡ bare first (what_written (K.Call a arrow s es) 0)
encloses-Call a arrow s es true l = ap (begun true) (layer-Call a arrow s es l) ∙ sym (ap (bare true) (layer-Call a arrow s es 0))
encloses-Call a arrow s es false l = (layer-Call a arrow s es l) ∙ sym (layer-Call a arrow s es 0)

pub encloses-Loop : (a : Expr) (s : List ℕ) (x : Name) (e : Expr) (first : Bool) (l : ℕ) → begun first (what_written (K.Loop a s x e) l) ≡ bare first (what_written (K.Loop a s x e) 0)
encloses-Loop a s x e true l = ap (begun true) (layer-Loop a s x e l) ∙ sym (ap (bare true) (layer-Loop a s x e 0))
encloses-Loop a s x e false l = (layer-Loop a s x e l) ∙ sym (layer-Loop a s x e 0)

pub encloses-Iterate : (a : Expr) (x : Name) (y : Name) (k : KindNode) (i : Expr) (e : Expr) (first : Bool) (l : ℕ) → begun first (what_written (K.Iterate a x y k i e) l) ≡ bare first (what_written (K.Iterate a x y k i e) 0)
encloses-Iterate a x y k i e true l = ap (begun true) (layer-Iterate a x y k i e l) ∙ sym (ap (bare true) (layer-Iterate a x y k i e 0))
encloses-Iterate a x y k i e false l = (layer-Iterate a x y k i e l) ∙ sym (layer-Iterate a x y k i e 0)

pub bare-Number : (n : ℤ) (first : Bool) → bare first (what_written (K.Number n) 0) ≡ Number here n
bare-Number n true = ap (bare true) (layer-Number n 0)
bare-Number n false = (layer-Number n 0)

pub bare-Words : (s : List ℕ) (first : Bool) → bare first (what_written (K.Words s) 0) ≡ Text here s
bare-Words s true = ap (bare true) (layer-Words s 0)
bare-Words s false = (layer-Words s 0)

pub bare-Truth : (t : Bool) (first : Bool) → bare first (what_written (K.Truth t) 0) ≡ truth t
bare-Truth true true = ap (bare true) (layer-Truth true 0)
bare-Truth false true = ap (bare true) (layer-Truth false 0)
bare-Truth t false = layer-Truth t 0

pub bare-Undefined : (first : Bool) → bare first (what_written K.Undefined 0) ≡ Lone here N.Undefined
bare-Undefined true = ap (bare true) (layer-Undefined 0)
bare-Undefined false = (layer-Undefined 0)

pub bare-Literal : (s : List ℕ) (first : Bool) → bare first (what_written (K.Literal s) 0) ≡ Literal here (name here s)
bare-Literal s true = ap (bare true) (layer-Literal s 0)
bare-Literal s false = (layer-Literal s 0)

pub bare-Var : (s : List ℕ) (first : Bool) → bare first (what_written (K.Var s) 0) ≡ Variable (name here s)
bare-Var s true = ap (bare true) (layer-Var s 0)
bare-Var s false = (layer-Var s 0)

pub bare-Own : (first : Bool) → bare first (what_written K.Own 0) ≡ Lone here N.Own
bare-Own true = ap (bare true) (layer-Own 0)
bare-Own false = (layer-Own 0)

pub bare-Module : (first : Bool) → bare first (what_written K.Module 0) ≡ Lone here N.Module
bare-Module true = ap (bare true) (layer-Module 0)
bare-Module false = (layer-Module 0)

pub bare-Class : (c : ClassRef) (first : Bool) → bare first (what_written (K.Class c) 0) ≡ OfClass (name here c.meta) here (name here c.class)
bare-Class c true = ap (bare true) (layer-Class c 0)
bare-Class c false = (layer-Class c 0)

pub bare-Basic : (w : BasicWord) (first : Bool) → bare first (what_written (K.Basic w) 0) ≡ OfBasic here w
bare-Basic w true = ap (bare true) (layer-Basic w 0)
bare-Basic w false = (layer-Basic w 0)

pub bare-Coll : (w : CollWord) (es : List Expr) (first : Bool) → bare first (what_written (K.Coll w es) 0) ≡ Elements here w here (arguments (map (λ f. f 0) (map expr_written es))) here
bare-Coll w es true = ap (bare true) (layer-Coll w es 0)
bare-Coll w es false = (layer-Coll w es 0)

pub bare-If : (c : Expr) (a : Expr) (b : Expr) (first : Bool) → bare first (what_written (K.If c a b) 0) ≡ Choice here (expr_written c 0) here (expr_written a 0) here (expr_written b 0) here
bare-If c a b true = ap (bare true) (layer-If c a b 0)
bare-If c a b false = (layer-If c a b 0)

pub bare-Let : (n : Name) (k : KindNode) (a : Expr) (b : Expr) (first : Bool) → bare first (what_written (K.Let n k a b) 0) ≡ Let here (name_here n) here (kind_written k) here (expr_written a 0) here (expr_written b 0)
bare-Let n k a b true = ap (bare true) ((layer-Let n k a b 0))
bare-Let n k a b false = ((layer-Let n k a b 0))

pub bare-Unary : (o : UnaryOp) (a : Expr) (first : Bool) → bare first (what_written (K.Unary o a) 0) ≡ Unary here o (expr_written a 5)
bare-Unary o a true = ap (bare true) ((layer-Unary o a 0))
bare-Unary o a false = ((layer-Unary o a 0))

pub bare-Binary : (o : BinaryOp) (a : Expr) (b : Expr) (first : Bool) → bare first (what_written (K.Binary o a b) 0) ≡ Binary (begun first (expr_written a (level o))) here o (expr_written b (suc (level o)))
bare-Binary o a b true = ap (bare true) ((layer-Binary o a b 0) ∙ ap (λ t. round_where t (Binary (expr_written a (level o)) here o (expr_written b (suc (level o))))) (none_below (level o)))
bare-Binary o a b false = ((layer-Binary o a b 0) ∙ ap (λ t. round_where t (Binary (expr_written a (level o)) here o (expr_written b (suc (level o))))) (none_below (level o)))

pub bare-Read : (a : Expr) (s : List ℕ) (first : Bool) → bare first (what_written (K.Read a s) 0) ≡ Read (begun first (expr_written a 6)) here (name here s)
bare-Read a s true = ap (bare true) (layer-Read a s 0)
bare-Read a s false = (layer-Read a s 0)

pub bare-Call : (a : Expr) (arrow : Bool) (s : List ℕ) (es : List Expr) (first : Bool) → bare first (what_written (K.Call a arrow s es) 0) ≡ Call (begun first (expr_written a 6)) arrow here (name here s) here (arguments (map (λ f. f 0) (map expr_written es))) here
bare-Call a arrow s es true = ap (bare true) (layer-Call a arrow s es 0)
bare-Call a arrow s es false = (layer-Call a arrow s es 0)

pub bare-Loop : (a : Expr) (s : List ℕ) (x : Name) (e : Expr) (first : Bool) → bare first (what_written (K.Loop a s x e) 0) ≡ Loop (begun first (expr_written a 6)) here (name here s) here (name_here x) here (expr_written e 0) here
bare-Loop a s x e true = ap (bare true) (layer-Loop a s x e 0)
bare-Loop a s x e false = (layer-Loop a s x e 0)

pub bare-Iterate : (a : Expr) (x : Name) (y : Name) (k : KindNode) (i : Expr) (e : Expr) (first : Bool) → bare first (what_written (K.Iterate a x y k i e) 0) ≡ Iterate (begun first (expr_written a 6)) here (name here (codes "iterate")) here (name_here x) here (name_here y) here (kind_written k) here (expr_written i 0) here (expr_written e 0) here
bare-Iterate a x y k i e true = ap (bare true) (layer-Iterate a x y k i e 0)
bare-Iterate a x y k i e false = (layer-Iterate a x y k i e 0)

-- types

unfoldable sort_written : KindSort → Kind
sort_written = fold-KindSort Kind Kind kind_layer (λ k. k.what)

kind_is : (k : KindNode) → kind_written k ≡ sort_written k.what
unfolding kind_written sort_written
kind_is k = fold_out-KindNode _ _ kind_layer (λ x. x.what) k

sort_is : (y : Q.KindSort-F KindSort KindNode) → sort_written (roll-KindSort y) ≡ kind_layer (map-KindSort _ _ _ _ sort_written kind_written y)
unfolding kind_written sort_written
sort_is y = fold-roll-KindSort _ _ kind_layer (λ x. x.what) y

pub kind-Basic : (k : KindNode) (w : BasicWord) → k.what ≡ L.Basic w → kind_written k ≡ Basic here w
kind-Basic k w h = kind_is k ∙ ap sort_written (h ∙ sym (L.rolls-Basic w)) ∙ sort_is (Q.Basic w)

pub kind-Class : (k : KindNode) (c : ClassRef) → k.what ≡ L.Class c → kind_written k ≡ Class (name here c.meta) here (name here c.class)
kind-Class k c h = kind_is k ∙ ap sort_written (h ∙ sym (L.rolls-Class c)) ∙ sort_is (Q.Class c)

pub kind-Coll : (k : KindNode) (w : CollWord) (e : KindNode) → k.what ≡ L.Coll w e → kind_written k ≡ Coll here w here (kind_written e) here
kind-Coll k w e h = kind_is k ∙ ap sort_written (h ∙ sym (L.rolls-Coll w e)) ∙ sort_is (Q.Coll w e)

-- `iterate` is a plain name
pub iterate_is_plain : name_text (codes "iterate") ≡ codes "iterate"
unfolding is_letter is_digit G.operator_words G.structure_words G.constant_words G.type_words G.other_words
iterate_is_plain = refl
