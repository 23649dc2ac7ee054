-- How each state can go on to the end of a module.
use Rattle.std.proofs.Common.{◌≡◌, List, [], ◌∷◌, ◌++◌, refl, ◌∙◌}
use Rattle.std.specs.Prelude.{Bool, true, false, None, Some, map}
use Rattle.atl_tree.specs.declared.name.Name.{Name}
use Rattle.atl_tree.specs.declared.name.ClassRef.{ClassRef}
use Rattle.atl_tree.specs.declared.kind.KindNode.{KindNode}
use Rattle.atl_tree.specs.declared.expr.Expr.{Expr}
use Rattle.atl_tree.specs.declared.expr.BinaryOp.TheVariants as O
use Rattle.atl_tree.specs.declared.expr.ExprKind.TheVariants as K
use Rattle.ocl_parse.proofs.Ordered.{InOrder}
use Rattle.atl_tree.specs.declared.module.Module.{Module}
use Rattle.atl_tree.specs.declared.module.Item.TheVariants as I
use Rattle.atl_tree.specs.declared.module.Param.{Param}
use Rattle.atl_tree.specs.declared.module.Rule.{Rule}
use Rattle.atl_tree.specs.declared.module.Stat.{Stat}
use Rattle.ocl_parse.specs.declared.sign.Ender.TheVariants as E
use Rattle.ocl_parse.specs.declared.sign.Sign.TheVariants as S
use Rattle.ocl_parse.specs.declared.frame.Frame.{Frame}
use Rattle.ocl_parse.specs.declared.frame.Frame.TheVariants as F
use Rattle.ocl_parse.specs.declared.frame.Next.{Next}
use Rattle.ocl_parse.specs.declared.frame.Next.TheVariants as N
use Rattle.atl_tree.specs.declared.kind.KindSort.TheVariants as Q
use Rattle.ocl_parse.specs.Trees.{name, kind}
use Rattle.module_grammar.specs.declared.keyword.Keyword.TheVariants as W
use Rattle.atl_tree.specs.declared.module.Stat.TheVariants as A
use Rattle.module_print.specs.Writing.{here}
use Rattle.module_grammar.specs.Marks.{Mark, word, sign, called, shared, kind_marks}
use Rattle.module_grammar.specs.Parts.{with_item, helper, class, local, bind, with_bind, bare, with_guard, with_local, with_target, with_block}
use Rattle.module_states.specs.Machine.{Models as ModelsRead, ForTargets, ForSources, Owner, OfHelper, OfRule, ForClass, ForSource, ForTarget, ForKind, ForContext, ForParam, ForResult, ForLocalKind, Blocks, InDo, InIf, InElse, InFor, ForExpr, ForBody, ForGuard, ForLocal, ForBind, ForStat, ForAssigned, ForCondition, ForValues, Form, Plain, Modified, Started, State, AtStart, AtModuleName, AtModuleEnd, AtCreate, AtModel, AtModelColon, AtMeta, AtModelEnd, AtItem, AtHelper, AtContext, AtDefColon, AtHelperName, AtSignature, AtResultColon, AtFirstParam, AtParam, AtParamColon, InKind, InExpr, AtWord, AtRule, AtRuleName, AtRuleOpen, AtParent, AtBrace, AtNoParams, AtCalledBrace, AtFrom, AtSource, AtSourceColon, AtClass, AtBang, AtClassName, AtSourceEnd, AtRest, AtUsing, AtLocal, AtLocalColon, AtTo, AtTarget, AtTargetColon, AtBinds, AtFirstBind, AtBind, AtGives, AtTargetEnd, AtDo, AtRuleEnd, AtStat, AtIf, AtIfBrace, AtElse, AtElseBrace, AtFor, AtForName, AtForIn, AtForBrace, classed, expr_end, End as EndRead, Read, after, run}
use Rattle.module_laws.proofs.Stands.{KindsHead, StandsKind, Stands}
use Rattle.atl_tree.specs.declared.kind.BasicWord.TheVariants as B
use Rattle.ocl_parse.specs.declared.sign.Constant.TheVariants as C
use Rattle.ocl_parse.specs.declared.sign.Sign.{Sign}
use Rattle.ocl_parse.proofs.Completes.{completes as completes_inside}
use Rattle.module_grammar.specs.declared.keyword.Keyword.{Keyword}
use Rattle.module_laws.proofs.Inside.{Closing, ends_expr}

abbrev noname : Name
noname = name here []

abbrev put : Sign → Mark
put s = sign here s

abbrev put_word : Keyword → Mark
put_word k = word here k

abbrev close : Mark
close = put (S.End E.Close)

abbrev closing_brace : Mark
closing_brace = put (S.End E.CloseBrace)

abbrev own : Mark
own = put (S.Constant C.Own)

abbrev string : Mark
string = put (S.Basic B.Words)

-- an expression behind = and its ;
abbrev value : List Mark → List Mark
value more = put (S.Operator O.Eq) ∷ own ∷ put S.Semicolon ∷ more

-- name : meta ! class
abbrev an_element : List Mark → List Mark
an_element more = called noname ∷ put S.Colon ∷ called noname ∷ put S.Bang ∷ called noname ∷ more

abbrev from_marks : List Mark
from_marks = put_word W.From ∷ an_element (closing_brace ∷ [])

abbrev called_body : List Mark
called_body = put S.OpenBrace ∷ closing_brace ∷ []

abbrev models_end : ModelsRead → List Mark
models_end (ForTargets n ts) = put_word W.From ∷ called noname ∷ put S.Colon ∷ called noname ∷ put S.Semicolon ∷ []
models_end (ForSources n ts ss) = put S.Semicolon ∷ []

abbrev owner_end : Owner → List Mark
owner_end (OfHelper m c n) = put S.Colon ∷ string ∷ value []
owner_end (OfRule m r) = called_body

abbrev kind_tail : ForKind → List Mark
kind_tail (ForContext m) = put_word W.Def ∷ put S.Colon ∷ called noname ∷ put S.Colon ∷ string ∷ value []
kind_tail (ForParam o ps n) = close ∷ owner_end o
kind_tail (ForResult m c n ps) = value []
kind_tail (ForLocalKind m r n) = value (closing_brace ∷ closing_brace ∷ [])

abbrev kind_closing : List Frame → ForKind → List Mark
kind_closing (F.CollKind w p ∷ fs) o = close ∷ kind_closing fs o
kind_closing fs o = kind_tail o

-- behind the } of a block
abbrev outer : Blocks → List Mark
outer (InDo m r) = closing_brace ∷ []
outer (InIf k ss e) = closing_brace ∷ outer k
outer (InElse k ss e zs) = closing_brace ∷ outer k
outer (InFor k ss n e) = closing_brace ∷ outer k

abbrev expr_tail : ForExpr → List Mark
expr_tail (ForBody m c n ps k) = []
expr_tail (ForGuard m r) = closing_brace ∷ []
expr_tail (ForLocal m r n k) = closing_brace ∷ closing_brace ∷ []
expr_tail (ForBind m r x n) = closing_brace ∷ []
expr_tail (ForStat k ss) = closing_brace ∷ outer k
expr_tail (ForAssigned k ss e n) = closing_brace ∷ outer k
expr_tail (ForCondition k ss) = put S.OpenBrace ∷ closing_brace ∷ closing_brace ∷ outer k
expr_tail (ForValues k ss n) = put S.OpenBrace ∷ closing_brace ∷ closing_brace ∷ outer k

abbrev expr_closer : ForExpr → Mark
expr_closer (ForBody m c n ps k) = put S.Semicolon
expr_closer (ForGuard m r) = close
expr_closer (ForLocal m r n k) = put S.Semicolon
expr_closer (ForBind m r x n) = close
expr_closer (ForStat k ss) = put S.Semicolon
expr_closer (ForAssigned k ss e n) = put S.Semicolon
expr_closer (ForCondition k ss) = close
expr_closer (ForValues k ss n) = close

closer_closes : (o : ForExpr) → Closing (expr_closer o).content
closer_closes (ForBody m c n ps k) = tt
closer_closes (ForGuard m r) = tt
closer_closes (ForLocal m r n k) = tt
closer_closes (ForBind m r x n) = tt
closer_closes (ForStat k ss) = tt
closer_closes (ForAssigned k ss e n) = tt
closer_closes (ForCondition k ss) = tt
closer_closes (ForValues k ss n) = tt

abbrev Reads : EndRead → Type 0
Reads u = (m : Module) × (u ≡ Read m)

pub record Completion (s : State) : Type 0 where
  pub more : List Mark
  pub ends : Reads (run false s more)

completed : (s : State) (ts : List Mark) → Reads (run false s ts) → Completion s
completed s ts h = record { more = ts; ends = h }

block_ends : (k : Blocks) (ss : List Stat) → Reads (run false (AtStat k ss) (closing_brace ∷ outer k))
block_ends (InDo m r) ss = (with_item m (I.Make (with_block r ss)), refl)
block_ends (InIf k zs e) ss = block_ends k (zs ++ (A.If e ss None ∷ []))
block_ends (InElse k zs e ts) ss = block_ends k (zs ++ (A.If e ts (Some ss) ∷ []))
block_ends (InFor k zs n e) ss = block_ends k (zs ++ (A.For n e ss ∷ []))

expr_ends : (o : ForExpr) (e : Expr) → Reads (after (expr_end o e (expr_closer o).content) (expr_closer o ∷ expr_tail o) (λ u. run false u (expr_tail o)))
expr_ends (ForBody m c n ps k) e = (with_item m (I.Help (helper c n ps k e)), refl)
expr_ends (ForGuard m r) e = (with_item m (I.Make (with_guard r e)), refl)
expr_ends (ForLocal m r n k) e = (with_item m (I.Make (with_local r (local n k e))), refl)
expr_ends (ForBind m r x n) e = (with_item m (I.Make (with_target r (with_bind x (bind n e)))), refl)
expr_ends (ForStat k ss) e = block_ends k (ss ++ (A.Eval e ∷ []))
expr_ends (ForAssigned k ss x n) e = block_ends k (ss ++ (A.Assign x n e ∷ []))
expr_ends (ForCondition k ss) e = block_ends k (ss ++ (A.If e [] None ∷ []))
expr_ends (ForValues k ss n) e = block_ends k (ss ++ (A.For n e [] ∷ []))

expr_completes : (o : ForExpr) (fs : List Frame) (n : Next) → InOrder fs n → Completion (InExpr o fs n)
expr_completes o fs n h =
    let x = completes_inside fs n h in
    let y = x.ends in
    let z = expr_ends o y.0 in
    completed (InExpr o fs n) (map shared x.more ++ (expr_closer o ∷ expr_tail o)) (z.0, ends_expr false x.more fs n y.0 o (expr_closer o) (expr_tail o) y.1 (closer_closes o) ∙ z.1)

param_ends : (o : Owner) (ps : List Param) (n : Name) (k : KindNode) → Reads (run false (InKind (ForParam o ps n) [] (N.HaveKind k)) (close ∷ owner_end o))
param_ends (OfHelper m c x) ps n k = (_, refl)
param_ends (OfRule m r) ps n k = (_, refl)

kind_ends : (o : ForKind) (k : KindNode) → Reads (run false (InKind o [] (N.HaveKind k)) (kind_tail o))
kind_ends (ForContext m) k = (_, refl)
kind_ends (ForParam o ps n) k = param_ends o ps n k
kind_ends (ForResult m c n ps) k = (_, refl)
kind_ends (ForLocalKind m r n) k = (_, refl)

-- only types are open
abbrev IsKinds : List Frame → Type 0
IsKinds [] = Unit {0}
IsKinds (F.CollKind w p ∷ fs) = IsKinds fs
IsKinds (f ∷ fs) = ⊥

kinds_end : (fs : List Frame) (o : ForKind) (k : KindNode) → IsKinds fs → Reads (run false (InKind o fs (N.HaveKind k)) (kind_closing fs o))
kinds_end [] o k h = kind_ends o k
kinds_end (F.CollKind w p ∷ fs) o k h = kinds_end fs o (kind p (Q.Coll w k)) h
kinds_end (f ∷ fs) o k h = absurd h

behind_meta : (h : ModelsRead) (m : Name) → Reads (run false (AtMeta h m) (called noname ∷ models_end h))
behind_meta (ForTargets n ts) m = (_, refl)
behind_meta (ForSources n ts ss) m = (_, refl)

models_completes : (h : ModelsRead) → Reads (run false (AtModelEnd h) (models_end h))
models_completes (ForTargets n ts) = (_, refl)
models_completes (ForSources n ts ss) = (_, refl)

no_params : (o : Owner) → Reads (run false (AtFirstParam o) (close ∷ owner_end o))
no_params (OfHelper m c n) = (_, refl)
no_params (OfRule m r) = (_, refl)

words_end : (m : Module) (u l a : Bool) → Completion (AtWord m (record { is_abstract = a; is_unique = u; is_lazy = l }))
words_end m true true a = completed (AtWord m (record { is_abstract = a; is_unique = true; is_lazy = true })) (put_word W.Rule ∷ called noname ∷ put S.OpenBrace ∷ from_marks) (_, refl)
words_end m true false a = completed (AtWord m (record { is_abstract = a; is_unique = true; is_lazy = false })) (put_word W.Lazy ∷ put_word W.Rule ∷ called noname ∷ put S.OpenBrace ∷ from_marks) (_, refl)
words_end m false l a = completed (AtWord m (record { is_abstract = a; is_unique = false; is_lazy = l })) (put_word W.Rule ∷ called noname ∷ put S.OpenBrace ∷ from_marks) (_, refl)

abbrev open_end : Form → List Mark
open_end Plain = put S.OpenBrace ∷ from_marks
open_end Modified = put S.OpenBrace ∷ from_marks
open_end Started = put S.Open ∷ close ∷ called_body

open_ends : (m : Module) (f : Form) (r : Rule) → Reads (run false (AtRuleOpen m f r) (open_end f))
open_ends m Plain r = (_, refl)
open_ends m Modified r = (_, refl)
open_ends m Started r = (_, refl)

class_ends : (o : ForClass) (c : ClassRef) → Reads (run false (classed o c) (closing_brace ∷ []))
class_ends (ForSource m r n) c = (_, refl)
class_ends (ForTarget m r n) c = (_, refl)

module _ (b : Bool) where
  are_kinds : (fs : List Frame) (o : ForKind) (rest all : List Mark) → KindsHead b o fs rest all → IsKinds fs
  are_kinds [] o rest all h = tt
  are_kinds (F.CollKind w p ∷ fs) o rest all h = are_kinds fs o (sign p (S.Coll w) ∷ sign h.1 S.Open ∷ rest) all h.2
  are_kinds (f ∷ fs) o rest all h = absurd h

  kind_completes : (n : Next) (fs : List Frame) (o : ForKind) (rest all : List Mark) → StandsKind b o fs n rest all → Completion (InKind o fs n)
  kind_completes N.Kind fs o rest all st = completed (InKind o fs N.Kind) (string ∷ kind_closing fs o) (kinds_end fs o (kind here (Q.Basic B.Words)) (are_kinds fs o rest all st.1))
  kind_completes (N.KindOpen w p) fs o rest all st =
      completed (InKind o fs (N.KindOpen w p)) (put S.Open ∷ string ∷ close ∷ kind_closing fs o) (kinds_end fs o (kind p (Q.Coll w (kind here (Q.Basic B.Words)))) (are_kinds fs o (sign p (S.Coll w) ∷ rest) all st.1))
  kind_completes (N.KindBang n) fs o rest all st =
      completed (InKind o fs (N.KindBang n)) (put S.Bang ∷ called noname ∷ kind_closing fs o) (kinds_end fs o (kind n.place (Q.Class (class n noname))) (are_kinds fs o (called n ∷ rest) all st))
  kind_completes (N.KindClass n) fs o rest all st =
      completed (InKind o fs (N.KindClass n)) (called noname ∷ kind_closing fs o) (kinds_end fs o (kind n.place (Q.Class (class n noname))) (are_kinds fs o (called n ∷ sign st.0 S.Bang ∷ rest) all st.1))
  kind_completes (N.HaveKind k) fs o rest all st = completed (InKind o fs (N.HaveKind k)) (kind_closing fs o) (kinds_end fs o k (are_kinds fs o (kind_marks st.0 ++ rest) all st.3))
  kind_completes n fs o rest all st = absurd st

  pub completes : (s : State) (rest all : List Mark) → Stands b s rest all → Completion s
  completes AtStart rest all st =
      completed AtStart
      (put_word W.Module ∷ called noname ∷ put S.Semicolon ∷ put_word W.Create ∷ called noname ∷ put S.Colon ∷ called noname ∷ models_end (ForTargets noname [])) (_, refl)
  completes AtModuleName rest all st = completed AtModuleName (called noname ∷ put S.Semicolon ∷ put_word W.Create ∷ called noname ∷ put S.Colon ∷ called noname ∷ models_end (ForTargets noname [])) (_, refl)
  completes (AtModuleEnd n) rest all st = completed (AtModuleEnd n) (put S.Semicolon ∷ put_word W.Create ∷ called noname ∷ put S.Colon ∷ called noname ∷ models_end (ForTargets n [])) (_, refl)
  completes (AtCreate n) rest all st = completed (AtCreate n) (put_word W.Create ∷ called noname ∷ put S.Colon ∷ called noname ∷ models_end (ForTargets n [])) (_, refl)
  completes (AtModel h) rest all st = completed (AtModel h) (called noname ∷ put S.Colon ∷ called noname ∷ models_end h) (behind_meta h noname)
  completes (AtModelColon h m) rest all st = completed (AtModelColon h m) (put S.Colon ∷ called noname ∷ models_end h) (behind_meta h m)
  completes (AtMeta h m) rest all st = completed (AtMeta h m) (called noname ∷ models_end h) (behind_meta h m)
  completes (AtModelEnd h) rest all st = completed (AtModelEnd h) (models_end h) (models_completes h)
  completes (AtItem m) rest all st = completed (AtItem m) [] (m, refl)
  completes (AtHelper m) rest all st = completed (AtHelper m) (kind_tail (ForContext m)) (_, refl)
  completes (AtContext m) rest all st = completed (AtContext m) (string ∷ kind_tail (ForContext m)) (_, refl)
  completes (AtDefColon m c) rest all st = completed (AtDefColon m c) (put S.Colon ∷ called noname ∷ put S.Colon ∷ string ∷ value []) (_, refl)
  completes (AtHelperName m c) rest all st = completed (AtHelperName m c) (called noname ∷ put S.Colon ∷ string ∷ value []) (_, refl)
  completes (AtSignature m c n) rest all st = completed (AtSignature m c n) (put S.Colon ∷ string ∷ value []) (_, refl)
  completes (AtResultColon m c n ps) rest all st = completed (AtResultColon m c n ps) (put S.Colon ∷ string ∷ value []) (_, refl)
  completes (AtFirstParam o) rest all st = completed (AtFirstParam o) (close ∷ owner_end o) (no_params o)
  completes (AtParam o ps) rest all st = completed (AtParam o ps) (called noname ∷ put S.Colon ∷ string ∷ close ∷ owner_end o) (param_ends o ps noname (kind here (Q.Basic B.Words)))
  completes (AtParamColon o ps n) rest all st = completed (AtParamColon o ps n) (put S.Colon ∷ string ∷ close ∷ owner_end o) (param_ends o ps n (kind here (Q.Basic B.Words)))
  completes (InKind o fs n) rest all st = kind_completes n fs o rest all st
  completes (InExpr o fs n) rest all st = expr_completes o fs n st.3
  completes (AtWord m ws) rest all st = words_end m ws.is_unique ws.is_lazy ws.is_abstract
  completes (AtRule m s) rest all st = completed (AtRule m s) (put_word W.Rule ∷ called noname ∷ open_end Started) (_, refl)
  completes (AtRuleName m f s a) rest all st = completed (AtRuleName m f s a) (called noname ∷ open_end f) (open_ends m f (bare s a noname))
  completes (AtRuleOpen m f r) rest all st = completed (AtRuleOpen m f r) (open_end f) (open_ends m f r)
  completes (AtParent m r) rest all st = completed (AtParent m r) (called noname ∷ put S.OpenBrace ∷ from_marks) (_, refl)
  completes (AtBrace m r) rest all st = completed (AtBrace m r) (put S.OpenBrace ∷ from_marks) (_, refl)
  completes (AtNoParams m r) rest all st = completed (AtNoParams m r) (close ∷ called_body) (_, refl)
  completes (AtCalledBrace m r) rest all st = completed (AtCalledBrace m r) called_body (_, refl)
  completes (AtFrom m r) rest all st = completed (AtFrom m r) from_marks (_, refl)
  completes (AtSource m r) rest all st = completed (AtSource m r) (an_element (closing_brace ∷ [])) (_, refl)
  completes (AtSourceColon m r n) rest all st = completed (AtSourceColon m r n) (put S.Colon ∷ called noname ∷ put S.Bang ∷ called noname ∷ closing_brace ∷ []) (_, refl)
  completes (AtClass o) rest all st = completed (AtClass o) (called noname ∷ put S.Bang ∷ called noname ∷ closing_brace ∷ []) (class_ends o (class noname noname))
  completes (AtBang o n) rest all st = completed (AtBang o n) (put S.Bang ∷ called noname ∷ closing_brace ∷ []) (class_ends o (class n noname))
  completes (AtClassName o n) rest all st = completed (AtClassName o n) (called noname ∷ closing_brace ∷ []) (class_ends o (class n noname))
  completes (AtSourceEnd m r) rest all st = completed (AtSourceEnd m r) (closing_brace ∷ []) (_, refl)
  completes (AtRest m r) rest all st = completed (AtRest m r) (closing_brace ∷ []) (_, refl)
  completes (AtUsing m r) rest all st = completed (AtUsing m r) (put S.OpenBrace ∷ closing_brace ∷ closing_brace ∷ []) (_, refl)
  completes (AtLocal m r) rest all st = completed (AtLocal m r) (closing_brace ∷ closing_brace ∷ []) (_, refl)
  completes (AtLocalColon m r n) rest all st = completed (AtLocalColon m r n) (put S.Colon ∷ string ∷ value (closing_brace ∷ closing_brace ∷ [])) (_, refl)
  completes (AtTo m r) rest all st = completed (AtTo m r) (closing_brace ∷ []) (_, refl)
  completes (AtTarget m r) rest all st = completed (AtTarget m r) (an_element (closing_brace ∷ [])) (_, refl)
  completes (AtTargetColon m r n) rest all st = completed (AtTargetColon m r n) (put S.Colon ∷ called noname ∷ put S.Bang ∷ called noname ∷ closing_brace ∷ []) (_, refl)
  completes (AtBinds m r x) rest all st = completed (AtBinds m r x) (closing_brace ∷ []) (_, refl)
  completes (AtFirstBind m r x) rest all st = completed (AtFirstBind m r x) (close ∷ closing_brace ∷ []) (_, refl)
  completes (AtBind m r x) rest all st = completed (AtBind m r x) (called noname ∷ put_word W.Gives ∷ own ∷ close ∷ closing_brace ∷ []) (_, refl)
  completes (AtGives m r x n) rest all st = completed (AtGives m r x n) (put_word W.Gives ∷ own ∷ close ∷ closing_brace ∷ []) (_, refl)
  completes (AtTargetEnd m r) rest all st = completed (AtTargetEnd m r) (closing_brace ∷ []) (_, refl)
  completes (AtDo m r) rest all st = completed (AtDo m r) (put S.OpenBrace ∷ closing_brace ∷ closing_brace ∷ []) (_, refl)
  completes (AtRuleEnd m r) rest all st = completed (AtRuleEnd m r) (closing_brace ∷ []) (_, refl)
  completes (AtStat k ss) rest all st = completed (AtStat k ss) (closing_brace ∷ outer k) (block_ends k ss)
  completes (AtIf k ss p) rest all st =
      completed (AtIf k ss p) (put S.Open ∷ own ∷ close ∷ put S.OpenBrace ∷ closing_brace ∷ closing_brace ∷ outer k) (block_ends k (ss ++ (A.If (record { what = K.Own; place = here }) [] None ∷ [])))
  completes (AtIfBrace k ss e) rest all st = completed (AtIfBrace k ss e) (put S.OpenBrace ∷ closing_brace ∷ closing_brace ∷ outer k) (block_ends k (ss ++ (A.If e [] None ∷ [])))
  completes (AtElse k ss e zs) rest all st = completed (AtElse k ss e zs) (closing_brace ∷ outer k) (block_ends k (ss ++ (A.If e zs None ∷ [])))
  completes (AtElseBrace k ss e zs) rest all st = completed (AtElseBrace k ss e zs) (put S.OpenBrace ∷ closing_brace ∷ closing_brace ∷ outer k) (block_ends k (ss ++ (A.If e zs (Some []) ∷ [])))
  completes (AtFor k ss) rest all st =
      completed (AtFor k ss) (put S.Open ∷ called noname ∷ put (S.End E.In) ∷ own ∷ close ∷ put S.OpenBrace ∷ closing_brace ∷ closing_brace ∷ outer k) (block_ends k (ss ++ (A.For noname (record { what = K.Own; place = here }) [] ∷ [])))
  completes (AtForName k ss) rest all st =
      completed (AtForName k ss) (called noname ∷ put (S.End E.In) ∷ own ∷ close ∷ put S.OpenBrace ∷ closing_brace ∷ closing_brace ∷ outer k) (block_ends k (ss ++ (A.For noname (record { what = K.Own; place = here }) [] ∷ [])))
  completes (AtForIn k ss n) rest all st =
      completed (AtForIn k ss n) (put (S.End E.In) ∷ own ∷ close ∷ put S.OpenBrace ∷ closing_brace ∷ closing_brace ∷ outer k) (block_ends k (ss ++ (A.For n (record { what = K.Own; place = here }) [] ∷ [])))
  completes (AtForBrace k ss n e) rest all st = completed (AtForBrace k ss n e) (put S.OpenBrace ∷ closing_brace ∷ closing_brace ∷ outer k) (block_ends k (ss ++ (A.For n e [] ∷ [])))
