-- What is too deep goes on where the depth does not count.
use Rattle.std.proofs.Common.{◌≡◌, List, [], ◌∷◌, ◌++◌, refl, sym, ap, subst}
use Rattle.std.specs.Prelude.{Bool, true, false, Option, None, if◌then◌else◌}
use Rattle.atl_base.specs.declared.place.Place.{Place}
use Rattle.atl_tree.specs.declared.name.Name.{Name}
use Rattle.atl_tree.specs.declared.kind.KindNode.{KindNode}
use Rattle.atl_tree.specs.declared.expr.Expr.{Expr}
use Rattle.atl_tree.specs.declared.expr.BinaryOp.TheVariants as O
use Rattle.atl_tree.specs.declared.module.Module.{Module}
use Rattle.atl_tree.specs.declared.module.Rule.{Rule}
use Rattle.atl_tree.specs.declared.module.RuleSort.{RuleSort}
use Rattle.atl_tree.specs.declared.module.RuleSort.TheVariants as R
use Rattle.atl_tree.specs.declared.module.Stat.{Stat}
use Rattle.atl_tree.specs.declared.module.Stat.TheVariants as A
use Rattle.atl_tree.specs.declared.module.Target.{Target}
use Rattle.ocl_parse.specs.declared.sign.Ender.TheVariants as E
use Rattle.ocl_parse.specs.declared.sign.Sign.TheVariants as S
use Rattle.ocl_parse.specs.declared.symbol.Symbol.{Symbol}
use Rattle.ocl_parse.specs.declared.symbol.Symbol.TheVariants as T
use Rattle.ocl_parse.specs.declared.frame.Callee.{Callee}
use Rattle.ocl_parse.specs.declared.frame.Frame.{Frame}
use Rattle.ocl_parse.specs.declared.frame.Frame.TheVariants as F
use Rattle.ocl_parse.specs.declared.frame.Next.{Next}
use Rattle.ocl_parse.specs.declared.frame.Next.TheVariants as N
use Rattle.ocl_parse.specs.Trees.{name}
use Rattle.ocl_parse.specs.Machine.{step as step_inside, first as first_inside, over, ended, after as after_inside, Step as StepInside, Goes as GoesInside, Stops as StopsInside, Refuses as RefusesInside, TooDeep as TooDeepInside, End as EndInside, Read as ReadInside, Expected as ExpectedInside, Deep as DeepInside}
use Rattle.ocl_parse.proofs.Halts.{Ends}
use Rattle.ocl_parse.proofs.Deeper.{IsStuck as IsStuckInside, IsTooDeep as IsTooDeepInside, GoesOn as GoesOnInside, goes, first_at}
use Rattle.module_grammar.specs.declared.keyword.Keyword.TheVariants as W
use Rattle.module_grammar.specs.Marks.{Content, Word, Shared, symbol}
use Rattle.module_grammar.specs.Parts.{Modifier, Modifiers, no_modifiers, Abstract, Unique, Lazy, has, may_stand, with_target}
use Rattle.module_states.specs.Machine.{Models as ModelsRead, ForTargets, ForSources, Owner, ForKind, ForContext, ForParam, ForResult, ForLocalKind, Blocks, ForExpr, ForBody, ForGuard, ForLocal, ForBind, ForStat, ForAssigned, ForCondition, ForValues, Form, Plain, Modified, Started, State, AtStart, AtModuleName, AtModuleEnd, AtCreate, AtModel, AtModelColon, AtMeta, AtModelEnd, AtItem, AtHelper, AtContext, AtDefColon, AtHelperName, AtSignature, AtResultColon, AtFirstParam, AtParam, AtParamColon, InKind, InExpr, AtWord, AtRule, AtRuleName, AtRuleOpen, AtParent, AtBrace, AtNoParams, AtCalledBrace, AtFrom, AtSource, AtSourceColon, AtClass, AtBang, AtClassName, AtSourceEnd, AtRest, AtUsing, AtLocal, AtLocalColon, AtTo, AtTarget, AtTargetColon, AtBinds, AtFirstBind, AtBind, AtGives, AtTargetEnd, AtDo, AtRuleEnd, AtStat, AtIf, AtIfBrace, AtElse, AtElseBrace, AtFor, AtForName, AtForIn, AtForBrace, Step, Goes, Refuses, TooDeep}
use Rattle.module_states.specs.Machine.{a_name, a_colon, a_semicolon, an_open, a_close, a_brace, a_closing_brace, an_equal, a_bang, an_in, a_gives, a_def, a_rule, comma_or_close, model_end, modified, at_word, at_item, at_helper, at_signature, first_param, rule_open, at_from, at_do, at_to, at_rest, at_guard, source_end, at_local, target_end, at_binds, first_bind, kind_end, kind_goes, expr_end, whole, expr_goes, assigns, in_kind, at_context, in_expr, at_stat, at_if, at_else, step}

abbrev pub IsTooDeep : Step → Type 0
IsTooDeep (TooDeep p) = Unit {0}
IsTooDeep u = ⊥

abbrev pub GoesOn : Step → Type 0
GoesOn (Goes s) = Unit {0}
GoesOn u = ⊥

abbrev Never : Step → Type 0
Never u = IsTooDeep u → ⊥

name_never : (t : Content) (p : Place) (k : Name → Step) → ((n : Name) → Never (k n)) → Never (a_name t p k)
name_never (Shared (T.Name s)) p k g h = g (name p s) h
name_never t p k g h = h

colon_never : (t : Content) (u : State) → Never (a_colon t u)
colon_never (Shared (T.Fixed S.Colon)) u h = h
colon_never t u h = h

semicolon_never : (t : Content) (u : State) → Never (a_semicolon t u)
semicolon_never (Shared (T.Fixed S.Semicolon)) u h = h
semicolon_never t u h = h

open_never : (t : Content) (u : State) → Never (an_open t u)
open_never (Shared (T.Fixed S.Open)) u h = h
open_never t u h = h

close_never : (t : Content) (u : State) → Never (a_close t u)
close_never (Shared (T.Fixed (S.End E.Close))) u h = h
close_never t u h = h

brace_never : (t : Content) (u : State) → Never (a_brace t u)
brace_never (Shared (T.Fixed S.OpenBrace)) u h = h
brace_never t u h = h

closing_brace_never : (t : Content) (u : State) → Never (a_closing_brace t u)
closing_brace_never (Shared (T.Fixed (S.End E.CloseBrace))) u h = h
closing_brace_never t u h = h

equal_never : (t : Content) (u : State) → Never (an_equal t u)
equal_never (Shared (T.Fixed (S.Operator O.Eq))) u h = h
equal_never t u h = h

bang_never : (t : Content) (u : State) → Never (a_bang t u)
bang_never (Shared (T.Fixed S.Bang)) u h = h
bang_never t u h = h

in_never : (t : Content) (u : State) → Never (an_in t u)
in_never (Shared (T.Fixed (S.End E.In))) u h = h
in_never t u h = h

gives_never : (t : Content) (u : State) → Never (a_gives t u)
gives_never (Word W.Gives) u h = h
gives_never t u h = h

def_never : (t : Content) (u : State) → Never (a_def t u)
def_never (Word W.Def) u h = h
def_never t u h = h

rule_never : (t : Content) (u : State) → Never (a_rule t u)
rule_never (Word W.Rule) u h = h
rule_never t u h = h

comma_never : (t : Content) (u v : State) → Never (comma_or_close t u v)
comma_never (Shared (T.Fixed (S.End E.Comma))) u v h = h
comma_never (Shared (T.Fixed (S.End E.Close))) u v h = h
comma_never t u v h = h

model_never : (ms : ModelsRead) (t : Content) → Never (model_end ms t)
model_never (ForTargets n ts) (Shared (T.Fixed (S.End E.Comma))) h = h
model_never (ForTargets n ts) (Word W.From) h = h
model_never (ForSources n ts ss) (Shared (T.Fixed (S.End E.Comma))) h = h
model_never (ForSources n ts ss) (Shared (T.Fixed S.Semicolon)) h = h
model_never (ForTargets n ts) t h = h
model_never (ForSources n ts ss) t h = h

if_never : (b : Bool) (u v : Step) → Never u → Never v → Never (if b then u else v)
if_never true u v f g h = f h
if_never false u v f g h = g h

modified_never : (m : Module) (ws : Modifiers) (w : Modifier) → Never (modified m ws w)
modified_never m ws w h = if_never (has ws w) Refuses (Goes _) (λ x. x) (λ x. x) h

word_never : (m : Module) (ws : Modifiers) (t : Content) → Never (at_word m ws t)
word_never m ws (Word W.Abstract) h = modified_never m ws Abstract h
word_never m ws (Word W.Unique) h = modified_never m ws Unique h
word_never m ws (Word W.Lazy) h = modified_never m ws Lazy h
word_never m ws (Word W.Rule) h = if_never (may_stand ws) (Goes _) Refuses (λ x. x) (λ x. x) h
word_never m ws t h = h

item_never : (m : Module) (t : Content) → Never (at_item m t)
item_never m (Word W.Helper) h = h
item_never m (Word W.Abstract) h = modified_never m no_modifiers Abstract h
item_never m (Word W.Unique) h = modified_never m no_modifiers Unique h
item_never m (Word W.Lazy) h = modified_never m no_modifiers Lazy h
item_never m (Word W.Rule) h = h
item_never m (Word W.Entrypoint) h = h
item_never m (Word W.Endpoint) h = h
item_never m t h = h

helper_never : (m : Module) (t : Content) → Never (at_helper m t)
helper_never m (Word W.Context) h = h
helper_never m (Word W.Def) h = h
helper_never m t h = h

signature_never : (m : Module) (c : Option KindNode) (n : Name) (t : Content) → Never (at_signature m c n t)
signature_never m c n (Shared (T.Fixed S.Open)) h = h
signature_never m c n (Shared (T.Fixed S.Colon)) h = h
signature_never m c n t h = h

param_never : (o : Owner) (t : Content) (p : Place) → Never (first_param o t p)
param_never o (Shared (T.Fixed (S.End E.Close))) p h = h
param_never o t p h = name_never t p (λ n. Goes (AtParamColon o [] n)) (λ n x. x) h

rule_open_never : (m : Module) (f : Form) (r : Rule) (t : Content) → Never (rule_open m f r t)
rule_open_never m Plain r (Shared (T.Fixed S.Open)) h = h
rule_open_never m Plain r (Shared (T.Fixed S.OpenBrace)) h = h
rule_open_never m Plain r (Word W.Extends) h = h
rule_open_never m Modified r (Shared (T.Fixed S.OpenBrace)) h = h
rule_open_never m Modified r (Word W.Extends) h = h
rule_open_never m Started r (Shared (T.Fixed S.Open)) h = h
rule_open_never m Plain r t h = h
rule_open_never m Modified r t h = h
rule_open_never m Started r t h = h

from_never : (m : Module) (r : Rule) (t : Content) → Never (at_from m r t)
from_never m r (Word W.From) h = h
from_never m r t h = h

do_never : (m : Module) (r : Rule) (t : Content) → Never (at_do m r t)
do_never m r (Word W.Do) h = h
do_never m r (Shared (T.Fixed (S.End E.CloseBrace))) h = h
do_never m r t h = h

to_never : (m : Module) (r : Rule) (t : Content) → Never (at_to m r t)
to_never m r (Word W.To) h = h
to_never m r t h = do_never m r t h

rest_never : (m : Module) (r : Rule) (t : Content) → Never (at_rest m r t)
rest_never m r (Word W.Using) h = h
rest_never m r t h = to_never m r t h

guard_never : (m : Module) (r : Rule) (s : RuleSort) → Never (at_guard m r s)
guard_never m r R.Matched h = h
guard_never m r s h = h

source_never : (m : Module) (r : Rule) (t : Content) → Never (source_end m r t)
source_never m r (Shared (T.Fixed (S.End E.Comma))) h = h
source_never m r (Shared (T.Fixed S.Open)) h = guard_never m r r.sort h
source_never m r t h = rest_never m r t h

local_never : (m : Module) (r : Rule) (t : Content) (p : Place) → Never (at_local m r t p)
local_never m r (Shared (T.Fixed (S.End E.CloseBrace))) p h = h
local_never m r t p h = name_never t p (λ n. Goes (AtLocalColon m r n)) (λ n x. x) h

target_never : (m : Module) (r : Rule) (t : Content) → Never (target_end m r t)
target_never m r (Shared (T.Fixed (S.End E.Comma))) h = h
target_never m r t h = do_never m r t h

binds_never : (m : Module) (r : Rule) (x : Target) (t : Content) → Never (at_binds m r x t)
binds_never m r x (Shared (T.Fixed S.Open)) h = h
binds_never m r x t h = target_never m (with_target r x) t h

bind_never : (m : Module) (r : Rule) (x : Target) (t : Content) (p : Place) → Never (first_bind m r x t p)
bind_never m r x (Shared (T.Fixed (S.End E.Close))) p h = h
bind_never m r x t p h = name_never t p (λ n. Goes (AtGives m r x n)) (λ n z. z) h

kind_end_never : (o : ForKind) (k : KindNode) (t : Content) → Never (kind_end o k t)
kind_end_never (ForContext m) k t h = def_never t _ h
kind_end_never (ForParam o ps n) k t h = comma_never t _ _ h
kind_end_never (ForResult m c n ps) k t h = equal_never t _ h
kind_end_never (ForLocalKind m r n) k t h = equal_never t _ h

kind_goes_never : (o : ForKind) (u : StepInside) → Never (kind_goes o u)
kind_goes_never o (GoesInside fs n) h = h
kind_goes_never o u h = h

kind_never : (o : ForKind) (n : Next) (fs : List Frame) (t : Content) (p : Place) → Never (in_kind o n fs t p)
kind_never o (N.HaveKind k) [] t p h = kind_end_never o k t h
kind_never o n fs t p h = kind_goes_never o (step_inside true fs n (symbol t) p) h

context_never : (m : Module) (t : Content) (p : Place) → Never (at_context m t p)
context_never m (Shared (T.Fixed (S.Coll w))) p h = h
context_never m t p h = kind_never (ForContext m) N.Kind [] t p h

expr_end_never : (o : ForExpr) (e : Expr) (t : Content) → Never (expr_end o e t)
expr_end_never (ForBody m c n ps k) e t h = semicolon_never t _ h
expr_end_never (ForGuard m r) e t h = close_never t _ h
expr_end_never (ForLocal m r n k) e t h = semicolon_never t _ h
expr_end_never (ForBind m r x n) e t h = comma_never t _ _ h
expr_end_never (ForStat k ss) e t h = semicolon_never t _ h
expr_end_never (ForAssigned k ss x n) e t h = semicolon_never t _ h
expr_end_never (ForCondition k ss) e t h = close_never t _ h
expr_end_never (ForValues k ss n) e t h = close_never t _ h

whole_never : (x : EndInside) (k : Expr → Step) → ((e : Expr) → Never (k e)) → Never (whole x k)
whole_never (ReadInside e r) k g h = g e h
whole_never (ExpectedInside r) k g h = h
whole_never (DeepInside p) k g h = h

-- within an expression

first_stuck : (fs : List Frame) (c : Callee) (x : Name) (s : Symbol) (q : Place) → IsTooDeepInside (first_inside true fs c x s q) → IsStuckInside fs (N.First c x)
first_stuck fs c x s q h = on (first_inside true fs c x s q) refl h
  where
    on : (u : StepInside) → first_inside true fs c x s q ≡ u → IsTooDeepInside u → IsStuckInside fs (N.First c x)
    on (TooDeepInside p) e h = (first_at fs c x s q [] p (subst Ends (sym e) tt) (ap (λ v. after_inside v [] ended) e)).0
    on (GoesInside gs m) e h = absurd h
    on (StopsInside gs a) e h = absurd h
    on RefusesInside e h = absurd h

inside : (fs : List Frame) (n : Next) (s : Symbol) (p : Place) → (IsStuckInside fs n → ⊥) → IsTooDeepInside (step_inside true fs n s p) → GoesOnInside (step_inside false fs n s p)
inside fs (N.First c x) s p k h = absurd (k (first_stuck fs c x s p h))
inside fs n s p k h = goes fs n s p (λ z. z) h

goes_loosely : (o : ForExpr) (t : Content) (u v : StepInside) → (IsTooDeepInside u → GoesOnInside v) → IsTooDeep (expr_goes o t u) → GoesOn (expr_goes o t v)
goes_loosely o t (GoesInside gs m) v g h = absurd h
goes_loosely o t (StopsInside gs a) v g h = absurd (whole_never (over gs a []) (λ x. expr_end o x t) (λ e. expr_end_never o e t) h)
goes_loosely o t RefusesInside v g h = absurd h
goes_loosely o t (TooDeepInside p) v g h = on v (g tt)
  where
    on : (v : StepInside) → GoesOnInside v → GoesOn (expr_goes o t v)
    on (GoesInside gs m) k = tt
    on (StopsInside gs a) k = absurd k
    on RefusesInside k = absurd k
    on (TooDeepInside q) k = absurd k

assigns_loosely : (t : Content) (o : ForExpr) (fs : List Frame) (n : Next) (u v : Step) → (IsTooDeep u → GoesOn v) → IsTooDeep (assigns t o fs n u) → GoesOn (assigns t o fs n v)
assigns_loosely (Word W.Gives) (ForStat k ss) fs (N.Named a x) u v g h = absurd (whole_never (over fs a []) (λ e. Goes (InExpr (ForAssigned k ss e x) [] N.Operand)) (λ e z. z) h)
assigns_loosely t o fs n u v g h = g h

expr_loosely : (o : ForExpr) (fs : List Frame) (n : Next) (t : Content) (p : Place) → (IsStuckInside fs n → ⊥) → IsTooDeep (in_expr true o fs n t p) → GoesOn (in_expr false o fs n t p)
expr_loosely o fs n t p k h =
    assigns_loosely t o fs n (expr_goes o t (step_inside true fs n (symbol t) p)) (expr_goes o t (step_inside false fs n (symbol t) p))
    (goes_loosely o t (step_inside true fs n (symbol t) p) (step_inside false fs n (symbol t) p) (inside fs n (symbol t) p k)) h

stat_loosely : (k : Blocks) (ss : List Stat) (t : Content) (p : Place) → IsTooDeep (at_stat true k ss t p) → GoesOn (at_stat false k ss t p)
stat_loosely k ss (Shared (T.Fixed (S.End E.CloseBrace))) p h = absurd h
stat_loosely k ss (Word W.For) p h = absurd h
stat_loosely k ss (Shared (T.Fixed S.If)) p h = absurd h
stat_loosely k ss t p h = expr_loosely (ForStat k ss) [] N.Operand t p (λ z. z) h

if_loosely : (k : Blocks) (ss : List Stat) (q : Place) (t : Content) (p : Place) → IsTooDeep (at_if true k ss q t p) → GoesOn (at_if false k ss q t p)
if_loosely k ss q (Shared (T.Fixed S.Open)) p h = absurd h
if_loosely k ss q t p h = expr_loosely (ForStat k ss) (F.Condition q ∷ []) N.Operand t p (λ z. z) h

else_loosely : (k : Blocks) (ss : List Stat) (e : Expr) (zs : List Stat) (t : Content) (p : Place) → IsTooDeep (at_else true k ss e zs t p) → GoesOn (at_else false k ss e zs t p)
else_loosely k ss e zs (Shared (T.Fixed (S.End E.Else))) p h = absurd h
else_loosely k ss e zs t p h = stat_loosely k (ss ++ (A.If e zs None ∷ [])) t p h

-- the name before which reading stops begins an argument too deep
abbrev pub IsStuck : State → Type 0
IsStuck (InExpr o fs n) = IsStuckInside fs n
IsStuck s = ⊥

pub loosely : (s : State) (t : Content) (p : Place) → (IsStuck s → ⊥) → IsTooDeep (step true s t p) → GoesOn (step false s t p)
loosely AtStart (Word W.Module) p k h = absurd h
loosely AtStart t p k h = absurd h
loosely AtModuleName t p k h = absurd (name_never t p _ (λ n x. x) h)
loosely (AtModuleEnd n) t p k h = absurd (semicolon_never t _ h)
loosely (AtCreate n) (Word W.Create) p k h = absurd h
loosely (AtCreate n) t p k h = absurd h
loosely (AtModel ms) t p k h = absurd (name_never t p _ (λ n x. x) h)
loosely (AtModelColon ms m) t p k h = absurd (colon_never t _ h)
loosely (AtMeta ms m) t p k h = absurd (name_never t p _ (λ n x. x) h)
loosely (AtModelEnd ms) t p k h = absurd (model_never ms t h)
loosely (AtItem m) t p k h = absurd (item_never m t h)
loosely (AtHelper m) t p k h = absurd (helper_never m t h)
loosely (AtContext m) t p k h = absurd (context_never m t p h)
loosely (AtDefColon m c) t p k h = absurd (colon_never t _ h)
loosely (AtHelperName m c) t p k h = absurd (name_never t p _ (λ n x. x) h)
loosely (AtSignature m c n) t p k h = absurd (signature_never m c n t h)
loosely (AtResultColon m c n ps) t p k h = absurd (colon_never t _ h)
loosely (AtFirstParam o) t p k h = absurd (param_never o t p h)
loosely (AtParam o ps) t p k h = absurd (name_never t p _ (λ n x. x) h)
loosely (AtParamColon o ps n) t p k h = absurd (colon_never t _ h)
loosely (InKind o fs n) t p k h = absurd (kind_never o n fs t p h)
loosely (InExpr o fs n) t p k h = expr_loosely o fs n t p k h
loosely (AtWord m ws) t p k h = absurd (word_never m ws t h)
loosely (AtRule m s) t p k h = absurd (rule_never t _ h)
loosely (AtRuleName m f s a) t p k h = absurd (name_never t p _ (λ n x. x) h)
loosely (AtRuleOpen m f r) t p k h = absurd (rule_open_never m f r t h)
loosely (AtParent m r) t p k h = absurd (name_never t p _ (λ n x. x) h)
loosely (AtBrace m r) t p k h = absurd (brace_never t _ h)
loosely (AtNoParams m r) t p k h = absurd (close_never t _ h)
loosely (AtCalledBrace m r) t p k h = absurd (brace_never t _ h)
loosely (AtFrom m r) t p k h = absurd (from_never m r t h)
loosely (AtSource m r) t p k h = absurd (name_never t p _ (λ n x. x) h)
loosely (AtSourceColon m r n) t p k h = absurd (colon_never t _ h)
loosely (AtClass o) t p k h = absurd (name_never t p _ (λ n x. x) h)
loosely (AtBang o n) t p k h = absurd (bang_never t _ h)
loosely (AtClassName o n) t p k h = absurd (name_never t p _ (λ n x. x) h)
loosely (AtSourceEnd m r) t p k h = absurd (source_never m r t h)
loosely (AtRest m r) t p k h = absurd (rest_never m r t h)
loosely (AtUsing m r) t p k h = absurd (brace_never t _ h)
loosely (AtLocal m r) t p k h = absurd (local_never m r t p h)
loosely (AtLocalColon m r n) t p k h = absurd (colon_never t _ h)
loosely (AtTo m r) t p k h = absurd (to_never m r t h)
loosely (AtTarget m r) t p k h = absurd (name_never t p _ (λ n x. x) h)
loosely (AtTargetColon m r n) t p k h = absurd (colon_never t _ h)
loosely (AtBinds m r x) t p k h = absurd (binds_never m r x t h)
loosely (AtFirstBind m r x) t p k h = absurd (bind_never m r x t p h)
loosely (AtBind m r x) t p k h = absurd (name_never t p _ (λ n x. x) h)
loosely (AtGives m r x n) t p k h = absurd (gives_never t _ h)
loosely (AtTargetEnd m r) t p k h = absurd (target_never m r t h)
loosely (AtDo m r) t p k h = absurd (brace_never t _ h)
loosely (AtRuleEnd m r) t p k h = absurd (closing_brace_never t _ h)
loosely (AtStat b ss) t p k h = stat_loosely b ss t p h
loosely (AtIf b ss q) t p k h = if_loosely b ss q t p h
loosely (AtIfBrace b ss e) t p k h = absurd (brace_never t _ h)
loosely (AtElse b ss e zs) t p k h = else_loosely b ss e zs t p h
loosely (AtElseBrace b ss e zs) t p k h = absurd (brace_never t _ h)
loosely (AtFor b ss) t p k h = absurd (open_never t _ h)
loosely (AtForName b ss) t p k h = absurd (name_never t p _ (λ n x. x) h)
loosely (AtForIn b ss n) t p k h = absurd (in_never t _ h)
loosely (AtForBrace b ss n e) t p k h = absurd (brace_never t _ h)
