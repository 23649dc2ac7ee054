-- Reading, mark by mark: a machine that takes one mark a step. While an expression or a type is read, the machine's state
-- holds that of the reading of expressions. The switch b says whether the depth of expressions counts.
use Rattle.std.specs.Prelude.{Bool, true, false, List, [], ◌∷◌, ◌++◌, Option, None, Some, if◌then◌else◌}
use Rattle.atl_base.specs.declared.place.Place.{Place}
use Rattle.atl_tree.specs.declared.name.Name.{Name}
use Rattle.atl_tree.specs.declared.name.ClassRef.{ClassRef}
use Rattle.atl_tree.specs.declared.kind.KindNode.{KindNode}
use Rattle.atl_tree.specs.declared.expr.Expr.{Expr}
use Rattle.atl_tree.specs.declared.expr.BinaryOp.TheVariants as O
use Rattle.atl_tree.specs.declared.module.Module.{Module}
use Rattle.atl_tree.specs.declared.module.ModelDecl.{ModelDecl}
use Rattle.atl_tree.specs.declared.module.Item.TheVariants as I
use Rattle.atl_tree.specs.declared.module.Param.{Param}
use Rattle.atl_tree.specs.declared.module.Rule.{Rule}
use Rattle.atl_tree.specs.declared.module.RuleSort.{RuleSort}
use Rattle.atl_tree.specs.declared.module.RuleSort.TheVariants as R
use Rattle.atl_tree.specs.declared.module.Target.{Target}
use Rattle.atl_tree.specs.declared.module.Stat.{Stat}
use Rattle.atl_tree.specs.declared.module.Stat.TheVariants as A
use Rattle.ocl_parse.specs.declared.sign.Ender.TheVariants as E
use Rattle.ocl_parse.specs.declared.sign.Sign.TheVariants as S
use Rattle.ocl_parse.specs.declared.symbol.Symbol.TheVariants.{Name as Named, Fixed}
use Rattle.ocl_parse.specs.declared.frame.Frame.{Frame}
use Rattle.ocl_parse.specs.declared.frame.Frame.TheVariants as F
use Rattle.ocl_parse.specs.declared.frame.Next.{Next}
use Rattle.ocl_parse.specs.declared.frame.Next.TheVariants as N
use Rattle.ocl_parse.specs.Trees.{name}
use Rattle.ocl_parse.specs.Machine.{step as step_inside, last as last_inside, over, Step as StepInside, Goes as GoesInside, Stops as StopsInside, Refuses as RefusesInside, TooDeep as TooDeepInside, End as EndInside, Read as ReadInside}
use Rattle.module_grammar.specs.declared.keyword.Keyword.TheVariants as W
use Rattle.module_grammar.specs.Marks.{Content, Word, Shared, Mark, symbol}
use Rattle.module_grammar.specs.Parts.{model, module_of, with_item, param, helper, class, pattern, local, target, bind, with_bind, bare, with_parent, with_params, with_source, with_guard, with_local, with_target, with_block, Modifier, Abstract, Unique, Lazy, Modifiers, no_modifiers, has, with_modifier, may_stand, sort_of}

-- whose models are read: the targets, with those before; or the sources, behind all targets
pub data Models : Type 0 where
  ForTargets : Name → List ModelDecl → Models
  ForSources : Name → List ModelDecl → List ModelDecl → Models

-- whose parameters are read: a helper's, with its context and name, or a rule's
pub data Owner : Type 0 where
  OfHelper : Module → Option KindNode → Name → Owner
  OfRule : Module → Rule → Owner

-- what a class is read for
pub data ForClass : Type 0 where
  ForSource : Module → Rule → Name → ForClass
  ForTarget : Module → Rule → Name → ForClass

-- what a type is read for
pub data ForKind : Type 0 where
  ForContext : Module → ForKind
  ForParam : Owner → List Param → Name → ForKind
  ForResult : Module → Option KindNode → Name → Option (List Param) → ForKind
  ForLocalKind : Module → Rule → Name → ForKind

-- the blocks that are open round a statement, with the statements before each
pub data Blocks : Type 0 where
  -- do {
  InDo : Module → Rule → Blocks
  -- if ( condition ) {
  InIf : Blocks → List Stat → Expr → Blocks
  -- if ( condition ) { statements } else {
  InElse : Blocks → List Stat → Expr → List Stat → Blocks
  -- for ( name in values ) {
  InFor : Blocks → List Stat → Name → Expr → Blocks

-- what an expression is read for
pub data ForExpr : Type 0 where
  ForBody : Module → Option KindNode → Name → Option (List Param) → KindNode → ForExpr
  ForGuard : Module → Rule → ForExpr
  ForLocal : Module → Rule → Name → KindNode → ForExpr
  ForBind : Module → Rule → Target → Name → ForExpr
  ForStat : Blocks → List Stat → ForExpr
  ForAssigned : Blocks → List Stat → Expr → Name → ForExpr
  ForCondition : Blocks → List Stat → ForExpr
  ForValues : Blocks → List Stat → Name → ForExpr

-- what stands before a rule's name: `rule` alone, or with modifiers, or with entrypoint or endpoint
pub data Form : Type 0 where
  Plain : Form
  Modified : Form
  Started : Form

-- what may come next
pub data State : Type 0 where
  -- module
  AtStart : State
  AtModuleName : State
  -- ; behind a module's name
  AtModuleEnd : Name → State
  -- create
  AtCreate : Name → State
  AtModel : Models → State
  -- : behind a model
  AtModelColon : Models → Name → State
  AtMeta : Models → Name → State
  -- , or what ends the models
  AtModelEnd : Models → State
  -- an item, or the end
  AtItem : Module → State
  -- context, or def
  AtHelper : Module → State
  AtContext : Module → State
  -- : behind def
  AtDefColon : Module → Option KindNode → State
  AtHelperName : Module → Option KindNode → State
  -- ( or : behind a helper's name
  AtSignature : Module → Option KindNode → Name → State
  -- : behind parameters
  AtResultColon : Module → Option KindNode → Name → Option (List Param) → State
  -- a parameter, or )
  AtFirstParam : Owner → State
  AtParam : Owner → List Param → State
  AtParamColon : Owner → List Param → Name → State
  -- a type, or more of it
  InKind : ForKind → List Frame → Next → State
  -- an expression, or more of it
  InExpr : ForExpr → List Frame → Next → State
  -- a word, or `rule`
  AtWord : Module → Modifiers → State
  -- `rule` behind entrypoint or endpoint
  AtRule : Module → RuleSort → State
  AtRuleName : Module → Form → RuleSort → Bool → State
  -- ( or extends or { behind a rule's name
  AtRuleOpen : Module → Form → Rule → State
  AtParent : Module → Rule → State
  -- { behind a parent's name
  AtBrace : Module → Rule → State
  -- ) behind the ( of an entrypoint or endpoint rule
  AtNoParams : Module → Rule → State
  -- { behind parameters
  AtCalledBrace : Module → Rule → State
  -- from
  AtFrom : Module → Rule → State
  AtSource : Module → Rule → State
  AtSourceColon : Module → Rule → Name → State
  -- the name of a class's metamodel
  AtClass : ForClass → State
  AtBang : ForClass → Name → State
  AtClassName : ForClass → Name → State
  -- , or ( or whatever may follow the sources
  AtSourceEnd : Module → Rule → State
  -- using, or whatever may follow
  AtRest : Module → Rule → State
  -- { behind using
  AtUsing : Module → Rule → State
  -- a variable, or }
  AtLocal : Module → Rule → State
  AtLocalColon : Module → Rule → Name → State
  -- to, or whatever may follow
  AtTo : Module → Rule → State
  AtTarget : Module → Rule → State
  AtTargetColon : Module → Rule → Name → State
  -- ( or whatever may follow a target
  AtBinds : Module → Rule → Target → State
  -- a binding, or )
  AtFirstBind : Module → Rule → Target → State
  AtBind : Module → Rule → Target → State
  -- <- behind a feature
  AtGives : Module → Rule → Target → Name → State
  -- , or whatever may follow the targets
  AtTargetEnd : Module → Rule → State
  -- { behind do
  AtDo : Module → Rule → State
  -- } of a rule
  AtRuleEnd : Module → Rule → State
  -- a statement, or }
  AtStat : Blocks → List Stat → State
  -- whatever may follow the `if` that begins a statement
  AtIf : Blocks → List Stat → Place → State
  -- { behind a condition
  AtIfBrace : Blocks → List Stat → Expr → State
  -- else, or whatever may follow a statement
  AtElse : Blocks → List Stat → Expr → List Stat → State
  -- { behind else
  AtElseBrace : Blocks → List Stat → Expr → List Stat → State
  -- ( behind for
  AtFor : Blocks → List Stat → State
  AtForName : Blocks → List Stat → State
  -- in
  AtForIn : Blocks → List Stat → Name → State
  -- { behind for's values
  AtForBrace : Blocks → List Stat → Name → Expr → State

-- what a mark leads to
pub data Step : Type 0 where
  Goes : State → Step
  Refuses : Step
  TooDeep : Place → Step

-- One mark alone may stand here.

abbrev pub a_name : Content → Place → (Name → Step) → Step
a_name (Shared (Named s)) p k = k (name p s)
a_name t p k = Refuses

abbrev pub a_colon : Content → State → Step
a_colon (Shared (Fixed S.Colon)) u = Goes u
a_colon t u = Refuses

abbrev pub a_semicolon : Content → State → Step
a_semicolon (Shared (Fixed S.Semicolon)) u = Goes u
a_semicolon t u = Refuses

abbrev pub an_open : Content → State → Step
an_open (Shared (Fixed S.Open)) u = Goes u
an_open t u = Refuses

abbrev pub a_close : Content → State → Step
a_close (Shared (Fixed (S.End E.Close))) u = Goes u
a_close t u = Refuses

abbrev pub a_brace : Content → State → Step
a_brace (Shared (Fixed S.OpenBrace)) u = Goes u
a_brace t u = Refuses

abbrev pub a_closing_brace : Content → State → Step
a_closing_brace (Shared (Fixed (S.End E.CloseBrace))) u = Goes u
a_closing_brace t u = Refuses

abbrev pub an_equal : Content → State → Step
an_equal (Shared (Fixed (S.Operator O.Eq))) u = Goes u
an_equal t u = Refuses

abbrev pub a_bang : Content → State → Step
a_bang (Shared (Fixed S.Bang)) u = Goes u
a_bang t u = Refuses

abbrev pub an_in : Content → State → Step
an_in (Shared (Fixed (S.End E.In))) u = Goes u
an_in t u = Refuses

abbrev pub a_gives : Content → State → Step
a_gives (Word W.Gives) u = Goes u
a_gives t u = Refuses

abbrev pub a_def : Content → State → Step
a_def (Word W.Def) u = Goes u
a_def t u = Refuses

abbrev pub a_rule : Content → State → Step
a_rule (Word W.Rule) u = Goes u
a_rule t u = Refuses

-- , or )
abbrev pub comma_or_close : Content → State → State → Step
comma_or_close (Shared (Fixed (S.End E.Comma))) u v = Goes u
comma_or_close (Shared (Fixed (S.End E.Close))) u v = Goes v
comma_or_close t u v = Refuses

-- The parts of a module.

abbrev pub declared : Models → Name → Name → Models
declared (ForTargets n ts) m x = ForTargets n (ts ++ (model m x ∷ []))
declared (ForSources n ts ss) m x = ForSources n ts (ss ++ (model m x ∷ []))

abbrev pub model_end : Models → Content → Step
model_end (ForTargets n ts) (Shared (Fixed (S.End E.Comma))) = Goes (AtModel (ForTargets n ts))
model_end (ForTargets n ts) (Word W.From) = Goes (AtModel (ForSources n ts []))
model_end (ForSources n ts ss) (Shared (Fixed (S.End E.Comma))) = Goes (AtModel (ForSources n ts ss))
model_end (ForSources n ts ss) (Shared (Fixed S.Semicolon)) = Goes (AtItem (module_of n ts ss []))
model_end ms t = Refuses

-- a word before `rule`, where it has not stood yet
abbrev pub modified : Module → Modifiers → Modifier → Step
modified m ws w = if has ws w then Refuses else Goes (AtWord m (with_modifier ws w))

abbrev pub worded : Module → Modifiers → Step
worded m ws = if may_stand ws then Goes (AtRuleName m Modified (sort_of ws) ws.is_abstract) else Refuses

abbrev pub at_word : Module → Modifiers → Content → Step
at_word m ws (Word W.Abstract) = modified m ws Abstract
at_word m ws (Word W.Unique) = modified m ws Unique
at_word m ws (Word W.Lazy) = modified m ws Lazy
at_word m ws (Word W.Rule) = worded m ws
at_word m ws t = Refuses

abbrev pub at_item : Module → Content → Step
at_item m (Word W.Helper) = Goes (AtHelper m)
at_item m (Word W.Abstract) = modified m no_modifiers Abstract
at_item m (Word W.Unique) = modified m no_modifiers Unique
at_item m (Word W.Lazy) = modified m no_modifiers Lazy
at_item m (Word W.Rule) = Goes (AtRuleName m Plain R.Matched false)
at_item m (Word W.Entrypoint) = Goes (AtRule m R.Entry)
at_item m (Word W.Endpoint) = Goes (AtRule m R.End)
at_item m t = Refuses

abbrev pub at_helper : Module → Content → Step
at_helper m (Word W.Context) = Goes (AtContext m)
at_helper m (Word W.Def) = Goes (AtDefColon m None)
at_helper m t = Refuses

abbrev pub at_signature : Module → Option KindNode → Name → Content → Step
at_signature m c n (Shared (Fixed S.Open)) = Goes (AtFirstParam (OfHelper m c n))
at_signature m c n (Shared (Fixed S.Colon)) = Goes (InKind (ForResult m c n None) [] N.Kind)
at_signature m c n t = Refuses

-- behind all parameters and )
abbrev pub with_all : Owner → List Param → State
with_all (OfHelper m c n) ps = AtResultColon m c n (Some ps)
with_all (OfRule m r) ps = AtCalledBrace m (with_params r R.Called ps)

abbrev pub first_param : Owner → Content → Place → Step
first_param o (Shared (Fixed (S.End E.Close))) p = Goes (with_all o [])
first_param o t p = a_name t p (λ n. Goes (AtParamColon o [] n))

abbrev pub rule_open : Module → Form → Rule → Content → Step
rule_open m Plain r (Shared (Fixed S.Open)) = Goes (AtFirstParam (OfRule m r))
rule_open m Plain r (Shared (Fixed S.OpenBrace)) = Goes (AtFrom m r)
rule_open m Plain r (Word W.Extends) = Goes (AtParent m r)
rule_open m Modified r (Shared (Fixed S.OpenBrace)) = Goes (AtFrom m r)
rule_open m Modified r (Word W.Extends) = Goes (AtParent m r)
rule_open m Started r (Shared (Fixed S.Open)) = Goes (AtNoParams m r)
rule_open m f r t = Refuses

abbrev pub at_from : Module → Rule → Content → Step
at_from m r (Word W.From) = Goes (AtSource m r)
at_from m r t = Refuses

abbrev pub classed : ForClass → ClassRef → State
classed (ForSource m r n) c = AtSourceEnd m (with_source r (pattern n c))
classed (ForTarget m r n) c = AtBinds m r (target n c [])

-- do, or the end of a rule
abbrev pub at_do : Module → Rule → Content → Step
at_do m r (Word W.Do) = Goes (AtDo m r)
at_do m r (Shared (Fixed (S.End E.CloseBrace))) = Goes (AtItem (with_item m (I.Make r)))
at_do m r t = Refuses

abbrev pub at_to : Module → Rule → Content → Step
at_to m r (Word W.To) = Goes (AtTarget m r)
at_to m r t = at_do m r t

abbrev pub at_rest : Module → Rule → Content → Step
at_rest m r (Word W.Using) = Goes (AtUsing m r)
at_rest m r t = at_to m r t

-- a guard, where the rule is not lazy
abbrev pub at_guard : Module → Rule → RuleSort → Step
at_guard m r R.Matched = Goes (InExpr (ForGuard m r) [] N.Operand)
at_guard m r s = Refuses

abbrev pub source_end : Module → Rule → Content → Step
source_end m r (Shared (Fixed (S.End E.Comma))) = Goes (AtSource m r)
source_end m r (Shared (Fixed S.Open)) = at_guard m r r.sort
source_end m r t = at_rest m r t

abbrev pub at_local : Module → Rule → Content → Place → Step
at_local m r (Shared (Fixed (S.End E.CloseBrace))) p = Goes (AtTo m r)
at_local m r t p = a_name t p (λ n. Goes (AtLocalColon m r n))

abbrev pub target_end : Module → Rule → Content → Step
target_end m r (Shared (Fixed (S.End E.Comma))) = Goes (AtTarget m r)
target_end m r t = at_do m r t

abbrev pub at_binds : Module → Rule → Target → Content → Step
at_binds m r x (Shared (Fixed S.Open)) = Goes (AtFirstBind m r x)
at_binds m r x t = target_end m (with_target r x) t

abbrev pub first_bind : Module → Rule → Target → Content → Place → Step
first_bind m r x (Shared (Fixed (S.End E.Close))) p = Goes (AtTargetEnd m (with_target r x))
first_bind m r x t p = a_name t p (λ n. Goes (AtGives m r x n))

-- behind the } of a block
abbrev pub block_end : Blocks → List Stat → State
block_end (InDo m r) ss = AtRuleEnd m (with_block r ss)
block_end (InIf k zs e) ss = AtElse k zs e ss
block_end (InElse k zs e ts) ss = AtStat k (zs ++ (A.If e ts (Some ss) ∷ []))
block_end (InFor k zs n e) ss = AtStat k (zs ++ (A.For n e ss ∷ []))

-- Types and expressions.

-- a type, and what stands behind it
abbrev pub kind_end : ForKind → KindNode → Content → Step
kind_end (ForContext m) k t = a_def t (AtDefColon m (Some k))
kind_end (ForParam o ps n) k t = comma_or_close t (AtParam o (ps ++ (param n k ∷ []))) (with_all o (ps ++ (param n k ∷ [])))
kind_end (ForResult m c n ps) k t = an_equal t (InExpr (ForBody m c n ps k) [] N.Operand)
kind_end (ForLocalKind m r n) k t = an_equal t (InExpr (ForLocal m r n k) [] N.Operand)

-- more of a type
abbrev pub kind_goes : ForKind → StepInside → Step
kind_goes o (GoesInside fs n) = Goes (InKind o fs n)
kind_goes o u = Refuses

-- an expression, and what stands behind it
abbrev pub expr_end : ForExpr → Expr → Content → Step
expr_end (ForBody m c n ps k) e t = a_semicolon t (AtItem (with_item m (I.Help (helper c n ps k e))))
expr_end (ForGuard m r) e t = a_close t (AtRest m (with_guard r e))
expr_end (ForLocal m r n k) e t = a_semicolon t (AtLocal m (with_local r (local n k e)))
expr_end (ForBind m r x n) e t = comma_or_close t (AtBind m r (with_bind x (bind n e))) (AtTargetEnd m (with_target r (with_bind x (bind n e))))
expr_end (ForStat k ss) e t = a_semicolon t (AtStat k (ss ++ (A.Eval e ∷ [])))
expr_end (ForAssigned k ss x n) e t = a_semicolon t (AtStat k (ss ++ (A.Assign x n e ∷ [])))
expr_end (ForCondition k ss) e t = a_close t (AtIfBrace k ss e)
expr_end (ForValues k ss n) e t = a_close t (AtForBrace k ss n e)

-- what is read, where all of it is
abbrev pub whole : EndInside → (Expr → Step) → Step
whole (ReadInside e rest) k = k e
whole u k = Refuses

-- more of an expression, or the mark behind it
abbrev pub expr_goes : ForExpr → Content → StepInside → Step
expr_goes o t (GoesInside fs n) = Goes (InExpr o fs n)
expr_goes o t (StopsInside fs e) = whole (over fs e []) (λ x. expr_end o x t)
expr_goes o t RefusesInside = Refuses
expr_goes o t (TooDeepInside p) = TooDeep p

-- behind a statement's last `. name`, <- assigns to what stands before them
abbrev pub assigns : Content → ForExpr → List Frame → Next → Step → Step
assigns (Word W.Gives) (ForStat k ss) fs (N.Named e n) u = whole (over fs e []) (λ x. Goes (InExpr (ForAssigned k ss x n) [] N.Operand))
assigns t o fs m u = u

abbrev pub in_kind : ForKind → Next → List Frame → Content → Place → Step
in_kind o (N.HaveKind k) [] t p = kind_end o k t
in_kind o n fs t p = kind_goes o (step_inside true fs n (symbol t) p)

-- a context is no collection
abbrev pub at_context : Module → Content → Place → Step
at_context m (Shared (Fixed (S.Coll w))) p = Refuses
at_context m t p = in_kind (ForContext m) N.Kind [] t p

module _ (b : Bool) where
  abbrev pub in_expr : ForExpr → List Frame → Next → Content → Place → Step
  in_expr o fs n t p = assigns t o fs n (expr_goes o t (step_inside b fs n (symbol t) p))

  abbrev pub at_stat : Blocks → List Stat → Content → Place → Step
  at_stat k ss (Shared (Fixed (S.End E.CloseBrace))) p = Goes (block_end k ss)
  at_stat k ss (Word W.For) p = Goes (AtFor k ss)
  at_stat k ss (Shared (Fixed S.If)) p = Goes (AtIf k ss p)
  at_stat k ss t p = in_expr (ForStat k ss) [] N.Operand t p

  -- if ( begins a statement, and another mark is in the condition of an expression
  abbrev pub at_if : Blocks → List Stat → Place → Content → Place → Step
  at_if k ss q (Shared (Fixed S.Open)) p = Goes (InExpr (ForCondition k ss) [] N.Operand)
  at_if k ss q t p = in_expr (ForStat k ss) (F.Condition q ∷ []) N.Operand t p

  abbrev pub at_else : Blocks → List Stat → Expr → List Stat → Content → Place → Step
  at_else k ss e zs (Shared (Fixed (S.End E.Else))) p = Goes (AtElseBrace k ss e zs)
  at_else k ss e zs t p = at_stat k (ss ++ (A.If e zs None ∷ [])) t p

  abbrev pub step : State → Content → Place → Step
  step AtStart (Word W.Module) p = Goes AtModuleName
  step AtStart t p = Refuses
  step AtModuleName t p = a_name t p (λ n. Goes (AtModuleEnd n))
  step (AtModuleEnd n) t p = a_semicolon t (AtCreate n)
  step (AtCreate n) (Word W.Create) p = Goes (AtModel (ForTargets n []))
  step (AtCreate n) t p = Refuses
  step (AtModel ms) t p = a_name t p (λ m. Goes (AtModelColon ms m))
  step (AtModelColon ms m) t p = a_colon t (AtMeta ms m)
  step (AtMeta ms m) t p = a_name t p (λ x. Goes (AtModelEnd (declared ms m x)))
  step (AtModelEnd ms) t p = model_end ms t
  step (AtItem m) t p = at_item m t
  step (AtHelper m) t p = at_helper m t
  step (AtContext m) t p = at_context m t p
  step (AtDefColon m c) t p = a_colon t (AtHelperName m c)
  step (AtHelperName m c) t p = a_name t p (λ n. Goes (AtSignature m c n))
  step (AtSignature m c n) t p = at_signature m c n t
  step (AtResultColon m c n ps) t p = a_colon t (InKind (ForResult m c n ps) [] N.Kind)
  step (AtFirstParam o) t p = first_param o t p
  step (AtParam o ps) t p = a_name t p (λ n. Goes (AtParamColon o ps n))
  step (AtParamColon o ps n) t p = a_colon t (InKind (ForParam o ps n) [] N.Kind)
  step (InKind o fs n) t p = in_kind o n fs t p
  step (InExpr o fs n) t p = in_expr o fs n t p
  step (AtWord m ws) t p = at_word m ws t
  step (AtRule m s) t p = a_rule t (AtRuleName m Started s false)
  step (AtRuleName m f s a) t p = a_name t p (λ n. Goes (AtRuleOpen m f (bare s a n)))
  step (AtRuleOpen m f r) t p = rule_open m f r t
  step (AtParent m r) t p = a_name t p (λ n. Goes (AtBrace m (with_parent r n)))
  step (AtBrace m r) t p = a_brace t (AtFrom m r)
  step (AtNoParams m r) t p = a_close t (AtCalledBrace m r)
  step (AtCalledBrace m r) t p = a_brace t (AtRest m r)
  step (AtFrom m r) t p = at_from m r t
  step (AtSource m r) t p = a_name t p (λ n. Goes (AtSourceColon m r n))
  step (AtSourceColon m r n) t p = a_colon t (AtClass (ForSource m r n))
  step (AtClass o) t p = a_name t p (λ n. Goes (AtBang o n))
  step (AtBang o n) t p = a_bang t (AtClassName o n)
  step (AtClassName o n) t p = a_name t p (λ c. Goes (classed o (class n c)))
  step (AtSourceEnd m r) t p = source_end m r t
  step (AtRest m r) t p = at_rest m r t
  step (AtUsing m r) t p = a_brace t (AtLocal m r)
  step (AtLocal m r) t p = at_local m r t p
  step (AtLocalColon m r n) t p = a_colon t (InKind (ForLocalKind m r n) [] N.Kind)
  step (AtTo m r) t p = at_to m r t
  step (AtTarget m r) t p = a_name t p (λ n. Goes (AtTargetColon m r n))
  step (AtTargetColon m r n) t p = a_colon t (AtClass (ForTarget m r n))
  step (AtBinds m r x) t p = at_binds m r x t
  step (AtFirstBind m r x) t p = first_bind m r x t p
  step (AtBind m r x) t p = a_name t p (λ n. Goes (AtGives m r x n))
  step (AtGives m r x n) t p = a_gives t (InExpr (ForBind m r x n) [] N.Operand)
  step (AtTargetEnd m r) t p = target_end m r t
  step (AtDo m r) t p = a_brace t (AtStat (InDo m r) [])
  step (AtRuleEnd m r) t p = a_closing_brace t (AtItem (with_item m (I.Make r)))
  step (AtStat k ss) t p = at_stat k ss t p
  step (AtIf k ss q) t p = at_if k ss q t p
  step (AtIfBrace k ss e) t p = a_brace t (AtStat (InIf k ss e) [])
  step (AtElse k ss e zs) t p = at_else k ss e zs t p
  step (AtElseBrace k ss e zs) t p = a_brace t (AtStat (InElse k ss e zs) [])
  step (AtFor k ss) t p = an_open t (AtForName k ss)
  step (AtForName k ss) t p = a_name t p (λ n. Goes (AtForIn k ss n))
  step (AtForIn k ss n) t p = an_in t (InExpr (ForValues k ss n) [] N.Operand)
  step (AtForBrace k ss n e) t p = a_brace t (AtStat (InFor k ss n e) [])

-- how the reading of a text ends: with the module; or at the first of the marks that no module has there; or where an
-- expression begins too deep
pub data End : Type 0 where
  Read : Module → End
  Expected : List Mark → End
  Deep : Place → End

abbrev pub too_deep : StepInside → End
too_deep (TooDeepInside p) = Deep p
too_deep u = Expected []

-- what the end of the text leads to
abbrev pub finish : Bool → State → End
finish b (AtItem m) = Read m
finish b (InExpr o fs n) = too_deep (last_inside b fs n)
finish b s = Expected []

abbrev pub after : Step → List Mark → (State → End) → End
after (Goes s) rest k = k s
after Refuses rest k = Expected rest
after (TooDeep p) rest k = Deep p

abbrev pub run : Bool → State → List Mark → End
run b s [] = finish b s
run b s (t ∷ ts) = after (step b s t.content t.place) (t ∷ ts) (λ u. run b u ts)

abbrev pub read : Bool → List Mark → End
read b ts = run b AtStart ts
