-- The grammar of modules: what is written, by productions, with the marks that it is written in and its tree. Each name
-- and each place is that of a mark. The switch b says whether the depth of expressions counts.
use Rattle.std.specs.Prelude.{◌≡◌, Bool, true, false, List, [], ◌∷◌, ◌++◌, Option, None, Some}
use Rattle.atl_base.specs.declared.place.Place.{Place}
use Rattle.atl_tree.specs.declared.name.Name.{Name}
use Rattle.atl_tree.specs.declared.kind.KindNode.{KindNode}
use Rattle.atl_tree.specs.declared.module.Module.{Module}
use Rattle.atl_tree.specs.declared.module.ModelDecl.{ModelDecl}
use Rattle.atl_tree.specs.declared.module.Item.{Item}
use Rattle.atl_tree.specs.declared.module.Item.TheVariants as I
use Rattle.atl_tree.specs.declared.module.Helper.{Helper}
use Rattle.atl_tree.specs.declared.module.Param.{Param}
use Rattle.atl_tree.specs.declared.module.Rule.{Rule}
use Rattle.atl_tree.specs.declared.module.RuleSort.{RuleSort}
use Rattle.atl_tree.specs.declared.module.RuleSort.TheVariants as R
use Rattle.atl_tree.specs.declared.module.Pattern.{Pattern}
use Rattle.atl_tree.specs.declared.module.LocalVar.{LocalVar}
use Rattle.atl_tree.specs.declared.module.Target.{Target}
use Rattle.atl_tree.specs.declared.module.Bind.{Bind}
use Rattle.atl_tree.specs.declared.module.Stat.{Stat}
use Rattle.atl_tree.specs.declared.module.Stat.TheVariants as A
use Rattle.ocl_parse.specs.declared.sign.Ender.TheVariants as E
use Rattle.atl_tree.specs.declared.expr.Expr.{Expr}
use Rattle.atl_tree.specs.declared.expr.BinaryOp.TheVariants as O
use Rattle.ocl_parse.specs.declared.sign.Sign.TheVariants as S
use Rattle.ocl_parse.specs.declared.symbol.Symbol.{Symbol}
use Rattle.ocl_parse.specs.declared.symbol.Symbol.TheVariants.{Fixed}
use Rattle.ocl_parse.specs.Symbols.{Lexeme}
use Rattle.ocl_parse.specs.Grammar.{Written, spelt, tree_of, Fits as ExprFits, Kind, Coll, kind_of}
use Rattle.module_grammar.specs.declared.keyword.Keyword.TheVariants as W
use Rattle.module_grammar.specs.Marks.{Mark, word, sign, called, expression, kind_marks}
use Rattle.module_grammar.specs.Parts.{model, module_of, param, helper, class, pattern, local, target, bind, rule, Modifier, Abstract, Unique, Lazy, Modifiers, no_modifiers, has, with_modifier, may_stand, sort_of}

-- model : meta, with commas between
pub data Models : Type 0 where
  OneModel : Name → Place → Name → Models
  MoreModels : Models → Place → Name → Place → Name → Models

-- name : type, with commas between
pub data Params : Type 0 where
  OneParam : Name → Place → Kind → Params
  MoreParams : Params → Place → Name → Place → Kind → Params

-- ( parameters ), or ( )
pub data Bracketed : Type 0 where
  NoParams : Place → Place → Bracketed
  SomeParams : Place → Params → Place → Bracketed

-- what a helper is for: context type, or nothing
pub data Context : Type 0 where
  NoContext : Context
  InContext : Place → Kind → Context

-- the parameter list of a helper, or none
pub data Signature : Type 0 where
  Attribute : Signature
  Operation : Bracketed → Signature

pub data WrittenHelper : Type 0 where
  -- helper context def : name signature : type = body ;
  Define : Place → Context → Place → Place → Name → Signature → Place → Kind → Place → Written → Place → WrittenHelper

-- words before `rule`
pub data Words : Type 0 where
  NoWords : Words
  MoreWords : Words → Place → Modifier → Words

-- extends name, or nothing
pub data Parent : Type 0 where
  NoParent : Parent
  Extends : Place → Name → Parent

-- name : meta ! class, with commas between
pub data Sources : Type 0 where
  OneSource : Name → Place → Name → Place → Name → Sources
  MoreSources : Sources → Place → Name → Place → Name → Place → Name → Sources

-- ( condition ), or nothing
pub data Guard : Type 0 where
  NoGuard : Guard
  SomeGuard : Place → Written → Place → Guard

-- name : type = value ; again and again
pub data Locals : Type 0 where
  NoLocals : Locals
  MoreLocals : Locals → Name → Place → Kind → Place → Written → Place → Locals

-- using { variables }, or nothing
pub data Using : Type 0 where
  NoUsing : Using
  SomeUsing : Place → Place → Locals → Place → Using

-- feature <- value, with commas between
pub data Binds : Type 0 where
  OneBind : Name → Place → Written → Binds
  MoreBinds : Binds → Place → Name → Place → Written → Binds

-- ( bindings ), or ( ), or nothing
pub data BindList : Type 0 where
  NoList : BindList
  EmptyList : Place → Place → BindList
  SomeBinds : Place → Binds → Place → BindList

-- name : meta ! class bindings, with commas between
pub data Targets : Type 0 where
  OneTarget : Name → Place → Name → Place → Name → BindList → Targets
  MoreTargets : Targets → Place → Name → Place → Name → Place → Name → BindList → Targets

-- to targets, or nothing
pub data To : Type 0 where
  NoTo : To
  SomeTo : Place → Targets → To

mutual
  pub data WrittenStat : Type 0 where
    -- expression ;
    Eval : Written → Place → WrittenStat
    -- object . feature <- value ;
    Assign : Written → Place → Name → Place → Written → Place → WrittenStat
    -- if ( condition ) { statements }
    If : Place → Place → Written → Place → Place → Stats → Place → WrittenStat
    -- if ( condition ) { statements } else { statements }
    IfElse : Place → Place → Written → Place → Place → Stats → Place → Place → Place → Stats → Place → WrittenStat
    -- for ( name in values ) { statements }
    For : Place → Place → Name → Place → Written → Place → Place → Stats → Place → WrittenStat

  -- one after the other
  pub data Stats : Type 0 where
    NoStats : Stats
    MoreStats : Stats → WrittenStat → Stats

-- do { statements }, or nothing
pub data Block : Type 0 where
  NoBlock : Block
  SomeBlock : Place → Place → Stats → Place → Block

-- entrypoint, or endpoint, or nothing
pub data Start : Type 0 where
  NoStart : Start
  Entry : Place → Start
  End : Place → Start

pub data WrittenRule : Type 0 where
  -- words rule name parent { from sources guard using to do }
  Matched : Words → Place → Name → Parent → Place → Place → Sources → Guard → Using → To → Block → Place → WrittenRule
  -- start rule name ( parameters ) { using to do }
  Called : Start → Place → Name → Bracketed → Place → Using → To → Block → Place → WrittenRule

pub data WrittenItem : Type 0 where
  Help : WrittenHelper → WrittenItem
  Make : WrittenRule → WrittenItem

pub data Items : Type 0 where
  NoItems : Items
  MoreItems : Items → WrittenItem → Items

pub data WrittenModule : Type 0 where
  -- module name ; create models from models ; items
  Composed : Place → Name → Place → Place → Models → Place → Models → Place → Items → WrittenModule

-- The marks that each is written in.

abbrev pub models_marks : Models → List Mark
models_marks (OneModel m p n) = called m ∷ sign p S.Colon ∷ called n ∷ []
models_marks (MoreModels ms c m p n) = models_marks ms ++ (sign c (S.End E.Comma) ∷ called m ∷ sign p S.Colon ∷ called n ∷ [])

abbrev pub params_marks : Params → List Mark
params_marks (OneParam n p k) = called n ∷ sign p S.Colon ∷ kind_marks k
params_marks (MoreParams ps c n p k) = params_marks ps ++ (sign c (S.End E.Comma) ∷ called n ∷ sign p S.Colon ∷ kind_marks k)

abbrev pub bracketed_marks : Bracketed → List Mark
bracketed_marks (NoParams p q) = sign p S.Open ∷ sign q (S.End E.Close) ∷ []
bracketed_marks (SomeParams p ps q) = sign p S.Open ∷ (params_marks ps ++ (sign q (S.End E.Close) ∷ []))

abbrev pub context_marks : Context → List Mark
context_marks NoContext = []
context_marks (InContext p k) = word p W.Context ∷ kind_marks k

abbrev pub signature_marks : Signature → List Mark
signature_marks Attribute = []
signature_marks (Operation ps) = bracketed_marks ps

abbrev pub helper_marks : WrittenHelper → List Mark
helper_marks (Define p c q r n s t k u e v) =
    word p W.Helper ∷ (context_marks c ++ (word q W.Def ∷ sign r S.Colon ∷ called n ∷ (signature_marks s ++ (sign t S.Colon
    ∷ (kind_marks k ++ (sign u (S.Operator O.Eq) ∷ (expression e ++ (sign v S.Semicolon ∷ []))))))))

abbrev pub modifier : Place → Modifier → Mark
modifier p Abstract = word p W.Abstract
modifier p Unique = word p W.Unique
modifier p Lazy = word p W.Lazy

abbrev pub words_marks : Words → List Mark
words_marks NoWords = []
words_marks (MoreWords ws p m) = words_marks ws ++ (modifier p m ∷ [])

abbrev pub parent_marks : Parent → List Mark
parent_marks NoParent = []
parent_marks (Extends p n) = word p W.Extends ∷ called n ∷ []

abbrev pub sources_marks : Sources → List Mark
sources_marks (OneSource n p m q c) = called n ∷ sign p S.Colon ∷ called m ∷ sign q S.Bang ∷ called c ∷ []
sources_marks (MoreSources ss r n p m q c) = sources_marks ss ++ (sign r (S.End E.Comma) ∷ called n ∷ sign p S.Colon ∷ called m ∷ sign q S.Bang ∷ called c ∷ [])

abbrev pub guard_marks : Guard → List Mark
guard_marks NoGuard = []
guard_marks (SomeGuard p e q) = sign p S.Open ∷ (expression e ++ (sign q (S.End E.Close) ∷ []))

abbrev pub locals_marks : Locals → List Mark
locals_marks NoLocals = []
locals_marks (MoreLocals ls n p k q e r) =
    locals_marks ls ++ (called n ∷ sign p S.Colon ∷ (kind_marks k ++ (sign q (S.Operator O.Eq) ∷ (expression e ++ (sign r S.Semicolon ∷ [])))))

abbrev pub using_marks : Using → List Mark
using_marks NoUsing = []
using_marks (SomeUsing p q ls r) = word p W.Using ∷ sign q S.OpenBrace ∷ (locals_marks ls ++ (sign r (S.End E.CloseBrace) ∷ []))

abbrev pub binds_marks : Binds → List Mark
binds_marks (OneBind n p e) = called n ∷ word p W.Gives ∷ expression e
binds_marks (MoreBinds bs c n p e) = binds_marks bs ++ (sign c (S.End E.Comma) ∷ called n ∷ word p W.Gives ∷ expression e)

abbrev pub list_marks : BindList → List Mark
list_marks NoList = []
list_marks (EmptyList p q) = sign p S.Open ∷ sign q (S.End E.Close) ∷ []
list_marks (SomeBinds p bs q) = sign p S.Open ∷ (binds_marks bs ++ (sign q (S.End E.Close) ∷ []))

abbrev pub targets_marks : Targets → List Mark
targets_marks (OneTarget n p m q c bs) = called n ∷ sign p S.Colon ∷ called m ∷ sign q S.Bang ∷ called c ∷ list_marks bs
targets_marks (MoreTargets ts r n p m q c bs) =
    targets_marks ts ++ (sign r (S.End E.Comma) ∷ called n ∷ sign p S.Colon ∷ called m ∷ sign q S.Bang ∷ called c ∷ list_marks bs)

abbrev pub to_marks : To → List Mark
to_marks NoTo = []
to_marks (SomeTo p ts) = word p W.To ∷ targets_marks ts

abbrev mutual
  pub stat_marks : WrittenStat → List Mark
  stat_marks (Eval e p) = expression e ++ (sign p S.Semicolon ∷ [])
  stat_marks (Assign e p n q v r) = expression e ++ (sign p S.Dot ∷ called n ∷ word q W.Gives ∷ (expression v ++ (sign r S.Semicolon ∷ [])))
  stat_marks (If p q e r s ss t) =
      sign p S.If ∷ sign q S.Open ∷ (expression e ++ (sign r (S.End E.Close) ∷ sign s S.OpenBrace ∷ (stats_marks ss ++ (sign t (S.End E.CloseBrace) ∷ []))))
  stat_marks (IfElse p q e r s ss t u v zs w) =
      sign p S.If ∷ sign q S.Open ∷ (expression e ++ (sign r (S.End E.Close) ∷ sign s S.OpenBrace ∷ (stats_marks ss ++ (sign t (S.End E.CloseBrace)
      ∷ sign u (S.End E.Else) ∷ sign v S.OpenBrace ∷ (stats_marks zs ++ (sign w (S.End E.CloseBrace) ∷ []))))))
  stat_marks (For p q n r e s t ss u) =
      word p W.For ∷ sign q S.Open ∷ called n ∷ sign r (S.End E.In) ∷ (expression e ++ (sign s (S.End E.Close) ∷ sign t S.OpenBrace ∷ (stats_marks ss ++ (sign u (S.End E.CloseBrace) ∷ []))))

  pub stats_marks : Stats → List Mark
  stats_marks NoStats = []
  stats_marks (MoreStats ss s) = stats_marks ss ++ stat_marks s

abbrev pub block_marks : Block → List Mark
block_marks NoBlock = []
block_marks (SomeBlock p q ss r) = word p W.Do ∷ sign q S.OpenBrace ∷ (stats_marks ss ++ (sign r (S.End E.CloseBrace) ∷ []))

abbrev pub start_marks : Start → List Mark
start_marks NoStart = []
start_marks (Entry p) = word p W.Entrypoint ∷ []
start_marks (End p) = word p W.Endpoint ∷ []

-- using, to and do, and the brace that ends a rule
abbrev pub rest_marks : Using → To → Block → Place → List Mark
rest_marks u t b p = using_marks u ++ (to_marks t ++ (block_marks b ++ (sign p (S.End E.CloseBrace) ∷ [])))

abbrev pub rule_marks : WrittenRule → List Mark
rule_marks (Matched ws p n x q r ss g u t b s) =
    words_marks ws ++ (word p W.Rule ∷ called n ∷ (parent_marks x ++ (sign q S.OpenBrace ∷ word r W.From ∷ (sources_marks ss ++ (guard_marks g ++ rest_marks u t b s)))))
rule_marks (Called x p n ps q u t b s) = start_marks x ++ (word p W.Rule ∷ called n ∷ (bracketed_marks ps ++ (sign q S.OpenBrace ∷ rest_marks u t b s)))

abbrev pub item_marks : WrittenItem → List Mark
item_marks (Help h) = helper_marks h
item_marks (Make r) = rule_marks r

abbrev pub items_marks : Items → List Mark
items_marks NoItems = []
items_marks (MoreItems is i) = items_marks is ++ item_marks i

abbrev pub module_marks : WrittenModule → List Mark
module_marks (Composed p n q r ts s ss t is) =
    word p W.Module ∷ called n ∷ sign q S.Semicolon ∷ word r W.Create ∷ (models_marks ts ++ (word s W.From ∷ (models_marks ss ++ (sign t S.Semicolon ∷ items_marks is))))

-- The trees.

abbrev pub models : Models → List ModelDecl
models (OneModel m p n) = model m n ∷ []
models (MoreModels ms c m p n) = models ms ++ (model m n ∷ [])

abbrev pub params : Params → List Param
params (OneParam n p k) = param n (kind_of k) ∷ []
params (MoreParams ps c n p k) = params ps ++ (param n (kind_of k) ∷ [])

abbrev pub bracketed : Bracketed → List Param
bracketed (NoParams p q) = []
bracketed (SomeParams p ps q) = params ps

abbrev pub context : Context → Option KindNode
context NoContext = None
context (InContext p k) = Some (kind_of k)

abbrev pub signature : Signature → Option (List Param)
signature Attribute = None
signature (Operation ps) = Some (bracketed ps)

abbrev pub helper_of : WrittenHelper → Helper
helper_of (Define p c q r n s t k u e v) = helper (context c) n (signature s) (kind_of k) (tree_of e)

abbrev pub modifiers : Words → Modifiers
modifiers NoWords = no_modifiers
modifiers (MoreWords ws p m) = with_modifier (modifiers ws) m

abbrev pub parent : Parent → Option Name
parent NoParent = None
parent (Extends p n) = Some n

abbrev pub sources : Sources → List Pattern
sources (OneSource n p m q c) = pattern n (class m c) ∷ []
sources (MoreSources ss r n p m q c) = sources ss ++ (pattern n (class m c) ∷ [])

abbrev pub guard : Guard → Option Expr
guard NoGuard = None
guard (SomeGuard p e q) = Some (tree_of e)

abbrev pub locals : Locals → List LocalVar
locals NoLocals = []
locals (MoreLocals ls n p k q e r) = locals ls ++ (local n (kind_of k) (tree_of e) ∷ [])

abbrev pub using : Using → List LocalVar
using NoUsing = []
using (SomeUsing p q ls r) = locals ls

abbrev pub binds : Binds → List Bind
binds (OneBind n p e) = bind n (tree_of e) ∷ []
binds (MoreBinds bs c n p e) = binds bs ++ (bind n (tree_of e) ∷ [])

abbrev pub bind_list : BindList → List Bind
bind_list NoList = []
bind_list (EmptyList p q) = []
bind_list (SomeBinds p bs q) = binds bs

abbrev pub targets : Targets → List Target
targets (OneTarget n p m q c bs) = target n (class m c) (bind_list bs) ∷ []
targets (MoreTargets ts r n p m q c bs) = targets ts ++ (target n (class m c) (bind_list bs) ∷ [])

abbrev pub to : To → List Target
to NoTo = []
to (SomeTo p ts) = targets ts

abbrev mutual
  pub stat : WrittenStat → Stat
  stat (Eval e p) = A.Eval (tree_of e)
  stat (Assign e p n q v r) = A.Assign (tree_of e) n (tree_of v)
  stat (If p q e r s ss t) = A.If (tree_of e) (stats ss) None
  stat (IfElse p q e r s ss t u v zs w) = A.If (tree_of e) (stats ss) (Some (stats zs))
  stat (For p q n r e s t ss u) = A.For n (tree_of e) (stats ss)

  pub stats : Stats → List Stat
  stats NoStats = []
  stats (MoreStats ss s) = stats ss ++ (stat s ∷ [])

abbrev pub block : Block → Option (List Stat)
block NoBlock = None
block (SomeBlock p q ss r) = Some (stats ss)

abbrev pub start : Start → RuleSort
start NoStart = R.Called
start (Entry p) = R.Entry
start (End p) = R.End

abbrev pub rule_of : WrittenRule → Rule
rule_of (Matched ws p n x q r ss g u t b s) = rule (sort_of (modifiers ws)) (modifiers ws).is_abstract n (parent x) [] (sources ss) (guard g) (using u) (to t) (block b)
rule_of (Called x p n ps q u t b s) = rule (start x) false n None (bracketed ps) [] None (using u) (to t) (block b)

abbrev pub item : WrittenItem → Item
item (Help h) = I.Help (helper_of h)
item (Make r) = I.Make (rule_of r)

abbrev pub items : Items → List Item
items NoItems = []
items (MoreItems is i) = items is ++ (item i ∷ [])

abbrev pub module_tree : WrittenModule → Module
module_tree (Composed p n q r ts s ss t is) = module_of n (models ts) (models ss) (items is)

-- The sentences beside the productions.

-- a context is no collection
abbrev pub IsContext : Kind → Type 0
IsContext (Coll p w q k r) = ⊥
IsContext k = Unit {0}

abbrev pub ContextFits : Context → Type 0
ContextFits NoContext = Unit {0}
ContextFits (InContext p k) = IsContext k

-- each word stands at most once
abbrev pub WordsFit : Words → Type 0
WordsFit NoWords = Unit {0}
WordsFit (MoreWords ws p m) = WordsFit ws × (has (modifiers ws) m ≡ false)

-- an entrypoint or endpoint rule has no parameters
abbrev pub StartFits : Start → Bracketed → Type 0
StartFits NoStart ps = Unit {0}
StartFits x (NoParams p q) = Unit {0}
StartFits x (SomeParams p ps q) = ⊥

-- these begin the statement form of `if`
abbrev pub begins_if : List Lexeme → Bool
begins_if [] = false
begins_if (t ∷ []) = false
begins_if (t ∷ u ∷ ts) = both t.symbol u.symbol
  where
    both : Symbol → Symbol → Bool
    both (Fixed S.If) (Fixed S.Open) = true
    both s r = false

module _ (b : Bool) where
  -- an expression that stands in no other
  abbrev pub Whole : Written → Type 0
  Whole w = ExprFits b 0 0 w

  abbrev pub HelperFits : WrittenHelper → Type 0
  HelperFits (Define p c q r n s t k u e v) = ContextFits c × Whole e

  -- a lazy rule has no guard
  abbrev pub GuardFits : Bool → Guard → Type 0
  GuardFits lazy NoGuard = Unit {0}
  GuardFits false (SomeGuard p e q) = Whole e
  GuardFits true (SomeGuard p e q) = ⊥

  abbrev pub LocalsFit : Locals → Type 0
  LocalsFit NoLocals = Unit {0}
  LocalsFit (MoreLocals ls n p k q e r) = LocalsFit ls × Whole e

  abbrev pub UsingFits : Using → Type 0
  UsingFits NoUsing = Unit {0}
  UsingFits (SomeUsing p q ls r) = LocalsFit ls

  abbrev pub BindsFit : Binds → Type 0
  BindsFit (OneBind n p e) = Whole e
  BindsFit (MoreBinds bs c n p e) = BindsFit bs × Whole e

  abbrev pub ListFits : BindList → Type 0
  ListFits (SomeBinds p bs q) = BindsFit bs
  ListFits bs = Unit {0}

  abbrev pub TargetsFit : Targets → Type 0
  TargetsFit (OneTarget n p m q c bs) = ListFits bs
  TargetsFit (MoreTargets ts r n p m q c bs) = TargetsFit ts × ListFits bs

  abbrev pub ToFits : To → Type 0
  ToFits NoTo = Unit {0}
  ToFits (SomeTo p ts) = TargetsFit ts

  abbrev mutual
    -- an expression's statement does not begin as the statement form of `if` does
    pub StatFits : WrittenStat → Type 0
    StatFits (Eval e p) = (begins_if (spelt e) ≡ false) × Whole e
    StatFits (Assign e p n q v r) = (begins_if (spelt e) ≡ false) × Whole e × Whole v
    StatFits (If p q e r s ss t) = Whole e × StatsFit ss
    StatFits (IfElse p q e r s ss t u v zs w) = Whole e × StatsFit ss × StatsFit zs
    StatFits (For p q n r e s t ss u) = Whole e × StatsFit ss

    pub StatsFit : Stats → Type 0
    StatsFit NoStats = Unit {0}
    StatsFit (MoreStats ss s) = StatsFit ss × StatFits s

  abbrev pub BlockFits : Block → Type 0
  BlockFits NoBlock = Unit {0}
  BlockFits (SomeBlock p q ss r) = StatsFit ss

  abbrev pub RestFits : Using → To → Block → Type 0
  RestFits u t x = UsingFits u × ToFits t × BlockFits x

  -- unique needs lazy
  abbrev pub RuleFits : WrittenRule → Type 0
  RuleFits (Matched ws p n x q r ss g u t y s) = WordsFit ws × (may_stand (modifiers ws) ≡ true) × GuardFits (modifiers ws).is_lazy g × RestFits u t y
  RuleFits (Called x p n ps q u t y s) = StartFits x ps × RestFits u t y

  abbrev pub ItemFits : WrittenItem → Type 0
  ItemFits (Help h) = HelperFits h
  ItemFits (Make r) = RuleFits r

  abbrev pub ItemsFit : Items → Type 0
  ItemsFit NoItems = Unit {0}
  ItemsFit (MoreItems is i) = ItemsFit is × ItemFits i

  abbrev pub ModuleFits : WrittenModule → Type 0
  ModuleFits (Composed p n q r ts s ss t is) = ItemsFit is

  -- these marks have this tree
  abbrev pub IsModule : List Mark → Module → Type 0
  IsModule ts m = (w : WrittenModule) × ModuleFits w × (module_marks w ≡ ts) × (module_tree w ≡ m)
