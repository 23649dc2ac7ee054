-- A tree as it is written canonically: parentheses exactly where the grammar needs them, the words before `rule` in one
-- order, and nothing where nothing is needed. Places are left aside: each is the same.
use Rattle.std.specs.Prelude.{ℕ, suc, Bool, true, false, List, [], ◌∷◌, map, Option, None, Some, nat_lt, if◌then◌else◌, codes}
use Rattle.atl_base.specs.declared.place.Place.{Place}
use Rattle.atl_tree.specs.declared.name.Name.{Name}
use Rattle.atl_tree.specs.declared.kind.KindNode.{KindNode, fold-KindNode}
use Rattle.atl_tree.specs.declared.kind.KindSort.TheOpen as Q
use Rattle.atl_tree.specs.declared.expr.Expr.{Expr, fold-Expr}
use Rattle.atl_tree.specs.declared.expr.ExprKind.{ExprKind, fold-ExprKind}
use Rattle.atl_tree.specs.declared.expr.ExprKind.TheOpen as K
use Rattle.atl_tree.specs.declared.module.Module.{Module}
use Rattle.atl_tree.specs.declared.module.ModelDecl.{ModelDecl}
use Rattle.atl_tree.specs.declared.module.Item.{Item}
use Rattle.atl_tree.specs.declared.module.Item.TheVariants as I
use Rattle.atl_tree.specs.declared.module.Helper.{Helper}
use Rattle.atl_tree.specs.declared.module.Param.{Param}
use Rattle.atl_tree.specs.declared.module.Rule.{Rule}
use Rattle.atl_tree.specs.declared.module.RuleSort.{RuleSort}
use Rattle.atl_tree.specs.declared.module.RuleSort.TheVariants as R
use Rattle.atl_tree.specs.declared.module.Pattern.{Pattern}
use Rattle.atl_tree.specs.declared.module.LocalVar.{LocalVar}
use Rattle.atl_tree.specs.declared.module.Target.{Target}
use Rattle.atl_tree.specs.declared.module.Bind.{Bind}
use Rattle.atl_tree.specs.declared.module.Stat.{Stat, fold-Stat}
use Rattle.atl_tree.specs.declared.module.Stat.TheOpen as A
use Rattle.ocl_parse.specs.declared.sign.Constant.TheVariants as N
use Rattle.ocl_parse.specs.Trees.{name, level}
use Rattle.ocl_parse.specs.Grammar.{Written, Number, Words as Text, Lone, Literal, Variable, OfClass, OfBasic, Elements, If as Choice, Round, Let, Unary, Binary, Read, Call, Loop, Iterate, Arguments, None as NoArguments, One, More, Kind, Basic, Class, Coll, spelt}
use Rattle.module_grammar.specs.Parts.{Abstract, Unique, Lazy}
use Rattle.module_grammar.specs.Grammar.{Models, OneModel, MoreModels, Params, OneParam, MoreParams, Bracketed, NoParams, SomeParams, Context, NoContext, InContext, Signature, Attribute, Operation, WrittenHelper, Define, Words, NoWords, MoreWords, Parent, NoParent, Extends, Sources, OneSource, MoreSources, Guard, NoGuard, SomeGuard, Locals, NoLocals, MoreLocals, Using, NoUsing, SomeUsing, Binds, OneBind, MoreBinds, BindList, NoList, SomeBinds, Targets, OneTarget, MoreTargets, To, NoTo, SomeTo, WrittenStat, Eval, Assign, If, IfElse, For, Stats, NoStats, MoreStats, Block, NoBlock, SomeBlock, Start, NoStart, Entry, End, WrittenRule, Matched, Called, WrittenItem, Help, Make, Items, NoItems, MoreItems, WrittenModule, Composed, begins_if}

abbrev pub here : Place
here = record { line = 0; column = 0 }

abbrev pub name_here : Name → Name
name_here n = name here n.text

abbrev pub kind_layer : Q.KindSort-F Kind Kind → Kind
kind_layer (Q.Basic w) = Basic here w
kind_layer (Q.Class c) = Class (name here c.meta) here (name here c.class)
kind_layer (Q.Coll w k) = Coll here w here k here

unfoldable pub kind_written : KindNode → Kind
kind_written = fold-KindNode Kind Kind kind_layer (λ k. k.what)

-- An expression, where one of level l and above may stand.

abbrev pub ByLevel : Type 0
ByLevel = ℕ → Written

abbrev pub round_where : Bool → Written → Written
round_where true w = Round here w here
round_where false w = w

abbrev pub more : Arguments → List Written → Arguments
more es [] = es
more es (w ∷ ws) = more (More es here w) ws

abbrev pub arguments : List Written → Arguments
arguments [] = NoArguments
arguments (w ∷ ws) = more (One w) ws

abbrev pub truth : Bool → Written
truth true = Lone here N.True
truth false = Lone here N.False

abbrev pub layer : K.ExprKind-F ByLevel ByLevel → ByLevel
layer (K.Number n) l = Number here n
layer (K.Words s) l = Text here s
layer (K.Truth t) l = truth t
layer K.Undefined l = Lone here N.Undefined
layer (K.Literal s) l = Literal here (name here s)
layer (K.Var s) l = Variable (name here s)
layer K.Own l = Lone here N.Own
layer K.Module l = Lone here N.Module
layer (K.Class c) l = OfClass (name here c.meta) here (name here c.class)
layer (K.Basic w) l = OfBasic here w
layer (K.Coll w es) l = Elements here w here (arguments (map (λ e. e 0) es)) here
layer (K.If c a b) l = Choice here (c 0) here (a 0) here (b 0) here
layer (K.Let n k a b) l = round_where (nat_lt 0 l) (Let here (name_here n) here (kind_written k) here (a 0) here (b 0))
layer (K.Unary o a) l = round_where (nat_lt 5 l) (Unary here o (a 5))
layer (K.Binary o a b) l = round_where (nat_lt (level o) l) (Binary (a (level o)) here o (b (suc (level o))))
layer (K.Read a s) l = Read (a 6) here (name here s)
layer (K.Call a arrow s es) l = Call (a 6) arrow here (name here s) here (arguments (map (λ e. e 0) es)) here
layer (K.Loop a s x e) l = Loop (a 6) here (name here s) here (name_here x) here (e 0) here
layer (K.Iterate a x y k i e) l =
    Iterate (a 6) here (name here (codes "iterate")) here (name_here x) here (name_here y) here (kind_written k) here (i 0) here (e 0) here

unfoldable pub expr_written : Expr → ByLevel
expr_written = fold-Expr ByLevel ByLevel layer (λ e. e.what)

unfoldable pub what_written : ExprKind → ByLevel
what_written = fold-ExprKind ByLevel ByLevel layer (λ e. e.what)

abbrev pub whole_written : Expr → Written
whole_written e = expr_written e 0

-- a leftmost `if .. endif` in parentheses
abbrev pub round_leftmost : Written → Written
round_leftmost (Choice p c q a r b s) = Round here (Choice p c q a r b s) here
round_leftmost (Binary a p o b) = Binary (round_leftmost a) p o b
round_leftmost (Read a p n) = Read (round_leftmost a) p n
round_leftmost (Call a arrow p n q es r) = Call (round_leftmost a) arrow p n q es r
round_leftmost (Loop a p n q x r e s) = Loop (round_leftmost a) p n q x r e s
round_leftmost (Iterate a p n q x r y s k t i u e v) = Iterate (round_leftmost a) p n q x r y s k t i u e v
round_leftmost w = w

-- an expression that begins a statement does not begin as the statement form of `if` does
abbrev pub beginning : Written → Written
beginning w = if begins_if (spelt w) then round_leftmost w else w

-- The parts of a module.

abbrev pub more_models : Models → List ModelDecl → Models
more_models ms [] = ms
more_models ms (d ∷ ds) = more_models (MoreModels ms here (name_here d.model) here (name_here d.meta)) ds

-- a module has a target and a source; where a tree has none, an empty name stands there
abbrev pub models_written : List ModelDecl → Models
models_written [] = OneModel (name here []) here (name here [])
models_written (d ∷ ds) = more_models (OneModel (name_here d.model) here (name_here d.meta)) ds

abbrev pub more_params : Params → List Param → Params
more_params ps [] = ps
more_params ps (q ∷ qs) = more_params (MoreParams ps here (name_here q.name) here (kind_written q.kind)) qs

abbrev pub bracketed_written : List Param → Bracketed
bracketed_written [] = NoParams here here
bracketed_written (q ∷ qs) = SomeParams here (more_params (OneParam (name_here q.name) here (kind_written q.kind)) qs) here

abbrev pub context_written : Option KindNode → Context
context_written None = NoContext
context_written (Some k) = InContext here (kind_written k)

abbrev pub signature_written : Option (List Param) → Signature
signature_written None = Attribute
signature_written (Some ps) = Operation (bracketed_written ps)

abbrev pub helper_written : Helper → WrittenHelper
helper_written h = Define here (context_written h.context) here here (name_here h.name) (signature_written h.params) here (kind_written h.result) here (whole_written h.body) here

-- abstract, unique, lazy
abbrev pub abstract_words : Bool → Words
abstract_words true = MoreWords NoWords here Abstract
abstract_words false = NoWords

abbrev pub sort_words : RuleSort → Words → Words
sort_words R.Unique ws = MoreWords (MoreWords ws here Unique) here Lazy
sort_words R.Lazy ws = MoreWords ws here Lazy
sort_words s ws = ws

abbrev pub parent_written : Option Name → Parent
parent_written None = NoParent
parent_written (Some n) = Extends here (name_here n)

abbrev pub more_sources : Sources → List Pattern → Sources
more_sources ss [] = ss
more_sources ss (q ∷ qs) = more_sources (MoreSources ss here (name_here q.name) here (name here q.class.meta) here (name here q.class.class)) qs

abbrev pub sources_written : List Pattern → Sources
sources_written [] = OneSource (name here []) here (name here []) here (name here [])
sources_written (q ∷ qs) = more_sources (OneSource (name_here q.name) here (name here q.class.meta) here (name here q.class.class)) qs

abbrev pub guard_written : Option Expr → Guard
guard_written None = NoGuard
guard_written (Some e) = SomeGuard here (whole_written e) here

abbrev pub more_locals : Locals → List LocalVar → Locals
more_locals ls [] = ls
more_locals ls (v ∷ vs) = more_locals (MoreLocals ls (name_here v.name) here (kind_written v.kind) here (whole_written v.value) here) vs

-- no variables, no `using`
abbrev pub using_written : List LocalVar → Using
using_written [] = NoUsing
using_written (v ∷ vs) = SomeUsing here here (more_locals NoLocals (v ∷ vs)) here

abbrev pub more_binds : Binds → List Bind → Binds
more_binds bs [] = bs
more_binds bs (c ∷ cs) = more_binds (MoreBinds bs here (name_here c.feature) here (whole_written c.value)) cs

-- no bindings, no parentheses
abbrev pub list_written : List Bind → BindList
list_written [] = NoList
list_written (c ∷ cs) = SomeBinds here (more_binds (OneBind (name_here c.feature) here (whole_written c.value)) cs) here

abbrev pub more_targets : Targets → List Target → Targets
more_targets ts [] = ts
more_targets ts (x ∷ xs) = more_targets (MoreTargets ts here (name_here x.name) here (name here x.class.meta) here (name here x.class.class) (list_written x.binds)) xs

abbrev pub to_written : List Target → To
to_written [] = NoTo
to_written (x ∷ xs) = SomeTo here (more_targets (OneTarget (name_here x.name) here (name here x.class.meta) here (name here x.class.class) (list_written x.binds)) xs)

abbrev pub more_stats : Stats → List WrittenStat → Stats
more_stats ss [] = ss
more_stats ss (t ∷ ts) = more_stats (MoreStats ss t) ts

abbrev pub if_written : Written → Stats → Option (List WrittenStat) → WrittenStat
if_written e ss None = If here here e here here ss here
if_written e ss (Some ts) = IfElse here here e here here ss here here here (more_stats NoStats ts) here

abbrev pub stat_layer : A.Stat-F WrittenStat → WrittenStat
stat_layer (A.Eval e) = Eval (beginning (whole_written e)) here
stat_layer (A.Assign e n v) = Assign (beginning (whole_written e)) here (name_here n) here (whole_written v) here
stat_layer (A.If e ss ts) = if_written (whole_written e) (more_stats NoStats ss) ts
stat_layer (A.For n e ss) = For here here (name_here n) here (whole_written e) here here (more_stats NoStats ss) here

unfoldable pub stat_written : Stat → WrittenStat
stat_written = fold-Stat WrittenStat stat_layer

abbrev pub block_written : Option (List Stat) → Block
block_written None = NoBlock
block_written (Some ss) = SomeBlock here here (more_stats NoStats (map stat_written ss)) here

abbrev pub called_written : Start → Rule → WrittenRule
called_written x r =
    Called x here (name_here r.name) (bracketed_written r.params) here (using_written r.locals) (to_written r.targets) (block_written r.block) here

abbrev pub matched_written : Rule → WrittenRule
matched_written r =
    Matched (sort_words r.sort (abstract_words r.is_abstract)) here (name_here r.name) (parent_written r.parent) here here (sources_written r.sources) (guard_written r.guard)
    (using_written r.locals) (to_written r.targets) (block_written r.block) here

abbrev pub by_sort : RuleSort → Rule → WrittenRule
by_sort R.Called r = called_written NoStart r
by_sort R.Entry r = called_written (Entry here) r
by_sort R.End r = called_written (End here) r
by_sort s r = matched_written r

abbrev pub item_written : Item → WrittenItem
item_written (I.Help h) = Help (helper_written h)
item_written (I.Make r) = Make (by_sort r.sort r)

abbrev pub more_items : Items → List Item → Items
more_items is [] = is
more_items is (j ∷ js) = more_items (MoreItems is (item_written j)) js

abbrev pub module_written : Module → WrittenModule
module_written m = Composed here (name_here m.name) here here (models_written m.targets) here (models_written m.sources) here (more_items NoItems m.items)
