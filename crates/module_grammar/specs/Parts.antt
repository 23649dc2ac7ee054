-- The parts of a module's tree, and what they become as they grow.
use Rattle.std.specs.Prelude.{Bool, true, false, List, [], ◌∷◌, ◌++◌, Option, None, Some, if◌then◌else◌}
use Rattle.atl_tree.specs.declared.name.Name.{Name}
use Rattle.atl_tree.specs.declared.name.ClassRef.{ClassRef}
use Rattle.atl_tree.specs.declared.kind.KindNode.{KindNode}
use Rattle.atl_tree.specs.declared.expr.Expr.{Expr}
use Rattle.atl_tree.specs.declared.module.Module.{Module}
use Rattle.atl_tree.specs.declared.module.ModelDecl.{ModelDecl}
use Rattle.atl_tree.specs.declared.module.Item.{Item}
use Rattle.atl_tree.specs.declared.module.Helper.{Helper}
use Rattle.atl_tree.specs.declared.module.Param.{Param}
use Rattle.atl_tree.specs.declared.module.Rule.{Rule}
use Rattle.atl_tree.specs.declared.module.RuleSort.{RuleSort}
use Rattle.atl_tree.specs.declared.module.RuleSort.TheVariants as R
use Rattle.atl_tree.specs.declared.module.Pattern.{Pattern}
use Rattle.atl_tree.specs.declared.module.LocalVar.{LocalVar}
use Rattle.atl_tree.specs.declared.module.Target.{Target}
use Rattle.atl_tree.specs.declared.module.Bind.{Bind}
use Rattle.atl_tree.specs.declared.module.Stat.{Stat}

abbrev pub model : Name → Name → ModelDecl
model m n = record { model = m; meta = n }

abbrev pub module_of : Name → List ModelDecl → List ModelDecl → List Item → Module
module_of n ts ss is = record { name = n; targets = ts; sources = ss; items = is }

abbrev pub with_item : Module → Item → Module
with_item m i = record { name = m.name; targets = m.targets; sources = m.sources; items = m.items ++ (i ∷ []) }

abbrev pub param : Name → KindNode → Param
param n k = record { name = n; kind = k }

abbrev pub helper : Option KindNode → Name → Option (List Param) → KindNode → Expr → Helper
helper c n ps k e = record { context = c; name = n; params = ps; result = k; body = e }

-- the class of a metamodel's name and its own
abbrev pub class : Name → Name → ClassRef
class m c = record { meta = m.text; class = c.text; place = m.place }

abbrev pub pattern : Name → ClassRef → Pattern
pattern n c = record { name = n; class = c }

abbrev pub local : Name → KindNode → Expr → LocalVar
local n k e = record { name = n; kind = k; value = e }

abbrev pub target : Name → ClassRef → List Bind → Target
target n c bs = record { name = n; class = c; binds = bs }

abbrev pub bind : Name → Expr → Bind
bind n e = record { feature = n; value = e }

-- a target with one binding more
abbrev pub with_bind : Target → Bind → Target
with_bind t b = target t.name t.class (t.binds ++ (b ∷ []))

abbrev pub rule : RuleSort → Bool → Name → Option Name → List Param → List Pattern → Option Expr → List LocalVar → List Target → Option (List Stat) → Rule
rule s a n p ps ss g ls ts b =
    record { sort = s; is_abstract = a; name = n; parent = p; params = ps; sources = ss; guard = g; locals = ls; targets = ts; block = b }

-- a rule of which the name alone is read
abbrev pub bare : RuleSort → Bool → Name → Rule
bare s a n = rule s a n None [] [] None [] [] None

abbrev pub with_parent : Rule → Name → Rule
with_parent r p = rule r.sort r.is_abstract r.name (Some p) r.params r.sources r.guard r.locals r.targets r.block

-- a called rule, or one with a word before it
abbrev pub with_params : Rule → RuleSort → List Param → Rule
with_params r s ps = rule s r.is_abstract r.name r.parent ps r.sources r.guard r.locals r.targets r.block

abbrev pub with_source : Rule → Pattern → Rule
with_source r s = rule r.sort r.is_abstract r.name r.parent r.params (r.sources ++ (s ∷ [])) r.guard r.locals r.targets r.block

abbrev pub with_guard : Rule → Expr → Rule
with_guard r e = rule r.sort r.is_abstract r.name r.parent r.params r.sources (Some e) r.locals r.targets r.block

abbrev pub with_local : Rule → LocalVar → Rule
with_local r l = rule r.sort r.is_abstract r.name r.parent r.params r.sources r.guard (r.locals ++ (l ∷ [])) r.targets r.block

abbrev pub with_target : Rule → Target → Rule
with_target r t = rule r.sort r.is_abstract r.name r.parent r.params r.sources r.guard r.locals (r.targets ++ (t ∷ [])) r.block

abbrev pub with_block : Rule → List Stat → Rule
with_block r ss = rule r.sort r.is_abstract r.name r.parent r.params r.sources r.guard r.locals r.targets (Some ss)

-- a word before `rule`
pub data Modifier : Type 0 where
  Abstract : Modifier
  Unique : Modifier
  Lazy : Modifier

-- the words before `rule`, whatever their order
pub record Modifiers : Type 0 where
  pub is_abstract : Bool
  pub is_unique : Bool
  pub is_lazy : Bool

abbrev pub no_modifiers : Modifiers
no_modifiers = record { is_abstract = false; is_unique = false; is_lazy = false }

abbrev pub has : Modifiers → Modifier → Bool
has ms Abstract = ms.is_abstract
has ms Unique = ms.is_unique
has ms Lazy = ms.is_lazy

abbrev pub with_modifier : Modifiers → Modifier → Modifiers
with_modifier ms Abstract = record { is_abstract = true; is_unique = ms.is_unique; is_lazy = ms.is_lazy }
with_modifier ms Unique = record { is_abstract = ms.is_abstract; is_unique = true; is_lazy = ms.is_lazy }
with_modifier ms Lazy = record { is_abstract = ms.is_abstract; is_unique = ms.is_unique; is_lazy = true }

-- unique needs lazy
abbrev pub may_stand : Modifiers → Bool
may_stand ms = if ms.is_unique then ms.is_lazy else true

abbrev pub sort_of : Modifiers → RuleSort
sort_of ms = if ms.is_unique then R.Unique else if ms.is_lazy then R.Lazy else R.Matched
