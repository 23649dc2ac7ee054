-- Where the code stands in reading, as the states of the machine, and what it moves to, as the machine's steps.
use Rattle.std.specs.Prelude.{Bool, true, false, List, [], ◌∷◌, Option, None, Some, reverse}
use Rattle.atl_tree.specs.declared.name.Name.{Name}
use Rattle.atl_tree.specs.declared.module.Module.{Module}
use Rattle.atl_tree.specs.declared.module.Rule.{Rule}
use Rattle.atl_tree.specs.declared.module.Target.{Target}
use Rattle.ocl_parse.specs.declared.sign.Ender.TheVariants as Y
use Rattle.ocl_parse.specs.declared.sign.Sign.{Sign}
use Rattle.ocl_parse.specs.declared.sign.Sign.TheVariants.{Coll, End, If, Open, Other}
use Rattle.ocl_parse.specs.declared.symbol.Symbol.TheVariants.{Fixed}
use Rattle.module_grammar.specs.Marks.{Content, Word, Shared}
use Rattle.module_grammar.specs.Parts.{Modifier, Abstract, Unique, Lazy, Modifiers}
use Rattle.module_states.specs.Machine.{AtBang, AtBind, AtBinds, AtBrace, AtCalledBrace, AtClass, AtClassName, AtContext, AtCreate, AtDefColon, AtDo, AtElse, AtElseBrace, AtFirstBind, AtFirstParam, AtFor, AtForBrace, AtForIn, AtForName, AtFrom, AtGives, AtHelper, AtHelperName, AtIf, AtIfBrace, AtItem, AtLocal, AtLocalColon, AtMeta, AtModel, AtModelColon, AtModelEnd, AtModuleEnd, AtModuleName, AtNoParams, AtParam, AtParamColon, AtParent, AtRest, AtResultColon, AtRule, AtRuleEnd, AtRuleName, AtRuleOpen, AtSignature, AtSource, AtSourceColon, AtSourceEnd, AtStart, AtStat, AtTarget, AtTargetColon, AtTargetEnd, AtTo, AtUsing, AtWord, Blocks, ForAssigned, ForBind, ForBody, ForClass, ForCondition, ForContext, ForExpr, ForGuard, ForKind, ForLocal, ForLocalKind, ForParam, ForResult, ForSource, ForSources, ForStat, ForTarget, ForTargets, ForValues, Form, Goes, InDo, InElse, InExpr, InFor, InIf, InKind, Models, Modified, OfHelper, OfRule, Owner, Plain, Refuses, Started, State, Step, TooDeep}
use Rattle.module_grammar.specs.declared.keyword.Keyword.TheVariants as J
use Rattle.module_states.specs.declared.content.Content.{Content as SomeContent}
use Rattle.module_states.specs.declared.content.Content.TheVariants as T
use Rattle.module_states.specs.declared.next.Opening.{Opening}
use Rattle.module_states.specs.declared.next.Opening.TheVariants as Q
use Rattle.module_states.specs.declared.next.Models.{Models as SomeModels}
use Rattle.module_states.specs.declared.next.Models.TheVariants as M
use Rattle.module_states.specs.declared.next.Header.{Header}
use Rattle.module_states.specs.declared.next.Header.TheVariants as H
use Rattle.module_states.specs.declared.next.Helping.{Helping}
use Rattle.module_states.specs.declared.next.Helping.TheVariants as L
use Rattle.module_states.specs.declared.next.Draft.{Draft}
use Rattle.module_states.specs.declared.next.Owner.{Owner as SomeOwner}
use Rattle.module_states.specs.declared.next.Owner.TheVariants as O
use Rattle.module_states.specs.declared.next.Params.{Params}
use Rattle.module_states.specs.declared.next.Params.TheVariants as P
use Rattle.module_states.specs.declared.next.Modifier.{Modifier as SomeModifier}
use Rattle.module_states.specs.declared.next.Modifier.TheVariants as W
use Rattle.module_states.specs.declared.next.Modifiers.{Modifiers as SomeModifiers}
use Rattle.module_states.specs.declared.next.Form.{Form as SomeForm}
use Rattle.module_states.specs.declared.next.Form.TheVariants as F
use Rattle.module_states.specs.declared.next.Head.{Head}
use Rattle.module_states.specs.declared.next.Head.TheVariants as D
use Rattle.module_states.specs.declared.next.Point.{Point}
use Rattle.module_states.specs.declared.next.Point.TheVariants as R
use Rattle.module_states.specs.declared.next.Colon.{Colon}
use Rattle.module_states.specs.declared.next.Colon.TheVariants as N
use Rattle.module_states.specs.declared.next.Purpose.{Purpose}
use Rattle.module_states.specs.declared.next.Purpose.TheVariants as U
use Rattle.module_states.specs.declared.next.Classing.{Classing}
use Rattle.module_states.specs.declared.next.Class.{Class}
use Rattle.module_states.specs.declared.next.Class.TheVariants as C
use Rattle.module_states.specs.declared.next.TargetPoint.{TargetPoint}
use Rattle.module_states.specs.declared.next.TargetPoint.TheVariants as G
use Rattle.module_states.specs.declared.next.Outer.{Outer}
use Rattle.module_states.specs.declared.next.Outer.TheVariants as B
use Rattle.module_states.specs.declared.next.Block.{Block}
use Rattle.module_states.specs.declared.next.Stating.{Stating}
use Rattle.module_states.specs.declared.next.Stating.TheVariants as S
use Rattle.module_states.specs.declared.next.ForKind.{ForKind as SomeForKind}
use Rattle.module_states.specs.declared.next.ForKind.TheVariants as K
use Rattle.module_states.specs.declared.next.ForExpr.{ForExpr as SomeForExpr}
use Rattle.module_states.specs.declared.next.ForExpr.TheVariants as E
use Rattle.module_states.specs.declared.next.Next.{Next}
use Rattle.module_states.specs.declared.next.Next.TheVariants as X
use Rattle.module_states.specs.declared.next.Move.{Move}
use Rattle.module_states.specs.declared.next.Move.TheVariants as V

-- what the code holds of a token
abbrev pub meant : SomeContent → Content
meant (T.Word k) = Word k
meant (T.Shared s) = Shared s

-- the sign that a token is, where it is one
abbrev pub sign_of : Content → Sign
sign_of (Shared (Fixed s)) = s
sign_of t = Other

abbrev pub signed : Sign → Content
signed s = Shared (Fixed s)

-- whether a mark is a word for a kind of collection
abbrev pub is_coll : Content → Bool
is_coll (Shared (Fixed (Coll w))) = true
is_coll t = false

-- whether a mark is `using`
abbrev pub is_using : Content → Bool
is_using (Word J.Using) = true
is_using t = false

-- whether a mark is (
abbrev pub is_open : Content → Bool
is_open (Shared (Fixed Open)) = true
is_open t = false

-- whether a mark is `else`
abbrev pub is_else : Content → Bool
is_else (Shared (Fixed (End Y.Else))) = true
is_else t = false

-- how a statement begins, where it is no expression's, or that a block ends
abbrev pub opening_of : Content → Opening
opening_of (Shared (Fixed (End Y.CloseBrace))) = Q.Closes
opening_of (Word J.For) = Q.ForWord
opening_of (Shared (Fixed If)) = Q.IfWord
opening_of t = Q.Expression

-- what a name leads to, where there is one
abbrev pub named : Option Name → (Name → Step) → Step
named (Some n) k = k n
named None k = Refuses

abbrev pub models_of : SomeModels → Models
models_of (M.ForTargets n ts) = ForTargets n ts
models_of (M.ForSources n ts ss) = ForSources n ts ss

abbrev pub header_of : Header → State
header_of H.Start = AtStart
header_of H.ModuleName = AtModuleName
header_of (H.ModuleEnd n) = AtModuleEnd n
header_of (H.Create n) = AtCreate n
header_of (H.Model ms) = AtModel (models_of ms)
header_of (H.ModelColon ms m) = AtModelColon (models_of ms) m
header_of (H.Meta ms m) = AtMeta (models_of ms) m
header_of (H.ModelEnd ms) = AtModelEnd (models_of ms)

abbrev pub helping_of : Helping → State
helping_of (L.Begun m) = AtHelper m
helping_of (L.Context m) = AtContext m
helping_of (L.DefColon m c) = AtDefColon m c
helping_of (L.HelperName m c) = AtHelperName m c
helping_of (L.Named m c n) = AtSignature m c n
helping_of (L.ResultColon s) = AtResultColon s.before s.context s.name s.params

abbrev pub drafted : Module → Rule → Draft
drafted m r = record { before = m; rule = r }

abbrev pub owner_of : SomeOwner → Owner
owner_of (O.OfHelper m c n) = OfHelper m c n
owner_of (O.OfRule d) = OfRule d.before d.rule

abbrev pub params_of : Params → State
params_of (P.First o) = AtFirstParam (owner_of o)
params_of (P.Further o ps) = AtParam (owner_of o) ps
params_of (P.Colon o ps n) = AtParamColon (owner_of o) ps n

abbrev pub modifier_of : SomeModifier → Modifier
modifier_of W.Abstract = Abstract
modifier_of W.Unique = Unique
modifier_of W.Lazy = Lazy

abbrev pub modifiers_of : SomeModifiers → Modifiers
modifiers_of ws = record { is_abstract = ws.is_abstract; is_unique = ws.is_unique; is_lazy = ws.is_lazy }

abbrev pub form_of : SomeForm → Form
form_of F.Plain = Plain
form_of F.Modified = Modified
form_of F.Started = Started

abbrev pub head_of : Head → State
head_of (D.Word m ws) = AtWord m (modifiers_of ws)
head_of (D.RuleWord m s) = AtRule m s
head_of (D.RuleName m f s a) = AtRuleName m (form_of f) s a
head_of (D.RuleOpen f d) = AtRuleOpen d.before (form_of f) d.rule

abbrev pub rule_of : Point → Module → Rule → State
rule_of R.Parent = AtParent
rule_of R.Brace = AtBrace
rule_of R.NoParams = AtNoParams
rule_of R.CalledBrace = AtCalledBrace
rule_of R.From = AtFrom
rule_of R.Source = AtSource
rule_of R.SourceEnd = AtSourceEnd
rule_of R.Rest = AtRest
rule_of R.Using = AtUsing
rule_of R.Local = AtLocal
rule_of R.To = AtTo
rule_of R.Target = AtTarget
rule_of R.TargetEnd = AtTargetEnd
rule_of R.Do = AtDo
rule_of R.RuleEnd = AtRuleEnd

abbrev pub colon_of : Colon → Module → Rule → Name → State
colon_of N.Source = AtSourceColon
colon_of N.Local = AtLocalColon
colon_of N.Target = AtTargetColon

abbrev pub purpose_of : Purpose → Module → Rule → Name → ForClass
purpose_of U.Source = ForSource
purpose_of U.Target = ForTarget

abbrev pub classing_of : Classing → ForClass
classing_of c = purpose_of c.purpose c.draft.before c.draft.rule c.name

abbrev pub class_of : Class → State
class_of (C.Meta c) = AtClass (classing_of c)
class_of (C.Bang c n) = AtBang (classing_of c) n
class_of (C.ClassName c n) = AtClassName (classing_of c) n

abbrev pub target_of : TargetPoint → Module → Rule → Target → State
target_of G.Binds = AtBinds
target_of G.FirstBind = AtFirstBind
target_of G.Bind = AtBind

-- the blocks that are open in a rule's `do`, the innermost first
abbrev pub blocks_in : Draft → List Outer → Blocks
blocks_in d [] = InDo d.before d.rule
blocks_in d (B.Branch ss e ∷ bs) = InIf (blocks_in d bs) ss e
blocks_in d (B.Otherwise ss e zs ∷ bs) = InElse (blocks_in d bs) ss e zs
blocks_in d (B.Each ss n e ∷ bs) = InFor (blocks_in d bs) ss n e

abbrev pub blocks_of : Block → Blocks
blocks_of b = blocks_in b.draft (reverse b.outer)

abbrev pub stating_of : Stating → State
stating_of (S.Statement b) = AtStat (blocks_of b) b.stats
stating_of (S.If b p) = AtIf (blocks_of b) b.stats p
stating_of (S.IfBrace b e) = AtIfBrace (blocks_of b) b.stats e
stating_of (S.Else b e zs) = AtElse (blocks_of b) b.stats e zs
stating_of (S.ElseBrace b e zs) = AtElseBrace (blocks_of b) b.stats e zs
stating_of (S.For b) = AtFor (blocks_of b) b.stats
stating_of (S.ForName b) = AtForName (blocks_of b) b.stats
stating_of (S.ForIn b n) = AtForIn (blocks_of b) b.stats n
stating_of (S.ForBrace b n e) = AtForBrace (blocks_of b) b.stats n e

abbrev pub for_kind_of : SomeForKind → ForKind
for_kind_of (K.Context m) = ForContext m
for_kind_of (K.Param o ps n) = ForParam (owner_of o) ps n
for_kind_of (K.Outcome s) = ForResult s.before s.context s.name s.params
for_kind_of (K.Local d n) = ForLocalKind d.before d.rule n

abbrev pub for_expr_of : SomeForExpr → ForExpr
for_expr_of (E.Body s k) = ForBody s.before s.context s.name s.params k
for_expr_of (E.Guard d) = ForGuard d.before d.rule
for_expr_of (E.Local d n k) = ForLocal d.before d.rule n k
for_expr_of (E.Bind d x n) = ForBind d.before d.rule x n
for_expr_of (E.Eval b) = ForStat (blocks_of b) b.stats
for_expr_of (E.Assigned b e n) = ForAssigned (blocks_of b) b.stats e n
for_expr_of (E.Condition b) = ForCondition (blocks_of b) b.stats
for_expr_of (E.Values b n) = ForValues (blocks_of b) b.stats n

abbrev pub state_of : Next → State
state_of (X.InHeader h) = header_of h
state_of (X.Item m) = AtItem m
state_of (X.InHelper h) = helping_of h
state_of (X.InParams p) = params_of p
state_of (X.InKind o r) = InKind (for_kind_of o) r.stack r.next
state_of (X.InExpr o r) = InExpr (for_expr_of o) r.stack r.next
state_of (X.InHead h) = head_of h
state_of (X.InRule p d) = rule_of p d.before d.rule
state_of (X.BeforeColon c d n) = colon_of c d.before d.rule n
state_of (X.InClass c) = class_of c
state_of (X.InTarget p d x) = target_of p d.before d.rule x
state_of (X.Gives d x n) = AtGives d.before d.rule x n
state_of (X.InBlock s) = stating_of s

abbrev pub step_of : Move → Step
step_of (V.Goes n) = Goes (state_of n)
step_of V.Refuses = Refuses
step_of (V.TooDeep p) = TooDeep p
