-- What has been read of a module in each state: before the rest stand the marks of what was written, and together they are all.
use Rattle.std.proofs.Common.{◌≡◌, List, [], ◌∷◌, ◌++◌, refl, ap, ◌∙◌, append_assoc}
use Rattle.std.specs.Prelude.{Bool, true, false, Option, None, Some, map}
use Rattle.atl_base.specs.declared.place.Place.{Place}
use Rattle.atl_tree.specs.declared.name.Name.{Name}
use Rattle.atl_tree.specs.declared.name.ClassRef.{ClassRef}
use Rattle.atl_tree.specs.declared.kind.KindNode.{KindNode}
use Rattle.atl_tree.specs.declared.expr.Expr.{Expr}
use Rattle.atl_tree.specs.declared.expr.BinaryOp.TheVariants as O
use Rattle.atl_tree.specs.declared.module.Module.{Module}
use Rattle.atl_tree.specs.declared.module.ModelDecl.{ModelDecl}
use Rattle.atl_tree.specs.declared.module.Param.{Param}
use Rattle.atl_tree.specs.declared.module.Rule.{Rule}
use Rattle.atl_tree.specs.declared.module.RuleSort.{RuleSort}
use Rattle.atl_tree.specs.declared.module.RuleSort.TheVariants as R
use Rattle.atl_tree.specs.declared.module.LocalVar.{LocalVar}
use Rattle.atl_tree.specs.declared.module.Target.{Target}
use Rattle.atl_tree.specs.declared.module.Stat.{Stat}
use Rattle.ocl_parse.specs.declared.sign.Ender.TheVariants as E
use Rattle.ocl_parse.specs.declared.sign.Sign.TheVariants as S
use Rattle.ocl_parse.specs.declared.frame.Frame.{Frame}
use Rattle.ocl_parse.specs.declared.frame.Frame.TheVariants as F
use Rattle.ocl_parse.specs.declared.frame.Next.{Next}
use Rattle.ocl_parse.specs.declared.frame.Next.TheVariants as N
use Rattle.ocl_parse.specs.Symbols.{Lexeme}
use Rattle.ocl_parse.specs.Grammar.{Written, spelt, tree_of, Kind, kind_of}
use Rattle.ocl_parse.proofs.Ordered.{InOrder}
use Rattle.ocl_parse.proofs.Sound.{Stands as StandsInside}
use Rattle.module_grammar.specs.declared.keyword.Keyword.TheVariants as W
use Rattle.module_grammar.specs.Marks.{Mark, word, sign, called, shared, expression, kind_marks}
use Rattle.module_grammar.specs.Parts.{class, target, rule, bare, may_stand, sort_of}
use Rattle.module_grammar.specs.Grammar.{Models, Params, Bracketed, Context, Signature, Words, Parent, Sources, Guard, Locals, Using, Binds, Targets, To, Stats, Block, Start, NoStart, WrittenRule, Matched, Called, WrittenModule}
use Rattle.module_grammar.specs.Grammar.{models_marks, params_marks, bracketed_marks, context_marks, signature_marks, words_marks, parent_marks, sources_marks, guard_marks, locals_marks, using_marks, binds_marks, targets_marks, to_marks, stats_marks, block_marks, start_marks, rest_marks, rule_marks, module_marks}
use Rattle.module_grammar.specs.Grammar.{models, params, bracketed, context, signature, modifiers, parent, sources, guard, locals, using, binds, targets, to, stats, block, start, rule_of, module_tree}
use Rattle.module_grammar.specs.Grammar.{IsContext, ContextFits, WordsFit, StartFits, begins_if, Whole, GuardFits, LocalsFit, UsingFits, BindsFit, TargetsFit, ToFits, StatsFit, BlockFits, RuleFits, ModuleFits}
use Rattle.module_states.specs.Machine.{Models as ModelsRead, ForTargets, ForSources, Owner, OfHelper, OfRule, ForClass, ForSource, ForTarget, ForKind, ForContext, ForParam, ForResult, ForLocalKind, Blocks, InDo, InIf, InElse, InFor, ForExpr, ForBody, ForGuard, ForLocal, ForBind, ForStat, ForAssigned, ForCondition, ForValues, Form, Plain, Modified, Started, State, AtStart, AtModuleName, AtModuleEnd, AtCreate, AtModel, AtModelColon, AtMeta, AtModelEnd, AtItem, AtHelper, AtContext, AtDefColon, AtHelperName, AtSignature, AtResultColon, AtFirstParam, AtParam, AtParamColon, InKind, InExpr, AtWord, AtRule, AtRuleName, AtRuleOpen, AtParent, AtBrace, AtNoParams, AtCalledBrace, AtFrom, AtSource, AtSourceColon, AtClass, AtBang, AtClassName, AtSourceEnd, AtRest, AtUsing, AtLocal, AtLocalColon, AtTo, AtTarget, AtTargetColon, AtBinds, AtFirstBind, AtBind, AtGives, AtTargetEnd, AtDo, AtRuleEnd, AtStat, AtIf, AtIfBrace, AtElse, AtElseBrace, AtFor, AtForName, AtForIn, AtForBrace, Step, Goes}

-- what stands before a comma, and the comma; or nothing yet
abbrev pub upto : {A : Type 0} → (A → List Mark) → Option (A × Place) → List Mark → List Mark
upto f None rest = rest
upto f (Some x) rest = f x.0 ++ (sign x.1 (S.End E.Comma) ∷ rest)

abbrev pub got : {A B : Type 0} → (A → List B) → Option (A × Place) → List B
got f None = []
got f (Some x) = f x.0

abbrev pub AllFit : {A : Type 0} → (A → Type 0) → Option (A × Place) → Type 0
AllFit P None = Unit {0}
AllFit P (Some x) = P x.0

-- a rule up to where `using` may stand
pub data Front : Type 0 where
  FromSources : Words → Place → Name → Parent → Place → Place → Sources → Guard → Front
  FromParams : Start → Place → Name → Bracketed → Place → Front

abbrev pub front_marks : Front → List Mark
front_marks (FromSources ws p n x q r ss g) = words_marks ws ++ (word p W.Rule ∷ called n ∷ (parent_marks x ++ (sign q S.OpenBrace ∷ word r W.From ∷ (sources_marks ss ++ guard_marks g))))
front_marks (FromParams x p n ps q) = start_marks x ++ (word p W.Rule ∷ called n ∷ (bracketed_marks ps ++ (sign q S.OpenBrace ∷ [])))

abbrev pub front_rule : Front → Rule
front_rule (FromSources ws p n x q r ss g) = rule (sort_of (modifiers ws)) (modifiers ws).is_abstract n (parent x) [] (sources ss) (guard g) [] [] None
front_rule (FromParams x p n ps q) = rule (start x) false n None (bracketed ps) [] None [] [] None

abbrev pub finished : Front → Using → To → Block → Place → WrittenRule
finished (FromSources ws p n x q r ss g) u t y z = Matched ws p n x q r ss g u t y z
finished (FromParams x p n ps q) u t y z = Called x p n ps q u t y z

-- a rule with the rest of it
abbrev pub completed : Rule → List LocalVar → List Target → Option (List Stat) → Rule
completed r ls ts o = rule r.sort r.is_abstract r.name r.parent r.params r.sources r.guard ls ts o

pub finished_rule : (f : Front) (u : Using) (t : To) (y : Block) (z : Place) → rule_of (finished f u t y z) ≡ completed (front_rule f) (using u) (to t) (block y)
finished_rule (FromSources ws p n x q r ss g) u t y z = refl
finished_rule (FromParams x p n ps q) u t y z = refl

pub finished_marks : (f : Front) (u : Using) (t : To) (y : Block) (z : Place) (rest : List Mark)
    → rule_marks (finished f u t y z) ++ rest ≡ front_marks f ++ (using_marks u ++ (to_marks t ++ (block_marks y ++ (sign z (S.End E.CloseBrace) ∷ rest))))
finished_marks f u t y z rest = front f ∙ ap (λ l. front_marks f ++ l) behind
  where
    end : List Mark
    end = sign z (S.End E.CloseBrace) ∷ []

    behind : rest_marks u t y z ++ rest ≡ using_marks u ++ (to_marks t ++ (block_marks y ++ (sign z (S.End E.CloseBrace) ∷ rest)))
    behind =
        append_assoc (using_marks u) (to_marks t ++ (block_marks y ++ (sign z (S.End E.CloseBrace) ∷ []))) rest
        ∙ ap (λ l. using_marks u ++ l) (append_assoc (to_marks t) (block_marks y ++ (sign z (S.End E.CloseBrace) ∷ [])) rest ∙ ap (λ l. to_marks t ++ l) (append_assoc (block_marks y) (sign z (S.End E.CloseBrace) ∷ []) rest))

    front : (f : Front) → rule_marks (finished f u t y z) ++ rest ≡ front_marks f ++ (rest_marks u t y z ++ rest)
    front (FromSources ws p n x q r ss g) =
        let tail = rest_marks u t y z in
        rw (append_assoc (words_marks ws) (word p W.Rule ∷ called n ∷ (parent_marks x ++ (sign q S.OpenBrace ∷ word r W.From ∷ (sources_marks ss ++ (guard_marks g ++ tail))))) rest)
        (rw (append_assoc (parent_marks x) (sign q S.OpenBrace ∷ word r W.From ∷ (sources_marks ss ++ (guard_marks g ++ tail))) rest)
        (rw (append_assoc (sources_marks ss) (guard_marks g ++ tail) rest)
        (rw (append_assoc (guard_marks g) tail rest)
        (rw (append_assoc (words_marks ws) (word p W.Rule ∷ called n ∷ (parent_marks x ++ (sign q S.OpenBrace ∷ word r W.From ∷ (sources_marks ss ++ guard_marks g)))) (tail ++ rest))
        (rw (append_assoc (parent_marks x) (sign q S.OpenBrace ∷ word r W.From ∷ (sources_marks ss ++ guard_marks g)) (tail ++ rest))
        (rw (append_assoc (sources_marks ss) (guard_marks g) (tail ++ rest)) refl))))))
    front (FromParams x p n ps q) =
        let tail = rest_marks u t y z in
        rw (append_assoc (start_marks x) (word p W.Rule ∷ called n ∷ (bracketed_marks ps ++ (sign q S.OpenBrace ∷ tail))) rest)
        (rw (append_assoc (bracketed_marks ps) (sign q S.OpenBrace ∷ tail) rest)
        (rw (append_assoc (start_marks x) (word p W.Rule ∷ called n ∷ (bracketed_marks ps ++ (sign q S.OpenBrace ∷ []))) (tail ++ rest))
        (rw (append_assoc (bracketed_marks ps) (sign q S.OpenBrace ∷ []) (tail ++ rest)) refl)))

abbrev pub IsStart : Start → Type 0
IsStart NoStart = ⊥
IsStart x = Unit {0}

module _ (b : Bool) where
  abbrev pub FrontFits : Front → Type 0
  FrontFits (FromSources ws p n x q r ss g) = WordsFit ws × (may_stand (modifiers ws) ≡ true) × GuardFits b (modifiers ws).is_lazy g
  FrontFits (FromParams x p n ps q) = StartFits x ps

  pub finished_fits : (f : Front) (u : Using) (t : To) (y : Block) (z : Place) → FrontFits f → UsingFits b u → ToFits b t → BlockFits b y → RuleFits b (finished f u t y z)
  finished_fits (FromSources ws p n x q r ss g) u t y z f h i j = (f.0, f.1, f.2, (h, i, j))
  finished_fits (FromParams x p n ps q) u t y z f h i j = (f, (h, i, j))

  -- an expression that stands in no other, and its tree
  pub record Told (e : Expr) : Type 0 where
    pub w : Written
    pub fits : Whole b w
    pub tree : tree_of w ≡ e

  abbrev pub ModuleHead : Module → List Mark → List Mark → Type 0
  ModuleHead m rest all = (w : WrittenModule) × ModuleFits b w × (module_tree w ≡ m) × (module_marks w ++ rest ≡ all)

  abbrev pub TargetsHead : Name → List Mark → List Mark → Type 0
  TargetsHead n rest all = (p : Place) × (q : Place) × (r : Place) × (word p W.Module ∷ called n ∷ sign q S.Semicolon ∷ word r W.Create ∷ rest ≡ all)

  abbrev pub ModelsHead : ModelsRead → List Mark → List Mark → Type 0
  ModelsHead (ForTargets n ts) rest all = TargetsHead n rest all
  ModelsHead (ForSources n ts ss) rest all = (ms : Models) × (models ms ≡ ts) × (s : Place) × TargetsHead n (models_marks ms ++ (word s W.From ∷ rest)) all

  abbrev pub so_far : ModelsRead → List ModelDecl
  so_far (ForTargets n ts) = ts
  so_far (ForSources n ts ss) = ss

  abbrev pub BeforeModel : ModelsRead → List Mark → List Mark → Type 0
  BeforeModel h rest all = (o : Option (Models × Place)) × (got models o ≡ so_far h) × ModelsHead h (upto models_marks o rest) all

  abbrev pub HelperHead : Module → Option KindNode → List Mark → List Mark → Type 0
  HelperHead m c rest all = (p : Place) × (x : Context) × ContextFits x × (context x ≡ c) × ModuleHead m (word p W.Helper ∷ (context_marks x ++ rest)) all

  abbrev pub HelperNamed : Module → Option KindNode → Name → List Mark → List Mark → Type 0
  HelperNamed m c n rest all = (q : Place) × (r : Place) × HelperHead m c (word q W.Def ∷ sign r S.Colon ∷ called n ∷ rest) all

  abbrev pub OwnerHead : Owner → List Mark → List Mark → Type 0
  OwnerHead (OfHelper m c n) rest all = HelperNamed m c n rest all
  OwnerHead (OfRule m r) rest all = (n : Name) × (bare R.Matched false n ≡ r) × (p : Place) × ModuleHead m (word p W.Rule ∷ called n ∷ rest) all

  abbrev pub BeforeParam : Owner → List Param → List Mark → List Mark → Type 0
  BeforeParam o ps rest all = (q : Place) × (x : Option (Params × Place)) × (got params x ≡ ps) × OwnerHead o (sign q S.Open ∷ upto params_marks x rest) all

  abbrev pub SignatureHead : Module → Option KindNode → Name → Option (List Param) → List Mark → List Mark → Type 0
  SignatureHead m c n ps rest all = (s : Signature) × (signature s ≡ ps) × HelperNamed m c n (signature_marks s ++ rest) all

  abbrev pub RuleNameHead : Module → Form → RuleSort → Bool → List Mark → List Mark → Type 0
  RuleNameHead m Plain s a rest all = (R.Matched ≡ s) × (false ≡ a) × (p : Place) × ModuleHead m (word p W.Rule ∷ rest) all
  RuleNameHead m Modified s a rest all =
      (x : Words) × WordsFit x × (may_stand (modifiers x) ≡ true) × (sort_of (modifiers x) ≡ s) × ((modifiers x).is_abstract ≡ a) × (p : Place) × ModuleHead m (words_marks x ++ (word p W.Rule ∷ rest)) all
  RuleNameHead m Started s a rest all = (x : Start) × IsStart x × (start x ≡ s) × (false ≡ a) × (p : Place) × ModuleHead m (start_marks x ++ (word p W.Rule ∷ rest)) all

  -- words, `rule` and the name of a rule with sources
  abbrev pub MatchedHead : Module → RuleSort → Bool → Name → List Mark → List Mark → Type 0
  MatchedHead m s a n rest all =
      (x : Words) × WordsFit x × (may_stand (modifiers x) ≡ true) × (sort_of (modifiers x) ≡ s) × ((modifiers x).is_abstract ≡ a) × (p : Place) × ModuleHead m (words_marks x ++ (word p W.Rule ∷ called n ∷ rest)) all

  abbrev pub ParentHead : Module → Rule → List Mark → List Mark → Type 0
  ParentHead m r rest all =
      (s : RuleSort) × (a : Bool) × (n : Name) × (x : Parent) × (rule s a n (parent x) [] [] None [] [] None ≡ r) × MatchedHead m s a n (parent_marks x ++ rest) all

  abbrev pub FromHead : Module → RuleSort → Bool → Name → Option Name → List Mark → List Mark → Type 0
  FromHead m s a n x rest all = (y : Parent) × (parent y ≡ x) × (q : Place) × (t : Place) × MatchedHead m s a n (parent_marks y ++ (sign q S.OpenBrace ∷ word t W.From ∷ rest)) all

  abbrev pub BeforeSource : Module → Rule → List Mark → List Mark → Type 0
  BeforeSource m r rest all =
      (s : RuleSort) × (a : Bool) × (n : Name) × (x : Option Name) × (o : Option (Sources × Place)) × (rule s a n x [] (got sources o) None [] [] None ≡ r) × FromHead m s a n x (upto sources_marks o rest) all

  abbrev pub SourcesHead : Module → Rule → List Mark → List Mark → Type 0
  SourcesHead m r rest all =
      (s : RuleSort) × (a : Bool) × (n : Name) × (x : Option Name) × (ss : Sources) × (rule s a n x [] (sources ss) None [] [] None ≡ r) × FromHead m s a n x (sources_marks ss ++ rest) all

  abbrev pub CalledHead : Module → Rule → List Mark → List Mark → Type 0
  CalledHead m r rest all =
      (x : Start) × (n : Name) × (p : Place) × (ps : Bracketed) × StartFits x ps × (rule (start x) false n None (bracketed ps) [] None [] [] None ≡ r)
      × ModuleHead m (start_marks x ++ (word p W.Rule ∷ called n ∷ (bracketed_marks ps ++ rest))) all

  abbrev pub RestHead : Module → Rule → List Mark → List Mark → Type 0
  RestHead m r rest all = (f : Front) × FrontFits f × (front_rule f ≡ r) × ModuleHead m (front_marks f ++ rest) all

  -- up to `using {` and variables
  abbrev pub BeforeLocal : Module → Rule → List Mark → List Mark → Type 0
  BeforeLocal m r rest all =
      (f : Front) × FrontFits f × (p : Place) × (q : Place) × (ls : Locals) × LocalsFit b ls × (completed (front_rule f) (locals ls) [] None ≡ r)
      × ModuleHead m (front_marks f ++ (word p W.Using ∷ sign q S.OpenBrace ∷ (locals_marks ls ++ rest))) all

  abbrev pub UsedHead : Module → Front → Using → List Mark → List Mark → Type 0
  UsedHead m f u rest all = FrontFits f × UsingFits b u × ModuleHead m (front_marks f ++ (using_marks u ++ rest)) all

  abbrev pub BeforeTo : Module → Rule → List Mark → List Mark → Type 0
  BeforeTo m r rest all = (f : Front) × (u : Using) × (completed (front_rule f) (using u) [] None ≡ r) × UsedHead m f u rest all

  abbrev pub BeforeTarget : Module → Rule → List Mark → List Mark → Type 0
  BeforeTarget m r rest all =
      (f : Front) × (u : Using) × (p : Place) × (o : Option (Targets × Place)) × AllFit (TargetsFit b) o × (completed (front_rule f) (using u) (got targets o) None ≡ r)
      × UsedHead m f u (word p W.To ∷ upto targets_marks o rest) all

  -- up to a target's class
  abbrev pub TargetHead : Module → Rule → Name → ClassRef → List Mark → List Mark → Type 0
  TargetHead m r n c rest all =
      (p : Place) × (z : Name) × (q : Place) × (y : Name) × (class z y ≡ c) × BeforeTarget m r (called n ∷ sign p S.Colon ∷ called z ∷ sign q S.Bang ∷ called y ∷ rest) all

  abbrev pub BeforeBind : Module → Rule → Target → List Mark → List Mark → Type 0
  BeforeBind m r x rest all =
      (n : Name) × (c : ClassRef) × (p : Place) × (o : Option (Binds × Place)) × AllFit (BindsFit b) o × (target n c (got binds o) ≡ x)
      × TargetHead m r n c (sign p S.Open ∷ upto binds_marks o rest) all

  abbrev pub ToHead : Module → Rule → List Mark → List Mark → Type 0
  ToHead m r rest all = (f : Front) × (u : Using) × (t : To) × ToFits b t × (completed (front_rule f) (using u) (to t) None ≡ r) × UsedHead m f u (to_marks t ++ rest) all

  abbrev pub TargetsRead : Module → Rule → List Mark → List Mark → Type 0
  TargetsRead m r rest all =
      (f : Front) × (u : Using) × (p : Place) × (ts : Targets) × TargetsFit b ts × (completed (front_rule f) (using u) (targets ts) None ≡ r)
      × UsedHead m f u (word p W.To ∷ (targets_marks ts ++ rest)) all

  abbrev pub BlockHead : Module → Rule → List Mark → List Mark → Type 0
  BlockHead m r rest all =
      (f : Front) × (u : Using) × (t : To) × ToFits b t × (y : Block) × BlockFits b y × (completed (front_rule f) (using u) (to t) (block y) ≡ r)
      × UsedHead m f u (to_marks t ++ (block_marks y ++ rest)) all

  -- statements, behind what stands before them
  abbrev pub Behind : (List Mark → List Mark → Type 0) → List Stat → List Mark → List Mark → Type 0
  Behind H ss rest all = (ys : Stats) × StatsFit b ys × (stats ys ≡ ss) × H (stats_marks ys ++ rest) all

  abbrev pub BlocksHead : Blocks → List Mark → List Mark → Type 0
  BlocksHead (InDo m r) rest all = (p : Place) × (q : Place) × ToHead m r (word p W.Do ∷ sign q S.OpenBrace ∷ rest) all
  BlocksHead (InIf k zs e) rest all =
      (x : Told e) × (p : Place) × (q : Place) × (s : Place) × (t : Place)
      × Behind (λ r a. BlocksHead k r a) zs (sign p S.If ∷ sign q S.Open ∷ (expression x.w ++ (sign s (S.End E.Close) ∷ sign t S.OpenBrace ∷ rest))) all
  BlocksHead (InElse k zs e ts) rest all =
      (x : Told e) × (p : Place) × (q : Place) × (s : Place) × (t : Place) × (ys : Stats) × StatsFit b ys × (stats ys ≡ ts) × (u : Place) × (v : Place) × (w : Place)
      × Behind (λ r a. BlocksHead k r a) zs (sign p S.If ∷ sign q S.Open ∷ (expression x.w ++ (sign s (S.End E.Close) ∷ sign t S.OpenBrace ∷ (stats_marks ys ++ (sign u (S.End E.CloseBrace)
      ∷ sign v (S.End E.Else) ∷ sign w S.OpenBrace ∷ rest))))) all
  BlocksHead (InFor k zs n e) rest all =
      (x : Told e) × (p : Place) × (q : Place) × (r : Place) × (s : Place) × (t : Place)
      × Behind (λ r a. BlocksHead k r a) zs (word p W.For ∷ sign q S.Open ∷ called n ∷ sign r (S.End E.In) ∷ (expression x.w ++ (sign s (S.End E.Close) ∷ sign t S.OpenBrace ∷ rest))) all

  abbrev pub InBlock : Blocks → List Stat → List Mark → List Mark → Type 0
  InBlock k ss rest all = (ys : Stats) × StatsFit b ys × (stats ys ≡ ss) × BlocksHead k (stats_marks ys ++ rest) all

  -- up to the { behind an if's condition
  abbrev pub IfHead : Blocks → List Stat → Expr → List Mark → List Mark → Type 0
  IfHead k zs e rest all = (x : Told e) × (p : Place) × (q : Place) × (s : Place) × InBlock k zs (sign p S.If ∷ sign q S.Open ∷ (expression x.w ++ (sign s (S.End E.Close) ∷ rest))) all

  -- up to the } of its first block
  abbrev pub ElseHead : Blocks → List Stat → Expr → List Stat → List Mark → List Mark → Type 0
  ElseHead k zs e ts rest all =
      (x : Told e) × (p : Place) × (q : Place) × (s : Place) × (t : Place) × (ys : Stats) × StatsFit b ys × (stats ys ≡ ts) × (u : Place)
      × InBlock k zs (sign p S.If ∷ sign q S.Open ∷ (expression x.w ++ (sign s (S.End E.Close) ∷ sign t S.OpenBrace ∷ (stats_marks ys ++ (sign u (S.End E.CloseBrace) ∷ rest))))) all

  abbrev pub ForHead : Blocks → List Stat → List Mark → List Mark → Type 0
  ForHead k ss rest all = (p : Place) × (q : Place) × InBlock k ss (word p W.For ∷ sign q S.Open ∷ rest) all

  abbrev pub ClassHead : ForClass → List Mark → List Mark → Type 0
  ClassHead (ForSource m r n) rest all = (p : Place) × BeforeSource m r (called n ∷ sign p S.Colon ∷ rest) all
  ClassHead (ForTarget m r n) rest all = (p : Place) × BeforeTarget m r (called n ∷ sign p S.Colon ∷ rest) all

  -- any type may stand
  abbrev pub Free : ForKind → Type 0
  Free (ForContext m) = ⊥
  Free o = Unit {0}

  abbrev pub KindFits : ForKind → Kind → Type 0
  KindFits (ForContext m) k = IsContext k
  KindFits o k = Unit {0}

  abbrev pub KindHead : ForKind → List Mark → List Mark → Type 0
  KindHead (ForContext m) rest all = (p : Place) × (q : Place) × ModuleHead m (word p W.Helper ∷ word q W.Context ∷ rest) all
  KindHead (ForParam o ps n) rest all = (p : Place) × BeforeParam o ps (called n ∷ sign p S.Colon ∷ rest) all
  KindHead (ForResult m c n ps) rest all = (t : Place) × SignatureHead m c n ps (sign t S.Colon ∷ rest) all
  KindHead (ForLocalKind m r n) rest all = (p : Place) × BeforeLocal m r (called n ∷ sign p S.Colon ∷ rest) all

  abbrev pub KindsHead : ForKind → List Frame → List Mark → List Mark → Type 0
  KindsHead o [] rest all = KindHead o rest all
  KindsHead o (F.CollKind w p ∷ fs) rest all = Free o × (q : Place) × KindsHead o fs (sign p (S.Coll w) ∷ sign q S.Open ∷ rest) all
  KindsHead o (f ∷ fs) rest all = ⊥

  abbrev pub StandsKind : ForKind → List Frame → Next → List Mark → List Mark → Type 0
  StandsKind o fs N.Kind rest all = Free o × KindsHead o fs rest all
  StandsKind o fs (N.KindOpen w p) rest all = Free o × KindsHead o fs (sign p (S.Coll w) ∷ rest) all
  StandsKind o fs (N.KindBang n) rest all = KindsHead o fs (called n ∷ rest) all
  StandsKind o fs (N.KindClass n) rest all = (p : Place) × KindsHead o fs (called n ∷ sign p S.Bang ∷ rest) all
  StandsKind o fs (N.HaveKind k) rest all = (h : Kind) × (kind_of h ≡ k) × KindFits o h × KindsHead o fs (kind_marks h ++ rest) all
  StandsKind o fs n rest all = ⊥

  abbrev pub ExprHead : ForExpr → List Mark → List Mark → Type 0
  ExprHead (ForBody m c n ps k) rest all =
      (t : Place) × (h : Kind) × (kind_of h ≡ k) × (u : Place) × SignatureHead m c n ps (sign t S.Colon ∷ (kind_marks h ++ (sign u (S.Operator O.Eq) ∷ rest))) all
  ExprHead (ForGuard m r) rest all = (q : Place) × (r.sort ≡ R.Matched) × SourcesHead m r (sign q S.Open ∷ rest) all
  ExprHead (ForLocal m r n k) rest all =
      (p : Place) × (h : Kind) × (kind_of h ≡ k) × (u : Place) × BeforeLocal m r (called n ∷ sign p S.Colon ∷ (kind_marks h ++ (sign u (S.Operator O.Eq) ∷ rest))) all
  ExprHead (ForBind m r x n) rest all = (p : Place) × BeforeBind m r x (called n ∷ word p W.Gives ∷ rest) all
  ExprHead (ForStat k ss) rest all = InBlock k ss rest all
  ExprHead (ForAssigned k ss e n) rest all =
      (x : Told e) × (begins_if (spelt x.w) ≡ false) × (p : Place) × (q : Place) × InBlock k ss (expression x.w ++ (sign p S.Dot ∷ called n ∷ word q W.Gives ∷ rest)) all
  ExprHead (ForCondition k ss) rest all = (p : Place) × (q : Place) × InBlock k ss (sign p S.If ∷ sign q S.Open ∷ rest) all
  ExprHead (ForValues k ss n) rest all = (r : Place) × ForHead k ss (called n ∷ sign r (S.End E.In) ∷ rest) all

  -- a statement's expression does not begin as the statement form of `if` does
  abbrev pub Begun : ForExpr → List Lexeme → Type 0
  Begun (ForStat k ss) [] = ⊥
  Begun (ForStat k ss) (x ∷ xs) = (more : List Lexeme) → begins_if ((x ∷ xs) ++ more) ≡ false
  Begun o front = Unit {0}

  abbrev pub StandsExpr : ForExpr → List Frame → Next → List Mark → List Mark → Type 0
  StandsExpr o fs n rest all = (front : List Lexeme) × ((r : List Lexeme) → StandsInside b fs n r (front ++ r)) × Begun o front × InOrder fs n × ExprHead o (map shared front ++ rest) all

  abbrev pub Stands : State → List Mark → List Mark → Type 0
  Stands AtStart rest all = rest ≡ all
  Stands AtModuleName rest all = (p : Place) × (word p W.Module ∷ rest ≡ all)
  Stands (AtModuleEnd n) rest all = (p : Place) × (word p W.Module ∷ called n ∷ rest ≡ all)
  Stands (AtCreate n) rest all = (p : Place) × (q : Place) × (word p W.Module ∷ called n ∷ sign q S.Semicolon ∷ rest ≡ all)
  Stands (AtModel h) rest all = BeforeModel h rest all
  Stands (AtModelColon h m) rest all = BeforeModel h (called m ∷ rest) all
  Stands (AtMeta h m) rest all = (p : Place) × BeforeModel h (called m ∷ sign p S.Colon ∷ rest) all
  Stands (AtModelEnd h) rest all = (ms : Models) × (models ms ≡ so_far h) × ModelsHead h (models_marks ms ++ rest) all
  Stands (AtItem m) rest all = ModuleHead m rest all
  Stands (AtHelper m) rest all = (p : Place) × ModuleHead m (word p W.Helper ∷ rest) all
  Stands (AtContext m) rest all = (p : Place) × (q : Place) × ModuleHead m (word p W.Helper ∷ word q W.Context ∷ rest) all
  Stands (AtDefColon m c) rest all = (q : Place) × HelperHead m c (word q W.Def ∷ rest) all
  Stands (AtHelperName m c) rest all = (q : Place) × (r : Place) × HelperHead m c (word q W.Def ∷ sign r S.Colon ∷ rest) all
  Stands (AtSignature m c n) rest all = HelperNamed m c n rest all
  Stands (AtResultColon m c n ps) rest all = SignatureHead m c n ps rest all
  Stands (AtFirstParam o) rest all = (q : Place) × OwnerHead o (sign q S.Open ∷ rest) all
  Stands (AtParam o ps) rest all = BeforeParam o ps rest all
  Stands (AtParamColon o ps n) rest all = BeforeParam o ps (called n ∷ rest) all
  Stands (InKind o fs n) rest all = StandsKind o fs n rest all
  Stands (InExpr o fs n) rest all = StandsExpr o fs n rest all
  Stands (AtWord m ws) rest all = (x : Words) × WordsFit x × (modifiers x ≡ ws) × ModuleHead m (words_marks x ++ rest) all
  Stands (AtRule m s) rest all = (x : Start) × IsStart x × (start x ≡ s) × ModuleHead m (start_marks x ++ rest) all
  Stands (AtRuleName m f s a) rest all = RuleNameHead m f s a rest all
  Stands (AtRuleOpen m f r) rest all = (s : RuleSort) × (a : Bool) × (n : Name) × (bare s a n ≡ r) × RuleNameHead m f s a (called n ∷ rest) all
  Stands (AtParent m r) rest all = (s : RuleSort) × (a : Bool) × (n : Name) × (bare s a n ≡ r) × (p : Place) × MatchedHead m s a n (word p W.Extends ∷ rest) all
  Stands (AtBrace m r) rest all = ParentHead m r rest all
  Stands (AtNoParams m r) rest all = (q : Place) × (s : RuleSort) × (a : Bool) × (n : Name) × (bare s a n ≡ r) × RuleNameHead m Started s a (called n ∷ sign q S.Open ∷ rest) all
  Stands (AtCalledBrace m r) rest all = CalledHead m r rest all
  Stands (AtFrom m r) rest all = (q : Place) × ParentHead m r (sign q S.OpenBrace ∷ rest) all
  Stands (AtSource m r) rest all = BeforeSource m r rest all
  Stands (AtSourceColon m r n) rest all = BeforeSource m r (called n ∷ rest) all
  Stands (AtClass o) rest all = ClassHead o rest all
  Stands (AtBang o n) rest all = ClassHead o (called n ∷ rest) all
  Stands (AtClassName o n) rest all = (q : Place) × ClassHead o (called n ∷ sign q S.Bang ∷ rest) all
  Stands (AtSourceEnd m r) rest all = SourcesHead m r rest all
  Stands (AtRest m r) rest all = RestHead m r rest all
  Stands (AtUsing m r) rest all = (p : Place) × RestHead m r (word p W.Using ∷ rest) all
  Stands (AtLocal m r) rest all = BeforeLocal m r rest all
  Stands (AtLocalColon m r n) rest all = BeforeLocal m r (called n ∷ rest) all
  Stands (AtTo m r) rest all = BeforeTo m r rest all
  Stands (AtTarget m r) rest all = BeforeTarget m r rest all
  Stands (AtTargetColon m r n) rest all = BeforeTarget m r (called n ∷ rest) all
  Stands (AtBinds m r x) rest all = (n : Name) × (c : ClassRef) × (target n c [] ≡ x) × TargetHead m r n c rest all
  Stands (AtFirstBind m r x) rest all = (n : Name) × (c : ClassRef) × (p : Place) × (target n c [] ≡ x) × TargetHead m r n c (sign p S.Open ∷ rest) all
  Stands (AtBind m r x) rest all = BeforeBind m r x rest all
  Stands (AtGives m r x n) rest all = BeforeBind m r x (called n ∷ rest) all
  Stands (AtTargetEnd m r) rest all = TargetsRead m r rest all
  Stands (AtDo m r) rest all = (p : Place) × ToHead m r (word p W.Do ∷ rest) all
  Stands (AtRuleEnd m r) rest all = BlockHead m r rest all
  Stands (AtStat k ss) rest all = InBlock k ss rest all
  Stands (AtIf k ss p) rest all = InBlock k ss (sign p S.If ∷ rest) all
  Stands (AtIfBrace k ss e) rest all = IfHead k ss e rest all
  Stands (AtElse k ss e zs) rest all = ElseHead k ss e zs rest all
  Stands (AtElseBrace k ss e zs) rest all = (v : Place) × ElseHead k ss e zs (sign v (S.End E.Else) ∷ rest) all
  Stands (AtFor k ss) rest all = (p : Place) × InBlock k ss (word p W.For ∷ rest) all
  Stands (AtForName k ss) rest all = ForHead k ss rest all
  Stands (AtForIn k ss n) rest all = ForHead k ss (called n ∷ rest) all
  Stands (AtForBrace k ss n e) rest all =
      (x : Told e) × (p : Place) × (q : Place) × (r : Place) × (s : Place) × InBlock k ss (word p W.For ∷ sign q S.Open ∷ called n ∷ sign r (S.End E.In) ∷ (expression x.w ++ (sign s (S.End E.Close) ∷ rest))) all

  -- a step's answer, before the rest
  abbrev pub StepStands : List Mark → List Mark → Step → Type 0
  StepStands rest all (Goes s) = Stands s rest all
  StepStands rest all u = Unit {0}
