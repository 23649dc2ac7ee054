-- What is read as a module was written.
use Rattle.std.proofs.Common.{◌≡◌, List, [], ◌∷◌, ◌++◌, refl, sym, ap, ◌∙◌, subst, append_assoc}
use Rattle.std.proofs.lemmas.List.{map-append}
use Rattle.std.specs.Prelude.{Bool, true, false, Option, None, Some, if◌then◌else◌}
use Rattle.atl_base.specs.declared.place.Place.{Place}
use Rattle.atl_tree.specs.declared.name.Name.{Name}
use Rattle.atl_tree.specs.declared.kind.KindNode.{KindNode}
use Rattle.atl_tree.specs.declared.expr.Expr.{Expr}
use Rattle.atl_tree.specs.declared.expr.BinaryOp.TheVariants as O
use Rattle.atl_tree.specs.declared.module.Module.{Module}
use Rattle.atl_tree.specs.declared.module.Item.{Item}
use Rattle.atl_tree.specs.declared.module.Param.{Param}
use Rattle.atl_tree.specs.declared.module.Rule.{Rule}
use Rattle.atl_tree.specs.declared.module.RuleSort.{RuleSort}
use Rattle.atl_tree.specs.declared.module.RuleSort.TheVariants as R
use Rattle.ocl_parse.specs.declared.sign.Ender.TheVariants as E
use Rattle.ocl_parse.specs.declared.sign.Sign.TheVariants as S
use Rattle.ocl_parse.specs.declared.frame.Frame.{Frame}
use Rattle.ocl_parse.specs.declared.frame.Frame.TheVariants as F
use Rattle.ocl_parse.specs.declared.frame.Next.{Next}
use Rattle.ocl_parse.specs.declared.frame.Next.TheVariants as N
use Rattle.atl_tree.specs.declared.kind.KindSort.TheVariants as Q
use Rattle.ocl_parse.specs.declared.symbol.Symbol.TheVariants as T
use Rattle.ocl_parse.specs.Trees.{name, kind}
use Rattle.ocl_parse.specs.Grammar.{fixed, kind_spelt, Written, tree_of, Kind, Basic, Class, Coll, kind_of}
use Rattle.module_grammar.specs.declared.keyword.Keyword.TheVariants as W
use Rattle.module_grammar.specs.Marks.{Content, Word, Shared, Mark, mark, word, sign, called, shared, expression, kind_marks}
use Rattle.module_grammar.specs.Parts.{model, module_of, with_item, param, class, pattern, target, bind, rule, with_params}
use Rattle.module_grammar.specs.Grammar.{Models, OneModel, MoreModels, Params, OneParam, MoreParams, Bracketed, NoParams, SomeParams, InContext, Operation, Sources, OneSource, MoreSources, Binds, OneBind, MoreBinds, BindList, Targets, OneTarget, MoreTargets, Start, NoStart, Entry, End, WrittenItem, NoItems, MoreItems, WrittenModule, Composed}
use Rattle.module_grammar.specs.Grammar.{models_marks, params_marks, bracketed_marks, sources_marks, binds_marks, list_marks, targets_marks, item_marks, items_marks, module_marks}
use Rattle.module_grammar.specs.Grammar.{models, params, bracketed, sources, binds, bind_list, targets, item, module_tree}
use Rattle.module_grammar.specs.Grammar.{StartFits, ItemFits, ModuleFits}
use Rattle.module_states.specs.Machine.{Models as ModelsRead, ForTargets, ForSources, Owner, OfHelper, OfRule, ForKind, ForContext, ForParam, ForResult, ForLocalKind, AtModelEnd, AtContext, declared, model_end, with_all, kind_end, in_kind, at_context}
use Rattle.module_laws.proofs.Stands.{upto, got, Front, FromSources, FromParams, front_rule, completed, ModuleHead, BeforeModel, OwnerHead, Free, KindFits, StandsKind, Stands, StepStands}

-- one more behind a comma, or the first
abbrev add_model : Option (Models × Place) → Name → Place → Name → Models
add_model None m p x = OneModel m p x
add_model (Some y) m p x = MoreModels y.0 y.1 m p x

model_marks : (o : Option (Models × Place)) (m : Name) (p : Place) (x : Name) (rest : List Mark) → models_marks (add_model o m p x) ++ rest ≡ upto models_marks o (called m ∷ sign p S.Colon ∷ called x ∷ rest)
model_marks None m p x rest = refl
model_marks (Some y) m p x rest = append_assoc (models_marks y.0) (sign y.1 (S.End E.Comma) ∷ called m ∷ sign p S.Colon ∷ called x ∷ []) rest

model_trees : (o : Option (Models × Place)) (m : Name) (p : Place) (x : Name) → models (add_model o m p x) ≡ got models o ++ (model m x ∷ [])
model_trees None m p x = refl
model_trees (Some y) m p x = refl

abbrev add_param : Option (Params × Place) → Name → Place → Kind → Params
add_param None n p k = OneParam n p k
add_param (Some y) n p k = MoreParams y.0 y.1 n p k

param_marks : (o : Option (Params × Place)) (n : Name) (p : Place) (k : Kind) (rest : List Mark) → params_marks (add_param o n p k) ++ rest ≡ upto params_marks o (called n ∷ sign p S.Colon ∷ (kind_marks k ++ rest))
param_marks None n p k rest = refl
param_marks (Some y) n p k rest = append_assoc (params_marks y.0) (sign y.1 (S.End E.Comma) ∷ called n ∷ sign p S.Colon ∷ kind_marks k) rest

param_trees : (o : Option (Params × Place)) (n : Name) (p : Place) (k : Kind) → params (add_param o n p k) ≡ got params o ++ (param n (kind_of k) ∷ [])
param_trees None n p k = refl
param_trees (Some y) n p k = refl

abbrev pub add_source : Option (Sources × Place) → Name → Place → Name → Place → Name → Sources
add_source None n p m q c = OneSource n p m q c
add_source (Some y) n p m q c = MoreSources y.0 y.1 n p m q c

pub source_marks : (o : Option (Sources × Place)) (n : Name) (p : Place) (m : Name) (q : Place) (c : Name) (rest : List Mark)
    → sources_marks (add_source o n p m q c) ++ rest ≡ upto sources_marks o (called n ∷ sign p S.Colon ∷ called m ∷ sign q S.Bang ∷ called c ∷ rest)
source_marks None n p m q c rest = refl
source_marks (Some y) n p m q c rest = append_assoc (sources_marks y.0) (sign y.1 (S.End E.Comma) ∷ called n ∷ sign p S.Colon ∷ called m ∷ sign q S.Bang ∷ called c ∷ []) rest

pub source_trees : (o : Option (Sources × Place)) (n : Name) (p : Place) (m : Name) (q : Place) (c : Name) → sources (add_source o n p m q c) ≡ got sources o ++ (pattern n (class m c) ∷ [])
source_trees None n p m q c = refl
source_trees (Some y) n p m q c = refl

abbrev pub add_bind : Option (Binds × Place) → Name → Place → Written → Binds
add_bind None n p e = OneBind n p e
add_bind (Some y) n p e = MoreBinds y.0 y.1 n p e

pub bind_marks : (o : Option (Binds × Place)) (n : Name) (p : Place) (e : Written) (rest : List Mark) → binds_marks (add_bind o n p e) ++ rest ≡ upto binds_marks o (called n ∷ word p W.Gives ∷ (expression e ++ rest))
bind_marks None n p e rest = refl
bind_marks (Some y) n p e rest = append_assoc (binds_marks y.0) (sign y.1 (S.End E.Comma) ∷ called n ∷ word p W.Gives ∷ expression e) rest

pub bind_trees : (o : Option (Binds × Place)) (n : Name) (p : Place) (e : Written) → binds (add_bind o n p e) ≡ got binds o ++ (bind n (tree_of e) ∷ [])
bind_trees None n p e = refl
bind_trees (Some y) n p e = refl

abbrev pub add_target : Option (Targets × Place) → Name → Place → Name → Place → Name → BindList → Targets
add_target None n p m q c bs = OneTarget n p m q c bs
add_target (Some y) n p m q c bs = MoreTargets y.0 y.1 n p m q c bs

pub target_marks : (o : Option (Targets × Place)) (n : Name) (p : Place) (m : Name) (q : Place) (c : Name) (bs : BindList) (rest : List Mark)
    → targets_marks (add_target o n p m q c bs) ++ rest ≡ upto targets_marks o (called n ∷ sign p S.Colon ∷ called m ∷ sign q S.Bang ∷ called c ∷ (list_marks bs ++ rest))
target_marks None n p m q c bs rest = refl
target_marks (Some y) n p m q c bs rest = append_assoc (targets_marks y.0) (sign y.1 (S.End E.Comma) ∷ called n ∷ sign p S.Colon ∷ called m ∷ sign q S.Bang ∷ called c ∷ list_marks bs) rest

pub target_trees : (o : Option (Targets × Place)) (n : Name) (p : Place) (m : Name) (q : Place) (c : Name) (bs : BindList) → targets (add_target o n p m q c bs) ≡ got targets o ++ (target n (class m c) (bind_list bs) ∷ [])
target_trees None n p m q c bs = refl
target_trees (Some y) n p m q c bs = refl

abbrev add_item : WrittenModule → WrittenItem → WrittenModule
add_item (Composed p n q r ts s ss t is) i = Composed p n q r ts s ss t (MoreItems is i)

item_marks_added : (w : WrittenModule) (i : WrittenItem) (rest : List Mark) → module_marks (add_item w i) ++ rest ≡ module_marks w ++ (item_marks i ++ rest)
item_marks_added (Composed p n q r ts s ss t is) i rest =
    rw (append_assoc (models_marks ts) (word s W.From ∷ (models_marks ss ++ (sign t S.Semicolon ∷ (items_marks is ++ item_marks i)))) rest)
    (rw (append_assoc (models_marks ss) (sign t S.Semicolon ∷ (items_marks is ++ item_marks i)) rest)
    (rw (append_assoc (items_marks is) (item_marks i) rest)
    (rw (append_assoc (models_marks ts) (word s W.From ∷ (models_marks ss ++ (sign t S.Semicolon ∷ items_marks is))) (item_marks i ++ rest))
    (rw (append_assoc (models_marks ss) (sign t S.Semicolon ∷ items_marks is) (item_marks i ++ rest)) refl))))

item_tree_added : (w : WrittenModule) (i : WrittenItem) → module_tree (add_item w i) ≡ with_item (module_tree w) (item i)
item_tree_added (Composed p n q r ts s ss t is) i = refl

-- without a rest
pub front_plain : (f : Front) → completed (front_rule f) [] [] None ≡ front_rule f
front_plain (FromSources ws p n x q r ss g) = refl
front_plain (FromParams x p n ps q) = refl

pub starts_alone : (x : Start) (p q : Place) → StartFits x (NoParams p q)
starts_alone NoStart p q = tt
starts_alone (Entry e) p q = tt
starts_alone (End e) p q = tt

abbrev IsMatched : RuleSort → Type 0
IsMatched R.Matched = Unit {0}
IsMatched s = ⊥

-- a matched rule is not lazy
pub unlazy : (u l : Bool) → (if u then R.Unique else if l then R.Lazy else R.Matched) ≡ R.Matched → l ≡ false
unlazy true l h = absurd (subst IsMatched (sym h) tt)
unlazy false true h = absurd (subst IsMatched (sym h) tt)
unlazy false false h = refl

-- with this guard, or with none
abbrev pub guard_on : Rule → Option Expr → Rule
guard_on r g = rule r.sort r.is_abstract r.name r.parent r.params r.sources g r.locals r.targets r.block

module _ (b : Bool) where
  free_any : (o : ForKind) (k : Kind) → Free b o → KindFits b o k
  free_any (ForContext m) k h = absurd h
  free_any (ForParam o ps n) k h = tt
  free_any (ForResult m c n ps) k h = tt
  free_any (ForLocalKind m r n) k h = tt

  class_fits : (o : ForKind) (n : Name) (p : Place) (c : Name) → KindFits b o (Class n p c)
  class_fits (ForContext m) n p c = tt
  class_fits (ForParam o ps x) n p c = tt
  class_fits (ForResult m k x ps) n p c = tt
  class_fits (ForLocalKind m r x) n p c = tt

  pub item_stands : (m : Module) (i : Item) (wi : WrittenItem) (rest all : List Mark) → ItemFits b wi → item wi ≡ i → ModuleHead b m (item_marks wi ++ rest) all → ModuleHead b (with_item m i) rest all
  item_stands m i wi rest all f h st = (
    add_item st.0 wi,
    fits st.0 st.1,
    item_tree_added st.0 wi ∙ ap (λ x. with_item x (item wi)) st.2 ∙ ap (λ x. with_item m x) h,
    item_marks_added st.0 wi rest ∙ st.3,
  )
    where
      fits : (w : WrittenModule) → ModuleFits b w → ModuleFits b (add_item w wi)
      fits (Composed p n q r ts s ss t is) g = (g, f)

  pub declared_stands : (h : ModelsRead) (m : Name) (p : Place) (x : Name) (rest all : List Mark) → BeforeModel b h (called m ∷ sign p S.Colon ∷ called x ∷ rest) all → Stands b (AtModelEnd (declared h m x)) rest all
  declared_stands (ForTargets n ts) m p x rest all st = (add_model st.0 m p x, model_trees st.0 m p x ∙ ap (λ l. l ++ (model m x ∷ [])) st.1, rw (model_marks st.0 m p x rest) st.2)
  declared_stands (ForSources n ts ss) m p x rest all st = (add_model st.0 m p x, model_trees st.0 m p x ∙ ap (λ l. l ++ (model m x ∷ [])) st.1, rw (model_marks st.0 m p x rest) st.2)

  pub model_end_stands : (h : ModelsRead) (t : Content) (p : Place) (rest all : List Mark) → Stands b (AtModelEnd h) (mark p t ∷ rest) all → StepStands b rest all (model_end h t)
  model_end_stands (ForTargets n ts) (Shared (T.Fixed (S.End E.Comma))) p rest all st = (Some (st.0, p), st.1, st.2)
  model_end_stands (ForTargets n ts) (Word W.From) p rest all st = (None, refl, (st.0, st.1, p, st.2))
  model_end_stands (ForSources n ts ss) (Shared (T.Fixed (S.End E.Comma))) p rest all st = (Some (st.0, p), st.1, st.2)
  model_end_stands (ForSources n ts ss) (Shared (T.Fixed S.Semicolon)) p rest all st =
      let h = st.2 in
      let i = h.3 in (
        Composed i.0 n i.1 i.2 h.0 h.2 st.0 p NoItems,
        tt,
        ap (λ l. module_of n l (models st.0) []) h.1 ∙ ap (λ l. module_of n ts l []) st.1,
        rw (append_assoc (models_marks h.0) (word h.2 W.From ∷ (models_marks st.0 ++ (sign p S.Semicolon ∷ []))) rest) (rw (append_assoc (models_marks st.0) (sign p S.Semicolon ∷ []) rest) i.3),
      )
  model_end_stands h t p rest all st = tt

  pub with_all_stands : (o : Owner) (ps : List Param) (x : Bracketed) (rest all : List Mark) → bracketed x ≡ ps → OwnerHead b o (bracketed_marks x ++ rest) all → Stands b (with_all o ps) rest all
  with_all_stands (OfHelper m c n) ps x rest all h st = (Operation x, ap (λ l. Some l) h, st)
  with_all_stands (OfRule m r) ps x rest all h st =
      (NoStart, st.0, st.2, x, tt, ap (λ l. rule R.Called false st.0 None l [] None [] [] None) h ∙ ap (λ y. with_params y R.Called ps) st.1, st.3)

  -- a parameter is over
  param_added : (o : Owner) (ps : List Param) (n : Name) (p : Place) (h : Kind) (k : KindNode) (q : Place) (x : Option (Params × Place)) → kind_of h ≡ k → got params x ≡ ps → params (add_param x n p h) ≡ ps ++ (param n k ∷ [])
  param_added o ps n p h k q x e g = param_trees x n p h ∙ ap (λ l. l ++ (param n (kind_of h) ∷ [])) g ∙ ap (λ u. ps ++ (param n u ∷ [])) e

  kind_end_stands : (o : ForKind) (k : KindNode) (t : Content) (p : Place) (rest all : List Mark) → StandsKind b o [] (N.HaveKind k) (mark p t ∷ rest) all → StepStands b rest all (kind_end o k t)
  kind_end_stands (ForContext m) k (Word W.Def) p rest all st = let i = st.3 in (p, (i.0, InContext i.1 st.0, st.2, ap (λ u. Some u) st.1, i.2))
  kind_end_stands (ForContext m) k t p rest all st = tt
  kind_end_stands (ForParam o ps n) k (Shared (T.Fixed (S.End E.Comma))) p rest all st =
      let i = st.3 in
      let j = i.1 in (j.0, Some (add_param j.1 n i.0 st.0, p), param_added o ps n i.0 st.0 k p j.1 st.1 j.2, rw (param_marks j.1 n i.0 st.0 (sign p (S.End E.Comma) ∷ rest)) j.3)
  kind_end_stands (ForParam o ps n) k (Shared (T.Fixed (S.End E.Close))) p rest all st =
      let i = st.3 in
      let j = i.1 in
      with_all_stands o (ps ++ (param n k ∷ [])) (SomeParams j.0 (add_param j.1 n i.0 st.0) p) rest all (param_added o ps n i.0 st.0 k p j.1 st.1 j.2)
      (rw (append_assoc (params_marks (add_param j.1 n i.0 st.0)) (sign p (S.End E.Close) ∷ []) rest) (rw (param_marks j.1 n i.0 st.0 (sign p (S.End E.Close) ∷ rest)) j.3))
  kind_end_stands (ForParam o ps n) k t p rest all st = tt
  kind_end_stands (ForResult m c n ps) k (Shared (T.Fixed (S.Operator O.Eq))) p rest all st = let i = st.3 in ([], (λ r. refl), tt, tt, (i.0, st.0, st.1, p, i.1))
  kind_end_stands (ForResult m c n ps) k t p rest all st = tt
  kind_end_stands (ForLocalKind m r n) k (Shared (T.Fixed (S.Operator O.Eq))) p rest all st = let i = st.3 in ([], (λ r. refl), tt, tt, (i.0, st.0, st.1, p, i.1))
  kind_end_stands (ForLocalKind m r n) k t p rest all st = tt

  have_kind_stands : (fs : List Frame) (o : ForKind) (k : KindNode) (t : Content) (p : Place) (rest all : List Mark) → StandsKind b o fs (N.HaveKind k) (mark p t ∷ rest) all → StepStands b rest all (in_kind o (N.HaveKind k) fs t p)
  have_kind_stands [] o k t p rest all st = kind_end_stands o k t p rest all st
  have_kind_stands (F.CollKind w q ∷ fs) o k (Shared (T.Fixed (S.End E.Close))) p rest all st =
      let i = st.3 in (
        Coll q w i.1 st.0 p,
        ap (λ u. kind q (Q.Coll w u)) st.1,
        free_any o (Coll q w i.1 st.0 p) i.0,
        rw (map-append shared (kind_spelt st.0) (fixed p (S.End E.Close) ∷ [])) (rw (append_assoc (kind_marks st.0) (sign p (S.End E.Close) ∷ []) rest) i.2),
      )
  have_kind_stands (F.CollKind w q ∷ fs) o k (Shared (T.Fixed (S.Operator O.Eq))) p rest all st = tt
  have_kind_stands (F.CollKind w q ∷ fs) o k t p rest all st = tt
  have_kind_stands (f ∷ fs) o k t p rest all st = absurd st.3

  pub in_kind_stands : (n : Next) (fs : List Frame) (o : ForKind) (t : Content) (p : Place) (rest all : List Mark) → StandsKind b o fs n (mark p t ∷ rest) all → StepStands b rest all (in_kind o n fs t p)
  in_kind_stands N.Kind fs o (Shared (T.Name s)) p rest all st = st.1
  in_kind_stands N.Kind fs o (Shared (T.Fixed (S.Basic w))) p rest all st = (Basic p w, refl, free_any o (Basic p w) st.0, st.1)
  in_kind_stands N.Kind fs o (Shared (T.Fixed (S.Coll w))) p rest all st = (st.0, st.1)
  in_kind_stands N.Kind fs o t p rest all st = tt
  in_kind_stands (N.KindOpen w q) fs o (Shared (T.Fixed S.Open)) p rest all st = (st.0, (st.0, p, st.1))
  in_kind_stands (N.KindOpen w q) fs o t p rest all st = tt
  in_kind_stands (N.KindBang m) fs o (Shared (T.Fixed S.Bang)) p rest all st = (p, st)
  in_kind_stands (N.KindBang m) fs o t p rest all st = tt
  in_kind_stands (N.KindClass m) fs o (Shared (T.Name s)) p rest all st = (Class m st.0 (name p s), refl, class_fits o m st.0 (name p s), st.1)
  in_kind_stands (N.KindClass m) fs o t p rest all st = tt
  in_kind_stands (N.HaveKind k) fs o t p rest all st = have_kind_stands fs o k t p rest all st
  in_kind_stands n fs o t p rest all st = absurd st

  pub context_stands : (m : Module) (t : Content) (p : Place) (rest all : List Mark) → Stands b (AtContext m) (mark p t ∷ rest) all → StepStands b rest all (at_context m t p)
  context_stands m (Shared (T.Fixed (S.Coll w))) p rest all st = tt
  context_stands m (Shared (T.Fixed (S.Basic w))) p rest all st = (Basic p w, refl, tt, st)
  context_stands m (Shared (T.Name s)) p rest all st = st
  context_stands m t p rest all st = tt
