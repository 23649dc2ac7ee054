-- What is canonically written for a module is of the grammar, and has its tree up to places: targets, statements and rules.
use Rattle.std.proofs.Common.{◌≡◌, ℕ, suc, List, [], ◌∷◌, ◌++◌, refl, sym, ap, ◌∙◌, subst}
use Rattle.std.proofs.lemmas.List.{map-append}
use Rattle.std.specs.Prelude.{Bool, true, false, Option, None, Some, map, if◌then◌else◌}
use Rattle.atl_base.specs.declared.place.Place.{Place}
use Rattle.atl_tree.specs.declared.name.Name.{Name}
use Rattle.atl_tree.specs.declared.expr.Expr.{Expr}
use Rattle.atl_tree.specs.declared.expr.UnaryOp.TheVariants as U
use Rattle.atl_tree.specs.declared.module.Item.{Item}
use Rattle.atl_tree.specs.declared.module.Item.TheVariants as I
use Rattle.atl_tree.specs.declared.module.Rule.{Rule}
use Rattle.atl_tree.specs.declared.module.RuleSort.{RuleSort}
use Rattle.atl_tree.specs.declared.module.RuleSort.TheVariants as R
use Rattle.atl_tree.specs.declared.module.Pattern.{Pattern}
use Rattle.atl_tree.specs.declared.module.LocalVar.{LocalVar}
use Rattle.atl_tree.specs.declared.module.Target.{Target}
use Rattle.atl_tree.specs.declared.module.Bind.{Bind}
use Rattle.atl_tree.specs.declared.module.Stat.{Stat, roll-Stat, map-Stat, fold-roll-Stat}
use Rattle.atl_tree.specs.declared.module.Stat.TheOpen as Y
use Rattle.atl_tree.specs.declared.module.Stat.TheVariants as A
use Rattle.ocl_parse.specs.declared.sign.Sign.TheVariants as S
use Rattle.ocl_parse.specs.declared.symbol.Symbol.{Symbol}
use Rattle.ocl_parse.specs.declared.symbol.Symbol.TheVariants as T
use Rattle.ocl_parse.specs.Symbols.{Lexeme, lexeme}
use Rattle.ocl_parse.specs.Trees.{binary, feature, callee, call, iterator, iterate}
use Rattle.ocl_parse.specs.Grammar.{Written, Number, Words as Text, Lone, Literal, Variable, OfClass, OfBasic, Elements, If as Choice, Round, Let, Unary, Binary, Read, Call, Loop, Iterate, kind_of, spelt, tree_of, trees, Fits}
use Rattle.module_grammar.specs.Parts.{module_of, class, target, bind, rule, Modifiers, with_modifier, may_stand, sort_of}
use Rattle.module_grammar.specs.Grammar.{Bracketed, NoParams, SomeParams, Words, NoWords, MoreWords, Binds, OneBind, MoreBinds, BindList, NoList, EmptyList, SomeBinds, Targets, OneTarget, MoreTargets, To, NoTo, SomeTo, WrittenStat, Eval, Assign, If, IfElse, For, Stats, NoStats, MoreStats, Block, NoBlock, SomeBlock, Start, NoStart, Entry, End, WrittenRule, Matched, Called, WrittenItem, Help, Make, Items, NoItems, MoreItems, WrittenModule, Composed}
use Rattle.module_grammar.specs.Grammar.{models, bracketed, modifiers, guard, using, binds, bind_list, targets, to, stat, stats, block, start, rule_of, item, items, module_tree, module_marks}
use Rattle.module_grammar.specs.Grammar.{WordsFit, StartFits, begins_if, Whole, GuardFits, BindsFit, ListFits, TargetsFit, ToFits, StatFits, StatsFit, BlockFits, RuleFits, ItemFits, ItemsFit, ModuleFits, IsModule}
use Rattle.module_print.specs.Writing.{here, name_here, whole_written, round_leftmost, beginning, models_written, bracketed_written, abstract_words, sort_words, guard_written, using_written, more_binds, list_written, more_targets, to_written, more_stats, stat_layer, stat_written, block_written, called_written, matched_written, by_sort, item_written, more_items, module_written}
use Rattle.module_laws.specs.Places.{placed, placed_models, placed_bracketed, placed_words, placed_using, placed_binds, placed_list, placed_targets, placed_to, placed_stat, placed_stats, placed_block, placed_start, placed_rule, placed_item, placed_items, placed_module}
use Rattle.module_laws.specs.Laws.{ReadsBack}
use Rattle.module_laws.proofs.Accepts.{accepts}
use Rattle.module_laws.proofs.SaysParts.{IsSome, some_last, models_say, bracketed_say, whole_says, helper_says, sources_say, guard_says, parent_says, using_says}

-- bindings and targets

pub more_binds_last : (bs : Binds) (cs : List Bind) (c : Bind) → more_binds bs (cs ++ (c ∷ [])) ≡ MoreBinds (more_binds bs cs) here (name_here c.feature) here (whole_written c.value)
more_binds_last bs [] c = refl
more_binds_last bs (x ∷ cs) c = more_binds_last (MoreBinds bs here (name_here x.feature) here (whole_written x.value)) cs c

abbrev ListSays : List Bind → List Bind → Type 0
ListSays cs ds = ListFits false (list_written cs) × (bind_list (list_written cs) ≡ ds)

list_last : (cs : List Bind) (c : Bind) (ds : List Bind) → IsSome cs → ListSays cs ds → ((d : ℕ) → Fits false 0 d (whole_written c.value)) → ListSays (cs ++ (c ∷ [])) (ds ++ (bind (name_here c.feature) (tree_of (whole_written c.value)) ∷ []))
list_last [] c ds h s g = absurd h
list_last (x ∷ cs) c ds h s g =
    rw (more_binds_last (OneBind (name_here x.feature) here (whole_written x.value)) cs c) ((s.0, g 0), ap (λ l. l ++ (bind (name_here c.feature) (tree_of (whole_written c.value)) ∷ [])) s.1)

pub some_binds : (bs : Binds) → IsSome (binds bs)
some_binds (OneBind n p e) = tt
some_binds (MoreBinds bs c n p e) = some_last (binds bs) (bind n (tree_of e))

binds_say : (bs : Binds) → BindsFit false bs → ListSays (binds bs) (binds (placed_binds bs))
binds_say (OneBind n p e) f = let x = whole_says e f in (x.0 0, ap (λ u. bind (name_here n) u ∷ []) x.1)
binds_say (MoreBinds bs c n p e) f =
    let x = binds_say bs f.0 in
    let y = whole_says e f.1 in
    let z = list_last (binds bs) (bind n (tree_of e)) (binds (placed_binds bs)) (some_binds bs) x y.0 in (z.0, z.1 ∙ ap (λ u. binds (placed_binds bs) ++ (bind (name_here n) u ∷ [])) y.1)

list_says : (bs : BindList) → ListFits false bs → ListSays (bind_list bs) (bind_list (placed_list bs))
list_says NoList f = (tt, refl)
list_says (EmptyList p q) f = (tt, refl)
list_says (SomeBinds p bs q) f = binds_say bs f

abbrev pub class_name : List ℕ → Name
class_name s = record { text = s; place = here }

pub more_targets_last : (ts : Targets) (xs : List Target) (x : Target)
    → more_targets ts (xs ++ (x ∷ [])) ≡ MoreTargets (more_targets ts xs) here (name_here x.name) here (class_name x.class.meta) here (class_name x.class.class) (list_written x.binds)
more_targets_last ts [] x = refl
more_targets_last ts (y ∷ xs) x = more_targets_last (MoreTargets ts here (name_here y.name) here (class_name y.class.meta) here (class_name y.class.class) (list_written y.binds)) xs x

abbrev ToSays : List Target → List Target → Type 0
ToSays xs ys = ToFits false (to_written xs) × (to (to_written xs) ≡ ys)

to_last : (xs : List Target) (x : Target) (ys : List Target) → IsSome xs → ToSays xs ys → ListFits false (list_written x.binds)
    → ToSays (xs ++ (x ∷ [])) (ys ++ (target (name_here x.name) (class (class_name x.class.meta) (class_name x.class.class)) (bind_list (list_written x.binds)) ∷ []))
to_last [] x ys h s g = absurd h
to_last (z ∷ xs) x ys h s g =
    rw (more_targets_last (OneTarget (name_here z.name) here (class_name z.class.meta) here (class_name z.class.class) (list_written z.binds)) xs x)
    ((s.0, g), ap (λ l. l ++ (target (name_here x.name) (class (class_name x.class.meta) (class_name x.class.class)) (bind_list (list_written x.binds)) ∷ [])) s.1)

pub some_targets : (ts : Targets) → IsSome (targets ts)
some_targets (OneTarget n p m q c bs) = tt
some_targets (MoreTargets ts r n p m q c bs) = some_last (targets ts) (target n (class m c) (bind_list bs))

targets_say : (ts : Targets) → TargetsFit false ts → ToSays (targets ts) (targets (placed_targets ts))
targets_say (OneTarget n p m q c bs) f = let x = list_says bs f in (x.0, ap (λ l. target (name_here n) (class (name_here m) (name_here c)) l ∷ []) x.1)
targets_say (MoreTargets ts r n p m q c bs) f =
    let x = targets_say ts f.0 in
    let y = list_says bs f.1 in
    let z = to_last (targets ts) (target n (class m c) (bind_list bs)) (targets (placed_targets ts)) (some_targets ts) x y.0 in
    (z.0, z.1 ∙ ap (λ l. targets (placed_targets ts) ++ (target (name_here n) (class (name_here m) (name_here c)) l ∷ [])) y.1)

to_says : (t : To) → ToFits false t → ToSays (to t) (to (placed_to t))
to_says NoTo f = (tt, refl)
to_says (SomeTo p ts) f = targets_say ts f

-- how a statement's expression begins

abbrev pub NotIf : Symbol → Type 0
NotIf (T.Fixed S.If) = ⊥
NotIf s = Unit {0}

-- its first symbol is not `if`
abbrev pub FirstNotIf : List Lexeme → Type 0
FirstNotIf [] = ⊥
FirstNotIf (t ∷ ts) = NotIf t.symbol

first_front : (xs ys : List Lexeme) → FirstNotIf xs → FirstNotIf (xs ++ ys)
first_front [] ys h = absurd h
first_front (t ∷ xs) ys h = h

pub first_begins : (xs : List Lexeme) → FirstNotIf xs → begins_if xs ≡ false
first_begins [] h = refl
first_begins (t ∷ []) h = refl
first_begins (t ∷ u ∷ xs) h = on t.symbol t.place h
  where
    on : (s : Symbol) (p : Place) → NotIf s → begins_if (lexeme p s ∷ u ∷ xs) ≡ false
    on (T.Fixed S.If) p h = absurd h
    on s p h = refl

pub leftmost_first : (w : Written) → FirstNotIf (spelt (round_leftmost w))
leftmost_first (Number p n) = tt
leftmost_first (Text p s) = tt
leftmost_first (Lone p c) = tt
leftmost_first (Literal p n) = tt
leftmost_first (Variable n) = tt
leftmost_first (OfClass m p c) = tt
leftmost_first (OfBasic p w) = tt
leftmost_first (Elements p w q es r) = tt
leftmost_first (Choice p c q a r e s) = tt
leftmost_first (Round p w q) = tt
leftmost_first (Let p n q k r e s w) = tt
leftmost_first (Unary p U.Not w) = tt
leftmost_first (Unary p U.Neg w) = tt
leftmost_first (Binary a p o w) = first_front (spelt (round_leftmost a)) _ (leftmost_first a)
leftmost_first (Read a p n) = first_front (spelt (round_leftmost a)) _ (leftmost_first a)
leftmost_first (Call a arrow p n q es r) = first_front (spelt (round_leftmost a)) _ (leftmost_first a)
leftmost_first (Loop a p n q x r e s) = first_front (spelt (round_leftmost a)) _ (leftmost_first a)
leftmost_first (Iterate a p n q x r y s k t i u e v) = first_front (spelt (round_leftmost a)) _ (leftmost_first a)

leftmost_tree : (w : Written) → tree_of (round_leftmost w) ≡ tree_of w
leftmost_tree (Choice p c q a r e s) = refl
leftmost_tree (Binary a p o w) = ap (λ u. binary u p o (tree_of w)) (leftmost_tree a)
leftmost_tree (Read a p n) = ap (λ u. feature u n) (leftmost_tree a)
leftmost_tree (Call a arrow p n q es r) = ap (λ u. call (callee u arrow n) (trees es)) (leftmost_tree a)
leftmost_tree (Loop a p n q x r e s) = ap (λ u. iterator (callee u true n) x (tree_of e)) (leftmost_tree a)
leftmost_tree (Iterate a p n q x r y s k t i u e v) = ap (λ z. iterate (callee z true n) x y (kind_of k) (tree_of i) (tree_of e)) (leftmost_tree a)
leftmost_tree w = refl

leftmost_fits : (w : Written) (l : ℕ) → ((d : ℕ) → Fits false l d w) → (d : ℕ) → Fits false l d (round_leftmost w)
leftmost_fits (Choice p c q a r e s) l f d = (refl, f (suc d))
leftmost_fits (Binary a p o w) l f d = ((f d).0, leftmost_fits a _ (λ i. (f i).1) d, (f d).2)
leftmost_fits (Read a p n) l f d = leftmost_fits a 6 f d
leftmost_fits (Call a arrow p n q es r) l f d = (leftmost_fits a 6 (λ i. (f i).0) d, (f d).1)
leftmost_fits (Loop a p n q x r e s) l f d = ((f d).0, leftmost_fits a 6 (λ i. (f i).1) d, (f d).2)
leftmost_fits (Iterate a p n q x r y s k t i u e v) l f d = ((f d).0, leftmost_fits a 6 (λ j. (f j).1) d, (f d).2, (f d).3)
leftmost_fits w l f d = f d

beginning_says : (w : Written) → ((d : ℕ) → Fits false 0 d w) → (begins_if (spelt (beginning w)) ≡ false) × Whole false (beginning w) × (tree_of (beginning w) ≡ tree_of w)
beginning_says w f = on (begins_if (spelt w)) refl
  where
    on : (t : Bool) → begins_if (spelt w) ≡ t → (begins_if (spelt (if t then round_leftmost w else w)) ≡ false) × Whole false (if t then round_leftmost w else w) × (tree_of (if t then round_leftmost w else w) ≡ tree_of w)
    on true h = (first_begins (spelt (round_leftmost w)) (leftmost_first w), leftmost_fits w 0 f 0, leftmost_tree w)
    on false h = (h, f 0, refl)

-- statements

pub stat_is : (y : Y.Stat-F Stat) (k : Stat) → roll-Stat y ≡ k → stat_written k ≡ stat_layer (map-Stat _ _ stat_written y)
unfolding stat_written
stat_is y k h = sym (ap stat_written h) ∙ fold-roll-Stat _ stat_layer y

abbrev pub all_written : List Stat → Stats
all_written ss = more_stats NoStats (map stat_written ss)

pub more_stats_last : (ss : Stats) (ts : List WrittenStat) (t : WrittenStat) → more_stats ss (ts ++ (t ∷ [])) ≡ MoreStats (more_stats ss ts) t
more_stats_last ss [] t = refl
more_stats_last ss (x ∷ ts) t = more_stats_last (MoreStats ss x) ts t

pub stats_last : (ss : List Stat) (s : Stat) → all_written (ss ++ (s ∷ [])) ≡ MoreStats (all_written ss) (stat_written s)
stats_last ss s = ap (λ l. more_stats NoStats l) (map-append stat_written ss (s ∷ [])) ∙ more_stats_last NoStats (map stat_written ss) (stat_written s)

abbrev StatSays : WrittenStat → Type 0
StatSays s = StatFits false (stat_written (stat s)) × (stat (stat_written (stat s)) ≡ stat (placed_stat s))

abbrev StatsSay : Stats → Type 0
StatsSay ss = StatsFit false (all_written (stats ss)) × (stats (all_written (stats ss)) ≡ stats (placed_stats ss))

mutual
  stat_says : (s : WrittenStat) → StatFits false s → StatSays s
  stat_says (Eval e p) f =
      let x = whole_says e f.1 in
      let y = beginning_says (whole_written (tree_of e)) x.0 in
      rw (stat_is (Y.Eval (tree_of e)) (A.Eval (tree_of e)) (A.rolls-Eval (tree_of e))) ((y.0, y.1), ap (λ u. A.Eval u) (y.2 ∙ x.1))
  stat_says (Assign e p n q v r) f =
      let x = whole_says e f.1 in
      let y = beginning_says (whole_written (tree_of e)) x.0 in
      let z = whole_says v f.2 in
      rw (stat_is (Y.Assign (tree_of e) n (tree_of v)) (A.Assign (tree_of e) n (tree_of v)) (A.rolls-Assign (tree_of e) n (tree_of v)))
      ((y.0, y.1, z.0 0), ap (λ u. A.Assign u (name_here n) (tree_of (whole_written (tree_of v)))) (y.2 ∙ x.1) ∙ ap (λ u. A.Assign (tree_of (placed e)) (name_here n) u) z.1)
  stat_says (If p q e r s ss t) f =
      let x = whole_says e f.0 in
      let y = stats_say ss f.1 in
      rw (stat_is (Y.If (tree_of e) (stats ss) None) (A.If (tree_of e) (stats ss) None) (A.rolls-If (tree_of e) (stats ss) None))
      ((x.0 0, y.0), ap (λ u. A.If u (stats (all_written (stats ss))) None) x.1 ∙ ap (λ u. A.If (tree_of (placed e)) u None) y.1)
  stat_says (IfElse p q e r s ss t u v zs w) f =
      let x = whole_says e f.0 in
      let y = stats_say ss f.1 in
      let z = stats_say zs f.2 in
      rw (stat_is (Y.If (tree_of e) (stats ss) (Some (stats zs))) (A.If (tree_of e) (stats ss) (Some (stats zs))) (A.rolls-If (tree_of e) (stats ss) (Some (stats zs)))) (
        (x.0 0, y.0, z.0),
        ap (λ u. A.If u (stats (all_written (stats ss))) (Some (stats (all_written (stats zs))))) x.1 ∙ ap (λ u. A.If (tree_of (placed e)) u (Some (stats (all_written (stats zs))))) y.1 ∙ ap (λ u. A.If (tree_of (placed e)) (stats (placed_stats ss)) (Some u)) z.1,
      )
  stat_says (For p q n r e s t ss u) f =
      let x = whole_says e f.0 in
      let y = stats_say ss f.1 in
      rw (stat_is (Y.For n (tree_of e) (stats ss)) (A.For n (tree_of e) (stats ss)) (A.rolls-For n (tree_of e) (stats ss)))
      ((x.0 0, y.0), ap (λ u. A.For (name_here n) u (stats (all_written (stats ss)))) x.1 ∙ ap (λ u. A.For (name_here n) (tree_of (placed e)) u) y.1)

  stats_say : (ss : Stats) → StatsFit false ss → StatsSay ss
  stats_say NoStats f = (tt, refl)
  stats_say (MoreStats ss s) f =
      let x = stats_say ss f.0 in
      let y = stat_says s f.1 in
      rw (stats_last (stats ss) (stat s)) ((x.0, y.0), ap (λ l. l ++ (stat (stat_written (stat s)) ∷ [])) x.1 ∙ ap (λ u. stats (placed_stats ss) ++ (u ∷ [])) y.1)

block_says : (y : Block) → BlockFits false y → BlockFits false (block_written (block y)) × (block (block_written (block y)) ≡ block (placed_block y))
block_says NoBlock f = (tt, refl)
block_says (SomeBlock p q ss r) f = let x = stats_say ss f in (x.0, ap (λ l. Some l) x.1)

-- rules

placed_modifiers : (ws : Words) → modifiers (placed_words ws) ≡ modifiers ws
placed_modifiers NoWords = refl
placed_modifiers (MoreWords ws p w) = ap (λ m. with_modifier m w) (placed_modifiers ws)

-- the words before `rule`, by what they say
abbrev pub words_of : Modifiers → Words
words_of m = sort_words (sort_of m) (abstract_words m.is_abstract)

pub record WordsSay (m : Modifiers) : Type 0 where
  pub fit : WordsFit (words_of m)
  pub stand : may_stand (modifiers (words_of m)) ≡ true
  pub lazy : (modifiers (words_of m)).is_lazy ≡ m.is_lazy
  pub sort : sort_of (modifiers (words_of m)) ≡ sort_of m
  pub bare : (modifiers (words_of m)).is_abstract ≡ m.is_abstract

abbrev IsTrue : Bool → Type 0
IsTrue true = Unit {0}
IsTrue false = ⊥

pub words_say : (a u l : Bool) → (if u then l else true) ≡ true → WordsSay (record { is_abstract = a; is_unique = u; is_lazy = l })
words_say true true true h = record { fit = (((tt, refl), refl), refl); stand = refl; lazy = refl; sort = refl; bare = refl }
words_say false true true h = record { fit = ((tt, refl), refl); stand = refl; lazy = refl; sort = refl; bare = refl }
words_say true false true h = record { fit = ((tt, refl), refl); stand = refl; lazy = refl; sort = refl; bare = refl }
words_say false false true h = record { fit = (tt, refl); stand = refl; lazy = refl; sort = refl; bare = refl }
words_say true false false h = record { fit = (tt, refl); stand = refl; lazy = refl; sort = refl; bare = refl }
words_say false false false h = record { fit = tt; stand = refl; lazy = refl; sort = refl; bare = refl }
words_say a true false h = absurd (subst IsTrue (sym h) tt)

pub start_fits : (x : Start) (ps : Bracketed) → StartFits x ps → StartFits (placed_start x) (bracketed_written (bracketed ps))
start_fits NoStart ps f = tt
start_fits (Entry p) (NoParams q r) f = tt
start_fits (Entry p) (SomeParams q ps r) f = absurd f
start_fits (End p) (NoParams q r) f = tt
start_fits (End p) (SomeParams q ps r) f = absurd f

pub by_start : (x : Start) (r : Rule) → by_sort (start x) r ≡ called_written (placed_start x) r
by_start NoStart r = refl
by_start (Entry p) r = refl
by_start (End p) r = refl

start_placed : (x : Start) → start (placed_start x) ≡ start x
start_placed NoStart = refl
start_placed (Entry p) = refl
start_placed (End p) = refl

pub by_words : (u l : Bool) (r : Rule) → by_sort (if u then R.Unique else if l then R.Lazy else R.Matched) r ≡ matched_written r
by_words true l r = refl
by_words false true r = refl
by_words false false r = refl

rule_says : (w : WrittenRule) → RuleFits false w → RuleFits false (by_sort (rule_of w).sort (rule_of w)) × (rule_of (by_sort (rule_of w).sort (rule_of w)) ≡ rule_of (placed_rule w))
rule_says (Called x p n ps q u t y z) f =
    let r = f.1 in
    let us = using_says u r.0 in
    let ts = to_says t r.1 in
    let ys = block_says y r.2 in
    let whole = rule_of (Called x p n ps q u t y z) in
    rw (by_start x whole) (
      (start_fits x ps f.0, (us.0, ts.0, ys.0)),
      ap (λ l. rule (start (placed_start x)) false (name_here n) None l [] None (using (using_written (using u))) (to (to_written (to t))) (block (block_written (block y)))) (bracketed_say ps)
          ∙ ap (λ l. rule (start (placed_start x)) false (name_here n) None (bracketed (placed_bracketed ps)) [] None l (to (to_written (to t))) (block (block_written (block y)))) us.1
          ∙ ap (λ l. rule (start (placed_start x)) false (name_here n) None (bracketed (placed_bracketed ps)) [] None (using (placed_using u)) l (block (block_written (block y)))) ts.1
          ∙ ap (λ l. rule (start (placed_start x)) false (name_here n) None (bracketed (placed_bracketed ps)) [] None (using (placed_using u)) (to (placed_to t)) l) ys.1,
    )
rule_says (Matched ws p n x q s ss g u t y z) f =
    let r = f.3 in
    let us = using_says u r.0 in
    let ts = to_says t r.1 in
    let ys = block_says y r.2 in
    let m = modifiers ws in
    let v = words_say m.is_abstract m.is_unique m.is_lazy f.1 in
    let gs = guard_says g m.is_lazy f.2 in
    let whole = rule_of (Matched ws p n x q s ss g u t y z) in
    rw (by_words m.is_unique m.is_lazy whole) (
      (v.fit, v.stand, subst (λ l. GuardFits false l (guard_written (guard g))) (sym v.lazy) gs.0, (us.0, ts.0, ys.0)),
      tree v.sort v.bare (parent_says x) (sources_say ss) gs.1 us.1 ts.1 ys.1 (sym (ap sort_of (placed_modifiers ws))) (sym (ap (λ k. k.is_abstract) (placed_modifiers ws))),
    )
  where
    tree : {s1 s2 s3 : RuleSort} {a1 a2 a3 : Bool} {n : Name} {x1 x2 : Option Name} {ss1 ss2 : List Pattern} {g1 g2 : Option Expr} {l1 l2 : List LocalVar} {t1 t2 : List Target} {b1 b2 : Option (List Stat)}
        → s1 ≡ s2 → a1 ≡ a2 → x1 ≡ x2 → ss1 ≡ ss2 → g1 ≡ g2 → l1 ≡ l2 → t1 ≡ t2 → b1 ≡ b2 → s2 ≡ s3 → a2 ≡ a3
        → rule s1 a1 n x1 [] ss1 g1 l1 t1 b1 ≡ rule s3 a3 n x2 [] ss2 g2 l2 t2 b2
    tree {s1} {s2} {s3} {a1} {a2} {a3} {n} {x1} {x2} {ss1} {ss2} {g1} {g2} {l1} {l2} {t1} {t2} {b1} {b2} h1 h2 h3 h4 h5 h6 h7 h8 h9 h10 =
        ap (λ v. rule v a1 n x1 [] ss1 g1 l1 t1 b1) (h1 ∙ h9) ∙ ap (λ v. rule s3 v n x1 [] ss1 g1 l1 t1 b1) (h2 ∙ h10) ∙ ap (λ v. rule s3 a3 n v [] ss1 g1 l1 t1 b1) h3
        ∙ ap (λ v. rule s3 a3 n x2 [] v g1 l1 t1 b1) h4 ∙ ap (λ v. rule s3 a3 n x2 [] ss2 v l1 t1 b1) h5 ∙ ap (λ v. rule s3 a3 n x2 [] ss2 g2 v t1 b1) h6
        ∙ ap (λ v. rule s3 a3 n x2 [] ss2 g2 l2 v b1) h7 ∙ ap (λ v. rule s3 a3 n x2 [] ss2 g2 l2 t2 v) h8

item_says : (i : WrittenItem) → ItemFits false i → ItemFits false (item_written (item i)) × (item (item_written (item i)) ≡ item (placed_item i))
item_says (Help h) f = let x = helper_says h f in (x.0, ap (λ u. I.Help u) x.1)
item_says (Make w) f = let x = rule_says w f in (x.0, ap (λ u. I.Make u) x.1)

pub more_items_last : (is : Items) (js : List Item) (j : Item) → more_items is (js ++ (j ∷ [])) ≡ MoreItems (more_items is js) (item_written j)
more_items_last is [] j = refl
more_items_last is (x ∷ js) j = more_items_last (MoreItems is (item_written x)) js j

items_say : (is : Items) → ItemsFit false is → ItemsFit false (more_items NoItems (items is)) × (items (more_items NoItems (items is)) ≡ items (placed_items is))
items_say NoItems f = (tt, refl)
items_say (MoreItems is i) f =
    let x = items_say is f.0 in
    let y = item_says i f.1 in
    rw (more_items_last NoItems (items is) (item i)) ((x.0, y.0), ap (λ l. l ++ (item (item_written (item i)) ∷ [])) x.1 ∙ ap (λ u. items (placed_items is) ++ (u ∷ [])) y.1)

-- what is canonically written is of the grammar and has the tree, places aside
pub module_says : (w : WrittenModule) → ModuleFits false w → ModuleFits false (module_written (module_tree w)) × (module_tree (module_written (module_tree w)) ≡ module_tree (placed_module w))
module_says (Composed p n q r ts s ss t is) f =
    let x = items_say is f in (
      x.0,
      ap (λ l. module_of (name_here n) l (models (models_written (models ss))) (items (more_items NoItems (items is)))) (models_say ts)
          ∙ ap (λ l. module_of (name_here n) (models (placed_models ts)) l (items (more_items NoItems (items is)))) (models_say ss)
          ∙ ap (λ l. module_of (name_here n) (models (placed_models ts)) (models (placed_models ss)) l) x.1,
    )

pub canonical : (w : WrittenModule) → ModuleFits false w → IsModule false (module_marks (module_written (module_tree w))) (module_tree (placed_module w))
canonical w f = let x = module_says w f in (module_written (module_tree w), x.0, refl, x.1)

-- within the limit of depth its marks are read back
pub read_back : (w : WrittenModule) → ReadsBack w
read_back w f g = let x = module_says w f in accepts true (module_marks (module_written (module_tree w))) (module_tree (placed_module w)) (module_written (module_tree w), g, refl, x.1)
