-- Marks that are those of a module, places aside, are those of the same module with their places in it.
use Rattle.std.proofs.Common.{◌≡◌, ℕ, List, [], ◌∷◌, ◌++◌, refl, sym, ap, ◌∙◌, subst}
use Rattle.std.specs.Prelude.{Bool, true, false, map}
use Rattle.atl_base.specs.declared.place.Place.{Place}
use Rattle.atl_tree.specs.declared.expr.BinaryOp.TheVariants as O
use Rattle.ocl_parse.specs.declared.sign.Ender.TheVariants as E
use Rattle.ocl_parse.specs.declared.sign.Sign.TheVariants as S
use Rattle.ocl_parse.specs.declared.symbol.Symbol.TheVariants as T
use Rattle.ocl_parse.specs.Symbols.{Lexeme}
use Rattle.ocl_parse.specs.Trees.{name}
use Rattle.ocl_parse.specs.Grammar.{Written, Kind, spelt, kind_spelt, Fits}
use Rattle.module_grammar.specs.declared.keyword.Keyword.TheVariants as W
use Rattle.module_grammar.specs.Marks.{Content, Word, Shared, Mark, mark, word, sign, called, shared, symbol, expression, kind_marks}
use Rattle.module_grammar.specs.Parts.{Abstract, Unique, Lazy, has, with_modifier, may_stand}
use Rattle.module_grammar.specs.Grammar.{Models, OneModel, MoreModels, Params, OneParam, MoreParams, Bracketed, NoParams, SomeParams, Context, NoContext, InContext, Signature, Attribute, Operation, WrittenHelper, Define, Words, NoWords, MoreWords, Parent, NoParent, Extends, Sources, OneSource, MoreSources, Guard, NoGuard, SomeGuard, Locals, NoLocals, MoreLocals, Using, NoUsing, SomeUsing, Binds, OneBind, MoreBinds, BindList, NoList, EmptyList, SomeBinds, Targets, OneTarget, MoreTargets, To, NoTo, SomeTo, WrittenStat, Eval, Assign, If, IfElse, For, Stats, NoStats, MoreStats, Block, NoBlock, SomeBlock, Start, NoStart, Entry, End, WrittenRule, Matched, Called, WrittenItem, Help, Make, Items, NoItems, MoreItems, WrittenModule, Composed}
use Rattle.module_grammar.specs.Grammar.{models_marks, params_marks, bracketed_marks, context_marks, signature_marks, helper_marks, words_marks, parent_marks, sources_marks, guard_marks, locals_marks, using_marks, binds_marks, list_marks, targets_marks, to_marks, stat_marks, stats_marks, block_marks, start_marks, rule_marks, item_marks, items_marks, module_marks, modifiers}
use Rattle.module_grammar.specs.Grammar.{IsContext, ContextFits, WordsFit, StartFits, begins_if, Whole, HelperFits, GuardFits, LocalsFit, UsingFits, BindsFit, ListFits, TargetsFit, ToFits, StatFits, StatsFit, BlockFits, RuleFits, ItemFits, ItemsFit, ModuleFits}
use Rattle.module_print.specs.Writing.{here}
use Rattle.module_laws.specs.Places.{placed_kind, placed, placed_models, placed_params, placed_bracketed, placed_context, placed_signature, placed_helper, placed_words, placed_parent, placed_sources, placed_guard, placed_locals, placed_using, placed_binds, placed_list, placed_targets, placed_to, placed_stat, placed_stats, placed_block, placed_start, placed_rule, placed_item, placed_items, placed_module}
use Rattle.module_laws.specs.Laws.{inner}
use Rattle.module_laws.specs.ReadBack.{contents}
use Rattle.module_laws.proofs.Cutting.{head_same, tail_same, both}
use Rattle.module_laws.proofs.Refilled.{symbols, refill, refill_kind}
use Rattle.module_laws.proofs.Beginnings.{begins_alike}

-- with what the first of some marks is, or the parts of them
first_then : (R : Type 0) (c : Content) (rs : List Content) (ls : List Mark) → contents ls ≡ c ∷ rs → ((p : Place) (rest : List Mark) → ls ≡ mark p c ∷ rest → contents rest ≡ rs → R) → R
first_then R c rs [] h on = absurd cc
first_then R c rs (t ∷ ls) h on = on t.place ls (ap (λ it. mark t.place it ∷ ls) (head_same c h)) (tail_same h)

abbrev Parts : List Mark → List Mark → List Mark → Type 0
Parts xs ys ls = (a : List Mark) × (b : List Mark) × (ls ≡ a ++ b) × (contents a ≡ contents xs) × (contents b ≡ contents ys)

part : (xs ys ls : List Mark) → contents ls ≡ contents (xs ++ ys) → Parts xs ys ls
part [] ys ls h = ([], ls, refl, refl, h)
part (x ∷ xs) ys [] h = absurd cc
part (x ∷ xs) ys (l ∷ ls) h =
    let r = part xs ys ls (tail_same h) in
    (l ∷ r.0, r.1, ap (λ k. l ∷ k) r.2, ap (λ s. s ∷ contents r.0) (head_same x.content h) ∙ ap (λ k. x.content ∷ k) r.3, r.4)

part_then : (R : Type 0) (xs ys ls : List Mark) → contents ls ≡ contents (xs ++ ys) → ((a b : List Mark) → ls ≡ a ++ b → contents a ≡ contents xs → contents b ≡ contents ys → R) → R
part_then R xs ys ls h on = let r = part xs ys ls h in on r.0 r.1 r.2 r.3 r.4

none : (ls : List Mark) → contents ls ≡ [] → ls ≡ []
none [] h = refl
none (l ∷ ls) h = absurd cc

-- the same but for its places, which are those of the marks
pub record Kept (X : Type 0) (marks : X → List Mark) (aside : X → X) (Keeps : X → X → Type 0) (v : X) (ls : List Mark) : Type 0 where
  pub y : X
  pub same : marks y ≡ ls
  pub away : aside y ≡ aside v
  pub kept : Keeps v y

-- marks of an expression are its symbols
unshared : (ls : List Lexeme) (ts : List Mark) → contents ts ≡ contents (map shared ls) → (map shared (map inner ts) ≡ ts) × (symbols (map inner ts) ≡ symbols ls)
unshared [] [] h = (refl, refl)
unshared [] (t ∷ ts) h = absurd cc
unshared (l ∷ ls) [] h = absurd cc
unshared (l ∷ ls) (t ∷ ts) h =
    let r = unshared ls ts (tail_same h) in
    let e : t.content ≡ Shared l.symbol = head_same t.content h in (
      ap (λ k. mark t.place k ∷ map shared (map inner ts)) (ap (λ c. Shared (symbol c)) e ∙ sym e) ∙ ap (λ k. t ∷ k) r.0,
      ap (λ c. symbol c ∷ symbols (map inner ts)) e ∙ ap (λ k. l.symbol ∷ k) r.1,
    )

keep_kind : (v : Kind) (ls : List Mark) → contents ls ≡ contents (kind_marks v) → Kept Kind kind_marks placed_kind (λ v y. IsContext v → IsContext y) v ls
keep_kind v ls h =
    let u = unshared (kind_spelt v) ls h in
    let x = refill_kind v (map inner ls) u.1 in
    record { y = x.y; same = ap (map shared) x.same ∙ u.0; away = x.away; kept = x.context }

keep_expression : (v : Written) (ls : List Mark) → contents ls ≡ contents (expression v)
    → Kept Written expression placed (λ v y. ((b : Bool) (l d : ℕ) → Fits b l d v → Fits b l d y) × (begins_if (spelt y) ≡ begins_if (spelt v))) v ls
keep_expression v ls h =
    let u = unshared (spelt v) ls h in
    let x = refill v (map inner ls) u.1 in
    record { y = x.y; same = ap (map shared) x.same ∙ u.0; away = x.away; kept = (x.fits, begins_alike (spelt x.y) (spelt v) (ap symbols x.same ∙ u.1)) }

guard_kept : (b lazy : Bool) (p q r s : Place) (e x : Written) → (Whole b e → Whole b x) → GuardFits b lazy (SomeGuard p e q) → GuardFits b lazy (SomeGuard r x s)
guard_kept b true p q r s e x g f = absurd f
guard_kept b false p q r s e x g f = g f

start_forth : (x : Start) (ps : Bracketed) → StartFits x ps → StartFits (placed_start x) (placed_bracketed ps)
start_forth NoStart ps f = tt
start_forth (Entry p) (NoParams q r) f = tt
start_forth (Entry p) (SomeParams q ps r) f = absurd f
start_forth (End p) (NoParams q r) f = tt
start_forth (End p) (SomeParams q ps r) f = absurd f

start_back : (x : Start) (ps : Bracketed) → StartFits (placed_start x) (placed_bracketed ps) → StartFits x ps
start_back NoStart ps f = tt
start_back (Entry p) (NoParams q r) f = tt
start_back (Entry p) (SomeParams q ps r) f = absurd f
start_back (End p) (NoParams q r) f = tt
start_back (End p) (SomeParams q ps r) f = absurd f

start_kept : (x y : Start) (ps qs : Bracketed) → placed_start y ≡ placed_start x → placed_bracketed qs ≡ placed_bracketed ps → StartFits x ps → StartFits y qs
start_kept x y ps qs h k f = start_back y qs (subst (λ z. StartFits z (placed_bracketed qs)) (sym h) (subst (StartFits (placed_start x)) (sym k) (start_forth x ps f)))

abbrev KeptModels : Models → List Mark → Type 0
KeptModels v ls = Kept Models models_marks placed_models (λ v y. Unit {0}) v ls

abbrev KeptParams : Params → List Mark → Type 0
KeptParams v ls = Kept Params params_marks placed_params (λ v y. Unit {0}) v ls

abbrev KeptBracketed : Bracketed → List Mark → Type 0
KeptBracketed v ls = Kept Bracketed bracketed_marks placed_bracketed (λ v y. Unit {0}) v ls

abbrev KeptContext : Context → List Mark → Type 0
KeptContext v ls = Kept Context context_marks placed_context (λ v y. ContextFits v → ContextFits y) v ls

abbrev KeptSignature : Signature → List Mark → Type 0
KeptSignature v ls = Kept Signature signature_marks placed_signature (λ v y. Unit {0}) v ls

abbrev KeptHelper : WrittenHelper → List Mark → Type 0
KeptHelper v ls = Kept WrittenHelper helper_marks placed_helper (λ v y. (b : Bool) → HelperFits b v → HelperFits b y) v ls

abbrev KeptWords : Words → List Mark → Type 0
KeptWords v ls = Kept Words words_marks placed_words (λ v y. (WordsFit v → WordsFit y) × (modifiers y ≡ modifiers v)) v ls

abbrev KeptParent : Parent → List Mark → Type 0
KeptParent v ls = Kept Parent parent_marks placed_parent (λ v y. Unit {0}) v ls

abbrev KeptSources : Sources → List Mark → Type 0
KeptSources v ls = Kept Sources sources_marks placed_sources (λ v y. Unit {0}) v ls

abbrev KeptGuard : Guard → List Mark → Type 0
KeptGuard v ls = Kept Guard guard_marks placed_guard (λ v y. (b lazy : Bool) → GuardFits b lazy v → GuardFits b lazy y) v ls

abbrev KeptLocals : Locals → List Mark → Type 0
KeptLocals v ls = Kept Locals locals_marks placed_locals (λ v y. (b : Bool) → LocalsFit b v → LocalsFit b y) v ls

abbrev KeptUsing : Using → List Mark → Type 0
KeptUsing v ls = Kept Using using_marks placed_using (λ v y. (b : Bool) → UsingFits b v → UsingFits b y) v ls

abbrev KeptBinds : Binds → List Mark → Type 0
KeptBinds v ls = Kept Binds binds_marks placed_binds (λ v y. (b : Bool) → BindsFit b v → BindsFit b y) v ls

abbrev KeptList : BindList → List Mark → Type 0
KeptList v ls = Kept BindList list_marks placed_list (λ v y. (b : Bool) → ListFits b v → ListFits b y) v ls

abbrev KeptTargets : Targets → List Mark → Type 0
KeptTargets v ls = Kept Targets targets_marks placed_targets (λ v y. (b : Bool) → TargetsFit b v → TargetsFit b y) v ls

abbrev KeptTo : To → List Mark → Type 0
KeptTo v ls = Kept To to_marks placed_to (λ v y. (b : Bool) → ToFits b v → ToFits b y) v ls

abbrev KeptStat : WrittenStat → List Mark → Type 0
KeptStat v ls = Kept WrittenStat stat_marks placed_stat (λ v y. (b : Bool) → StatFits b v → StatFits b y) v ls

abbrev KeptStats : Stats → List Mark → Type 0
KeptStats v ls = Kept Stats stats_marks placed_stats (λ v y. (b : Bool) → StatsFit b v → StatsFit b y) v ls

abbrev KeptBlock : Block → List Mark → Type 0
KeptBlock v ls = Kept Block block_marks placed_block (λ v y. (b : Bool) → BlockFits b v → BlockFits b y) v ls

abbrev KeptStart : Start → List Mark → Type 0
KeptStart v ls = Kept Start start_marks placed_start (λ v y. Unit {0}) v ls

abbrev KeptRule : WrittenRule → List Mark → Type 0
KeptRule v ls = Kept WrittenRule rule_marks placed_rule (λ v y. (b : Bool) → RuleFits b v → RuleFits b y) v ls

abbrev KeptItem : WrittenItem → List Mark → Type 0
KeptItem v ls = Kept WrittenItem item_marks placed_item (λ v y. (b : Bool) → ItemFits b v → ItemFits b y) v ls

abbrev KeptItems : Items → List Mark → Type 0
KeptItems v ls = Kept Items items_marks placed_items (λ v y. (b : Bool) → ItemsFit b v → ItemsFit b y) v ls

abbrev pub KeptModule : WrittenModule → List Mark → Type 0
KeptModule v ls = Kept WrittenModule module_marks placed_module (λ v y. (b : Bool) → ModuleFits b v → ModuleFits b y) v ls

keep_models : (v : Models) (ls : List Mark) → contents ls ≡ contents (models_marks v) → KeptModels v ls
keep_models (OneModel m p n) ls h =
    first_then (KeptModels (OneModel m p n) ls) (Shared (T.Name m.text)) (contents (sign p S.Colon ∷ (called n ∷ []))) ls h (λ at0 rest0 e0 h0.
    first_then (KeptModels (OneModel m p n) ls) (Shared (T.Fixed S.Colon)) (contents (called n ∷ [])) rest0 h0 (λ at1 rest1 e1 h1.
    first_then (KeptModels (OneModel m p n) ls) (Shared (T.Name n.text)) [] rest1 h1 (λ at2 rest2 e2 h2.
    record {
      y = OneModel (name at0 m.text) at1 (name at2 n.text);
      same = sym (e0 ∙ ap (λ it. mark at0 (Shared (T.Name m.text)) ∷ it) (e1 ∙ ap (λ it. mark at1 (Shared (T.Fixed S.Colon)) ∷ it) (e2 ∙ ap (λ it. mark at2 (Shared (T.Name n.text)) ∷ it) (none rest2 h2))));
      away = refl;
      kept = tt;
    })))
keep_models (MoreModels ms c m p n) ls h =
    part_then (KeptModels (MoreModels ms c m p n) ls) (models_marks ms) (sign c (S.End E.Comma) ∷ (called m ∷ (sign p S.Colon ∷ (called n ∷ [])))) ls h (λ front0 rest0 e0 f0 h0.
    let x0 = keep_models ms front0 f0 in
    first_then (KeptModels (MoreModels ms c m p n) ls) (Shared (T.Fixed (S.End E.Comma))) (contents (called m ∷ (sign p S.Colon ∷ (called n ∷ [])))) rest0 h0 (λ at1 rest1 e1 h1.
    first_then (KeptModels (MoreModels ms c m p n) ls) (Shared (T.Name m.text)) (contents (sign p S.Colon ∷ (called n ∷ []))) rest1 h1 (λ at2 rest2 e2 h2.
    first_then (KeptModels (MoreModels ms c m p n) ls) (Shared (T.Fixed S.Colon)) (contents (called n ∷ [])) rest2 h2 (λ at3 rest3 e3 h3.
    first_then (KeptModels (MoreModels ms c m p n) ls) (Shared (T.Name n.text)) [] rest3 h3 (λ at4 rest4 e4 h4.
    record {
      y = MoreModels x0.y at1 (name at2 m.text) at3 (name at4 n.text);
      same = sym (e0 ∙ both (sym x0.same) (e1 ∙ ap (λ it. mark at1 (Shared (T.Fixed (S.End E.Comma))) ∷ it) (e2 ∙ ap (λ it. mark at2 (Shared (T.Name m.text)) ∷ it) (e3 ∙ ap (λ it. mark at3 (Shared (T.Fixed S.Colon)) ∷ it) (e4 ∙ ap (λ it. mark at4 (Shared (T.Name n.text)) ∷ it) (none rest4 h4))))));
      away = ap (λ it. MoreModels it here (name here m.text) here (name here n.text)) x0.away;
      kept = tt;
    })))))

keep_params : (v : Params) (ls : List Mark) → contents ls ≡ contents (params_marks v) → KeptParams v ls
keep_params (OneParam n p k) ls h =
    first_then (KeptParams (OneParam n p k) ls) (Shared (T.Name n.text)) (contents (sign p S.Colon ∷ (kind_marks k))) ls h (λ at0 rest0 e0 h0.
    first_then (KeptParams (OneParam n p k) ls) (Shared (T.Fixed S.Colon)) (contents (kind_marks k)) rest0 h0 (λ at1 rest1 e1 h1.
    let x2 = keep_kind k rest1 h1 in
    record {
      y = OneParam (name at0 n.text) at1 x2.y;
      same = sym (e0 ∙ ap (λ it. mark at0 (Shared (T.Name n.text)) ∷ it) (e1 ∙ ap (λ it. mark at1 (Shared (T.Fixed S.Colon)) ∷ it) (sym x2.same)));
      away = ap (λ it. OneParam (name here n.text) here it) x2.away;
      kept = tt;
    }))
keep_params (MoreParams ps c n p k) ls h =
    part_then (KeptParams (MoreParams ps c n p k) ls) (params_marks ps) (sign c (S.End E.Comma) ∷ (called n ∷ (sign p S.Colon ∷ (kind_marks k)))) ls h (λ front0 rest0 e0 f0 h0.
    let x0 = keep_params ps front0 f0 in
    first_then (KeptParams (MoreParams ps c n p k) ls) (Shared (T.Fixed (S.End E.Comma))) (contents (called n ∷ (sign p S.Colon ∷ (kind_marks k)))) rest0 h0 (λ at1 rest1 e1 h1.
    first_then (KeptParams (MoreParams ps c n p k) ls) (Shared (T.Name n.text)) (contents (sign p S.Colon ∷ (kind_marks k))) rest1 h1 (λ at2 rest2 e2 h2.
    first_then (KeptParams (MoreParams ps c n p k) ls) (Shared (T.Fixed S.Colon)) (contents (kind_marks k)) rest2 h2 (λ at3 rest3 e3 h3.
    let x4 = keep_kind k rest3 h3 in
    record {
      y = MoreParams x0.y at1 (name at2 n.text) at3 x4.y;
      same = sym (e0 ∙ both (sym x0.same) (e1 ∙ ap (λ it. mark at1 (Shared (T.Fixed (S.End E.Comma))) ∷ it) (e2 ∙ ap (λ it. mark at2 (Shared (T.Name n.text)) ∷ it) (e3 ∙ ap (λ it. mark at3 (Shared (T.Fixed S.Colon)) ∷ it) (sym x4.same)))));
      away = ap (λ it. MoreParams it here (name here n.text) here (placed_kind x4.y)) x0.away ∙ ap (λ it. MoreParams (placed_params ps) here (name here n.text) here it) x4.away;
      kept = tt;
    }))))

keep_bracketed : (v : Bracketed) (ls : List Mark) → contents ls ≡ contents (bracketed_marks v) → KeptBracketed v ls
keep_bracketed (NoParams p q) ls h =
    first_then (KeptBracketed (NoParams p q) ls) (Shared (T.Fixed S.Open)) (contents (sign q (S.End E.Close) ∷ [])) ls h (λ at0 rest0 e0 h0.
    first_then (KeptBracketed (NoParams p q) ls) (Shared (T.Fixed (S.End E.Close))) [] rest0 h0 (λ at1 rest1 e1 h1.
    record {
      y = NoParams at0 at1;
      same = sym (e0 ∙ ap (λ it. mark at0 (Shared (T.Fixed S.Open)) ∷ it) (e1 ∙ ap (λ it. mark at1 (Shared (T.Fixed (S.End E.Close))) ∷ it) (none rest1 h1)));
      away = refl;
      kept = tt;
    }))
keep_bracketed (SomeParams p ps q) ls h =
    first_then (KeptBracketed (SomeParams p ps q) ls) (Shared (T.Fixed S.Open)) (contents (params_marks ps ++ (sign q (S.End E.Close) ∷ []))) ls h (λ at0 rest0 e0 h0.
    part_then (KeptBracketed (SomeParams p ps q) ls) (params_marks ps) (sign q (S.End E.Close) ∷ []) rest0 h0 (λ front1 rest1 e1 f1 h1.
    let x1 = keep_params ps front1 f1 in
    first_then (KeptBracketed (SomeParams p ps q) ls) (Shared (T.Fixed (S.End E.Close))) [] rest1 h1 (λ at2 rest2 e2 h2.
    record {
      y = SomeParams at0 x1.y at2;
      same = sym (e0 ∙ ap (λ it. mark at0 (Shared (T.Fixed S.Open)) ∷ it) (e1 ∙ both (sym x1.same) (e2 ∙ ap (λ it. mark at2 (Shared (T.Fixed (S.End E.Close))) ∷ it) (none rest2 h2))));
      away = ap (λ it. SomeParams here it here) x1.away;
      kept = tt;
    })))

keep_context : (v : Context) (ls : List Mark) → contents ls ≡ contents (context_marks v) → KeptContext v ls
keep_context NoContext ls h =
    record {
      y = NoContext;
      same = sym (none ls h);
      away = refl;
      kept = λ f. tt;
    }
keep_context (InContext p k) ls h =
    first_then (KeptContext (InContext p k) ls) (Word W.Context) (contents (kind_marks k)) ls h (λ at0 rest0 e0 h0.
    let x1 = keep_kind k rest0 h0 in
    record {
      y = InContext at0 x1.y;
      same = sym (e0 ∙ ap (λ it. mark at0 (Word W.Context) ∷ it) (sym x1.same));
      away = ap (λ it. InContext here it) x1.away;
      kept = x1.kept;
    })

keep_signature : (v : Signature) (ls : List Mark) → contents ls ≡ contents (signature_marks v) → KeptSignature v ls
keep_signature Attribute ls h =
    record {
      y = Attribute;
      same = sym (none ls h);
      away = refl;
      kept = tt;
    }
keep_signature (Operation ps) ls h =
    let x0 = keep_bracketed ps ls h in
    record {
      y = Operation x0.y;
      same = sym (sym x0.same);
      away = ap (λ it. Operation it) x0.away;
      kept = tt;
    }

keep_helper : (v : WrittenHelper) (ls : List Mark) → contents ls ≡ contents (helper_marks v) → KeptHelper v ls
keep_helper (Define p c q r n s t k u e v) ls h =
    first_then (KeptHelper (Define p c q r n s t k u e v) ls) (Word W.Helper) (contents (context_marks c ++ (word q W.Def ∷ (sign r S.Colon ∷ (called n ∷ (signature_marks s ++ (sign t S.Colon ∷ (kind_marks k ++ (sign u (S.Operator O.Eq) ∷ (expression e ++ (sign v S.Semicolon ∷ []))))))))))) ls h (λ at0 rest0 e0 h0.
    part_then (KeptHelper (Define p c q r n s t k u e v) ls) (context_marks c) (word q W.Def ∷ (sign r S.Colon ∷ (called n ∷ (signature_marks s ++ (sign t S.Colon ∷ (kind_marks k ++ (sign u (S.Operator O.Eq) ∷ (expression e ++ (sign v S.Semicolon ∷ []))))))))) rest0 h0 (λ front1 rest1 e1 f1 h1.
    let x1 = keep_context c front1 f1 in
    first_then (KeptHelper (Define p c q r n s t k u e v) ls) (Word W.Def) (contents (sign r S.Colon ∷ (called n ∷ (signature_marks s ++ (sign t S.Colon ∷ (kind_marks k ++ (sign u (S.Operator O.Eq) ∷ (expression e ++ (sign v S.Semicolon ∷ []))))))))) rest1 h1 (λ at2 rest2 e2 h2.
    first_then (KeptHelper (Define p c q r n s t k u e v) ls) (Shared (T.Fixed S.Colon)) (contents (called n ∷ (signature_marks s ++ (sign t S.Colon ∷ (kind_marks k ++ (sign u (S.Operator O.Eq) ∷ (expression e ++ (sign v S.Semicolon ∷ [])))))))) rest2 h2 (λ at3 rest3 e3 h3.
    first_then (KeptHelper (Define p c q r n s t k u e v) ls) (Shared (T.Name n.text)) (contents (signature_marks s ++ (sign t S.Colon ∷ (kind_marks k ++ (sign u (S.Operator O.Eq) ∷ (expression e ++ (sign v S.Semicolon ∷ []))))))) rest3 h3 (λ at4 rest4 e4 h4.
    part_then (KeptHelper (Define p c q r n s t k u e v) ls) (signature_marks s) (sign t S.Colon ∷ (kind_marks k ++ (sign u (S.Operator O.Eq) ∷ (expression e ++ (sign v S.Semicolon ∷ []))))) rest4 h4 (λ front5 rest5 e5 f5 h5.
    let x5 = keep_signature s front5 f5 in
    first_then (KeptHelper (Define p c q r n s t k u e v) ls) (Shared (T.Fixed S.Colon)) (contents (kind_marks k ++ (sign u (S.Operator O.Eq) ∷ (expression e ++ (sign v S.Semicolon ∷ []))))) rest5 h5 (λ at6 rest6 e6 h6.
    part_then (KeptHelper (Define p c q r n s t k u e v) ls) (kind_marks k) (sign u (S.Operator O.Eq) ∷ (expression e ++ (sign v S.Semicolon ∷ []))) rest6 h6 (λ front7 rest7 e7 f7 h7.
    let x7 = keep_kind k front7 f7 in
    first_then (KeptHelper (Define p c q r n s t k u e v) ls) (Shared (T.Fixed (S.Operator O.Eq))) (contents (expression e ++ (sign v S.Semicolon ∷ []))) rest7 h7 (λ at8 rest8 e8 h8.
    part_then (KeptHelper (Define p c q r n s t k u e v) ls) (expression e) (sign v S.Semicolon ∷ []) rest8 h8 (λ front9 rest9 e9 f9 h9.
    let x9 = keep_expression e front9 f9 in
    first_then (KeptHelper (Define p c q r n s t k u e v) ls) (Shared (T.Fixed S.Semicolon)) [] rest9 h9 (λ at10 rest10 e10 h10.
    record {
      y = Define at0 x1.y at2 at3 (name at4 n.text) x5.y at6 x7.y at8 x9.y at10;
      same = sym (e0 ∙ ap (λ it. mark at0 (Word W.Helper) ∷ it) (e1 ∙ both (sym x1.same) (e2 ∙ ap (λ it. mark at2 (Word W.Def) ∷ it) (e3 ∙ ap (λ it. mark at3 (Shared (T.Fixed S.Colon)) ∷ it) (e4 ∙ ap (λ it. mark at4 (Shared (T.Name n.text)) ∷ it) (e5 ∙ both (sym x5.same) (e6 ∙ ap (λ it. mark at6 (Shared (T.Fixed S.Colon)) ∷ it) (e7 ∙ both (sym x7.same) (e8 ∙ ap (λ it. mark at8 (Shared (T.Fixed (S.Operator O.Eq))) ∷ it) (e9 ∙ both (sym x9.same) (e10 ∙ ap (λ it. mark at10 (Shared (T.Fixed S.Semicolon)) ∷ it) (none rest10 h10))))))))))));
      away = ap (λ it. Define here it here here (name here n.text) (placed_signature x5.y) here (placed_kind x7.y) here (placed x9.y) here) x1.away ∙ ap (λ it. Define here (placed_context c) here here (name here n.text) it here (placed_kind x7.y) here (placed x9.y) here) x5.away ∙ ap (λ it. Define here (placed_context c) here here (name here n.text) (placed_signature s) here it here (placed x9.y) here) x7.away ∙ ap (λ it. Define here (placed_context c) here here (name here n.text) (placed_signature s) here (placed_kind k) here it here) x9.away;
      kept = λ b f. (x1.kept f.0, x9.kept.0 b 0 0 f.1);
    })))))))))))

keep_words : (v : Words) (ls : List Mark) → contents ls ≡ contents (words_marks v) → KeptWords v ls
keep_words NoWords ls h =
    record {
      y = NoWords;
      same = sym (none ls h);
      away = refl;
      kept = (λ f. f, refl);
    }
keep_words (MoreWords ws p Abstract) ls h =
    part_then (KeptWords (MoreWords ws p Abstract) ls) (words_marks ws) (word p W.Abstract ∷ []) ls h (λ front0 rest0 e0 f0 h0.
    let x0 = keep_words ws front0 f0 in
    first_then (KeptWords (MoreWords ws p Abstract) ls) (Word W.Abstract) [] rest0 h0 (λ at1 rest1 e1 h1.
    record {
      y = MoreWords x0.y at1 Abstract;
      same = sym (e0 ∙ both (sym x0.same) (e1 ∙ ap (λ it. mark at1 (Word W.Abstract) ∷ it) (none rest1 h1)));
      away = ap (λ it. MoreWords it here Abstract) x0.away;
      kept = (λ f. (x0.kept.0 f.0, ap (λ it. has it Abstract) x0.kept.1 ∙ f.1), ap (λ it. with_modifier it Abstract) x0.kept.1);
    }))
keep_words (MoreWords ws p Unique) ls h =
    part_then (KeptWords (MoreWords ws p Unique) ls) (words_marks ws) (word p W.Unique ∷ []) ls h (λ front0 rest0 e0 f0 h0.
    let x0 = keep_words ws front0 f0 in
    first_then (KeptWords (MoreWords ws p Unique) ls) (Word W.Unique) [] rest0 h0 (λ at1 rest1 e1 h1.
    record {
      y = MoreWords x0.y at1 Unique;
      same = sym (e0 ∙ both (sym x0.same) (e1 ∙ ap (λ it. mark at1 (Word W.Unique) ∷ it) (none rest1 h1)));
      away = ap (λ it. MoreWords it here Unique) x0.away;
      kept = (λ f. (x0.kept.0 f.0, ap (λ it. has it Unique) x0.kept.1 ∙ f.1), ap (λ it. with_modifier it Unique) x0.kept.1);
    }))
keep_words (MoreWords ws p Lazy) ls h =
    part_then (KeptWords (MoreWords ws p Lazy) ls) (words_marks ws) (word p W.Lazy ∷ []) ls h (λ front0 rest0 e0 f0 h0.
    let x0 = keep_words ws front0 f0 in
    first_then (KeptWords (MoreWords ws p Lazy) ls) (Word W.Lazy) [] rest0 h0 (λ at1 rest1 e1 h1.
    record {
      y = MoreWords x0.y at1 Lazy;
      same = sym (e0 ∙ both (sym x0.same) (e1 ∙ ap (λ it. mark at1 (Word W.Lazy) ∷ it) (none rest1 h1)));
      away = ap (λ it. MoreWords it here Lazy) x0.away;
      kept = (λ f. (x0.kept.0 f.0, ap (λ it. has it Lazy) x0.kept.1 ∙ f.1), ap (λ it. with_modifier it Lazy) x0.kept.1);
    }))

keep_parent : (v : Parent) (ls : List Mark) → contents ls ≡ contents (parent_marks v) → KeptParent v ls
keep_parent NoParent ls h =
    record {
      y = NoParent;
      same = sym (none ls h);
      away = refl;
      kept = tt;
    }
keep_parent (Extends p n) ls h =
    first_then (KeptParent (Extends p n) ls) (Word W.Extends) (contents (called n ∷ [])) ls h (λ at0 rest0 e0 h0.
    first_then (KeptParent (Extends p n) ls) (Shared (T.Name n.text)) [] rest0 h0 (λ at1 rest1 e1 h1.
    record {
      y = Extends at0 (name at1 n.text);
      same = sym (e0 ∙ ap (λ it. mark at0 (Word W.Extends) ∷ it) (e1 ∙ ap (λ it. mark at1 (Shared (T.Name n.text)) ∷ it) (none rest1 h1)));
      away = refl;
      kept = tt;
    }))

keep_sources : (v : Sources) (ls : List Mark) → contents ls ≡ contents (sources_marks v) → KeptSources v ls
keep_sources (OneSource n p m q c) ls h =
    first_then (KeptSources (OneSource n p m q c) ls) (Shared (T.Name n.text)) (contents (sign p S.Colon ∷ (called m ∷ (sign q S.Bang ∷ (called c ∷ []))))) ls h (λ at0 rest0 e0 h0.
    first_then (KeptSources (OneSource n p m q c) ls) (Shared (T.Fixed S.Colon)) (contents (called m ∷ (sign q S.Bang ∷ (called c ∷ [])))) rest0 h0 (λ at1 rest1 e1 h1.
    first_then (KeptSources (OneSource n p m q c) ls) (Shared (T.Name m.text)) (contents (sign q S.Bang ∷ (called c ∷ []))) rest1 h1 (λ at2 rest2 e2 h2.
    first_then (KeptSources (OneSource n p m q c) ls) (Shared (T.Fixed S.Bang)) (contents (called c ∷ [])) rest2 h2 (λ at3 rest3 e3 h3.
    first_then (KeptSources (OneSource n p m q c) ls) (Shared (T.Name c.text)) [] rest3 h3 (λ at4 rest4 e4 h4.
    record {
      y = OneSource (name at0 n.text) at1 (name at2 m.text) at3 (name at4 c.text);
      same = sym (e0 ∙ ap (λ it. mark at0 (Shared (T.Name n.text)) ∷ it) (e1 ∙ ap (λ it. mark at1 (Shared (T.Fixed S.Colon)) ∷ it) (e2 ∙ ap (λ it. mark at2 (Shared (T.Name m.text)) ∷ it) (e3 ∙ ap (λ it. mark at3 (Shared (T.Fixed S.Bang)) ∷ it) (e4 ∙ ap (λ it. mark at4 (Shared (T.Name c.text)) ∷ it) (none rest4 h4))))));
      away = refl;
      kept = tt;
    })))))
keep_sources (MoreSources ss r n p m q c) ls h =
    part_then (KeptSources (MoreSources ss r n p m q c) ls) (sources_marks ss) (sign r (S.End E.Comma) ∷ (called n ∷ (sign p S.Colon ∷ (called m ∷ (sign q S.Bang ∷ (called c ∷ [])))))) ls h (λ front0 rest0 e0 f0 h0.
    let x0 = keep_sources ss front0 f0 in
    first_then (KeptSources (MoreSources ss r n p m q c) ls) (Shared (T.Fixed (S.End E.Comma))) (contents (called n ∷ (sign p S.Colon ∷ (called m ∷ (sign q S.Bang ∷ (called c ∷ [])))))) rest0 h0 (λ at1 rest1 e1 h1.
    first_then (KeptSources (MoreSources ss r n p m q c) ls) (Shared (T.Name n.text)) (contents (sign p S.Colon ∷ (called m ∷ (sign q S.Bang ∷ (called c ∷ []))))) rest1 h1 (λ at2 rest2 e2 h2.
    first_then (KeptSources (MoreSources ss r n p m q c) ls) (Shared (T.Fixed S.Colon)) (contents (called m ∷ (sign q S.Bang ∷ (called c ∷ [])))) rest2 h2 (λ at3 rest3 e3 h3.
    first_then (KeptSources (MoreSources ss r n p m q c) ls) (Shared (T.Name m.text)) (contents (sign q S.Bang ∷ (called c ∷ []))) rest3 h3 (λ at4 rest4 e4 h4.
    first_then (KeptSources (MoreSources ss r n p m q c) ls) (Shared (T.Fixed S.Bang)) (contents (called c ∷ [])) rest4 h4 (λ at5 rest5 e5 h5.
    first_then (KeptSources (MoreSources ss r n p m q c) ls) (Shared (T.Name c.text)) [] rest5 h5 (λ at6 rest6 e6 h6.
    record {
      y = MoreSources x0.y at1 (name at2 n.text) at3 (name at4 m.text) at5 (name at6 c.text);
      same = sym (e0 ∙ both (sym x0.same) (e1 ∙ ap (λ it. mark at1 (Shared (T.Fixed (S.End E.Comma))) ∷ it) (e2 ∙ ap (λ it. mark at2 (Shared (T.Name n.text)) ∷ it) (e3 ∙ ap (λ it. mark at3 (Shared (T.Fixed S.Colon)) ∷ it) (e4 ∙ ap (λ it. mark at4 (Shared (T.Name m.text)) ∷ it) (e5 ∙ ap (λ it. mark at5 (Shared (T.Fixed S.Bang)) ∷ it) (e6 ∙ ap (λ it. mark at6 (Shared (T.Name c.text)) ∷ it) (none rest6 h6))))))));
      away = ap (λ it. MoreSources it here (name here n.text) here (name here m.text) here (name here c.text)) x0.away;
      kept = tt;
    })))))))

keep_guard : (v : Guard) (ls : List Mark) → contents ls ≡ contents (guard_marks v) → KeptGuard v ls
keep_guard NoGuard ls h =
    record {
      y = NoGuard;
      same = sym (none ls h);
      away = refl;
      kept = λ b lazy f. tt;
    }
keep_guard (SomeGuard p e q) ls h =
    first_then (KeptGuard (SomeGuard p e q) ls) (Shared (T.Fixed S.Open)) (contents (expression e ++ (sign q (S.End E.Close) ∷ []))) ls h (λ at0 rest0 e0 h0.
    part_then (KeptGuard (SomeGuard p e q) ls) (expression e) (sign q (S.End E.Close) ∷ []) rest0 h0 (λ front1 rest1 e1 f1 h1.
    let x1 = keep_expression e front1 f1 in
    first_then (KeptGuard (SomeGuard p e q) ls) (Shared (T.Fixed (S.End E.Close))) [] rest1 h1 (λ at2 rest2 e2 h2.
    record {
      y = SomeGuard at0 x1.y at2;
      same = sym (e0 ∙ ap (λ it. mark at0 (Shared (T.Fixed S.Open)) ∷ it) (e1 ∙ both (sym x1.same) (e2 ∙ ap (λ it. mark at2 (Shared (T.Fixed (S.End E.Close))) ∷ it) (none rest2 h2))));
      away = ap (λ it. SomeGuard here it here) x1.away;
      kept = λ b lazy f. guard_kept b lazy p q at0 at2 e x1.y (x1.kept.0 b 0 0) f;
    })))

keep_locals : (v : Locals) (ls : List Mark) → contents ls ≡ contents (locals_marks v) → KeptLocals v ls
keep_locals NoLocals ls h =
    record {
      y = NoLocals;
      same = sym (none ls h);
      away = refl;
      kept = λ b f. tt;
    }
keep_locals (MoreLocals ls2 n p k q e r) ls h =
    part_then (KeptLocals (MoreLocals ls2 n p k q e r) ls) (locals_marks ls2) (called n ∷ (sign p S.Colon ∷ (kind_marks k ++ (sign q (S.Operator O.Eq) ∷ (expression e ++ (sign r S.Semicolon ∷ [])))))) ls h (λ front0 rest0 e0 f0 h0.
    let x0 = keep_locals ls2 front0 f0 in
    first_then (KeptLocals (MoreLocals ls2 n p k q e r) ls) (Shared (T.Name n.text)) (contents (sign p S.Colon ∷ (kind_marks k ++ (sign q (S.Operator O.Eq) ∷ (expression e ++ (sign r S.Semicolon ∷ [])))))) rest0 h0 (λ at1 rest1 e1 h1.
    first_then (KeptLocals (MoreLocals ls2 n p k q e r) ls) (Shared (T.Fixed S.Colon)) (contents (kind_marks k ++ (sign q (S.Operator O.Eq) ∷ (expression e ++ (sign r S.Semicolon ∷ []))))) rest1 h1 (λ at2 rest2 e2 h2.
    part_then (KeptLocals (MoreLocals ls2 n p k q e r) ls) (kind_marks k) (sign q (S.Operator O.Eq) ∷ (expression e ++ (sign r S.Semicolon ∷ []))) rest2 h2 (λ front3 rest3 e3 f3 h3.
    let x3 = keep_kind k front3 f3 in
    first_then (KeptLocals (MoreLocals ls2 n p k q e r) ls) (Shared (T.Fixed (S.Operator O.Eq))) (contents (expression e ++ (sign r S.Semicolon ∷ []))) rest3 h3 (λ at4 rest4 e4 h4.
    part_then (KeptLocals (MoreLocals ls2 n p k q e r) ls) (expression e) (sign r S.Semicolon ∷ []) rest4 h4 (λ front5 rest5 e5 f5 h5.
    let x5 = keep_expression e front5 f5 in
    first_then (KeptLocals (MoreLocals ls2 n p k q e r) ls) (Shared (T.Fixed S.Semicolon)) [] rest5 h5 (λ at6 rest6 e6 h6.
    record {
      y = MoreLocals x0.y (name at1 n.text) at2 x3.y at4 x5.y at6;
      same = sym (e0 ∙ both (sym x0.same) (e1 ∙ ap (λ it. mark at1 (Shared (T.Name n.text)) ∷ it) (e2 ∙ ap (λ it. mark at2 (Shared (T.Fixed S.Colon)) ∷ it) (e3 ∙ both (sym x3.same) (e4 ∙ ap (λ it. mark at4 (Shared (T.Fixed (S.Operator O.Eq))) ∷ it) (e5 ∙ both (sym x5.same) (e6 ∙ ap (λ it. mark at6 (Shared (T.Fixed S.Semicolon)) ∷ it) (none rest6 h6))))))));
      away = ap (λ it. MoreLocals it (name here n.text) here (placed_kind x3.y) here (placed x5.y) here) x0.away ∙ ap (λ it. MoreLocals (placed_locals ls2) (name here n.text) here it here (placed x5.y) here) x3.away ∙ ap (λ it. MoreLocals (placed_locals ls2) (name here n.text) here (placed_kind k) here it here) x5.away;
      kept = λ b f. (x0.kept b f.0, x5.kept.0 b 0 0 f.1);
    })))))))

keep_using : (v : Using) (ls : List Mark) → contents ls ≡ contents (using_marks v) → KeptUsing v ls
keep_using NoUsing ls h =
    record {
      y = NoUsing;
      same = sym (none ls h);
      away = refl;
      kept = λ b f. tt;
    }
keep_using (SomeUsing p q vs r) ls h =
    first_then (KeptUsing (SomeUsing p q vs r) ls) (Word W.Using) (contents (sign q S.OpenBrace ∷ (locals_marks vs ++ (sign r (S.End E.CloseBrace) ∷ [])))) ls h (λ at0 rest0 e0 h0.
    first_then (KeptUsing (SomeUsing p q vs r) ls) (Shared (T.Fixed S.OpenBrace)) (contents (locals_marks vs ++ (sign r (S.End E.CloseBrace) ∷ []))) rest0 h0 (λ at1 rest1 e1 h1.
    part_then (KeptUsing (SomeUsing p q vs r) ls) (locals_marks vs) (sign r (S.End E.CloseBrace) ∷ []) rest1 h1 (λ front2 rest2 e2 f2 h2.
    let x2 = keep_locals vs front2 f2 in
    first_then (KeptUsing (SomeUsing p q vs r) ls) (Shared (T.Fixed (S.End E.CloseBrace))) [] rest2 h2 (λ at3 rest3 e3 h3.
    record {
      y = SomeUsing at0 at1 x2.y at3;
      same = sym (e0 ∙ ap (λ it. mark at0 (Word W.Using) ∷ it) (e1 ∙ ap (λ it. mark at1 (Shared (T.Fixed S.OpenBrace)) ∷ it) (e2 ∙ both (sym x2.same) (e3 ∙ ap (λ it. mark at3 (Shared (T.Fixed (S.End E.CloseBrace))) ∷ it) (none rest3 h3)))));
      away = ap (λ it. SomeUsing here here it here) x2.away;
      kept = λ b f. x2.kept b f;
    }))))

keep_binds : (v : Binds) (ls : List Mark) → contents ls ≡ contents (binds_marks v) → KeptBinds v ls
keep_binds (OneBind n p e) ls h =
    first_then (KeptBinds (OneBind n p e) ls) (Shared (T.Name n.text)) (contents (word p W.Gives ∷ (expression e))) ls h (λ at0 rest0 e0 h0.
    first_then (KeptBinds (OneBind n p e) ls) (Word W.Gives) (contents (expression e)) rest0 h0 (λ at1 rest1 e1 h1.
    let x2 = keep_expression e rest1 h1 in
    record {
      y = OneBind (name at0 n.text) at1 x2.y;
      same = sym (e0 ∙ ap (λ it. mark at0 (Shared (T.Name n.text)) ∷ it) (e1 ∙ ap (λ it. mark at1 (Word W.Gives) ∷ it) (sym x2.same)));
      away = ap (λ it. OneBind (name here n.text) here it) x2.away;
      kept = λ b f. x2.kept.0 b 0 0 f;
    }))
keep_binds (MoreBinds bs c n p e) ls h =
    part_then (KeptBinds (MoreBinds bs c n p e) ls) (binds_marks bs) (sign c (S.End E.Comma) ∷ (called n ∷ (word p W.Gives ∷ (expression e)))) ls h (λ front0 rest0 e0 f0 h0.
    let x0 = keep_binds bs front0 f0 in
    first_then (KeptBinds (MoreBinds bs c n p e) ls) (Shared (T.Fixed (S.End E.Comma))) (contents (called n ∷ (word p W.Gives ∷ (expression e)))) rest0 h0 (λ at1 rest1 e1 h1.
    first_then (KeptBinds (MoreBinds bs c n p e) ls) (Shared (T.Name n.text)) (contents (word p W.Gives ∷ (expression e))) rest1 h1 (λ at2 rest2 e2 h2.
    first_then (KeptBinds (MoreBinds bs c n p e) ls) (Word W.Gives) (contents (expression e)) rest2 h2 (λ at3 rest3 e3 h3.
    let x4 = keep_expression e rest3 h3 in
    record {
      y = MoreBinds x0.y at1 (name at2 n.text) at3 x4.y;
      same = sym (e0 ∙ both (sym x0.same) (e1 ∙ ap (λ it. mark at1 (Shared (T.Fixed (S.End E.Comma))) ∷ it) (e2 ∙ ap (λ it. mark at2 (Shared (T.Name n.text)) ∷ it) (e3 ∙ ap (λ it. mark at3 (Word W.Gives) ∷ it) (sym x4.same)))));
      away = ap (λ it. MoreBinds it here (name here n.text) here (placed x4.y)) x0.away ∙ ap (λ it. MoreBinds (placed_binds bs) here (name here n.text) here it) x4.away;
      kept = λ b f. (x0.kept b f.0, x4.kept.0 b 0 0 f.1);
    }))))

keep_list : (v : BindList) (ls : List Mark) → contents ls ≡ contents (list_marks v) → KeptList v ls
keep_list NoList ls h =
    record {
      y = NoList;
      same = sym (none ls h);
      away = refl;
      kept = λ b f. tt;
    }
keep_list (EmptyList p q) ls h =
    first_then (KeptList (EmptyList p q) ls) (Shared (T.Fixed S.Open)) (contents (sign q (S.End E.Close) ∷ [])) ls h (λ at0 rest0 e0 h0.
    first_then (KeptList (EmptyList p q) ls) (Shared (T.Fixed (S.End E.Close))) [] rest0 h0 (λ at1 rest1 e1 h1.
    record {
      y = EmptyList at0 at1;
      same = sym (e0 ∙ ap (λ it. mark at0 (Shared (T.Fixed S.Open)) ∷ it) (e1 ∙ ap (λ it. mark at1 (Shared (T.Fixed (S.End E.Close))) ∷ it) (none rest1 h1)));
      away = refl;
      kept = λ b f. tt;
    }))
keep_list (SomeBinds p bs q) ls h =
    first_then (KeptList (SomeBinds p bs q) ls) (Shared (T.Fixed S.Open)) (contents (binds_marks bs ++ (sign q (S.End E.Close) ∷ []))) ls h (λ at0 rest0 e0 h0.
    part_then (KeptList (SomeBinds p bs q) ls) (binds_marks bs) (sign q (S.End E.Close) ∷ []) rest0 h0 (λ front1 rest1 e1 f1 h1.
    let x1 = keep_binds bs front1 f1 in
    first_then (KeptList (SomeBinds p bs q) ls) (Shared (T.Fixed (S.End E.Close))) [] rest1 h1 (λ at2 rest2 e2 h2.
    record {
      y = SomeBinds at0 x1.y at2;
      same = sym (e0 ∙ ap (λ it. mark at0 (Shared (T.Fixed S.Open)) ∷ it) (e1 ∙ both (sym x1.same) (e2 ∙ ap (λ it. mark at2 (Shared (T.Fixed (S.End E.Close))) ∷ it) (none rest2 h2))));
      away = ap (λ it. SomeBinds here it here) x1.away;
      kept = λ b f. x1.kept b f;
    })))

keep_targets : (v : Targets) (ls : List Mark) → contents ls ≡ contents (targets_marks v) → KeptTargets v ls
keep_targets (OneTarget n p m q c bs) ls h =
    first_then (KeptTargets (OneTarget n p m q c bs) ls) (Shared (T.Name n.text)) (contents (sign p S.Colon ∷ (called m ∷ (sign q S.Bang ∷ (called c ∷ (list_marks bs)))))) ls h (λ at0 rest0 e0 h0.
    first_then (KeptTargets (OneTarget n p m q c bs) ls) (Shared (T.Fixed S.Colon)) (contents (called m ∷ (sign q S.Bang ∷ (called c ∷ (list_marks bs))))) rest0 h0 (λ at1 rest1 e1 h1.
    first_then (KeptTargets (OneTarget n p m q c bs) ls) (Shared (T.Name m.text)) (contents (sign q S.Bang ∷ (called c ∷ (list_marks bs)))) rest1 h1 (λ at2 rest2 e2 h2.
    first_then (KeptTargets (OneTarget n p m q c bs) ls) (Shared (T.Fixed S.Bang)) (contents (called c ∷ (list_marks bs))) rest2 h2 (λ at3 rest3 e3 h3.
    first_then (KeptTargets (OneTarget n p m q c bs) ls) (Shared (T.Name c.text)) (contents (list_marks bs)) rest3 h3 (λ at4 rest4 e4 h4.
    let x5 = keep_list bs rest4 h4 in
    record {
      y = OneTarget (name at0 n.text) at1 (name at2 m.text) at3 (name at4 c.text) x5.y;
      same = sym (e0 ∙ ap (λ it. mark at0 (Shared (T.Name n.text)) ∷ it) (e1 ∙ ap (λ it. mark at1 (Shared (T.Fixed S.Colon)) ∷ it) (e2 ∙ ap (λ it. mark at2 (Shared (T.Name m.text)) ∷ it) (e3 ∙ ap (λ it. mark at3 (Shared (T.Fixed S.Bang)) ∷ it) (e4 ∙ ap (λ it. mark at4 (Shared (T.Name c.text)) ∷ it) (sym x5.same))))));
      away = ap (λ it. OneTarget (name here n.text) here (name here m.text) here (name here c.text) it) x5.away;
      kept = λ b f. x5.kept b f;
    })))))
keep_targets (MoreTargets ts r n p m q c bs) ls h =
    part_then (KeptTargets (MoreTargets ts r n p m q c bs) ls) (targets_marks ts) (sign r (S.End E.Comma) ∷ (called n ∷ (sign p S.Colon ∷ (called m ∷ (sign q S.Bang ∷ (called c ∷ (list_marks bs))))))) ls h (λ front0 rest0 e0 f0 h0.
    let x0 = keep_targets ts front0 f0 in
    first_then (KeptTargets (MoreTargets ts r n p m q c bs) ls) (Shared (T.Fixed (S.End E.Comma))) (contents (called n ∷ (sign p S.Colon ∷ (called m ∷ (sign q S.Bang ∷ (called c ∷ (list_marks bs))))))) rest0 h0 (λ at1 rest1 e1 h1.
    first_then (KeptTargets (MoreTargets ts r n p m q c bs) ls) (Shared (T.Name n.text)) (contents (sign p S.Colon ∷ (called m ∷ (sign q S.Bang ∷ (called c ∷ (list_marks bs)))))) rest1 h1 (λ at2 rest2 e2 h2.
    first_then (KeptTargets (MoreTargets ts r n p m q c bs) ls) (Shared (T.Fixed S.Colon)) (contents (called m ∷ (sign q S.Bang ∷ (called c ∷ (list_marks bs))))) rest2 h2 (λ at3 rest3 e3 h3.
    first_then (KeptTargets (MoreTargets ts r n p m q c bs) ls) (Shared (T.Name m.text)) (contents (sign q S.Bang ∷ (called c ∷ (list_marks bs)))) rest3 h3 (λ at4 rest4 e4 h4.
    first_then (KeptTargets (MoreTargets ts r n p m q c bs) ls) (Shared (T.Fixed S.Bang)) (contents (called c ∷ (list_marks bs))) rest4 h4 (λ at5 rest5 e5 h5.
    first_then (KeptTargets (MoreTargets ts r n p m q c bs) ls) (Shared (T.Name c.text)) (contents (list_marks bs)) rest5 h5 (λ at6 rest6 e6 h6.
    let x7 = keep_list bs rest6 h6 in
    record {
      y = MoreTargets x0.y at1 (name at2 n.text) at3 (name at4 m.text) at5 (name at6 c.text) x7.y;
      same = sym (e0 ∙ both (sym x0.same) (e1 ∙ ap (λ it. mark at1 (Shared (T.Fixed (S.End E.Comma))) ∷ it) (e2 ∙ ap (λ it. mark at2 (Shared (T.Name n.text)) ∷ it) (e3 ∙ ap (λ it. mark at3 (Shared (T.Fixed S.Colon)) ∷ it) (e4 ∙ ap (λ it. mark at4 (Shared (T.Name m.text)) ∷ it) (e5 ∙ ap (λ it. mark at5 (Shared (T.Fixed S.Bang)) ∷ it) (e6 ∙ ap (λ it. mark at6 (Shared (T.Name c.text)) ∷ it) (sym x7.same))))))));
      away = ap (λ it. MoreTargets it here (name here n.text) here (name here m.text) here (name here c.text) (placed_list x7.y)) x0.away ∙ ap (λ it. MoreTargets (placed_targets ts) here (name here n.text) here (name here m.text) here (name here c.text) it) x7.away;
      kept = λ b f. (x0.kept b f.0, x7.kept b f.1);
    })))))))

keep_to : (v : To) (ls : List Mark) → contents ls ≡ contents (to_marks v) → KeptTo v ls
keep_to NoTo ls h =
    record {
      y = NoTo;
      same = sym (none ls h);
      away = refl;
      kept = λ b f. tt;
    }
keep_to (SomeTo p ts) ls h =
    first_then (KeptTo (SomeTo p ts) ls) (Word W.To) (contents (targets_marks ts)) ls h (λ at0 rest0 e0 h0.
    let x1 = keep_targets ts rest0 h0 in
    record {
      y = SomeTo at0 x1.y;
      same = sym (e0 ∙ ap (λ it. mark at0 (Word W.To) ∷ it) (sym x1.same));
      away = ap (λ it. SomeTo here it) x1.away;
      kept = λ b f. x1.kept b f;
    })

mutual
  keep_stat : (v : WrittenStat) (ls : List Mark) → contents ls ≡ contents (stat_marks v) → KeptStat v ls
  keep_stat (Eval e p) ls h =
      part_then (KeptStat (Eval e p) ls) (expression e) (sign p S.Semicolon ∷ []) ls h (λ front0 rest0 e0 f0 h0.
      let x0 = keep_expression e front0 f0 in
      first_then (KeptStat (Eval e p) ls) (Shared (T.Fixed S.Semicolon)) [] rest0 h0 (λ at1 rest1 e1 h1.
      record {
        y = Eval x0.y at1;
        same = sym (e0 ∙ both (sym x0.same) (e1 ∙ ap (λ it. mark at1 (Shared (T.Fixed S.Semicolon)) ∷ it) (none rest1 h1)));
        away = ap (λ it. Eval it here) x0.away;
        kept = λ b f. (x0.kept.1 ∙ f.0, x0.kept.0 b 0 0 f.1);
      }))
  keep_stat (Assign e p n q v r) ls h =
      part_then (KeptStat (Assign e p n q v r) ls) (expression e) (sign p S.Dot ∷ (called n ∷ (word q W.Gives ∷ (expression v ++ (sign r S.Semicolon ∷ []))))) ls h (λ front0 rest0 e0 f0 h0.
      let x0 = keep_expression e front0 f0 in
      first_then (KeptStat (Assign e p n q v r) ls) (Shared (T.Fixed S.Dot)) (contents (called n ∷ (word q W.Gives ∷ (expression v ++ (sign r S.Semicolon ∷ []))))) rest0 h0 (λ at1 rest1 e1 h1.
      first_then (KeptStat (Assign e p n q v r) ls) (Shared (T.Name n.text)) (contents (word q W.Gives ∷ (expression v ++ (sign r S.Semicolon ∷ [])))) rest1 h1 (λ at2 rest2 e2 h2.
      first_then (KeptStat (Assign e p n q v r) ls) (Word W.Gives) (contents (expression v ++ (sign r S.Semicolon ∷ []))) rest2 h2 (λ at3 rest3 e3 h3.
      part_then (KeptStat (Assign e p n q v r) ls) (expression v) (sign r S.Semicolon ∷ []) rest3 h3 (λ front4 rest4 e4 f4 h4.
      let x4 = keep_expression v front4 f4 in
      first_then (KeptStat (Assign e p n q v r) ls) (Shared (T.Fixed S.Semicolon)) [] rest4 h4 (λ at5 rest5 e5 h5.
      record {
        y = Assign x0.y at1 (name at2 n.text) at3 x4.y at5;
        same = sym (e0 ∙ both (sym x0.same) (e1 ∙ ap (λ it. mark at1 (Shared (T.Fixed S.Dot)) ∷ it) (e2 ∙ ap (λ it. mark at2 (Shared (T.Name n.text)) ∷ it) (e3 ∙ ap (λ it. mark at3 (Word W.Gives) ∷ it) (e4 ∙ both (sym x4.same) (e5 ∙ ap (λ it. mark at5 (Shared (T.Fixed S.Semicolon)) ∷ it) (none rest5 h5)))))));
        away = ap (λ it. Assign it here (name here n.text) here (placed x4.y) here) x0.away ∙ ap (λ it. Assign (placed e) here (name here n.text) here it here) x4.away;
        kept = λ b f. (x0.kept.1 ∙ f.0, x0.kept.0 b 0 0 f.1, x4.kept.0 b 0 0 f.2);
      }))))))
  keep_stat (If p q e r s ss t) ls h =
      first_then (KeptStat (If p q e r s ss t) ls) (Shared (T.Fixed S.If)) (contents (sign q S.Open ∷ (expression e ++ (sign r (S.End E.Close) ∷ (sign s S.OpenBrace ∷ (stats_marks ss ++ (sign t (S.End E.CloseBrace) ∷ []))))))) ls h (λ at0 rest0 e0 h0.
      first_then (KeptStat (If p q e r s ss t) ls) (Shared (T.Fixed S.Open)) (contents (expression e ++ (sign r (S.End E.Close) ∷ (sign s S.OpenBrace ∷ (stats_marks ss ++ (sign t (S.End E.CloseBrace) ∷ [])))))) rest0 h0 (λ at1 rest1 e1 h1.
      part_then (KeptStat (If p q e r s ss t) ls) (expression e) (sign r (S.End E.Close) ∷ (sign s S.OpenBrace ∷ (stats_marks ss ++ (sign t (S.End E.CloseBrace) ∷ [])))) rest1 h1 (λ front2 rest2 e2 f2 h2.
      let x2 = keep_expression e front2 f2 in
      first_then (KeptStat (If p q e r s ss t) ls) (Shared (T.Fixed (S.End E.Close))) (contents (sign s S.OpenBrace ∷ (stats_marks ss ++ (sign t (S.End E.CloseBrace) ∷ [])))) rest2 h2 (λ at3 rest3 e3 h3.
      first_then (KeptStat (If p q e r s ss t) ls) (Shared (T.Fixed S.OpenBrace)) (contents (stats_marks ss ++ (sign t (S.End E.CloseBrace) ∷ []))) rest3 h3 (λ at4 rest4 e4 h4.
      part_then (KeptStat (If p q e r s ss t) ls) (stats_marks ss) (sign t (S.End E.CloseBrace) ∷ []) rest4 h4 (λ front5 rest5 e5 f5 h5.
      let x5 = keep_stats ss front5 f5 in
      first_then (KeptStat (If p q e r s ss t) ls) (Shared (T.Fixed (S.End E.CloseBrace))) [] rest5 h5 (λ at6 rest6 e6 h6.
      record {
        y = If at0 at1 x2.y at3 at4 x5.y at6;
        same = sym (e0 ∙ ap (λ it. mark at0 (Shared (T.Fixed S.If)) ∷ it) (e1 ∙ ap (λ it. mark at1 (Shared (T.Fixed S.Open)) ∷ it) (e2 ∙ both (sym x2.same) (e3 ∙ ap (λ it. mark at3 (Shared (T.Fixed (S.End E.Close))) ∷ it) (e4 ∙ ap (λ it. mark at4 (Shared (T.Fixed S.OpenBrace)) ∷ it) (e5 ∙ both (sym x5.same) (e6 ∙ ap (λ it. mark at6 (Shared (T.Fixed (S.End E.CloseBrace))) ∷ it) (none rest6 h6))))))));
        away = ap (λ it. If here here it here here (placed_stats x5.y) here) x2.away ∙ ap (λ it. If here here (placed e) here here it here) x5.away;
        kept = λ b f. (x2.kept.0 b 0 0 f.0, x5.kept b f.1);
      })))))))
  keep_stat (IfElse p q e r s ss t u v zs w) ls h =
      first_then (KeptStat (IfElse p q e r s ss t u v zs w) ls) (Shared (T.Fixed S.If)) (contents (sign q S.Open ∷ (expression e ++ (sign r (S.End E.Close) ∷ (sign s S.OpenBrace ∷ (stats_marks ss ++ (sign t (S.End E.CloseBrace) ∷ (sign u (S.End E.Else) ∷ (sign v S.OpenBrace ∷ (stats_marks zs ++ (sign w (S.End E.CloseBrace) ∷ []))))))))))) ls h (λ at0 rest0 e0 h0.
      first_then (KeptStat (IfElse p q e r s ss t u v zs w) ls) (Shared (T.Fixed S.Open)) (contents (expression e ++ (sign r (S.End E.Close) ∷ (sign s S.OpenBrace ∷ (stats_marks ss ++ (sign t (S.End E.CloseBrace) ∷ (sign u (S.End E.Else) ∷ (sign v S.OpenBrace ∷ (stats_marks zs ++ (sign w (S.End E.CloseBrace) ∷ [])))))))))) rest0 h0 (λ at1 rest1 e1 h1.
      part_then (KeptStat (IfElse p q e r s ss t u v zs w) ls) (expression e) (sign r (S.End E.Close) ∷ (sign s S.OpenBrace ∷ (stats_marks ss ++ (sign t (S.End E.CloseBrace) ∷ (sign u (S.End E.Else) ∷ (sign v S.OpenBrace ∷ (stats_marks zs ++ (sign w (S.End E.CloseBrace) ∷ [])))))))) rest1 h1 (λ front2 rest2 e2 f2 h2.
      let x2 = keep_expression e front2 f2 in
      first_then (KeptStat (IfElse p q e r s ss t u v zs w) ls) (Shared (T.Fixed (S.End E.Close))) (contents (sign s S.OpenBrace ∷ (stats_marks ss ++ (sign t (S.End E.CloseBrace) ∷ (sign u (S.End E.Else) ∷ (sign v S.OpenBrace ∷ (stats_marks zs ++ (sign w (S.End E.CloseBrace) ∷ [])))))))) rest2 h2 (λ at3 rest3 e3 h3.
      first_then (KeptStat (IfElse p q e r s ss t u v zs w) ls) (Shared (T.Fixed S.OpenBrace)) (contents (stats_marks ss ++ (sign t (S.End E.CloseBrace) ∷ (sign u (S.End E.Else) ∷ (sign v S.OpenBrace ∷ (stats_marks zs ++ (sign w (S.End E.CloseBrace) ∷ []))))))) rest3 h3 (λ at4 rest4 e4 h4.
      part_then (KeptStat (IfElse p q e r s ss t u v zs w) ls) (stats_marks ss) (sign t (S.End E.CloseBrace) ∷ (sign u (S.End E.Else) ∷ (sign v S.OpenBrace ∷ (stats_marks zs ++ (sign w (S.End E.CloseBrace) ∷ []))))) rest4 h4 (λ front5 rest5 e5 f5 h5.
      let x5 = keep_stats ss front5 f5 in
      first_then (KeptStat (IfElse p q e r s ss t u v zs w) ls) (Shared (T.Fixed (S.End E.CloseBrace))) (contents (sign u (S.End E.Else) ∷ (sign v S.OpenBrace ∷ (stats_marks zs ++ (sign w (S.End E.CloseBrace) ∷ []))))) rest5 h5 (λ at6 rest6 e6 h6.
      first_then (KeptStat (IfElse p q e r s ss t u v zs w) ls) (Shared (T.Fixed (S.End E.Else))) (contents (sign v S.OpenBrace ∷ (stats_marks zs ++ (sign w (S.End E.CloseBrace) ∷ [])))) rest6 h6 (λ at7 rest7 e7 h7.
      first_then (KeptStat (IfElse p q e r s ss t u v zs w) ls) (Shared (T.Fixed S.OpenBrace)) (contents (stats_marks zs ++ (sign w (S.End E.CloseBrace) ∷ []))) rest7 h7 (λ at8 rest8 e8 h8.
      part_then (KeptStat (IfElse p q e r s ss t u v zs w) ls) (stats_marks zs) (sign w (S.End E.CloseBrace) ∷ []) rest8 h8 (λ front9 rest9 e9 f9 h9.
      let x9 = keep_stats zs front9 f9 in
      first_then (KeptStat (IfElse p q e r s ss t u v zs w) ls) (Shared (T.Fixed (S.End E.CloseBrace))) [] rest9 h9 (λ at10 rest10 e10 h10.
      record {
        y = IfElse at0 at1 x2.y at3 at4 x5.y at6 at7 at8 x9.y at10;
        same = sym (e0 ∙ ap (λ it. mark at0 (Shared (T.Fixed S.If)) ∷ it) (e1 ∙ ap (λ it. mark at1 (Shared (T.Fixed S.Open)) ∷ it) (e2 ∙ both (sym x2.same) (e3 ∙ ap (λ it. mark at3 (Shared (T.Fixed (S.End E.Close))) ∷ it) (e4 ∙ ap (λ it. mark at4 (Shared (T.Fixed S.OpenBrace)) ∷ it) (e5 ∙ both (sym x5.same) (e6 ∙ ap (λ it. mark at6 (Shared (T.Fixed (S.End E.CloseBrace))) ∷ it) (e7 ∙ ap (λ it. mark at7 (Shared (T.Fixed (S.End E.Else))) ∷ it) (e8 ∙ ap (λ it. mark at8 (Shared (T.Fixed S.OpenBrace)) ∷ it) (e9 ∙ both (sym x9.same) (e10 ∙ ap (λ it. mark at10 (Shared (T.Fixed (S.End E.CloseBrace))) ∷ it) (none rest10 h10))))))))))));
        away = ap (λ it. IfElse here here it here here (placed_stats x5.y) here here here (placed_stats x9.y) here) x2.away ∙ ap (λ it. IfElse here here (placed e) here here it here here here (placed_stats x9.y) here) x5.away ∙ ap (λ it. IfElse here here (placed e) here here (placed_stats ss) here here here it here) x9.away;
        kept = λ b f. (x2.kept.0 b 0 0 f.0, x5.kept b f.1, x9.kept b f.2);
      })))))))))))
  keep_stat (For p q n r e s t ss u) ls h =
      first_then (KeptStat (For p q n r e s t ss u) ls) (Word W.For) (contents (sign q S.Open ∷ (called n ∷ (sign r (S.End E.In) ∷ (expression e ++ (sign s (S.End E.Close) ∷ (sign t S.OpenBrace ∷ (stats_marks ss ++ (sign u (S.End E.CloseBrace) ∷ []))))))))) ls h (λ at0 rest0 e0 h0.
      first_then (KeptStat (For p q n r e s t ss u) ls) (Shared (T.Fixed S.Open)) (contents (called n ∷ (sign r (S.End E.In) ∷ (expression e ++ (sign s (S.End E.Close) ∷ (sign t S.OpenBrace ∷ (stats_marks ss ++ (sign u (S.End E.CloseBrace) ∷ [])))))))) rest0 h0 (λ at1 rest1 e1 h1.
      first_then (KeptStat (For p q n r e s t ss u) ls) (Shared (T.Name n.text)) (contents (sign r (S.End E.In) ∷ (expression e ++ (sign s (S.End E.Close) ∷ (sign t S.OpenBrace ∷ (stats_marks ss ++ (sign u (S.End E.CloseBrace) ∷ []))))))) rest1 h1 (λ at2 rest2 e2 h2.
      first_then (KeptStat (For p q n r e s t ss u) ls) (Shared (T.Fixed (S.End E.In))) (contents (expression e ++ (sign s (S.End E.Close) ∷ (sign t S.OpenBrace ∷ (stats_marks ss ++ (sign u (S.End E.CloseBrace) ∷ [])))))) rest2 h2 (λ at3 rest3 e3 h3.
      part_then (KeptStat (For p q n r e s t ss u) ls) (expression e) (sign s (S.End E.Close) ∷ (sign t S.OpenBrace ∷ (stats_marks ss ++ (sign u (S.End E.CloseBrace) ∷ [])))) rest3 h3 (λ front4 rest4 e4 f4 h4.
      let x4 = keep_expression e front4 f4 in
      first_then (KeptStat (For p q n r e s t ss u) ls) (Shared (T.Fixed (S.End E.Close))) (contents (sign t S.OpenBrace ∷ (stats_marks ss ++ (sign u (S.End E.CloseBrace) ∷ [])))) rest4 h4 (λ at5 rest5 e5 h5.
      first_then (KeptStat (For p q n r e s t ss u) ls) (Shared (T.Fixed S.OpenBrace)) (contents (stats_marks ss ++ (sign u (S.End E.CloseBrace) ∷ []))) rest5 h5 (λ at6 rest6 e6 h6.
      part_then (KeptStat (For p q n r e s t ss u) ls) (stats_marks ss) (sign u (S.End E.CloseBrace) ∷ []) rest6 h6 (λ front7 rest7 e7 f7 h7.
      let x7 = keep_stats ss front7 f7 in
      first_then (KeptStat (For p q n r e s t ss u) ls) (Shared (T.Fixed (S.End E.CloseBrace))) [] rest7 h7 (λ at8 rest8 e8 h8.
      record {
        y = For at0 at1 (name at2 n.text) at3 x4.y at5 at6 x7.y at8;
        same = sym (e0 ∙ ap (λ it. mark at0 (Word W.For) ∷ it) (e1 ∙ ap (λ it. mark at1 (Shared (T.Fixed S.Open)) ∷ it) (e2 ∙ ap (λ it. mark at2 (Shared (T.Name n.text)) ∷ it) (e3 ∙ ap (λ it. mark at3 (Shared (T.Fixed (S.End E.In))) ∷ it) (e4 ∙ both (sym x4.same) (e5 ∙ ap (λ it. mark at5 (Shared (T.Fixed (S.End E.Close))) ∷ it) (e6 ∙ ap (λ it. mark at6 (Shared (T.Fixed S.OpenBrace)) ∷ it) (e7 ∙ both (sym x7.same) (e8 ∙ ap (λ it. mark at8 (Shared (T.Fixed (S.End E.CloseBrace))) ∷ it) (none rest8 h8))))))))));
        away = ap (λ it. For here here (name here n.text) here it here here (placed_stats x7.y) here) x4.away ∙ ap (λ it. For here here (name here n.text) here (placed e) here here it here) x7.away;
        kept = λ b f. (x4.kept.0 b 0 0 f.0, x7.kept b f.1);
      })))))))))

  keep_stats : (v : Stats) (ls : List Mark) → contents ls ≡ contents (stats_marks v) → KeptStats v ls
  keep_stats NoStats ls h =
      record {
        y = NoStats;
        same = sym (none ls h);
        away = refl;
        kept = λ b f. tt;
      }
  keep_stats (MoreStats ss s) ls h =
      part_then (KeptStats (MoreStats ss s) ls) (stats_marks ss) (stat_marks s) ls h (λ front0 rest0 e0 f0 h0.
      let x0 = keep_stats ss front0 f0 in
      let x1 = keep_stat s rest0 h0 in
      record {
        y = MoreStats x0.y x1.y;
        same = sym (e0 ∙ both (sym x0.same) (sym x1.same));
        away = ap (λ it. MoreStats it (placed_stat x1.y)) x0.away ∙ ap (λ it. MoreStats (placed_stats ss) it) x1.away;
        kept = λ b f. (x0.kept b f.0, x1.kept b f.1);
      })

keep_block : (v : Block) (ls : List Mark) → contents ls ≡ contents (block_marks v) → KeptBlock v ls
keep_block NoBlock ls h =
    record {
      y = NoBlock;
      same = sym (none ls h);
      away = refl;
      kept = λ b f. tt;
    }
keep_block (SomeBlock p q ss r) ls h =
    first_then (KeptBlock (SomeBlock p q ss r) ls) (Word W.Do) (contents (sign q S.OpenBrace ∷ (stats_marks ss ++ (sign r (S.End E.CloseBrace) ∷ [])))) ls h (λ at0 rest0 e0 h0.
    first_then (KeptBlock (SomeBlock p q ss r) ls) (Shared (T.Fixed S.OpenBrace)) (contents (stats_marks ss ++ (sign r (S.End E.CloseBrace) ∷ []))) rest0 h0 (λ at1 rest1 e1 h1.
    part_then (KeptBlock (SomeBlock p q ss r) ls) (stats_marks ss) (sign r (S.End E.CloseBrace) ∷ []) rest1 h1 (λ front2 rest2 e2 f2 h2.
    let x2 = keep_stats ss front2 f2 in
    first_then (KeptBlock (SomeBlock p q ss r) ls) (Shared (T.Fixed (S.End E.CloseBrace))) [] rest2 h2 (λ at3 rest3 e3 h3.
    record {
      y = SomeBlock at0 at1 x2.y at3;
      same = sym (e0 ∙ ap (λ it. mark at0 (Word W.Do) ∷ it) (e1 ∙ ap (λ it. mark at1 (Shared (T.Fixed S.OpenBrace)) ∷ it) (e2 ∙ both (sym x2.same) (e3 ∙ ap (λ it. mark at3 (Shared (T.Fixed (S.End E.CloseBrace))) ∷ it) (none rest3 h3)))));
      away = ap (λ it. SomeBlock here here it here) x2.away;
      kept = λ b f. x2.kept b f;
    }))))

keep_start : (v : Start) (ls : List Mark) → contents ls ≡ contents (start_marks v) → KeptStart v ls
keep_start NoStart ls h =
    record {
      y = NoStart;
      same = sym (none ls h);
      away = refl;
      kept = tt;
    }
keep_start (Entry p) ls h =
    first_then (KeptStart (Entry p) ls) (Word W.Entrypoint) [] ls h (λ at0 rest0 e0 h0.
    record {
      y = Entry at0;
      same = sym (e0 ∙ ap (λ it. mark at0 (Word W.Entrypoint) ∷ it) (none rest0 h0));
      away = refl;
      kept = tt;
    })
keep_start (End p) ls h =
    first_then (KeptStart (End p) ls) (Word W.Endpoint) [] ls h (λ at0 rest0 e0 h0.
    record {
      y = End at0;
      same = sym (e0 ∙ ap (λ it. mark at0 (Word W.Endpoint) ∷ it) (none rest0 h0));
      away = refl;
      kept = tt;
    })

keep_rule : (v : WrittenRule) (ls : List Mark) → contents ls ≡ contents (rule_marks v) → KeptRule v ls
keep_rule (Matched ws p n x q r ss g u t y s) ls h =
    part_then (KeptRule (Matched ws p n x q r ss g u t y s) ls) (words_marks ws) (word p W.Rule ∷ (called n ∷ (parent_marks x ++ (sign q S.OpenBrace ∷ (word r W.From ∷ (sources_marks ss ++ (guard_marks g ++ (using_marks u ++ (to_marks t ++ (block_marks y ++ (sign s (S.End E.CloseBrace) ∷ []))))))))))) ls h (λ front0 rest0 e0 f0 h0.
    let x0 = keep_words ws front0 f0 in
    first_then (KeptRule (Matched ws p n x q r ss g u t y s) ls) (Word W.Rule) (contents (called n ∷ (parent_marks x ++ (sign q S.OpenBrace ∷ (word r W.From ∷ (sources_marks ss ++ (guard_marks g ++ (using_marks u ++ (to_marks t ++ (block_marks y ++ (sign s (S.End E.CloseBrace) ∷ []))))))))))) rest0 h0 (λ at1 rest1 e1 h1.
    first_then (KeptRule (Matched ws p n x q r ss g u t y s) ls) (Shared (T.Name n.text)) (contents (parent_marks x ++ (sign q S.OpenBrace ∷ (word r W.From ∷ (sources_marks ss ++ (guard_marks g ++ (using_marks u ++ (to_marks t ++ (block_marks y ++ (sign s (S.End E.CloseBrace) ∷ [])))))))))) rest1 h1 (λ at2 rest2 e2 h2.
    part_then (KeptRule (Matched ws p n x q r ss g u t y s) ls) (parent_marks x) (sign q S.OpenBrace ∷ (word r W.From ∷ (sources_marks ss ++ (guard_marks g ++ (using_marks u ++ (to_marks t ++ (block_marks y ++ (sign s (S.End E.CloseBrace) ∷ [])))))))) rest2 h2 (λ front3 rest3 e3 f3 h3.
    let x3 = keep_parent x front3 f3 in
    first_then (KeptRule (Matched ws p n x q r ss g u t y s) ls) (Shared (T.Fixed S.OpenBrace)) (contents (word r W.From ∷ (sources_marks ss ++ (guard_marks g ++ (using_marks u ++ (to_marks t ++ (block_marks y ++ (sign s (S.End E.CloseBrace) ∷ [])))))))) rest3 h3 (λ at4 rest4 e4 h4.
    first_then (KeptRule (Matched ws p n x q r ss g u t y s) ls) (Word W.From) (contents (sources_marks ss ++ (guard_marks g ++ (using_marks u ++ (to_marks t ++ (block_marks y ++ (sign s (S.End E.CloseBrace) ∷ []))))))) rest4 h4 (λ at5 rest5 e5 h5.
    part_then (KeptRule (Matched ws p n x q r ss g u t y s) ls) (sources_marks ss) (guard_marks g ++ (using_marks u ++ (to_marks t ++ (block_marks y ++ (sign s (S.End E.CloseBrace) ∷ []))))) rest5 h5 (λ front6 rest6 e6 f6 h6.
    let x6 = keep_sources ss front6 f6 in
    part_then (KeptRule (Matched ws p n x q r ss g u t y s) ls) (guard_marks g) (using_marks u ++ (to_marks t ++ (block_marks y ++ (sign s (S.End E.CloseBrace) ∷ [])))) rest6 h6 (λ front7 rest7 e7 f7 h7.
    let x7 = keep_guard g front7 f7 in
    part_then (KeptRule (Matched ws p n x q r ss g u t y s) ls) (using_marks u) (to_marks t ++ (block_marks y ++ (sign s (S.End E.CloseBrace) ∷ []))) rest7 h7 (λ front8 rest8 e8 f8 h8.
    let x8 = keep_using u front8 f8 in
    part_then (KeptRule (Matched ws p n x q r ss g u t y s) ls) (to_marks t) (block_marks y ++ (sign s (S.End E.CloseBrace) ∷ [])) rest8 h8 (λ front9 rest9 e9 f9 h9.
    let x9 = keep_to t front9 f9 in
    part_then (KeptRule (Matched ws p n x q r ss g u t y s) ls) (block_marks y) (sign s (S.End E.CloseBrace) ∷ []) rest9 h9 (λ front10 rest10 e10 f10 h10.
    let x10 = keep_block y front10 f10 in
    first_then (KeptRule (Matched ws p n x q r ss g u t y s) ls) (Shared (T.Fixed (S.End E.CloseBrace))) [] rest10 h10 (λ at11 rest11 e11 h11.
    record {
      y = Matched x0.y at1 (name at2 n.text) x3.y at4 at5 x6.y x7.y x8.y x9.y x10.y at11;
      same = sym (e0 ∙ both (sym x0.same) (e1 ∙ ap (λ it. mark at1 (Word W.Rule) ∷ it) (e2 ∙ ap (λ it. mark at2 (Shared (T.Name n.text)) ∷ it) (e3 ∙ both (sym x3.same) (e4 ∙ ap (λ it. mark at4 (Shared (T.Fixed S.OpenBrace)) ∷ it) (e5 ∙ ap (λ it. mark at5 (Word W.From) ∷ it) (e6 ∙ both (sym x6.same) (e7 ∙ both (sym x7.same) (e8 ∙ both (sym x8.same) (e9 ∙ both (sym x9.same) (e10 ∙ both (sym x10.same) (e11 ∙ ap (λ it. mark at11 (Shared (T.Fixed (S.End E.CloseBrace))) ∷ it) (none rest11 h11)))))))))))));
      away = ap (λ it. Matched it here (name here n.text) (placed_parent x3.y) here here (placed_sources x6.y) (placed_guard x7.y) (placed_using x8.y) (placed_to x9.y) (placed_block x10.y) here) x0.away ∙ ap (λ it. Matched (placed_words ws) here (name here n.text) it here here (placed_sources x6.y) (placed_guard x7.y) (placed_using x8.y) (placed_to x9.y) (placed_block x10.y) here) x3.away ∙ ap (λ it. Matched (placed_words ws) here (name here n.text) (placed_parent x) here here it (placed_guard x7.y) (placed_using x8.y) (placed_to x9.y) (placed_block x10.y) here) x6.away ∙ ap (λ it. Matched (placed_words ws) here (name here n.text) (placed_parent x) here here (placed_sources ss) it (placed_using x8.y) (placed_to x9.y) (placed_block x10.y) here) x7.away ∙ ap (λ it. Matched (placed_words ws) here (name here n.text) (placed_parent x) here here (placed_sources ss) (placed_guard g) it (placed_to x9.y) (placed_block x10.y) here) x8.away ∙ ap (λ it. Matched (placed_words ws) here (name here n.text) (placed_parent x) here here (placed_sources ss) (placed_guard g) (placed_using u) it (placed_block x10.y) here) x9.away ∙ ap (λ it. Matched (placed_words ws) here (name here n.text) (placed_parent x) here here (placed_sources ss) (placed_guard g) (placed_using u) (placed_to t) it here) x10.away;
      kept = λ b f. (x0.kept.0 f.0, ap may_stand x0.kept.1 ∙ f.1, subst (λ it. GuardFits b it.is_lazy x7.y) (sym x0.kept.1) (x7.kept b (modifiers ws).is_lazy f.2), (x8.kept b f.3.0, x9.kept b f.3.1, x10.kept b f.3.2));
    }))))))))))))
keep_rule (Called x p n ps q u t y s) ls h =
    part_then (KeptRule (Called x p n ps q u t y s) ls) (start_marks x) (word p W.Rule ∷ (called n ∷ (bracketed_marks ps ++ (sign q S.OpenBrace ∷ (using_marks u ++ (to_marks t ++ (block_marks y ++ (sign s (S.End E.CloseBrace) ∷ [])))))))) ls h (λ front0 rest0 e0 f0 h0.
    let x0 = keep_start x front0 f0 in
    first_then (KeptRule (Called x p n ps q u t y s) ls) (Word W.Rule) (contents (called n ∷ (bracketed_marks ps ++ (sign q S.OpenBrace ∷ (using_marks u ++ (to_marks t ++ (block_marks y ++ (sign s (S.End E.CloseBrace) ∷ [])))))))) rest0 h0 (λ at1 rest1 e1 h1.
    first_then (KeptRule (Called x p n ps q u t y s) ls) (Shared (T.Name n.text)) (contents (bracketed_marks ps ++ (sign q S.OpenBrace ∷ (using_marks u ++ (to_marks t ++ (block_marks y ++ (sign s (S.End E.CloseBrace) ∷ []))))))) rest1 h1 (λ at2 rest2 e2 h2.
    part_then (KeptRule (Called x p n ps q u t y s) ls) (bracketed_marks ps) (sign q S.OpenBrace ∷ (using_marks u ++ (to_marks t ++ (block_marks y ++ (sign s (S.End E.CloseBrace) ∷ []))))) rest2 h2 (λ front3 rest3 e3 f3 h3.
    let x3 = keep_bracketed ps front3 f3 in
    first_then (KeptRule (Called x p n ps q u t y s) ls) (Shared (T.Fixed S.OpenBrace)) (contents (using_marks u ++ (to_marks t ++ (block_marks y ++ (sign s (S.End E.CloseBrace) ∷ []))))) rest3 h3 (λ at4 rest4 e4 h4.
    part_then (KeptRule (Called x p n ps q u t y s) ls) (using_marks u) (to_marks t ++ (block_marks y ++ (sign s (S.End E.CloseBrace) ∷ []))) rest4 h4 (λ front5 rest5 e5 f5 h5.
    let x5 = keep_using u front5 f5 in
    part_then (KeptRule (Called x p n ps q u t y s) ls) (to_marks t) (block_marks y ++ (sign s (S.End E.CloseBrace) ∷ [])) rest5 h5 (λ front6 rest6 e6 f6 h6.
    let x6 = keep_to t front6 f6 in
    part_then (KeptRule (Called x p n ps q u t y s) ls) (block_marks y) (sign s (S.End E.CloseBrace) ∷ []) rest6 h6 (λ front7 rest7 e7 f7 h7.
    let x7 = keep_block y front7 f7 in
    first_then (KeptRule (Called x p n ps q u t y s) ls) (Shared (T.Fixed (S.End E.CloseBrace))) [] rest7 h7 (λ at8 rest8 e8 h8.
    record {
      y = Called x0.y at1 (name at2 n.text) x3.y at4 x5.y x6.y x7.y at8;
      same = sym (e0 ∙ both (sym x0.same) (e1 ∙ ap (λ it. mark at1 (Word W.Rule) ∷ it) (e2 ∙ ap (λ it. mark at2 (Shared (T.Name n.text)) ∷ it) (e3 ∙ both (sym x3.same) (e4 ∙ ap (λ it. mark at4 (Shared (T.Fixed S.OpenBrace)) ∷ it) (e5 ∙ both (sym x5.same) (e6 ∙ both (sym x6.same) (e7 ∙ both (sym x7.same) (e8 ∙ ap (λ it. mark at8 (Shared (T.Fixed (S.End E.CloseBrace))) ∷ it) (none rest8 h8))))))))));
      away = ap (λ it. Called it here (name here n.text) (placed_bracketed x3.y) here (placed_using x5.y) (placed_to x6.y) (placed_block x7.y) here) x0.away ∙ ap (λ it. Called (placed_start x) here (name here n.text) it here (placed_using x5.y) (placed_to x6.y) (placed_block x7.y) here) x3.away ∙ ap (λ it. Called (placed_start x) here (name here n.text) (placed_bracketed ps) here it (placed_to x6.y) (placed_block x7.y) here) x5.away ∙ ap (λ it. Called (placed_start x) here (name here n.text) (placed_bracketed ps) here (placed_using u) it (placed_block x7.y) here) x6.away ∙ ap (λ it. Called (placed_start x) here (name here n.text) (placed_bracketed ps) here (placed_using u) (placed_to t) it here) x7.away;
      kept = λ b f. (start_kept x x0.y ps x3.y x0.away x3.away f.0, (x5.kept b f.1.0, x6.kept b f.1.1, x7.kept b f.1.2));
    })))))))))

keep_item : (v : WrittenItem) (ls : List Mark) → contents ls ≡ contents (item_marks v) → KeptItem v ls
keep_item (Help d) ls h =
    let x0 = keep_helper d ls h in
    record {
      y = Help x0.y;
      same = sym (sym x0.same);
      away = ap (λ it. Help it) x0.away;
      kept = λ b f. x0.kept b f;
    }
keep_item (Make r) ls h =
    let x0 = keep_rule r ls h in
    record {
      y = Make x0.y;
      same = sym (sym x0.same);
      away = ap (λ it. Make it) x0.away;
      kept = λ b f. x0.kept b f;
    }

keep_items : (v : Items) (ls : List Mark) → contents ls ≡ contents (items_marks v) → KeptItems v ls
keep_items NoItems ls h =
    record {
      y = NoItems;
      same = sym (none ls h);
      away = refl;
      kept = λ b f. tt;
    }
keep_items (MoreItems xs i) ls h =
    part_then (KeptItems (MoreItems xs i) ls) (items_marks xs) (item_marks i) ls h (λ front0 rest0 e0 f0 h0.
    let x0 = keep_items xs front0 f0 in
    let x1 = keep_item i rest0 h0 in
    record {
      y = MoreItems x0.y x1.y;
      same = sym (e0 ∙ both (sym x0.same) (sym x1.same));
      away = ap (λ it. MoreItems it (placed_item x1.y)) x0.away ∙ ap (λ it. MoreItems (placed_items xs) it) x1.away;
      kept = λ b f. (x0.kept b f.0, x1.kept b f.1);
    })

pub keep_module : (v : WrittenModule) (ls : List Mark) → contents ls ≡ contents (module_marks v) → KeptModule v ls
keep_module (Composed p n q r ts s ss t xs) ls h =
    first_then (KeptModule (Composed p n q r ts s ss t xs) ls) (Word W.Module) (contents (called n ∷ (sign q S.Semicolon ∷ (word r W.Create ∷ (models_marks ts ++ (word s W.From ∷ (models_marks ss ++ (sign t S.Semicolon ∷ (items_marks xs))))))))) ls h (λ at0 rest0 e0 h0.
    first_then (KeptModule (Composed p n q r ts s ss t xs) ls) (Shared (T.Name n.text)) (contents (sign q S.Semicolon ∷ (word r W.Create ∷ (models_marks ts ++ (word s W.From ∷ (models_marks ss ++ (sign t S.Semicolon ∷ (items_marks xs)))))))) rest0 h0 (λ at1 rest1 e1 h1.
    first_then (KeptModule (Composed p n q r ts s ss t xs) ls) (Shared (T.Fixed S.Semicolon)) (contents (word r W.Create ∷ (models_marks ts ++ (word s W.From ∷ (models_marks ss ++ (sign t S.Semicolon ∷ (items_marks xs))))))) rest1 h1 (λ at2 rest2 e2 h2.
    first_then (KeptModule (Composed p n q r ts s ss t xs) ls) (Word W.Create) (contents (models_marks ts ++ (word s W.From ∷ (models_marks ss ++ (sign t S.Semicolon ∷ (items_marks xs)))))) rest2 h2 (λ at3 rest3 e3 h3.
    part_then (KeptModule (Composed p n q r ts s ss t xs) ls) (models_marks ts) (word s W.From ∷ (models_marks ss ++ (sign t S.Semicolon ∷ (items_marks xs)))) rest3 h3 (λ front4 rest4 e4 f4 h4.
    let x4 = keep_models ts front4 f4 in
    first_then (KeptModule (Composed p n q r ts s ss t xs) ls) (Word W.From) (contents (models_marks ss ++ (sign t S.Semicolon ∷ (items_marks xs)))) rest4 h4 (λ at5 rest5 e5 h5.
    part_then (KeptModule (Composed p n q r ts s ss t xs) ls) (models_marks ss) (sign t S.Semicolon ∷ (items_marks xs)) rest5 h5 (λ front6 rest6 e6 f6 h6.
    let x6 = keep_models ss front6 f6 in
    first_then (KeptModule (Composed p n q r ts s ss t xs) ls) (Shared (T.Fixed S.Semicolon)) (contents (items_marks xs)) rest6 h6 (λ at7 rest7 e7 h7.
    let x8 = keep_items xs rest7 h7 in
    record {
      y = Composed at0 (name at1 n.text) at2 at3 x4.y at5 x6.y at7 x8.y;
      same = sym (e0 ∙ ap (λ it. mark at0 (Word W.Module) ∷ it) (e1 ∙ ap (λ it. mark at1 (Shared (T.Name n.text)) ∷ it) (e2 ∙ ap (λ it. mark at2 (Shared (T.Fixed S.Semicolon)) ∷ it) (e3 ∙ ap (λ it. mark at3 (Word W.Create) ∷ it) (e4 ∙ both (sym x4.same) (e5 ∙ ap (λ it. mark at5 (Word W.From) ∷ it) (e6 ∙ both (sym x6.same) (e7 ∙ ap (λ it. mark at7 (Shared (T.Fixed S.Semicolon)) ∷ it) (sym x8.same)))))))));
      away = ap (λ it. Composed here (name here n.text) here here it here (placed_models x6.y) here (placed_items x8.y)) x4.away ∙ ap (λ it. Composed here (name here n.text) here here (placed_models ts) here it here (placed_items x8.y)) x6.away ∙ ap (λ it. Composed here (name here n.text) here here (placed_models ts) here (placed_models ss) here it) x8.away;
      kept = λ b f. x8.kept b f;
    }))))))))
