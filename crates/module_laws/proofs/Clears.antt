-- In what is written of the grammar no keyword stands where a plain word is read as a name.
use Rattle.std.proofs.Common.{◌≡◌, List, [], ◌∷◌, ◌++◌, refl, sym, ap, subst, ◌∙◌}
use Rattle.std.specs.Prelude.{Bool, true, false, not, ◌||◌, ◌&&◌, map}
use Rattle.std.proofs.lemmas.Bool.{and_parts, and_from}
use Rattle.std.proofs.lemmas.List.{map-append}
use Rattle.atl_tree.specs.declared.expr.BinaryOp.TheVariants as O
use Rattle.atl_tree.specs.declared.expr.UnaryOp.TheVariants as U
use Rattle.ocl_parse.specs.declared.sign.Ender.TheVariants as E
use Rattle.ocl_parse.specs.declared.sign.Sign.TheVariants as S
use Rattle.ocl_parse.specs.Symbols.{Lexeme}
use Rattle.ocl_parse.specs.Grammar.{Written, Number, Words as Text, Lone, Literal, Variable, OfClass, OfBasic, Elements, If as Choice, Round, Let, Unary, Binary, Read, Call, Loop, Iterate, Arguments, None, One, More, Kind, Basic, Class, Coll, spelt, listed, kind_spelt, fixed, named}
use Rattle.module_grammar.specs.declared.keyword.Keyword.TheVariants as W
use Rattle.module_grammar.specs.Marks.{Mark, shared, word, sign, called, expression, kind_marks}
use Rattle.module_grammar.specs.Parts.{Abstract, Unique, Lazy}
use Rattle.module_grammar.specs.Grammar.{Models, OneModel, MoreModels, Params, OneParam, MoreParams, Bracketed, NoParams, SomeParams, Context, NoContext, InContext, Signature, Attribute, Operation, WrittenHelper, Define, Words, NoWords, MoreWords, Parent, NoParent, Extends, Sources, OneSource, MoreSources, Guard, NoGuard, SomeGuard, Locals, NoLocals, MoreLocals, Using, NoUsing, SomeUsing, Binds, OneBind, MoreBinds, BindList, NoList, EmptyList, SomeBinds, Targets, OneTarget, MoreTargets, To, NoTo, SomeTo, WrittenStat, Eval, Assign, If, IfElse, For, Stats, NoStats, MoreStats, Block, NoBlock, SomeBlock, Start, NoStart, Entry, End, WrittenRule, Matched, Called, WrittenItem, Help, Make, Items, NoItems, MoreItems, WrittenModule, Composed}
use Rattle.module_grammar.specs.Grammar.{models_marks, params_marks, bracketed_marks, context_marks, signature_marks, helper_marks, words_marks, parent_marks, sources_marks, guard_marks, locals_marks, using_marks, binds_marks, list_marks, targets_marks, to_marks, stat_marks, stats_marks, block_marks, start_marks, rule_marks, item_marks, items_marks, module_marks}
use Rattle.module_laws.specs.ReadBack.{contents}
use Rattle.module_laws.proofs.Spacing.{is_lead, is_gives, is_name, gives_next, Clear}

-- the mark before <-
abbrev gives_first : List Mark → Bool
gives_first [] = false
gives_first (t ∷ ts) = is_gives t.content

abbrev is_clear : Bool → List Mark → Bool
is_clear led [] = true
is_clear led (t ∷ ts) = (not (led || gives_first ts) || is_name t.content) && is_clear (is_lead t.content) ts

-- whether what follows is led
abbrev leads_on : Bool → List Mark → Bool
leads_on led [] = led
leads_on led (t ∷ ts) = leads_on (is_lead t.content) ts

unled : (b n : Bool) → (not b || n) ≡ true → b ≡ true → n ≡ true
unled true n h e = h
unled false n h e = absurd cc

first_gives : (ts : List Mark) → gives_next (contents ts) ≡ gives_first ts
first_gives [] = refl
first_gives (t ∷ ts) = refl

clear_so : (led : Bool) (ts : List Mark) → is_clear led ts ≡ true → Clear led (contents ts)
clear_so led [] h = tt
clear_so led (t ∷ ts) h =
    let parts = and_parts (not (led || gives_first ts) || is_name t.content) (is_clear (is_lead t.content) ts) h in
    (λ e. unled (led || gives_first ts) (is_name t.content) parts.0 (ap (λ b. led || b) (sym (first_gives ts)) ∙ e), clear_so (is_lead t.content) ts parts.1)

abbrev Fine : List Mark → Type 0
Fine ts = (is_clear false ts ≡ true) × (leads_on false ts ≡ false) × (gives_first ts ≡ false)

clear_append : (led : Bool) (xs ys : List Mark) → is_clear led xs ≡ true → is_clear (leads_on led xs) ys ≡ true → gives_first ys ≡ false → is_clear led (xs ++ ys) ≡ true
clear_append led [] ys h k g = k
clear_append led (t ∷ []) ys h k g =
    let parts = and_parts (not (led || false) || is_name t.content) true h in
    and_from (not (led || gives_first ys) || is_name t.content) (is_clear (is_lead t.content) ys) (ap (λ b. not (led || b) || is_name t.content) g ∙ parts.0) k
clear_append led (t ∷ u ∷ xs) ys h k g =
    let parts = and_parts (not (led || is_gives u.content) || is_name t.content) (is_clear (is_lead t.content) (u ∷ xs)) h in
    and_from (not (led || is_gives u.content) || is_name t.content) (is_clear (is_lead t.content) ((u ∷ xs) ++ ys)) parts.0 (clear_append (is_lead t.content) (u ∷ xs) ys parts.1 k g)

leads_append : (led : Bool) (xs ys : List Mark) → leads_on led (xs ++ ys) ≡ leads_on (leads_on led xs) ys
leads_append led [] ys = refl
leads_append led (t ∷ xs) ys = leads_append (is_lead t.content) xs ys

first_append : (xs ys : List Mark) → gives_first xs ≡ false → gives_first ys ≡ false → gives_first (xs ++ ys) ≡ false
first_append [] ys g h = h
first_append (t ∷ xs) ys g h = g

join : (xs ys : List Mark) → Fine xs → Fine ys → Fine (xs ++ ys)
join xs ys f g = (
  clear_append false xs ys f.0 (ap (λ b. is_clear b ys) f.1 ∙ g.0) g.2,
  leads_append false xs ys ∙ ap (λ b. leads_on b ys) f.1 ∙ g.1,
  first_append xs ys f.2 g.2,
)

-- ---- expressions

abbrev FineL : List Lexeme → Type 0
FineL ts = Fine (map shared ts)

joinl : (xs ys : List Lexeme) → FineL xs → FineL ys → FineL (xs ++ ys)
joinl xs ys f g = subst Fine (sym (map-append shared xs ys)) (join (map shared xs) (map shared ys) f g)

fine_kind : (k : Kind) → FineL (kind_spelt k)
fine_kind (Basic p w) = (refl, refl, refl)
fine_kind (Class m p c) = (refl, refl, refl)
fine_kind (Coll p w q k r) = joinl (fixed p (S.Coll w) ∷ fixed q S.Open ∷ []) (kind_spelt k ++ (fixed r (S.End E.Close) ∷ [])) (refl, refl, refl) (joinl (kind_spelt k) (fixed r (S.End E.Close) ∷ []) (fine_kind k) (refl, refl, refl))

mutual
  fine : (w : Written) → FineL (spelt w)
  fine (Number p n) = (refl, refl, refl)
  fine (Text p s) = (refl, refl, refl)
  fine (Lone p c) = (refl, refl, refl)
  fine (Literal p n) = (refl, refl, refl)
  fine (Variable n) = (refl, refl, refl)
  fine (OfClass m p c) = (refl, refl, refl)
  fine (OfBasic p w) = (refl, refl, refl)
  fine (Elements p w q es r) = joinl (fixed p (S.Coll w) ∷ fixed q S.OpenBrace ∷ []) (listed es ++ (fixed r (S.End E.CloseBrace) ∷ [])) (refl, refl, refl) (joinl (listed es) (fixed r (S.End E.CloseBrace) ∷ []) (fines es) (refl, refl, refl))
  fine (Choice p c q a r b s) = joinl (fixed p S.If ∷ []) (spelt c ++ ((fixed q (S.End E.Then) ∷ []) ++ (spelt a ++ ((fixed r (S.End E.Else) ∷ []) ++ (spelt b ++ (fixed s (S.End E.Endif) ∷ [])))))) (refl, refl, refl) (joinl (spelt c) ((fixed q (S.End E.Then) ∷ []) ++ (spelt a ++ ((fixed r (S.End E.Else) ∷ []) ++ (spelt b ++ (fixed s (S.End E.Endif) ∷ []))))) (fine c) (joinl (fixed q (S.End E.Then) ∷ []) (spelt a ++ ((fixed r (S.End E.Else) ∷ []) ++ (spelt b ++ (fixed s (S.End E.Endif) ∷ [])))) (refl, refl, refl) (joinl (spelt a) ((fixed r (S.End E.Else) ∷ []) ++ (spelt b ++ (fixed s (S.End E.Endif) ∷ []))) (fine a) (joinl (fixed r (S.End E.Else) ∷ []) (spelt b ++ (fixed s (S.End E.Endif) ∷ [])) (refl, refl, refl) (joinl (spelt b) (fixed s (S.End E.Endif) ∷ []) (fine b) (refl, refl, refl))))))
  fine (Round p w q) = joinl (fixed p S.Open ∷ []) (spelt w ++ (fixed q (S.End E.Close) ∷ [])) (refl, refl, refl) (joinl (spelt w) (fixed q (S.End E.Close) ∷ []) (fine w) (refl, refl, refl))
  fine (Let p n q k r e s b) = joinl (fixed p S.Let ∷ named n ∷ fixed q S.Colon ∷ []) (kind_spelt k ++ ((fixed r (S.Operator O.Eq) ∷ []) ++ (spelt e ++ ((fixed s (S.End E.In) ∷ []) ++ (spelt b))))) (refl, refl, refl) (joinl (kind_spelt k) ((fixed r (S.Operator O.Eq) ∷ []) ++ (spelt e ++ ((fixed s (S.End E.In) ∷ []) ++ (spelt b)))) (fine_kind k) (joinl (fixed r (S.Operator O.Eq) ∷ []) (spelt e ++ ((fixed s (S.End E.In) ∷ []) ++ (spelt b))) (refl, refl, refl) (joinl (spelt e) ((fixed s (S.End E.In) ∷ []) ++ (spelt b)) (fine e) (joinl (fixed s (S.End E.In) ∷ []) (spelt b) (refl, refl, refl) ((fine b))))))
  fine (Unary p U.Not w) = joinl (fixed p S.Not ∷ []) (spelt w) (refl, refl, refl) ((fine w))
  fine (Unary p U.Neg w) = joinl (fixed p (S.Operator O.Minus) ∷ []) (spelt w) (refl, refl, refl) ((fine w))
  fine (Binary a p o b) = joinl (spelt a) ((fixed p (S.Operator o) ∷ []) ++ (spelt b)) (fine a) (joinl (fixed p (S.Operator o) ∷ []) (spelt b) (refl, refl, refl) ((fine b)))
  fine (Read a p n) = joinl (spelt a) (fixed p S.Dot ∷ named n ∷ []) (fine a) (refl, refl, refl)
  fine (Call a true p n q es r) = joinl (spelt a) ((fixed p S.Arrow ∷ named n ∷ fixed q S.Open ∷ []) ++ (listed es ++ (fixed r (S.End E.Close) ∷ []))) (fine a) (joinl (fixed p S.Arrow ∷ named n ∷ fixed q S.Open ∷ []) (listed es ++ (fixed r (S.End E.Close) ∷ [])) (refl, refl, refl) (joinl (listed es) (fixed r (S.End E.Close) ∷ []) (fines es) (refl, refl, refl)))
  fine (Call a false p n q es r) = joinl (spelt a) ((fixed p S.Dot ∷ named n ∷ fixed q S.Open ∷ []) ++ (listed es ++ (fixed r (S.End E.Close) ∷ []))) (fine a) (joinl (fixed p S.Dot ∷ named n ∷ fixed q S.Open ∷ []) (listed es ++ (fixed r (S.End E.Close) ∷ [])) (refl, refl, refl) (joinl (listed es) (fixed r (S.End E.Close) ∷ []) (fines es) (refl, refl, refl)))
  fine (Loop a p n q x r e s) = joinl (spelt a) ((fixed p S.Arrow ∷ named n ∷ fixed q S.Open ∷ named x ∷ fixed r (S.End E.Bar) ∷ []) ++ (spelt e ++ (fixed s (S.End E.Close) ∷ []))) (fine a) (joinl (fixed p S.Arrow ∷ named n ∷ fixed q S.Open ∷ named x ∷ fixed r (S.End E.Bar) ∷ []) (spelt e ++ (fixed s (S.End E.Close) ∷ [])) (refl, refl, refl) (joinl (spelt e) (fixed s (S.End E.Close) ∷ []) (fine e) (refl, refl, refl)))
  fine (Iterate a p n q x r y s k t i u e v) = joinl (spelt a) ((fixed p S.Arrow ∷ named n ∷ fixed q S.Open ∷ named x ∷ fixed r S.Semicolon ∷ named y ∷ fixed s S.Colon ∷ []) ++ (kind_spelt k ++ ((fixed t (S.Operator O.Eq) ∷ []) ++ (spelt i ++ ((fixed u (S.End E.Bar) ∷ []) ++ (spelt e ++ (fixed v (S.End E.Close) ∷ []))))))) (fine a) (joinl (fixed p S.Arrow ∷ named n ∷ fixed q S.Open ∷ named x ∷ fixed r S.Semicolon ∷ named y ∷ fixed s S.Colon ∷ []) (kind_spelt k ++ ((fixed t (S.Operator O.Eq) ∷ []) ++ (spelt i ++ ((fixed u (S.End E.Bar) ∷ []) ++ (spelt e ++ (fixed v (S.End E.Close) ∷ [])))))) (refl, refl, refl) (joinl (kind_spelt k) ((fixed t (S.Operator O.Eq) ∷ []) ++ (spelt i ++ ((fixed u (S.End E.Bar) ∷ []) ++ (spelt e ++ (fixed v (S.End E.Close) ∷ []))))) (fine_kind k) (joinl (fixed t (S.Operator O.Eq) ∷ []) (spelt i ++ ((fixed u (S.End E.Bar) ∷ []) ++ (spelt e ++ (fixed v (S.End E.Close) ∷ [])))) (refl, refl, refl) (joinl (spelt i) ((fixed u (S.End E.Bar) ∷ []) ++ (spelt e ++ (fixed v (S.End E.Close) ∷ []))) (fine i) (joinl (fixed u (S.End E.Bar) ∷ []) (spelt e ++ (fixed v (S.End E.Close) ∷ [])) (refl, refl, refl) (joinl (spelt e) (fixed v (S.End E.Close) ∷ []) (fine e) (refl, refl, refl)))))))

  fines : (es : Arguments) → FineL (listed es)
  fines None = (refl, refl, refl)
  fines (One e) = fine e
  fines (More es p e) = joinl (listed es) ((fixed p (S.End E.Comma) ∷ []) ++ (spelt e)) (fines es) (joinl (fixed p (S.End E.Comma) ∷ []) (spelt e) (refl, refl, refl) ((fine e)))

fine_models : (x : Models) → Fine (models_marks x)
fine_models (OneModel m p n) = (refl, refl, refl)
fine_models (MoreModels ms c m p n) = join (models_marks ms) (sign c (S.End E.Comma) ∷ called m ∷ sign p S.Colon ∷ called n ∷ []) (fine_models ms) (refl, refl, refl)

fine_params : (x : Params) → Fine (params_marks x)
fine_params (OneParam n p k) = join (called n ∷ sign p S.Colon ∷ []) (kind_marks k) (refl, refl, refl) ((fine_kind k))
fine_params (MoreParams ps c n p k) = join (params_marks ps) ((sign c (S.End E.Comma) ∷ called n ∷ sign p S.Colon ∷ []) ++ (kind_marks k)) (fine_params ps) (join (sign c (S.End E.Comma) ∷ called n ∷ sign p S.Colon ∷ []) (kind_marks k) (refl, refl, refl) ((fine_kind k)))

fine_bracketed : (x : Bracketed) → Fine (bracketed_marks x)
fine_bracketed (NoParams p q) = (refl, refl, refl)
fine_bracketed (SomeParams p ps q) = join (sign p S.Open ∷ []) (params_marks ps ++ (sign q (S.End E.Close) ∷ [])) (refl, refl, refl) (join (params_marks ps) (sign q (S.End E.Close) ∷ []) (fine_params ps) (refl, refl, refl))

fine_context : (x : Context) → Fine (context_marks x)
fine_context NoContext = (refl, refl, refl)
fine_context (InContext p k) = join (word p W.Context ∷ []) (kind_marks k) (refl, refl, refl) ((fine_kind k))

fine_signature : (x : Signature) → Fine (signature_marks x)
fine_signature Attribute = (refl, refl, refl)
fine_signature (Operation ps) = (fine_bracketed ps)

fine_helper : (x : WrittenHelper) → Fine (helper_marks x)
fine_helper (Define p c q r n s t k u e v) = join (word p W.Helper ∷ []) (context_marks c ++ ((word q W.Def ∷ sign r S.Colon ∷ called n ∷ []) ++ (signature_marks s ++ ((sign t S.Colon ∷ []) ++ (kind_marks k ++ ((sign u (S.Operator O.Eq) ∷ []) ++ (expression e ++ (sign v S.Semicolon ∷ [])))))))) (refl, refl, refl) (join (context_marks c) ((word q W.Def ∷ sign r S.Colon ∷ called n ∷ []) ++ (signature_marks s ++ ((sign t S.Colon ∷ []) ++ (kind_marks k ++ ((sign u (S.Operator O.Eq) ∷ []) ++ (expression e ++ (sign v S.Semicolon ∷ []))))))) (fine_context c) (join (word q W.Def ∷ sign r S.Colon ∷ called n ∷ []) (signature_marks s ++ ((sign t S.Colon ∷ []) ++ (kind_marks k ++ ((sign u (S.Operator O.Eq) ∷ []) ++ (expression e ++ (sign v S.Semicolon ∷ [])))))) (refl, refl, refl) (join (signature_marks s) ((sign t S.Colon ∷ []) ++ (kind_marks k ++ ((sign u (S.Operator O.Eq) ∷ []) ++ (expression e ++ (sign v S.Semicolon ∷ []))))) (fine_signature s) (join (sign t S.Colon ∷ []) (kind_marks k ++ ((sign u (S.Operator O.Eq) ∷ []) ++ (expression e ++ (sign v S.Semicolon ∷ [])))) (refl, refl, refl) (join (kind_marks k) ((sign u (S.Operator O.Eq) ∷ []) ++ (expression e ++ (sign v S.Semicolon ∷ []))) (fine_kind k) (join (sign u (S.Operator O.Eq) ∷ []) (expression e ++ (sign v S.Semicolon ∷ [])) (refl, refl, refl) (join (expression e) (sign v S.Semicolon ∷ []) (fine e) (refl, refl, refl))))))))

fine_words : (x : Words) → Fine (words_marks x)
fine_words NoWords = (refl, refl, refl)
fine_words (MoreWords ws p Abstract) = join (words_marks ws) (word p W.Abstract ∷ []) (fine_words ws) (refl, refl, refl)
fine_words (MoreWords ws p Unique) = join (words_marks ws) (word p W.Unique ∷ []) (fine_words ws) (refl, refl, refl)
fine_words (MoreWords ws p Lazy) = join (words_marks ws) (word p W.Lazy ∷ []) (fine_words ws) (refl, refl, refl)

fine_parent : (x : Parent) → Fine (parent_marks x)
fine_parent NoParent = (refl, refl, refl)
fine_parent (Extends p n) = (refl, refl, refl)

fine_sources : (x : Sources) → Fine (sources_marks x)
fine_sources (OneSource n p m q c) = (refl, refl, refl)
fine_sources (MoreSources ss r n p m q c) = join (sources_marks ss) (sign r (S.End E.Comma) ∷ called n ∷ sign p S.Colon ∷ called m ∷ sign q S.Bang ∷ called c ∷ []) (fine_sources ss) (refl, refl, refl)

fine_guard : (x : Guard) → Fine (guard_marks x)
fine_guard NoGuard = (refl, refl, refl)
fine_guard (SomeGuard p e q) = join (sign p S.Open ∷ []) (expression e ++ (sign q (S.End E.Close) ∷ [])) (refl, refl, refl) (join (expression e) (sign q (S.End E.Close) ∷ []) (fine e) (refl, refl, refl))

fine_locals : (x : Locals) → Fine (locals_marks x)
fine_locals NoLocals = (refl, refl, refl)
fine_locals (MoreLocals ls n p k q e r) = join (locals_marks ls) ((called n ∷ sign p S.Colon ∷ []) ++ (kind_marks k ++ ((sign q (S.Operator O.Eq) ∷ []) ++ (expression e ++ (sign r S.Semicolon ∷ []))))) (fine_locals ls) (join (called n ∷ sign p S.Colon ∷ []) (kind_marks k ++ ((sign q (S.Operator O.Eq) ∷ []) ++ (expression e ++ (sign r S.Semicolon ∷ [])))) (refl, refl, refl) (join (kind_marks k) ((sign q (S.Operator O.Eq) ∷ []) ++ (expression e ++ (sign r S.Semicolon ∷ []))) (fine_kind k) (join (sign q (S.Operator O.Eq) ∷ []) (expression e ++ (sign r S.Semicolon ∷ [])) (refl, refl, refl) (join (expression e) (sign r S.Semicolon ∷ []) (fine e) (refl, refl, refl)))))

fine_using : (x : Using) → Fine (using_marks x)
fine_using NoUsing = (refl, refl, refl)
fine_using (SomeUsing p q ls r) = join (word p W.Using ∷ sign q S.OpenBrace ∷ []) (locals_marks ls ++ (sign r (S.End E.CloseBrace) ∷ [])) (refl, refl, refl) (join (locals_marks ls) (sign r (S.End E.CloseBrace) ∷ []) (fine_locals ls) (refl, refl, refl))

fine_binds : (x : Binds) → Fine (binds_marks x)
fine_binds (OneBind n p e) = join (called n ∷ word p W.Gives ∷ []) (expression e) (refl, refl, refl) ((fine e))
fine_binds (MoreBinds bs c n p e) = join (binds_marks bs) ((sign c (S.End E.Comma) ∷ called n ∷ word p W.Gives ∷ []) ++ (expression e)) (fine_binds bs) (join (sign c (S.End E.Comma) ∷ called n ∷ word p W.Gives ∷ []) (expression e) (refl, refl, refl) ((fine e)))

fine_list : (x : BindList) → Fine (list_marks x)
fine_list NoList = (refl, refl, refl)
fine_list (EmptyList p q) = (refl, refl, refl)
fine_list (SomeBinds p bs q) = join (sign p S.Open ∷ []) (binds_marks bs ++ (sign q (S.End E.Close) ∷ [])) (refl, refl, refl) (join (binds_marks bs) (sign q (S.End E.Close) ∷ []) (fine_binds bs) (refl, refl, refl))

fine_targets : (x : Targets) → Fine (targets_marks x)
fine_targets (OneTarget n p m q c bs) = join (called n ∷ sign p S.Colon ∷ called m ∷ sign q S.Bang ∷ called c ∷ []) (list_marks bs) (refl, refl, refl) ((fine_list bs))
fine_targets (MoreTargets ts r n p m q c bs) = join (targets_marks ts) ((sign r (S.End E.Comma) ∷ called n ∷ sign p S.Colon ∷ called m ∷ sign q S.Bang ∷ called c ∷ []) ++ (list_marks bs)) (fine_targets ts) (join (sign r (S.End E.Comma) ∷ called n ∷ sign p S.Colon ∷ called m ∷ sign q S.Bang ∷ called c ∷ []) (list_marks bs) (refl, refl, refl) ((fine_list bs)))

fine_to : (x : To) → Fine (to_marks x)
fine_to NoTo = (refl, refl, refl)
fine_to (SomeTo p ts) = join (word p W.To ∷ []) (targets_marks ts) (refl, refl, refl) ((fine_targets ts))

mutual
  fine_stat : (x : WrittenStat) → Fine (stat_marks x)
  fine_stat (Eval e p) = join (expression e) (sign p S.Semicolon ∷ []) (fine e) (refl, refl, refl)
  fine_stat (Assign e p n q v r) = join (expression e) ((sign p S.Dot ∷ called n ∷ word q W.Gives ∷ []) ++ (expression v ++ (sign r S.Semicolon ∷ []))) (fine e) (join (sign p S.Dot ∷ called n ∷ word q W.Gives ∷ []) (expression v ++ (sign r S.Semicolon ∷ [])) (refl, refl, refl) (join (expression v) (sign r S.Semicolon ∷ []) (fine v) (refl, refl, refl)))
  fine_stat (If p q e r s ss t) = join (sign p S.If ∷ sign q S.Open ∷ []) (expression e ++ ((sign r (S.End E.Close) ∷ sign s S.OpenBrace ∷ []) ++ (stats_marks ss ++ (sign t (S.End E.CloseBrace) ∷ [])))) (refl, refl, refl) (join (expression e) ((sign r (S.End E.Close) ∷ sign s S.OpenBrace ∷ []) ++ (stats_marks ss ++ (sign t (S.End E.CloseBrace) ∷ []))) (fine e) (join (sign r (S.End E.Close) ∷ sign s S.OpenBrace ∷ []) (stats_marks ss ++ (sign t (S.End E.CloseBrace) ∷ [])) (refl, refl, refl) (join (stats_marks ss) (sign t (S.End E.CloseBrace) ∷ []) (fine_stats ss) (refl, refl, refl))))
  fine_stat (IfElse p q e r s ss t u v zs z) = join (sign p S.If ∷ sign q S.Open ∷ []) (expression e ++ ((sign r (S.End E.Close) ∷ sign s S.OpenBrace ∷ []) ++ (stats_marks ss ++ ((sign t (S.End E.CloseBrace) ∷ sign u (S.End E.Else) ∷ sign v S.OpenBrace ∷ []) ++ (stats_marks zs ++ (sign z (S.End E.CloseBrace) ∷ [])))))) (refl, refl, refl) (join (expression e) ((sign r (S.End E.Close) ∷ sign s S.OpenBrace ∷ []) ++ (stats_marks ss ++ ((sign t (S.End E.CloseBrace) ∷ sign u (S.End E.Else) ∷ sign v S.OpenBrace ∷ []) ++ (stats_marks zs ++ (sign z (S.End E.CloseBrace) ∷ []))))) (fine e) (join (sign r (S.End E.Close) ∷ sign s S.OpenBrace ∷ []) (stats_marks ss ++ ((sign t (S.End E.CloseBrace) ∷ sign u (S.End E.Else) ∷ sign v S.OpenBrace ∷ []) ++ (stats_marks zs ++ (sign z (S.End E.CloseBrace) ∷ [])))) (refl, refl, refl) (join (stats_marks ss) ((sign t (S.End E.CloseBrace) ∷ sign u (S.End E.Else) ∷ sign v S.OpenBrace ∷ []) ++ (stats_marks zs ++ (sign z (S.End E.CloseBrace) ∷ []))) (fine_stats ss) (join (sign t (S.End E.CloseBrace) ∷ sign u (S.End E.Else) ∷ sign v S.OpenBrace ∷ []) (stats_marks zs ++ (sign z (S.End E.CloseBrace) ∷ [])) (refl, refl, refl) (join (stats_marks zs) (sign z (S.End E.CloseBrace) ∷ []) (fine_stats zs) (refl, refl, refl))))))
  fine_stat (For p q n r e s t ss u) = join (word p W.For ∷ sign q S.Open ∷ called n ∷ sign r (S.End E.In) ∷ []) (expression e ++ ((sign s (S.End E.Close) ∷ sign t S.OpenBrace ∷ []) ++ (stats_marks ss ++ (sign u (S.End E.CloseBrace) ∷ [])))) (refl, refl, refl) (join (expression e) ((sign s (S.End E.Close) ∷ sign t S.OpenBrace ∷ []) ++ (stats_marks ss ++ (sign u (S.End E.CloseBrace) ∷ []))) (fine e) (join (sign s (S.End E.Close) ∷ sign t S.OpenBrace ∷ []) (stats_marks ss ++ (sign u (S.End E.CloseBrace) ∷ [])) (refl, refl, refl) (join (stats_marks ss) (sign u (S.End E.CloseBrace) ∷ []) (fine_stats ss) (refl, refl, refl))))

  fine_stats : (x : Stats) → Fine (stats_marks x)
  fine_stats NoStats = (refl, refl, refl)
  fine_stats (MoreStats ss s) = join (stats_marks ss) (stat_marks s) (fine_stats ss) ((fine_stat s))

fine_block : (x : Block) → Fine (block_marks x)
fine_block NoBlock = (refl, refl, refl)
fine_block (SomeBlock p q ss r) = join (word p W.Do ∷ sign q S.OpenBrace ∷ []) (stats_marks ss ++ (sign r (S.End E.CloseBrace) ∷ [])) (refl, refl, refl) (join (stats_marks ss) (sign r (S.End E.CloseBrace) ∷ []) (fine_stats ss) (refl, refl, refl))

fine_start : (x : Start) → Fine (start_marks x)
fine_start NoStart = (refl, refl, refl)
fine_start (Entry p) = (refl, refl, refl)
fine_start (End p) = (refl, refl, refl)

fine_rule : (x : WrittenRule) → Fine (rule_marks x)
fine_rule (Matched ws p n x q r ss g u t b s) = join (words_marks ws) ((word p W.Rule ∷ called n ∷ []) ++ (parent_marks x ++ ((sign q S.OpenBrace ∷ word r W.From ∷ []) ++ (sources_marks ss ++ (guard_marks g ++ (using_marks u ++ (to_marks t ++ (block_marks b ++ (sign s (S.End E.CloseBrace) ∷ []))))))))) (fine_words ws) (join (word p W.Rule ∷ called n ∷ []) (parent_marks x ++ ((sign q S.OpenBrace ∷ word r W.From ∷ []) ++ (sources_marks ss ++ (guard_marks g ++ (using_marks u ++ (to_marks t ++ (block_marks b ++ (sign s (S.End E.CloseBrace) ∷ [])))))))) (refl, refl, refl) (join (parent_marks x) ((sign q S.OpenBrace ∷ word r W.From ∷ []) ++ (sources_marks ss ++ (guard_marks g ++ (using_marks u ++ (to_marks t ++ (block_marks b ++ (sign s (S.End E.CloseBrace) ∷ []))))))) (fine_parent x) (join (sign q S.OpenBrace ∷ word r W.From ∷ []) (sources_marks ss ++ (guard_marks g ++ (using_marks u ++ (to_marks t ++ (block_marks b ++ (sign s (S.End E.CloseBrace) ∷ [])))))) (refl, refl, refl) (join (sources_marks ss) (guard_marks g ++ (using_marks u ++ (to_marks t ++ (block_marks b ++ (sign s (S.End E.CloseBrace) ∷ []))))) (fine_sources ss) (join (guard_marks g) (using_marks u ++ (to_marks t ++ (block_marks b ++ (sign s (S.End E.CloseBrace) ∷ [])))) (fine_guard g) (join (using_marks u) (to_marks t ++ (block_marks b ++ (sign s (S.End E.CloseBrace) ∷ []))) (fine_using u) (join (to_marks t) (block_marks b ++ (sign s (S.End E.CloseBrace) ∷ [])) (fine_to t) (join (block_marks b) (sign s (S.End E.CloseBrace) ∷ []) (fine_block b) (refl, refl, refl)))))))))
fine_rule (Called x p n ps q u t b s) = join (start_marks x) ((word p W.Rule ∷ called n ∷ []) ++ (bracketed_marks ps ++ ((sign q S.OpenBrace ∷ []) ++ (using_marks u ++ (to_marks t ++ (block_marks b ++ (sign s (S.End E.CloseBrace) ∷ []))))))) (fine_start x) (join (word p W.Rule ∷ called n ∷ []) (bracketed_marks ps ++ ((sign q S.OpenBrace ∷ []) ++ (using_marks u ++ (to_marks t ++ (block_marks b ++ (sign s (S.End E.CloseBrace) ∷ [])))))) (refl, refl, refl) (join (bracketed_marks ps) ((sign q S.OpenBrace ∷ []) ++ (using_marks u ++ (to_marks t ++ (block_marks b ++ (sign s (S.End E.CloseBrace) ∷ []))))) (fine_bracketed ps) (join (sign q S.OpenBrace ∷ []) (using_marks u ++ (to_marks t ++ (block_marks b ++ (sign s (S.End E.CloseBrace) ∷ [])))) (refl, refl, refl) (join (using_marks u) (to_marks t ++ (block_marks b ++ (sign s (S.End E.CloseBrace) ∷ []))) (fine_using u) (join (to_marks t) (block_marks b ++ (sign s (S.End E.CloseBrace) ∷ [])) (fine_to t) (join (block_marks b) (sign s (S.End E.CloseBrace) ∷ []) (fine_block b) (refl, refl, refl)))))))

fine_item : (x : WrittenItem) → Fine (item_marks x)
fine_item (Help h) = (fine_helper h)
fine_item (Make r) = (fine_rule r)

fine_items : (x : Items) → Fine (items_marks x)
fine_items NoItems = (refl, refl, refl)
fine_items (MoreItems xs i) = join (items_marks xs) (item_marks i) (fine_items xs) ((fine_item i))

fine_module : (x : WrittenModule) → Fine (module_marks x)
fine_module (Composed p n q r ts s ss t xs) = join (word p W.Module ∷ called n ∷ sign q S.Semicolon ∷ word r W.Create ∷ []) (models_marks ts ++ ((word s W.From ∷ []) ++ (models_marks ss ++ ((sign t S.Semicolon ∷ []) ++ (items_marks xs))))) (refl, refl, refl) (join (models_marks ts) ((word s W.From ∷ []) ++ (models_marks ss ++ ((sign t S.Semicolon ∷ []) ++ (items_marks xs)))) (fine_models ts) (join (word s W.From ∷ []) (models_marks ss ++ ((sign t S.Semicolon ∷ []) ++ (items_marks xs))) (refl, refl, refl) (join (models_marks ss) ((sign t S.Semicolon ∷ []) ++ (items_marks xs)) (fine_models ss) (join (sign t S.Semicolon ∷ []) (items_marks xs) (refl, refl, refl) ((fine_items xs))))))

pub clear_module : (w : WrittenModule) → Clear false (contents (module_marks w))
clear_module w = clear_so false (module_marks w) (fine_module w).0
