-- The text of declarations is that of their parts.
use Rattle.std.proofs.Common.{◌≡◌, ℕ, length, Some, false, List, [], ◌∷◌, ◌++◌, refl, sym, ap, ◌∙◌, append_assoc}
use Rattle.std.specs.Prelude.{codes}
use Rattle.std.specs.List.{flat_map}
use Rattle.std.proofs.lemmas.List.{append-nil}
use Rattle.atl_tree.specs.declared.module.ModelDecl.{ModelDecl}
use Rattle.atl_tree.specs.declared.module.Module.{Module}
use Rattle.atl_tree.specs.declared.module.Item.{Item}
use Rattle.atl_tree.specs.declared.module.Helper.{Helper}
use Rattle.atl_tree.specs.declared.module.Rule.{Rule}
use Rattle.atl_tree.specs.declared.module.Param.{Param}
use Rattle.atl_tree.specs.declared.module.Pattern.{Pattern}
use Rattle.atl_tree.specs.declared.module.LocalVar.{LocalVar}
use Rattle.atl_tree.specs.declared.module.Target.{Target}
use Rattle.atl_tree.specs.declared.module.Bind.{Bind}
use Rattle.atl_tree.specs.declared.kind.KindNode.{KindNode}
use Rattle.atl_tree.specs.declared.expr.Expr.{Expr}
use Rattle.atl_tree.specs.declared.module.Stat.{Stat}
use Rattle.atl_tree.specs.declared.module.RuleSort.TheVariants as R
use Rattle.ocl_parse.specs.declared.sign.Ender.TheVariants as E
use Rattle.ocl_parse.specs.declared.sign.Sign.TheVariants as S
use Rattle.atl_tree.specs.declared.expr.BinaryOp.TheVariants as O
use Rattle.ocl_parse.specs.Trees.{name}
use Rattle.ocl_parse.specs.Grammar.{kind_spelt}
use Rattle.module_grammar.specs.declared.keyword.Keyword.TheVariants as W
use Rattle.module_grammar.specs.Marks.{Mark, word, sign, called, expression, kind_marks}
use Rattle.module_grammar.specs.Grammar.{Models, MoreModels, Params, OneParam, MoreParams, Sources, MoreSources, Locals, NoLocals, MoreLocals, Binds, OneBind, MoreBinds, Targets, OneTarget, MoreTargets, Items, NoItems, MoreItems, Words, Start, models_marks, params_marks, bracketed_marks, context_marks, signature_marks, helper_marks, words_marks, parent_marks, sources_marks, guard_marks, locals_marks, using_marks, binds_marks, list_marks, targets_marks, to_marks, block_marks, start_marks, rule_marks, item_marks}
use Rattle.module_print.specs.Writing.{here, name_here, kind_written, whole_written, models_written, more_models, more_params, bracketed_written, context_written, signature_written, helper_written, abstract_words, sort_words, parent_written, more_sources, sources_written, guard_written, more_locals, using_written, more_binds, list_written, more_targets, to_written, block_written, called_written, matched_written, item_written, more_items}
use Rattle.module_print.specs.Printed.{name_text, mark_text, line_text, items_text, printed}
use Rattle.module_print.specs.Pending.{spaced, kind_text, expr_text, stat_text}
use Rattle.module_print.specs.Fragments.{token, comma, model_text, param_text, params_text, source_text, local_text, bind_text, target_text, rest_text, head_text, called_text, first_line, second_line}
use Rattle.module_print.proofs.Opened.{spaced-append, spaced-shared}
use Rattle.module_print.proofs.StatTexts.{stats_text}

models_more : (ms : Models) (ds : List ModelDecl) → spaced (models_marks (more_models ms ds)) ≡ spaced (models_marks ms) ++ flat_map (λ d. comma (model_text d)) ds
models_more ms [] = sym (append-nil (spaced (models_marks ms)))
models_more ms (d ∷ ds) =
    models_more (MoreModels ms here (name_here d.model) here (name_here d.meta)) ds
    ∙ ap (λ l. l ++ flat_map (λ x. comma (model_text x)) ds) (spaced-append (models_marks ms) (sign here (S.End E.Comma) ∷ called (name_here d.model) ∷ sign here S.Colon ∷ called (name_here d.meta) ∷ []))
    ∙ append_assoc (spaced (models_marks ms)) (comma (model_text d)) (flat_map (λ x. comma (model_text x)) ds)

pub models_texts : (d : ModelDecl) (ds : List ModelDecl) → spaced (models_marks (models_written (d ∷ ds))) ≡ model_text d ++ flat_map (λ x. comma (model_text x)) ds
models_texts d ds = models_more _ ds

params_more : (ps : Params) (qs : List Param) → spaced (params_marks (more_params ps qs)) ≡ spaced (params_marks ps) ++ flat_map (λ p. comma (param_text p)) qs
params_more ps [] = sym (append-nil (spaced (params_marks ps)))
params_more ps (q ∷ qs) =
    params_more (MoreParams ps here (name_here q.name) here (kind_written q.kind)) qs
    ∙ ap (λ l. l ++ flat_map (λ x. comma (param_text x)) qs) (spaced-append (params_marks ps) (sign here (S.End E.Comma) ∷ called (name_here q.name) ∷ sign here S.Colon ∷ kind_marks (kind_written q.kind))
    ∙ ap (λ l. spaced (params_marks ps) ++ comma (token (name_text q.name.text) (token (codes ":") l))) (spaced-shared (kind_spelt (kind_written q.kind))))
    ∙ append_assoc (spaced (params_marks ps)) (comma (param_text q)) (flat_map (λ x. comma (param_text x)) qs)

pub bracketed_texts : (ps : List Param) → spaced (bracketed_marks (bracketed_written ps)) ≡ token (codes "(") (params_text ps ++ token (codes ")") [])
bracketed_texts [] = refl
bracketed_texts (q ∷ qs) =
    ap (λ l. token (codes "(") l) (spaced-append (params_marks (more_params (OneParam (name_here q.name) here (kind_written q.kind)) qs)) (sign here (S.End E.Close) ∷ [])
    ∙ ap (λ l. l ++ token (codes ")") []) (params_more (OneParam (name_here q.name) here (kind_written q.kind)) qs
    ∙ ap (λ l. token (name_text q.name.text) (token (codes ":") l) ++ flat_map (λ p. comma (param_text p)) qs) (spaced-shared (kind_spelt (kind_written q.kind)))))

sources_more : (ss : Sources) (qs : List Pattern) → spaced (sources_marks (more_sources ss qs)) ≡ spaced (sources_marks ss) ++ flat_map (λ p. comma (source_text p)) qs
sources_more ss [] = sym (append-nil (spaced (sources_marks ss)))
sources_more ss (q ∷ qs) =
    sources_more (MoreSources ss _ _ _ _ _ _) qs ∙ ap (λ l. l ++ flat_map (λ x. comma (source_text x)) qs) (spaced-append (sources_marks ss) _) ∙ append_assoc (spaced (sources_marks ss)) (comma (source_text q)) (flat_map (λ x. comma (source_text x)) qs)

pub sources_texts : (q : Pattern) (qs : List Pattern) → spaced (sources_marks (sources_written (q ∷ qs))) ≡ source_text q ++ flat_map (λ x. comma (source_text x)) qs
sources_texts q qs = sources_more _ qs

abbrev local_marks : LocalVar → List Mark
local_marks v = called (name_here v.name) ∷ sign here S.Colon ∷ (kind_marks (kind_written v.kind) ++ (sign here (S.Operator O.Eq) ∷ (expression (whole_written v.value) ++ (sign here S.Semicolon ∷ []))))

local_is : (v : LocalVar) → spaced (local_marks v) ≡ local_text v
local_is v = simp (spaced-append, spaced-shared)

locals_more : (ls : Locals) (vs : List LocalVar) → spaced (locals_marks (more_locals ls vs)) ≡ spaced (locals_marks ls) ++ flat_map local_text vs
locals_more ls [] = sym (append-nil (spaced (locals_marks ls)))
locals_more ls (v ∷ vs) =
    locals_more (MoreLocals ls (name_here v.name) here (kind_written v.kind) here (whole_written v.value) here) vs
    ∙ ap (λ l. l ++ flat_map local_text vs) (spaced-append (locals_marks ls) (local_marks v) ∙ ap (λ l. spaced (locals_marks ls) ++ l) (local_is v))
    ∙ append_assoc (spaced (locals_marks ls)) (local_text v) (flat_map local_text vs)

pub using_texts : (v : LocalVar) (vs : List LocalVar) → spaced (using_marks (using_written (v ∷ vs))) ≡ token (codes "using") (token (codes "{") (flat_map local_text (v ∷ vs) ++ token (codes "}") []))
using_texts v vs =
    ap (λ l. token (codes "using") (token (codes "{") l)) (spaced-append (locals_marks (more_locals NoLocals (v ∷ vs))) (sign here (S.End E.CloseBrace) ∷ [])
    ∙ ap (λ l. l ++ token (codes "}") []) (locals_more NoLocals (v ∷ vs)))

bind_is : (b : Bind) → spaced (called (name_here b.feature) ∷ word here W.Gives ∷ expression (whole_written b.value)) ≡ bind_text b
bind_is b = simp spaced-shared

binds_more : (bs : Binds) (cs : List Bind) → spaced (binds_marks (more_binds bs cs)) ≡ spaced (binds_marks bs) ++ flat_map (λ b. comma (bind_text b)) cs
binds_more bs [] = sym (append-nil (spaced (binds_marks bs)))
binds_more bs (c ∷ cs) =
    binds_more (MoreBinds bs here (name_here c.feature) here (whole_written c.value)) cs
    ∙ ap (λ l. l ++ flat_map (λ b. comma (bind_text b)) cs) (spaced-append (binds_marks bs) (sign here (S.End E.Comma) ∷ called (name_here c.feature) ∷ word here W.Gives ∷ expression (whole_written c.value))
    ∙ ap (λ l. spaced (binds_marks bs) ++ comma l) (bind_is c))
    ∙ append_assoc (spaced (binds_marks bs)) (comma (bind_text c)) (flat_map (λ b. comma (bind_text b)) cs)

pub list_texts : (c : Bind) (cs : List Bind) → spaced (list_marks (list_written (c ∷ cs))) ≡ token (codes "(") ((bind_text c ++ flat_map (λ b. comma (bind_text b)) cs) ++ token (codes ")") [])
list_texts c cs =
    let first = OneBind (name_here c.feature) here (whole_written c.value) in
    ap (λ l. token (codes "(") l) (spaced-append (binds_marks (more_binds first cs)) (sign here (S.End E.Close) ∷ [])
    ∙ ap (λ l. l ++ token (codes ")") []) (binds_more first cs ∙ ap (λ l. l ++ flat_map (λ b. comma (bind_text b)) cs) (bind_is c)))

abbrev target_marks : Target → List Mark
target_marks x = called (name_here x.name) ∷ sign here S.Colon ∷ called (name here x.class.meta) ∷ sign here S.Bang ∷ called (name here x.class.class) ∷ list_marks (list_written x.binds)

target_is : (x : Target) → spaced (target_marks x) ≡ target_text x
target_is x = simp append_assoc

targets_more : (ts : Targets) (xs : List Target) → spaced (targets_marks (more_targets ts xs)) ≡ spaced (targets_marks ts) ++ flat_map (λ x. comma (target_text x)) xs
targets_more ts [] = sym (append-nil (spaced (targets_marks ts)))
targets_more ts (x ∷ xs) =
    targets_more (MoreTargets ts here (name_here x.name) here (name here x.class.meta) here (name here x.class.class) (list_written x.binds)) xs
    ∙ ap (λ l. l ++ flat_map (λ y. comma (target_text y)) xs) (spaced-append (targets_marks ts) (sign here (S.End E.Comma) ∷ target_marks x) ∙ ap (λ l. spaced (targets_marks ts) ++ comma l) (target_is x))
    ∙ append_assoc (spaced (targets_marks ts)) (comma (target_text x)) (flat_map (λ y. comma (target_text y)) xs)

pub to_texts : (x : Target) (xs : List Target) → spaced (to_marks (to_written (x ∷ xs))) ≡ token (codes "to") (target_text x ++ flat_map (λ y. comma (target_text y)) xs)
to_texts x xs =
    let first = OneTarget (name_here x.name) here (name here x.class.meta) here (name here x.class.class) (list_written x.binds) in
    ap (λ l. token (codes "to") l) (targets_more first xs ∙ ap (λ l. l ++ flat_map (λ y. comma (target_text y)) xs) (target_is x))

-- ---- lines

line_last : (ts : List Mark) (t : Mark) → line_text (ts ++ (t ∷ [])) ≡ spaced ts ++ (mark_text t.content ++ (10 ∷ []))
line_last [] t = refl
line_last (u ∷ []) t = sym (append_assoc (mark_text u.content) (32 ∷ []) (mark_text t.content ++ (10 ∷ [])))
line_last (u ∷ v ∷ ts) t = ap (λ l. mark_text u.content ++ (32 ∷ l)) (line_last (v ∷ ts) t) ∙ sym (append_assoc (mark_text u.content) (32 ∷ spaced (v ∷ ts)) (mark_text t.content ++ (10 ∷ [])))

helper_right : (h : Helper) → line_text (helper_marks (helper_written h)) ≡
    token (codes "helper") (spaced (context_marks (context_written h.context)) ++ token (codes "def") (token (codes ":") (token (name_text h.name.text) (spaced (signature_marks (signature_written h.params))
    ++ token (codes ":") (kind_text h.result ++ token (codes "=") (expr_text false 0 h.body ++ codes ";\n"))))))
helper_right h =
    let front : List Mark = word here W.Helper ∷ (context_marks (context_written h.context) ++ (word here W.Def ∷ sign here S.Colon ∷ called (name_here h.name) ∷ (signature_marks (signature_written h.params) ++ (sign here S.Colon
    ∷ (kind_marks (kind_written h.result) ++ (sign here (S.Operator O.Eq) ∷ expression (whole_written h.body))))))) in
    let parts : helper_marks (helper_written h) ≡ front ++ (sign here S.Semicolon ∷ []) = simp append_assoc in
    ap line_text parts ∙ line_last front (sign here S.Semicolon) ∙ simp (spaced-append, spaced-shared, append_assoc)

nested_twelve : (a b c d n t f g h i j k : List ℕ) → (((((((((a ++ b) ++ c) ++ d) ++ (n ++ t)) ++ f) ++ g) ++ h) ++ i) ++ j) ++ k ≡ a ++ (b ++ (c ++ (d ++ (n ++ (t ++ (f ++ (g ++ (h ++ (i ++ (j ++ k))))))))))
nested_twelve a b c d n t f g h i j k = simp append_assoc

nested_six : (a b c d e f : List ℕ) → ((((a ++ b) ++ c) ++ d) ++ e) ++ f ≡ a ++ (b ++ (c ++ (d ++ (e ++ f))))
nested_six a b c d e f = simp append_assoc

pub helper_line : (h : Helper) → line_text (helper_marks (helper_written h)) ≡
    (((((((((token (codes "helper") [] ++ spaced (context_marks (context_written h.context))) ++ token (codes "def") []) ++ token (codes ":") []) ++ (name_text h.name.text ++ (32 ∷ [])))
    ++ spaced (signature_marks (signature_written h.params))) ++ token (codes ":") []) ++ kind_text h.result) ++ token (codes "=") []) ++ expr_text false 0 h.body) ++ codes ";\n"
helper_line h =
    helper_right h ∙ sym (nested_twelve (token (codes "helper") []) (spaced (context_marks (context_written h.context))) (token (codes "def") []) (token (codes ":") []) (name_text h.name.text) (32 ∷ [])
    (spaced (signature_marks (signature_written h.params))) (token (codes ":") []) (kind_text h.result) (token (codes "=") []) (expr_text false 0 h.body) (codes ";\n"))

abbrev rest_front : Rule → List Mark
rest_front r = using_marks (using_written r.locals) ++ (to_marks (to_written r.targets) ++ block_marks (block_written r.block))

matched_right : (r : Rule) → line_text (rule_marks (matched_written r)) ≡ head_text r ++ token (codes "{") (token (codes "from") (spaced (sources_marks (sources_written r.sources)) ++ (spaced (guard_marks (guard_written r.guard)) ++ rest_text r)))
matched_right r =
    let front : List Mark = words_marks (sort_words r.sort (abstract_words r.is_abstract)) ++ (word here W.Rule ∷ called (name_here r.name) ∷ (parent_marks (parent_written r.parent) ++ (sign here S.OpenBrace ∷ word here W.From
    ∷ (sources_marks (sources_written r.sources) ++ (guard_marks (guard_written r.guard) ++ rest_front r))))) in
    let parts : rule_marks (matched_written r) ≡ front ++ (sign here (S.End E.CloseBrace) ∷ []) = simp append_assoc in
    ap line_text parts ∙ line_last front (sign here (S.End E.CloseBrace)) ∙ simp (spaced-append, append_assoc)

pub matched_line : (r : Rule) → line_text (rule_marks (matched_written r)) ≡
    ((((head_text r ++ token (codes "{") []) ++ token (codes "from") []) ++ spaced (sources_marks (sources_written r.sources))) ++ spaced (guard_marks (guard_written r.guard))) ++ rest_text r
matched_line r =
    matched_right r ∙ sym (nested_six (head_text r) (token (codes "{") []) (token (codes "from") []) (spaced (sources_marks (sources_written r.sources))) (spaced (guard_marks (guard_written r.guard))) (rest_text r))

pub called_line : (x : Start) (r : Rule) → line_text (rule_marks (called_written x r)) ≡ spaced (start_marks x) ++ called_text r
called_line x r =
    let front : List Mark = start_marks x ++ (word here W.Rule ∷ called (name_here r.name) ∷ (bracketed_marks (bracketed_written r.params) ++ (sign here S.OpenBrace ∷ rest_front r))) in
    let parts : rule_marks (called_written x r) ≡ front ++ (sign here (S.End E.CloseBrace) ∷ []) = simp append_assoc in
    ap line_text parts ∙ line_last front (sign here (S.End E.CloseBrace)) ∙ simp (spaced-append, append_assoc)

pub second_is : (m : Module) → line_text (word here W.Create ∷ (models_marks (models_written m.targets) ++ (word here W.From ∷ (models_marks (models_written m.sources) ++ (sign here S.Semicolon ∷ []))))) ≡ second_line m
second_is m =
    let front : List Mark = word here W.Create ∷ (models_marks (models_written m.targets) ++ (word here W.From ∷ models_marks (models_written m.sources))) in
    let parts : word here W.Create ∷ (models_marks (models_written m.targets) ++ (word here W.From ∷ (models_marks (models_written m.sources) ++ (sign here S.Semicolon ∷ [])))) ≡ front ++ (sign here S.Semicolon ∷ []) = simp append_assoc in
    ap line_text parts ∙ line_last front (sign here S.Semicolon) ∙ simp (spaced-append, append_assoc)

items_more : (ws : Items) (js : List Item) → items_text (more_items ws js) ≡ items_text ws ++ flat_map (λ j. line_text (item_marks (item_written j))) js
items_more ws [] = sym (append-nil (items_text ws))
items_more ws (j ∷ js) =
    items_more (MoreItems ws (item_written j)) js ∙ append_assoc (items_text ws) (line_text (item_marks (item_written j))) (flat_map (λ i. line_text (item_marks (item_written i))) js)

pub items_texts : (js : List Item) → items_text (more_items NoItems js) ≡ flat_map (λ j. line_text (item_marks (item_written j))) js
items_texts js = items_more NoItems js

pub printed_is : (m : Module) → printed m ≡ first_line m.name ++ (second_line m ++ flat_map (λ j. line_text (item_marks (item_written j))) m.items)
printed_is m = ap (λ l. first_line m.name ++ (l ++ items_text (more_items NoItems m.items))) (second_is m) ∙ ap (λ l. first_line m.name ++ (second_line m ++ l)) (items_texts m.items)

-- ---- what is optional

pub guard_texts : (e : Expr) → spaced (guard_marks (guard_written (Some e))) ≡ token (codes "(") (expr_text false 0 e ++ token (codes ")") [])
guard_texts e = simp (spaced-append, spaced-shared)

pub context_texts : (k : KindNode) → spaced (context_marks (context_written (Some k))) ≡ token (codes "context") (kind_text k)
context_texts k = simp spaced-shared

pub block_texts : (ss : List Stat) → spaced (block_marks (block_written (Some ss))) ≡ token (codes "do") (token (codes "{") (flat_map stat_text ss ++ token (codes "}") []))
block_texts ss = simp (spaced-append, stats_text)

pub unique_words : (ws : Words) → spaced (words_marks (sort_words R.Unique ws)) ≡ spaced (words_marks ws) ++ (token (codes "unique") (token (codes "lazy") []))
unique_words ws = simp (spaced-append, append_assoc)

pub lazy_words : (ws : Words) → spaced (words_marks (sort_words R.Lazy ws)) ≡ spaced (words_marks ws) ++ token (codes "lazy") []
lazy_words ws = simp spaced-append

pub using_by : (vs : List LocalVar) → (length vs ≡ 0 → ⊥) → spaced (using_marks (using_written vs)) ≡ token (codes "using") (token (codes "{") (flat_map local_text vs ++ token (codes "}") []))
using_by [] h = absurd (h refl)
using_by (v ∷ vs) h = using_texts v vs
