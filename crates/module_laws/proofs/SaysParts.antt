-- What is canonically written for a module is of the grammar, and has its tree up to places.
use Rattle.std.proofs.Common.{◌≡◌, ℕ, List, [], ◌∷◌, ◌++◌, refl, sym, ap, ◌∙◌, subst}
use Rattle.std.specs.Prelude.{Bool, true, false, Some}
use Rattle.atl_tree.specs.declared.module.ModelDecl.{ModelDecl}
use Rattle.atl_tree.specs.declared.module.Param.{Param}
use Rattle.atl_tree.specs.declared.module.Pattern.{Pattern}
use Rattle.atl_tree.specs.declared.module.LocalVar.{LocalVar}
use Rattle.ocl_parse.specs.Grammar.{Written, Kind, Basic, Class, Coll, kind_of, tree_of, Fits}
use Rattle.module_grammar.specs.Parts.{model, param, helper, class, pattern, local}
use Rattle.module_grammar.specs.Grammar.{Models, OneModel, MoreModels, Params, OneParam, MoreParams, Bracketed, NoParams, SomeParams, Context, NoContext, InContext, Signature, Attribute, Operation, WrittenHelper, Define, Parent, NoParent, Extends, Sources, OneSource, MoreSources, Guard, NoGuard, SomeGuard, Locals, NoLocals, MoreLocals, Using, NoUsing, SomeUsing}
use Rattle.module_grammar.specs.Grammar.{models, params, bracketed, context, signature, helper_of, parent, sources, guard, locals, using}
use Rattle.module_grammar.specs.Grammar.{IsContext, ContextFits, Whole, HelperFits, GuardFits, LocalsFit, UsingFits}
use Rattle.module_print.specs.Writing.{here, name_here, kind_written, whole_written, more_models, models_written, more_params, bracketed_written, context_written, signature_written, helper_written, parent_written, more_sources, sources_written, guard_written, more_locals, using_written}
use Rattle.module_laws.specs.Places.{placed_kind, placed, placed_models, placed_params, placed_bracketed, placed_context, placed_signature, placed_helper, placed_parent, placed_sources, placed_guard, placed_locals, placed_using}
use Rattle.module_laws.proofs.Says.{says, kind_says}

abbrev pub IsSome : {A : Type 0} → List A → Type 0
IsSome [] = ⊥
IsSome (x ∷ xs) = Unit {0}

pub some_last : {A : Type 0} (xs : List A) (x : A) → IsSome (xs ++ (x ∷ []))
some_last [] x = tt
some_last (y ∷ xs) x = tt

-- models

more_models_last : (ms : Models) (ds : List ModelDecl) (d : ModelDecl) → more_models ms (ds ++ (d ∷ [])) ≡ MoreModels (more_models ms ds) here (name_here d.model) here (name_here d.meta)
more_models_last ms [] d = refl
more_models_last ms (x ∷ ds) d = more_models_last (MoreModels ms here (name_here x.model) here (name_here x.meta)) ds d

pub models_last : (ds : List ModelDecl) (d : ModelDecl) → IsSome ds → models_written (ds ++ (d ∷ [])) ≡ MoreModels (models_written ds) here (name_here d.model) here (name_here d.meta)
models_last [] d h = absurd h
models_last (x ∷ ds) d h = more_models_last (OneModel (name_here x.model) here (name_here x.meta)) ds d

pub some_models : (ms : Models) → IsSome (models ms)
some_models (OneModel m p n) = tt
some_models (MoreModels ms c m p n) = some_last (models ms) (model m n)

pub models_say : (ms : Models) → models (models_written (models ms)) ≡ models (placed_models ms)
models_say (OneModel m p n) = refl
models_say (MoreModels ms c m p n) = rw (models_last (models ms) (model m n) (some_models ms)) (ap (λ l. l ++ (model (name_here m) (name_here n) ∷ [])) (models_say ms))

-- parameters

pub more_params_last : (ps : Params) (qs : List Param) (q : Param) → more_params ps (qs ++ (q ∷ [])) ≡ MoreParams (more_params ps qs) here (name_here q.name) here (kind_written q.kind)
more_params_last ps [] q = refl
more_params_last ps (x ∷ qs) q = more_params_last (MoreParams ps here (name_here x.name) here (kind_written x.kind)) qs q

bracketed_last : (qs : List Param) (q : Param) → IsSome qs → bracketed (bracketed_written (qs ++ (q ∷ []))) ≡ bracketed (bracketed_written qs) ++ (param (name_here q.name) (kind_of (kind_written q.kind)) ∷ [])
bracketed_last [] q h = absurd h
bracketed_last (x ∷ qs) q h = ap params (more_params_last (OneParam (name_here x.name) here (kind_written x.kind)) qs q)

pub some_params : (ps : Params) → IsSome (params ps)
some_params (OneParam n p k) = tt
some_params (MoreParams ps c n p k) = some_last (params ps) (param n (kind_of k))

params_say : (ps : Params) → bracketed (bracketed_written (params ps)) ≡ params (placed_params ps)
params_say (OneParam n p k) = ap (λ u. param (name_here n) (kind_of u) ∷ []) (kind_says k)
params_say (MoreParams ps c n p k) =
    bracketed_last (params ps) (param n (kind_of k)) (some_params ps)
    ∙ ap (λ l. l ++ (param (name_here n) (kind_of (kind_written (kind_of k))) ∷ [])) (params_say ps) ∙ ap (λ u. params (placed_params ps) ++ (param (name_here n) (kind_of u) ∷ [])) (kind_says k)

pub bracketed_say : (x : Bracketed) → bracketed (bracketed_written (bracketed x)) ≡ bracketed (placed_bracketed x)
bracketed_say (NoParams p q) = refl
bracketed_say (SomeParams p ps q) = params_say ps

-- helpers

pub whole_says : (e : Written) → Whole false e → ((d : ℕ) → Fits false 0 d (whole_written (tree_of e))) × (tree_of (whole_written (tree_of e)) ≡ tree_of (placed e))
whole_says e f = says e 0 0 f 0

context_fits : (k : Kind) → IsContext k → IsContext (placed_kind k)
context_fits (Basic p w) f = tt
context_fits (Class m p c) f = tt
context_fits (Coll p w q k r) f = absurd f

pub context_says : (c : Context) → ContextFits c → ContextFits (context_written (context c)) × (context (context_written (context c)) ≡ context (placed_context c))
context_says NoContext f = (tt, refl)
context_says (InContext p k) f = (subst IsContext (sym (kind_says k)) (context_fits k f), ap (λ u. Some (kind_of u)) (kind_says k))

signature_says : (s : Signature) → signature (signature_written (signature s)) ≡ signature (placed_signature s)
signature_says Attribute = refl
signature_says (Operation ps) = ap (λ l. Some l) (bracketed_say ps)

pub helper_says : (h : WrittenHelper) → HelperFits false h → HelperFits false (helper_written (helper_of h)) × (helper_of (helper_written (helper_of h)) ≡ helper_of (placed_helper h))
helper_says (Define p c q r n s t k u e v) f =
    let x = context_says c f.0 in
    let y = whole_says e f.1 in (
      (x.0, y.0 0),
      ap (λ z. helper z (name_here n) (signature (signature_written (signature s))) (kind_of (kind_written (kind_of k))) (tree_of (whole_written (tree_of e)))) x.1
          ∙ ap (λ z. helper (context (placed_context c)) (name_here n) z (kind_of (kind_written (kind_of k))) (tree_of (whole_written (tree_of e)))) (signature_says s)
          ∙ ap (λ z. helper (context (placed_context c)) (name_here n) (signature (placed_signature s)) (kind_of z) (tree_of (whole_written (tree_of e)))) (kind_says k)
          ∙ ap (λ z. helper (context (placed_context c)) (name_here n) (signature (placed_signature s)) (kind_of (placed_kind k)) z) y.1,
    )

-- sources and guards

more_sources_last : (ss : Sources) (qs : List Pattern) (q : Pattern) → more_sources ss (qs ++ (q ∷ [])) ≡ MoreSources (more_sources ss qs) here (name_here q.name) here (record { text = q.class.meta; place = here }) here (record { text = q.class.class; place = here })
more_sources_last ss [] q = refl
more_sources_last ss (x ∷ qs) q = more_sources_last (MoreSources ss here (name_here x.name) here (record { text = x.class.meta; place = here }) here (record { text = x.class.class; place = here })) qs q

pub sources_last : (qs : List Pattern) (q : Pattern) → IsSome qs → sources_written (qs ++ (q ∷ [])) ≡ MoreSources (sources_written qs) here (name_here q.name) here (record { text = q.class.meta; place = here }) here (record { text = q.class.class; place = here })
sources_last [] q h = absurd h
sources_last (x ∷ qs) q h = more_sources_last (OneSource (name_here x.name) here (record { text = x.class.meta; place = here }) here (record { text = x.class.class; place = here })) qs q

pub some_sources : (ss : Sources) → IsSome (sources ss)
some_sources (OneSource n p m q c) = tt
some_sources (MoreSources ss r n p m q c) = some_last (sources ss) (pattern n (class m c))

pub sources_say : (ss : Sources) → sources (sources_written (sources ss)) ≡ sources (placed_sources ss)
sources_say (OneSource n p m q c) = refl
sources_say (MoreSources ss r n p m q c) = rw (sources_last (sources ss) (pattern n (class m c)) (some_sources ss)) (ap (λ l. l ++ (pattern (name_here n) (class (name_here m) (name_here c)) ∷ [])) (sources_say ss))

pub guard_says : (g : Guard) (lazy : Bool) → GuardFits false lazy g → GuardFits false lazy (guard_written (guard g)) × (guard (guard_written (guard g)) ≡ guard (placed_guard g))
guard_says NoGuard lazy f = (tt, refl)
guard_says (SomeGuard p e q) false f = let x = whole_says e f in (x.0 0, ap (λ u. Some u) x.1)
guard_says (SomeGuard p e q) true f = absurd f

pub parent_says : (x : Parent) → parent (parent_written (parent x)) ≡ parent (placed_parent x)
parent_says NoParent = refl
parent_says (Extends p n) = refl

-- variables

pub more_locals_last : (ls : Locals) (vs : List LocalVar) (v : LocalVar) → more_locals ls (vs ++ (v ∷ [])) ≡ MoreLocals (more_locals ls vs) (name_here v.name) here (kind_written v.kind) here (whole_written v.value) here
more_locals_last ls [] v = refl
more_locals_last ls (x ∷ vs) v = more_locals_last (MoreLocals ls (name_here x.name) here (kind_written x.kind) here (whole_written x.value) here) vs v

locals_say : (ls : Locals) → LocalsFit false ls → LocalsFit false (more_locals NoLocals (locals ls)) × (locals (more_locals NoLocals (locals ls)) ≡ locals (placed_locals ls))
locals_say NoLocals f = (tt, refl)
locals_say (MoreLocals ls n p k q e r) f =
    let x = locals_say ls f.0 in
    let y = whole_says e f.1 in
    rw (more_locals_last NoLocals (locals ls) (local n (kind_of k) (tree_of e))) (
      (x.0, y.0 0),
      ap (λ l. l ++ (local (name_here n) (kind_of (kind_written (kind_of k))) (tree_of (whole_written (tree_of e))) ∷ [])) x.1
          ∙ ap (λ u. locals (placed_locals ls) ++ (local (name_here n) (kind_of u) (tree_of (whole_written (tree_of e))) ∷ [])) (kind_says k) ∙ ap (λ u. locals (placed_locals ls) ++ (local (name_here n) (kind_of (placed_kind k)) u ∷ [])) y.1,
    )

using_as_locals : (vs : List LocalVar) → LocalsFit false (more_locals NoLocals vs) → UsingFits false (using_written vs) × (using (using_written vs) ≡ locals (more_locals NoLocals vs))
using_as_locals [] f = (tt, refl)
using_as_locals (v ∷ vs) f = (f, refl)

pub using_says : (u : Using) → UsingFits false u → UsingFits false (using_written (using u)) × (using (using_written (using u)) ≡ using (placed_using u))
using_says NoUsing f = (tt, refl)
using_says (SomeUsing p q ls r) f =
    let x = locals_say ls f in
    let y = using_as_locals (locals ls) x.0 in (y.0, y.1 ∙ x.1)
