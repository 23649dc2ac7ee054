use Rattle.std.proofs.Common.{◌≡◌, ◌∷◌, sym, ap, ◌∙◌, lit<, Some, None}
use Rattle.std.proofs.lemmas.Str.Pattern.{strip_prefix_char}
use Rattle.model_store.specs.Paths.{root_named, descend, parts_of}
use Rattle.model_store.proofs.Cuts.{no_slash, root_alone, root_and_steps}
use Rattle.model_store.proofs.store.Store.at_path.Goals as goal

pub returns-in_err-below : goal.returns-in_err-below
returns-in_err-below c = c.from_residual.ensures ∙ sym (no_slash c.args.self.now c.args.path.now (strip_prefix_char 47 c.args.path.now None c.in_err-below.ensures.cases (lit< tt)))

pub returns-in_err-root_named-in-Some : goal.returns-in_err-root_named-in-Some
returns-in_err-root_named-in-Some c =
    let m = c.args.self.now in
    let slash : c.args.path.now ≡ 47 ∷ c.in_ok-below.below.now = strip_prefix_char 47 c.args.path.now (Some c.in_ok-below.below) c.in_ok-below.ensures.cases (lit< tt) in
    let cut = c.in-Some.ensures.byte (lit< tt) (λ w o h. h) in
    c.from_residual-in_err-root_named-in-Some.ensures
    ∙ ap (λ x. descend m x (parts_of c.in-Some.steps.now)) (c.in_err-root_named-in-Some.ensures ∙ ap (λ roots. root_named roots c.in-Some.root.now) c.roots.ensures)
    ∙ sym (root_and_steps m c.args.path.now c.in_ok-below.below.now c.in-Some.root.now c.in-Some.steps.now slash cut.2 cut.0 cut.1)

pub returns-in_ok-root_named-in-Some : goal.returns-in_ok-root_named-in-Some
returns-in_ok-root_named-in-Some c =
    let m = c.args.self.now in
    let slash : c.args.path.now ≡ 47 ∷ c.in_ok-below.below.now = strip_prefix_char 47 c.args.path.now (Some c.in_ok-below.below) c.in_ok-below.ensures.cases (lit< tt) in
    let cut = c.in-Some.ensures.byte (lit< tt) (λ w o h. h) in
    c.descend.ensures
    ∙ ap (λ x. descend m x (parts_of c.in-Some.steps.now)) (c.in_ok-root_named-in-Some.ensures ∙ ap (λ roots. root_named roots c.in-Some.root.now) c.roots.ensures)
    ∙ sym (root_and_steps m c.args.path.now c.in_ok-below.below.now c.in-Some.root.now c.in-Some.steps.now slash cut.2 cut.0 cut.1)

pub returns-in-None : goal.returns-in-None
returns-in-None c =
    let m = c.args.self.now in
    let slash : c.args.path.now ≡ 47 ∷ c.in_ok-below.below.now = strip_prefix_char 47 c.args.path.now (Some c.in_ok-below.below) c.in_ok-below.ensures.cases (lit< tt) in
    let past = c.in-None.ensures.byte (lit< tt) (λ w o h. h) in
    c.root_named-in-None.ensures ∙ ap (λ roots. root_named roots c.in_ok-below.below.now) c.roots-in-None.ensures ∙ sym (root_alone m c.args.path.now c.in_ok-below.below.now slash past)
