use Rattle.std.proofs.Common.{◌≡◌, ℕ, List, Option, MatchOption, Ok, Err, Result, ap, sym, subst, ◌∙◌, refl}
use Rattle.ecore_meta.specs.declared.parts.Parts.{Parts}
use Rattle.xmi_write.specs.Xmi.{xmi}
use Rattle.atl_outside.specs.Held.{Held}
use Rattle.atl_cli.specs.declared.model.Paths.{Paths}
use Rattle.atl_cli.specs.declared.status.Status.{Status}
use Rattle.atl_cli.specs.declared.status.Status.TheVariants as status
use Rattle.atl_cli.specs.Model.{Ended, Misused, NoMemory, HasPaths, HasNoPaths, MetaOf, ModelOf}
use Rattle.atl_cli.specs.Reads.{IsJudged, IsPut, Stops, status_in}
use Rattle.atl_cli.proofs.ModelEnds.{meta_ended, model_ended, put_ended}
use Rattle.atl_cli.proofs.ModelSteps.{from_err}
use Rattle.atl_cli.proofs.model.rewrite.Goals as goal

-- the words
abbrev ReadPaths : List (List ℕ) → Option Paths → Type 0
ReadPaths words read = MatchOption read (HasNoPaths words) (λ p. HasPaths words p)

pub returns-in_err-paths : goal.returns-in_err-paths
returns-in_err-paths g c =
    let words = c.args.words.now in
    let held = g.F.Files.held c.args.files.now in
    let low = g.F.Files.faults c.args.files.now in
    from_err (λ r. Ended words held held low low (status_in r)) _ c.from_residual.result c.from_residual.ensures.1
    (λ s e. subst (λ u. Ended words held held low low u) (sym e) (NoMemory refl))

pub returns-in_err-bad_words : goal.returns-in_err-bad_words
returns-in_err-bad_words g c =
    let words = c.args.words.now in
    let held = g.F.Files.held c.args.files.now in
    let low = g.F.Files.faults c.args.files.now in
    from_err (λ r. Ended words held held low low (status_in r)) _ c.from_residual-in_err-bad_words.result c.from_residual-in_err-bad_words.ensures.1
    (λ s e. subst (λ u. Ended words held held low low u) (sym e) (NoMemory refl))

pub returns-in_default : goal.returns-in_default
returns-in_default g c =
    let words = c.args.words.now in
    let held = g.F.Files.held c.args.files.now in
    let low = g.F.Files.faults c.args.files.now in
    subst (λ u. Ended words held held low low u) (sym c.in_ok-bad_words.ensures) (Misused (subst (ReadPaths words) c.in_default.is c.in_ok-paths.ensures) refl)

pub returns-in_err-meta : goal.returns-in_err-meta
returns-in_err-meta g c =
    let words = c.args.words.now in
    let before = g.F.Files.held c.args.files.now in
    let after = g.F.Files.held c.metamodel_at.new.files in
    let low = g.F.Files.faults c.args.files.now in
    let high = g.F.Files.faults c.metamodel_at.new.files in
    let file = subst (ReadPaths words) c.in-Some.is c.in_ok-paths.ensures in
    from_err (λ r. Ended words before after low high (status_in r)) _ c.from_residual-in_err-meta.result c.from_residual-in_err-meta.ensures.1
    (λ s e. subst (λ u. Ended words before after low high u) (sym e) (meta_ended words before after low high c.in-Some.paths file c.in_err-meta.field-0.0 c.in_err-meta.ensures.judged c.in_err-meta.ensures.kept))

pub returns-in_err-new : goal.returns-in_err-new
returns-in_err-new g c =
    let words = c.args.words.now in
    let before = g.F.Files.held c.args.files.now in
    let after = g.F.Files.held c.metamodel_at.new.files in
    let low = g.F.Files.faults c.args.files.now in
    let high = g.F.Files.faults c.metamodel_at.new.files in
    from_err (λ r. Ended words before after low high (status_in r)) _ c.from_residual-in_err-new.result c.from_residual-in_err-new.ensures.1
    (λ s e. subst (λ u. Ended words before after low high u) (sym e) (NoMemory c.in_ok-meta.ensures.kept))

pub returns-in_err-model : goal.returns-in_err-model
returns-in_err-model g c =
    let words = c.args.words.now in
    let before = g.F.Files.held c.args.files.now in
    let after = g.F.Files.held c.model_at.new.files in
    let low = g.F.Files.faults c.args.files.now in
    let high = g.F.Files.faults c.model_at.new.files in
    let file = subst (ReadPaths words) c.in-Some.is c.in_ok-paths.ensures in
    let kept = c.in_ok-meta.ensures.kept in
    let judged = subst (λ (o : Option Held). Stops (ModelOf c.in_ok-new.field-0.value c.in-Some.paths.model) o c.in-Some.paths.model (g.F.Files.faults c.metamodel_at.new.files) high c.in_err-model.field-0.0) kept c.in_err-model.ensures.judged in
    from_err (λ r. Ended words before after low high (status_in r)) _ c.from_residual-in_err-model.result c.from_residual-in_err-model.ensures.1
    (λ s e. subst (λ u. Ended words before after low high u) (sym e)
    (model_ended words before after low (g.F.Files.faults c.metamodel_at.new.files) high c.in-Some.paths file c.in_ok-meta.meta c.in_ok-new.field-0.value c.in_ok-new.ensures.ok c.in_ok-meta.ensures.judged c.in_ok-meta.ensures.counted
    c.in_err-model.field-0.0 judged (c.in_err-model.ensures.kept ∙ kept)))

pub returns-in_err-text : goal.returns-in_err-text
returns-in_err-text g c =
    let words = c.args.words.now in
    let before = g.F.Files.held c.args.files.now in
    let after = g.F.Files.held c.model_at.new.files in
    let low = g.F.Files.faults c.args.files.now in
    let high = g.F.Files.faults c.model_at.new.files in
    from_err (λ r. Ended words before after low high (status_in r)) _ c.from_residual-in_err-text.result c.from_residual-in_err-text.ensures.1
    (λ s e. subst (λ u. Ended words before after low high u) (sym e) (NoMemory (c.in_ok-model.ensures.kept ∙ c.in_ok-meta.ensures.kept)))

pub returns : goal.returns
returns g c =
    let held = g.F.Files.held in
    let faults = g.F.Files.faults in
    let words = c.args.words.now in
    let before = held c.args.files.now in
    let path = c.in-Some.paths.model in
    let parts = c.in_ok-new.field-0.value in
    let file = subst (ReadPaths words) c.in-Some.is c.in_ok-paths.ensures in
    let kept = c.in_ok-meta.ensures.kept in
    let same : held c.model_at.new.files ≡ before = c.in_ok-model.ensures.kept ∙ kept in
    let judged = subst (λ (o : Option Held). IsJudged (ModelOf parts path) o path (faults c.metamodel_at.new.files) (faults c.model_at.new.files) (Ok c.in_ok-model.model)) kept c.in_ok-model.ensures.judged in
    let put = subst (λ (o : Option Held). IsPut c.in-Some.paths.out c.in_ok-text.text o (held c.put_at.new.files) (faults c.model_at.new.files) (faults c.put_at.new.files) c.put_at.result) same c.put_at.ensures in
    put_ended words before (held c.put_at.new.files) (faults c.args.files.now) (faults c.metamodel_at.new.files) (faults c.model_at.new.files) (faults c.put_at.new.files) c.in-Some.paths file c.in_ok-meta.meta parts c.in_ok-new.ensures.ok
    c.in_ok-meta.ensures.judged c.in_ok-meta.ensures.counted c.in_ok-model.model judged c.in_ok-model.ensures.counted c.in_ok-text.text c.in_ok-text.ensures c.put_at.result put
