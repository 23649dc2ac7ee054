use Rattle.std.proofs.Common.{ℕ, List, Ok, Err, ap, sym, subst, ◌∙◌}
use Rattle.atl_cli.specs.Model.{ModelOf}
use Rattle.atl_cli.specs.Reads.{Stops, Forgotten, IsJudged, IsModelFile, IsModelRefused}
use Rattle.atl_cli.specs.Refusals.{model_end}
use Rattle.atl_cli.proofs.ModelRefusals.{model_refused, model_read}
use Rattle.atl_cli.proofs.ModelSteps.{from_err, longer_model, model_stops}
use Rattle.atl_cli.proofs.model.model_at.Goals as goal

pub returns-in_err-bytes-clause-judged : goal.returns-in_err-bytes-clause-judged
returns-in_err-bytes-clause-judged g c =
    let held = g.F.Files.held c.args.files.now in
    let low = g.F.Files.faults c.args.files.now in
    let high = g.F.Files.faults c.bytes_at.new.files in
    let path : List ℕ = c.args.path.now in
    let parts = c.args.meta.value in
    from_err (IsJudged (ModelOf parts path) held path low high) _ c.from_residual.result c.from_residual.ensures.1
    (λ s e. subst (λ u. Stops (ModelOf parts path) held path low high u) (sym e) (longer_model parts held path low high c.in_err-bytes.field-0.0 c.in_err-bytes.ensures.read))

pub returns-in-Ok-clause-judged : goal.returns-in-Ok-clause-judged
returns-in-Ok-clause-judged g c =
    let path : List ℕ = c.args.path.now in
    let parts = c.args.meta.value in
    let read = c.in_ok-bytes.ensures.read in
    let file = subst (λ b. IsModelFile parts b (Ok c.in-Ok.model)) (c.deref.ensures.value ∙ read.2.0) c.in-Ok.ensures.answer in
    (read.0, read.1, model_read parts path read.0 c.in-Ok.model read.2.1 file.0 file.1 file.2)

pub returns-in_err-copy-in-Err-clause-judged : goal.returns-in_err-copy-in-Err-clause-judged
returns-in_err-copy-in-Err-clause-judged g c =
    let held = g.F.Files.held c.args.files.now in
    let low = g.F.Files.faults c.args.files.now in
    let high = g.F.Files.faults c.bytes_at.new.files in
    let path : List ℕ = c.args.path.now in
    let parts = c.args.meta.value in
    from_err (IsJudged (ModelOf parts path) held path low high) _ c.from_residual-in_err-copy-in-Err.result c.from_residual-in_err-copy-in-Err.ensures.1
    (λ s e. subst (λ u. Stops (ModelOf parts path) held path low high u) (sym e) Forgotten)

pub returns-clause-judged : goal.returns-clause-judged
returns-clause-judged g c =
    let held = g.F.Files.held c.args.files.now in
    let low = g.F.Files.faults c.args.files.now in
    let high = g.F.Files.faults c.bytes_at.new.files in
    let path : List ℕ = c.args.path.now in
    let parts = c.args.meta.value in
    let read = c.in_ok-bytes.ensures.read in
    let refused = subst (λ b. IsModelRefused parts b c.in-Err.refusal) (c.deref.ensures.value ∙ read.2.0) c.in-Err.ensures.answer in
    let ends = model_refused parts path read.0 c.in-Err.refusal read.2.1 refused in
    let same = ap (λ p. model_end p c.in-Err.refusal) c.in_ok-copy-in-Err.ensures in
    subst (λ u. Stops (ModelOf parts path) held path low high u) (sym (c.model_end.ensures ∙ same)) (model_stops parts held path read.0 low high (model_end path c.in-Err.refusal) read.1 ends)
