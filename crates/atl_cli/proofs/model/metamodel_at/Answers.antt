use Rattle.std.proofs.Common.{ℕ, List, Ok, Err, ap, sym, subst, ◌∙◌}
use Rattle.atl_cli.specs.Model.{MetaOf}
use Rattle.atl_cli.specs.Reads.{Stops, Forgotten, IsJudged, IsMetaFile, IsMetaRefused}
use Rattle.atl_cli.specs.Refusals.{meta_end}
use Rattle.atl_cli.proofs.ModelRefusals.{meta_refused, meta_read}
use Rattle.atl_cli.proofs.ModelSteps.{from_err, longer_meta, meta_stops}
use Rattle.atl_cli.proofs.model.metamodel_at.Goals as goal

pub returns-in_err-bytes-clause-judged : goal.returns-in_err-bytes-clause-judged
returns-in_err-bytes-clause-judged g c =
    let held = g.F.Files.held c.args.files.now in
    let low = g.F.Files.faults c.args.files.now in
    let high = g.F.Files.faults c.bytes_at.new.files in
    let path : List ℕ = c.args.path.now in
    from_err (IsJudged (MetaOf path) held path low high) _ c.from_residual.result c.from_residual.ensures.1
    (λ s e. subst (λ u. Stops (MetaOf path) held path low high u) (sym e) (longer_meta held path low high c.in_err-bytes.field-0.0 c.in_err-bytes.ensures.read))

pub returns-in-Ok-clause-judged : goal.returns-in-Ok-clause-judged
returns-in-Ok-clause-judged g c =
    let path : List ℕ = c.args.path.now in
    let read = c.in_ok-bytes.ensures.read in
    let file = subst (λ b. IsMetaFile b (Ok c.in-Ok.meta)) (c.deref.ensures.value ∙ read.2.0) c.in-Ok.ensures in
    (read.0, read.1, meta_read path read.0 c.in-Ok.meta read.2.1 file.0 file.1 file.2)

pub returns-in_err-copy-in-Err-clause-judged : goal.returns-in_err-copy-in-Err-clause-judged
returns-in_err-copy-in-Err-clause-judged g c =
    let held = g.F.Files.held c.args.files.now in
    let low = g.F.Files.faults c.args.files.now in
    let high = g.F.Files.faults c.bytes_at.new.files in
    let path : List ℕ = c.args.path.now in
    from_err (IsJudged (MetaOf path) held path low high) _ c.from_residual-in_err-copy-in-Err.result c.from_residual-in_err-copy-in-Err.ensures.1
    (λ s e. subst (λ u. Stops (MetaOf path) held path low high u) (sym e) Forgotten)

pub returns-clause-judged : goal.returns-clause-judged
returns-clause-judged g c =
    let held = g.F.Files.held c.args.files.now in
    let low = g.F.Files.faults c.args.files.now in
    let high = g.F.Files.faults c.bytes_at.new.files in
    let path : List ℕ = c.args.path.now in
    let read = c.in_ok-bytes.ensures.read in
    let refused = subst (λ b. IsMetaRefused b c.in-Err.refusal) (c.deref.ensures.value ∙ read.2.0) c.in-Err.ensures in
    let ends = meta_refused path read.0 c.in-Err.refusal read.2.1 refused in
    let same = ap (λ p. meta_end p c.in-Err.refusal) c.in_ok-copy-in-Err.ensures in
    subst (λ u. Stops (MetaOf path) held path low high u) (sym (c.meta_end.ensures ∙ same)) (meta_stops held path read.0 low high (meta_end path c.in-Err.refusal) read.1 ends)
