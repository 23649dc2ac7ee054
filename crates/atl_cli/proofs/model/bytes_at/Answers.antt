use Rattle.std.proofs.Common.{ℕ, List, Ok, Err, ap, sym, subst, refl}
use Rattle.atl_cli.specs.declared.status.Size.TheVariants.{File}
use Rattle.atl_cli.specs.declared.status.Status.TheVariants.{TooLarge}
use Rattle.atl_cli.specs.Outcome.{file_limit}
use Rattle.atl_cli.specs.Reads.{Stops, Unread, Refused, Forgotten, IsJudged, OfBytes}
use Rattle.atl_cli.proofs.Endings.{IfSome-map, after_fault}
use Rattle.atl_cli.proofs.ModelSteps.{from_err}
use Rattle.atl_cli.proofs.Runs.{long_bytes}
use Rattle.atl_cli.proofs.model.bytes_at.Goals as goal

pub returns-in_err-after_read_fault-in-Err-clause-read : goal.returns-in_err-after_read_fault-in-Err-clause-read
returns-in_err-after_read_fault-in-Err-clause-read g c =
    let held = g.F.Files.held c.args.files.now in
    let low = g.F.Files.faults c.args.files.now in
    let high = g.F.Files.faults c.read.new.self in
    let path : List ℕ = c.args.path.now in
    from_err (IsJudged OfBytes held path low high) _ c.from_residual.result c.from_residual.ensures.1
    (λ s e. subst (λ u. Stops OfBytes held path low high u) (sym e) Forgotten)

pub returns-in_ok-after_read_fault-in-Err-clause-read : goal.returns-in_ok-after_read_fault-in-Err-clause-read
returns-in_ok-after_read_fault-in-Err-clause-read g c =
    let held = g.F.Files.held c.args.files.now in
    let low = g.F.Files.faults c.args.files.now in
    let high = g.F.Files.faults c.read.new.self in
    let path : List ℕ = c.args.path.now in
    let told = c.in_ok-after_read_fault-in-Err.ensures in
    after_fault (λ s. Stops OfBytes held path low high s) c.in-Err.fault path (Ok c.in_ok-after_read_fault-in-Err.field-0) told.failed told.too_big told.memory
    (λ e. Unread (c.in-Err.ensures.failed (ap Err e)))
    (λ e.
    let long = long_bytes held path file_limit (IfSome-map held (λ h l. l (ap Err e)) c.in-Err.ensures.too_big) in
    Refused long.0 long.1 (TooLarge File) (long.2, refl))
