use Rattle.std.proofs.Common.{List, ℕ, Option, MatchOption, Ok, Err, ap, sym, subst}
use Rattle.std.proofs.lemmas.Result.{IfOk-weaker}
use Rattle.atl_cli.specs.declared.status.Ending.TheVariants.{Ends}
use Rattle.atl_cli.specs.declared.status.Size.TheVariants.{File}
use Rattle.atl_cli.specs.declared.status.Status.TheVariants.{TooLarge}
use Rattle.atl_cli.specs.Format.{Ended, Misused, Unread, Judged, Formats, LongFile, HasFile, HasNoFile}
use Rattle.atl_cli.specs.Outcome.{file_limit, outcome_of}
use Rattle.atl_cli.proofs.Endings.{IfSome-map, after_fault}
use Rattle.atl_cli.proofs.Runs.{long_bytes}
use Rattle.atl_cli.proofs.format.format_file.Goals as goal

abbrev Read : List (List ℕ) → Option (List ℕ) → Type 0
Read words read = MatchOption read (HasNoFile words) (λ path. HasFile words path)

pub returns-in_default-clause-ended : goal.returns-in_default-clause-ended
returns-in_default-clause-ended g c =
    let low = g.F.Files.faults c.args.files.now in
    subst (λ s. Ended c.args.words.now (g.F.Files.held c.args.files.now) low low (Ends s)) (sym c.in_ok-bad_words.ensures)
    (Misused (subst (Read c.args.words.now) c.in_default.is c.in_ok-path.ensures))

pub returns-in-Ok-clause-ended : goal.returns-in-Ok-clause-ended
returns-in-Ok-clause-ended g c =
    let file = subst (Read c.args.words.now) c.in-Some.is c.in_ok-path.ensures in
    IfOk-weaker c.format_bytes.result _ _
    (λ e h. Judged c.in-Some.path c.in-Ok.bytes.items e file c.in-Ok.ensures.bytes (subst (λ l. Formats l (outcome_of e)) c.deref.ensures.value h))
    c.format_bytes.ensures

pub returns-clause-ended : goal.returns-clause-ended
returns-clause-ended g c =
    let held = g.F.Files.held c.args.files.now in
    let low = g.F.Files.faults c.args.files.now in
    let high = g.F.Files.faults c.read.new.self in
    let words = c.args.words.now in
    let path : List ℕ = c.in-Some.path in
    let file = subst (Read words) c.in-Some.is c.in_ok-path.ensures in
    let told = c.in_ok-after_read_fault-in-Err.ensures in
    after_fault (λ s. Ended words held low high (Ends s)) c.in-Err.fault path (Ok c.in_ok-after_read_fault-in-Err.field-0) told.failed told.too_big told.memory
    (λ e. Unread path file (c.in-Err.ensures.failed (ap Err e)))
    (λ e.
    let long = long_bytes held path file_limit (IfSome-map held (λ h l. l (ap Err e)) c.in-Err.ensures.too_big) in
    Judged path long.0 (Ends (TooLarge File)) file long.1 (LongFile long.2))
