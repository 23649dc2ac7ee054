use Rattle.std.proofs.Common.{sym, subst}
use Rattle.atl_cli.specs.Answers.{Ended}
use Rattle.atl_cli.proofs.Runs.{no_memory}
use Rattle.atl_cli.proofs.call.atl.Goals as goal
use Rattle.atl_cli.proofs.call.atl.Goals.{in-Ok, in-Err}

pub returns-clause-answer : goal.returns-clause-answer
returns-clause-answer g c =
    let words = c.args.words.now in
    let before = g.F.Files.held c.args.files.now in
    let after = g.F.Files.held c.run.new.files in
    let low = g.F.Files.faults c.args.files.now in
    let high = g.F.Files.faults c.run.new.files in
    elim c.match-run.branch [
      | in-Ok w ↦ (c.match-run.end, subst (λ e. Ended words before after low high e) (sym w.end-is) w.in-Ok.ensures.ended, c.report.ensures)
      | in-Err w ↦ (c.match-run.end, subst (λ e. Ended words before after low high e) (sym w.end-is) (no_memory words before after low high w.in-Err.ensures.memory), c.report.ensures)
    ]
