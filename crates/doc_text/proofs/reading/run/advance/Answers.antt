use Rattle.std.proofs.Common.{◌∷◌, ◌∙◌, ap}
use Rattle.std.specs.Prelude.{true}
use Rattle.doc_text.specs.Machine.{Refused, run}
use Rattle.doc_text.specs.Nexts.{state_of, step_of}
use Rattle.doc_text.specs.State.{Breaks, Goes, Stops}
use Rattle.doc_text.specs.Stopping.{why_of}
use Rattle.doc_text.proofs.Refusals.{is_refusal}
use Rattle.doc_text.proofs.Running.{run_by}
use Rattle.doc_text.proofs.reading.run.advance.Goals as goal

pub returns-in-Goes : goal.returns-in-Goes
returns-in-Goes c =
    run_by c.args.rest.now.end (state_of c.args.next) c.args.symbol c.args.rest.now.symbols (Goes (state_of c.in-Goes.then)) (c.in_ok-then.ensures ∙ ap step_of c.in-Goes.is)

pub returns-in-Stops : goal.returns-in-Stops
returns-in-Stops c =
    let end = c.args.rest.now.end in
    let ss = c.args.symbol ∷ c.args.rest.now.symbols in
    is_refusal (run true end (state_of c.args.next) ss) (why_of c.why_next-why.result end ss) c.reason.result
    (run_by end (state_of c.args.next) c.args.symbol c.args.rest.now.symbols Stops (c.in_ok-then.ensures ∙ ap step_of c.in-Stops.is) ∙ ap Refused (c.why_next-why.ensures end ss))
    c.reason.ensures

pub returns-in-Breaks : goal.returns-in-Breaks
returns-in-Breaks c =
    let end = c.args.rest.now.end in
    let ss = c.args.symbol ∷ c.args.rest.now.symbols in
    is_refusal (run true end (state_of c.args.next) ss) (c.in-Breaks.fault, c.in-Breaks.at) c.refusal.result
    (run_by end (state_of c.args.next) c.args.symbol c.args.rest.now.symbols (Breaks c.in-Breaks.fault c.in-Breaks.at) (c.in_ok-then.ensures ∙ ap step_of c.in-Breaks.is))
    c.refusal.ensures
