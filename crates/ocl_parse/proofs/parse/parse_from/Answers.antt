use Rattle.std.proofs.Common.{◌∙◌, ap, subst, refl}
use Rattle.ocl_parse.specs.Machine.{Stops, Refuses, step_of, over}
use Rattle.ocl_parse.specs.Reading.{Ends}
use Rattle.ocl_parse.proofs.Stopping.{stops_here, refused_here}
use Rattle.ocl_parse.proofs.parse.parse_from.Goals as goal

pub returns-in-Some : goal.returns-in-Some
returns-in-Some c =
    stops_here c.args.tokens.now c.args.end c.args.from c.loop-i.i c.loop-i.led c.is_named.result c.loop-i.stack c.step.new.stack c.loop-i.next
    c.index-tokens-i.result c.in_ok-read.read c.in-Stops.e c.in-Some.whole c.loop-i-test.true c.index-tokens-i.is c.loop-i.invariant
    c.in_ok-read.ensures c.is_named.ensures (c.in_ok-then.ensures ∙ ap (step_of c.step.new.stack) c.in-Stops.is)
    (λ rest. subst (λ o. Ends o rest (over c.step.new.stack c.in-Stops.e rest)) c.in-Some.is (c.in_ok-whole-in-Stops.ensures rest))

pub returns-in-None : goal.returns-in-None
returns-in-None c =
    refused_here c.args.tokens.now c.args.end c.args.from c.loop-i.i c.loop-i.led c.is_named.result c.loop-i.stack c.loop-i.next
    c.index-tokens-i.result c.in_ok-read.read (Stops c.step.new.stack c.in-Stops.e) c.refusal.result c.loop-i-test.true c.index-tokens-i.is c.loop-i.invariant
    c.in_ok-read.ensures c.is_named.ensures (c.in_ok-then.ensures ∙ ap (step_of c.step.new.stack) c.in-Stops.is)
    (λ rest k. subst (λ o. Ends o rest (over c.step.new.stack c.in-Stops.e rest)) c.in-None.is (c.in_ok-whole-in-Stops.ensures rest))
    c.refusal.ensures

pub returns-in-Refuses : goal.returns-in-Refuses
returns-in-Refuses c =
    refused_here c.args.tokens.now c.args.end c.args.from c.loop-i.i c.loop-i.led c.is_named.result c.loop-i.stack c.loop-i.next
    c.index-tokens-i.result c.in_ok-read.read Refuses c.refusal-in-Refuses.result c.loop-i-test.true c.index-tokens-i.is c.loop-i.invariant
    c.in_ok-read.ensures c.is_named.ensures (c.in_ok-then.ensures ∙ ap (step_of c.step.new.stack) c.in-Refuses.is)
    (λ rest k. refl) c.refusal-in-Refuses.ensures
