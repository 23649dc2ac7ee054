use Rattle.std.proofs.Common.{◌∙◌, ap}
use Rattle.ocl_parse.specs.Variables.{refused_at}
use Rattle.module_states.specs.Nexts.{meant, state_of, step_of}
use Rattle.module_parse.proofs.Advancing.{fails_as, run_deep, run_goes, run_refuses}
use Rattle.module_parse.proofs.reading.run.advance.Goals as goal

pub returns-in-Goes : goal.returns-in-Goes
returns-in-Goes c =
    run_goes c.args.tokens.now c.args.i c.args.led c.is_named.result c.leads_name.result c.index-tokens-i.result (meant c.in-Ok.content) (state_of c.args.next) (state_of c.in-Goes.then)
    c.requires c.index-tokens-i.is c.is_named.ensures c.in-Ok.ensures (c.in_ok-then-in-Ok.ensures ∙ ap step_of c.in-Goes.is) c.leads_name.ensures

pub returns-in-Refuses : goal.returns-in-Refuses
returns-in-Refuses c =
    fails_as c.is_other-other.result c.index-tokens-i.result.place (refused_at c.args.tokens.now 0 c.args.i c.index-tokens-i.result.place) c.refusal.result _ c.refusal.ensures
    (run_refuses c.args.tokens.now c.args.i c.args.led c.is_named.result c.index-tokens-i.result (meant c.in-Ok.content) (state_of c.args.next) c.args.end c.is_other-other.result
    c.requires c.index-tokens-i.is c.is_named.ensures c.in-Ok.ensures (c.in_ok-then-in-Ok.ensures ∙ ap step_of c.in-Refuses.is) c.is_other-other.ensures)

pub returns-in-TooDeep : goal.returns-in-TooDeep
returns-in-TooDeep c =
    run_deep c.args.tokens.now c.args.i c.args.led c.is_named.result c.index-tokens-i.result (meant c.in-Ok.content) (state_of c.args.next) c.args.end c.in-TooDeep.place
    c.requires c.index-tokens-i.is c.is_named.ensures c.in-Ok.ensures (c.in_ok-then-in-Ok.ensures ∙ ap step_of c.in-TooDeep.is)
