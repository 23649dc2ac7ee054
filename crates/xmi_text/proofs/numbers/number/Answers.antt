use Rattle.std.proofs.Common.{◌≡◌, ◌+◌, ◌*◌, ◌-◌, min, get_or, arith}
use Rattle.std.proofs.lemmas.Grind.{common_steps}
use Rattle.xmi_text.proofs.Capped.{next}
use Rattle.xmi_text.proofs.numbers.number.Goals as goal

pub loop-i-preserved : goal.loop-i-preserved
loop-i-preserved c =
    let e : c.min-n.result ≡ min (10 * c.loop-i.n + (get_or c.args.text.now c.loop-i.i 0 - 48)) 36893488147419103232 = grind (arith, common_steps) in
    record {
      told = next _ c.args.text.now c.loop-i.i c.loop-i.n c.min-n.result _ c.loop-i-test.true e c.loop-i.invariant.told;
      within = grind (arith, common_steps);
    }
