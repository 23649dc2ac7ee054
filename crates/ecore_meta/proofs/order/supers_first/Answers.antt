use Rattle.std.proofs.Common.{◌<◌, rules}
use Rattle.ecore_meta.proofs.order.supers_first.Goals as goal

pub returns : goal.returns
returns c =
    let i = c.loop-class.invariant in
    record {
      within = i.walk.ordered.within;
      complete = λ x h. let passed : x < c.loop-class.class = search rules in i.walk.ordered.complete x (i.passed x passed);
      first = i.walk.ordered.first;
    }
