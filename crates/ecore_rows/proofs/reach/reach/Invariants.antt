use Rattle.ecore_rows.proofs.Reaching.{Walk}
use Rattle.ecore_rows.proofs.reach.reach.Given as goal

abbrev pub invariant-loop-at : goal.invariant-loop-at
invariant-loop-at l = Walk l.supers l.starts l.reached.keys l.at
