use Rattle.std.proofs.Common.{◌≡◌, length}
use Rattle.ecore_meta.proofs.inherited.empty_lists.Given as goal

abbrev pub invariant-loop : goal.invariant-loop
invariant-loop g l = length l.lists.items ≡ l.counter
