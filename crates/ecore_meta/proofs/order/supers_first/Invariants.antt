use Rattle.std.proofs.Common.{◌≡◌, ℕ, ◌<◌, [], true}
use Rattle.ecore_meta.specs.Order.{IsWalk, is_done}
use Rattle.ecore_meta.proofs.order.supers_first.Given as goal

-- the classes so far are done, and the walk stands between two paths
abbrev pub invariant-loop-class : goal.invariant-loop-class
invariant-loop-class l = record {
  walk : IsWalk l.classes l.walk.done.items l.walk.next.items l.walk.path.items l.walk.order.items;
  empty : l.walk.path.items ≡ [];
  passed : (c : ℕ) → c < l.class → is_done l.walk.done.items c ≡ true;
}
