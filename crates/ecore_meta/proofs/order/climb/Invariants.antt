use Rattle.std.proofs.Common.{◌≡◌, ℕ, ◌<◌, length, true}
use Rattle.std.specs.Prelude.{slice_index}
use Rattle.ecore_meta.specs.Order.{IsWalk, is_done, work_left}
use Rattle.ecore_meta.proofs.order.climb.Given as goal

-- the walk stands; what was done is; the path begins with the class until that is done
abbrev pub invariant-climb : goal.invariant-climb
invariant-climb l = record {
  walk : IsWalk l.classes l.walk.done.items l.walk.next.items l.walk.path.items l.walk.order.items;
  kept : (c : ℕ) → is_done l.fn.walk.done.items c ≡ true → is_done l.walk.done.items c ≡ true;
  begun : 0 < length l.walk.path.items → slice_index l.walk.path.items 0 ≡ l.class;
  ended : length l.walk.path.items ≡ 0 → is_done l.walk.done.items l.class ≡ true;
}

abbrev pub decreases-climb : goal.decreases-climb
decreases-climb l = work_left l.classes l.walk.done.items l.walk.path.items
