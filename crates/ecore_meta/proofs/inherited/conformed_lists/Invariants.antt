use Rattle.std.proofs.Common.{◌≡◌, ℕ, [], length, take}
use Rattle.std.specs.Prelude.{slice_index_or, ◌↔◌}
use Rattle.std.specs.List.{Contains}
use Rattle.std.specs.List.Sorted.{IsStrictlyIncreasing}
use Rattle.ecore_meta.specs.Inheritance.{Conforms}
use Rattle.ecore_meta.specs.Order.{class_no}
use Rattle.ecore_meta.proofs.inherited.conformed_lists.Given as goal

-- the classes so far have their lists
abbrev pub invariant-loop-class : goal.invariant-loop-class
invariant-loop-class l = record {
  lengths : length l.lists.items ≡ length l.classes;
  rising : (c : ℕ) → Contains (take l.class-index l.order) c → IsStrictlyIncreasing (slice_index_or l.lists.items c []);
  each : (c d : ℕ) → Contains (take l.class-index l.order) c → Contains (slice_index_or l.lists.items c []) d ↔ Conforms l.classes (class_no c) (class_no d);
}
