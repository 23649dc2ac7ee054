use Rattle.std.proofs.Common.{◌≡◌, ℕ, [], length, take}
use Rattle.std.specs.Prelude.{slice_index_or}
use Rattle.std.specs.List.{Contains}
use Rattle.ecore_meta.specs.Inheritance.{features}
use Rattle.ecore_meta.specs.Order.{class_no}
use Rattle.ecore_meta.proofs.inherited.feature_lists.Given as goal

-- the classes so far have their lists
abbrev pub invariant-loop-class : goal.invariant-loop-class
invariant-loop-class l = record {
  lengths : length l.lists.items ≡ length l.classes;
  each : (c : ℕ) → Contains (take l.class-index l.order) c → slice_index_or l.lists.items c [] ≡ features l.classes (class_no c);
}
