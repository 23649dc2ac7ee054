use Rattle.std.proofs.Common.{◌≡◌, ℕ, ◌<◌, List, Some, length}
use Rattle.std.specs.Prelude.{slice_index}
use Rattle.std.specs.HashMap.{get_by_text}
use Rattle.atl_base.specs.declared.numbers.FeatId.{FeatId}
use Rattle.ecore_meta.specs.Inheritance.{name_of}
use Rattle.ecore_meta.proofs.names.first_places.Given as goal

-- the names of the features so far lead to features that bear them
abbrev pub invariant-loop-place : goal.invariant-loop-place
invariant-loop-place l = record {
  bears : (name : List ℕ) (i : ℕ) → get_by_text l.firsts name ≡ Some i → (i < length l.features) × (name_of l.features (record { 0 = i }) ≡ name);
  lengths : length l.of.items ≡ l.place;
  each : (f : FeatId) → f.0 < l.place → get_by_text l.firsts (name_of l.features f) ≡ Some (slice_index l.of.items f.0);
}
