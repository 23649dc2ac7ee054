use Rattle.std.proofs.Common.{◌≡◌, ℕ, ◌<◌, [], length}
use Rattle.std.specs.Prelude.{slice_index_or}
use Rattle.ecore_meta.specs.Tables.{IsRow, Row}
use Rattle.ecore_meta.proofs.names.named_rows.Given as goal

-- the classes so far have their rows
abbrev pub invariant-loop-list : goal.invariant-loop-list
invariant-loop-list l = record {
  lengths : length l.rows.items ≡ l.list-index;
  each : (c : ℕ) (d : Row) → c < l.list-index → IsRow l.places (slice_index_or l.lists c []) (slice_index_or l.rows.items c d);
}
