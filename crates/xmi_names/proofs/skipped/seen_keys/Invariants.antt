use Rattle.std.proofs.Common.{◌≡◌, ◌<◌, ◌≤◌, ℕ, List}
use Rattle.std.specs.Prelude.{false}
use Rattle.std.specs.List.{list_any}
use Rattle.ecore_meta.specs.Order.{class_no}
use Rattle.xmi_text.specs.Keys.{is_key, keys_of}
use Rattle.xmi_names.specs.Tables.{has_skipped}
use Rattle.xmi_names.proofs.skipped.seen_keys.Given as goal

abbrev pub invariant-loop-place : goal.invariant-loop-place
invariant-loop-place l = record {
  done : (n : ℕ) (q : List ℕ) → n < 4294967296 → n < l.place → list_any (is_key n q) (keys_of l.keys.items) ≡ has_skipped l.meta (class_no n) q;
  open_ : (n : ℕ) (q : List ℕ) → n < 4294967296 → l.place ≤ n → list_any (is_key n q) (keys_of l.keys.items) ≡ false;
}
