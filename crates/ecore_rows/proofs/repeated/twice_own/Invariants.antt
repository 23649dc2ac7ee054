use Rattle.std.proofs.Common.{◌≡◌, ℕ, List, map, drop}
use Rattle.std.specs.Prelude.{true}
use Rattle.xmi_text.specs.Inheriting.{conforms}
use Rattle.ecore_rows.specs.Rows.{twice_from}
use Rattle.ecore_rows.specs.Runs.{past_run}
use Rattle.ecore_rows.specs.CodeRows.{feature_rows_of}
use Rattle.ecore_rows.proofs.repeated.twice_own.Given as goal

-- the rest of the features, after the names so far; none that is past stands behind the class's
abbrev pub invariant-loop-i : goal.invariant-loop-i
invariant-loop-i l = record {
  told : (supers : List (List ℕ)) (class : ℕ) → conforms supers class l.owner ≡ true
      → twice_from supers class (map (λ k. k.now) l.initial.seen.keys) (feature_rows_of l.rows) ≡ twice_from supers class (map (λ k. k.now) l.seen.keys) (feature_rows_of (drop l.i l.rows));
  past : past_run l.owner (feature_rows_of l.rows) ≡ past_run l.owner (feature_rows_of (drop l.i l.rows));
}
