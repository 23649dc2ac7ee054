use Rattle.std.proofs.Common.{◌≡◌, [], map}
use Rattle.ecore_rows.specs.Rows.{twice_from}
use Rattle.ecore_rows.specs.CodeRows.{feature_rows_of}
use Rattle.ecore_rows.proofs.SeenRows.{from, AreLeft}
use Rattle.ecore_rows.proofs.repeated.twice_seen.Given as goal

-- the features of later classes, after the names so far; no class before them is left
abbrev pub invariant-loop-k : goal.invariant-loop-k
invariant-loop-k l = record {
  told : twice_from l.supers l.class (map (λ k. k.now) l.seen.keys) (from l.next (feature_rows_of l.features)) ≡ twice_from l.supers l.class [] (feature_rows_of l.features);
  left : AreLeft l.supers l.class l.list l.next l.k;
}
