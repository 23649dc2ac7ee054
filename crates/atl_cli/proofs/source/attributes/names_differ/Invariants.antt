use Rattle.std.proofs.Common.{◌≡◌, ◌≢◌, List, ℕ, take, Bor}
use Rattle.std.specs.Prelude.{AllPairs}
use Rattle.std.specs.List.{list_any}
use Rattle.std.specs.Str.{bytes_eq}
use Rattle.std.specs.BTreeSet.{contains}
use Rattle.std.specs.Cmp.Lexicographic.{slice_cmp}
use Rattle.std.specs.Ordering.{nat_cmp}
use Rattle.atl_cli.proofs.SourceAttributes.{names}
use Rattle.atl_cli.proofs.source.attributes.names_differ.Given as goal

-- the names so far differ, and they are in the set
abbrev pub invariant-loop-attribute : goal.invariant-loop-attribute
invariant-loop-attribute l = AllPairs (λ x y. x ≢ y) (names (take l.attribute-index l.attributes))
    × ((q : Bor (List ℕ)) → contains (λ x y. slice_cmp nat_cmp x.now y.now) l.names q ≡ list_any (λ n. bytes_eq n q.now) (names (take l.attribute-index l.attributes)))
