use Rattle.std.proofs.Common.{◌≡◌, ◌++◌, map, drop}
use Rattle.ecore_rows.specs.Rows.{supers_behind}
use Rattle.ecore_outline.specs.Entries.{entries_of}
use Rattle.ecore_rows.proofs.rows.push_supers_behind.Given as goal

-- what is to come from the entries that are left completes the words
abbrev pub invariant-loop-i : goal.invariant-loop-i
invariant-loop-i l =
    map (λ w. w.now) l.words.items ++ supers_behind (entries_of (drop l.i l.behind))
    ≡ map (λ w. w.now) l.fn.words.items ++ supers_behind (entries_of l.behind)
