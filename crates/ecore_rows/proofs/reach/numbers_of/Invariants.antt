use Rattle.std.proofs.Common.{◌≡◌, ◌++◌, map, drop}
use Rattle.std.specs.List.{filter_map}
use Rattle.ecore_names.specs.References.{class_named}
use Rattle.ecore_outline.specs.Entries.{entries_of}
use Rattle.ecore_rows.proofs.reach.numbers_of.Given as goal

-- what is to come from the words that are left completes the numbers
abbrev pub invariant-loop-i : goal.invariant-loop-i
invariant-loop-i l =
    l.numbers.items ++ filter_map (class_named (entries_of l.file)) (map (λ w. w.now) (drop l.i l.words))
    ≡ filter_map (class_named (entries_of l.file)) (map (λ w. w.now) l.words)
