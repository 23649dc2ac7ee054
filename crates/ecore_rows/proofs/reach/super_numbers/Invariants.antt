use Rattle.std.proofs.Common.{◌≡◌, ◌++◌, map, drop}
use Rattle.std.specs.List.{filter_map}
use Rattle.ecore_names.specs.References.{class_named}
use Rattle.ecore_rows.specs.Rows.{super_numbers}
use Rattle.ecore_outline.specs.Entries.{entries_of}
use Rattle.ecore_rows.specs.CodeRows.{class_rows_of}
use Rattle.ecore_rows.proofs.reach.super_numbers.Given as goal

-- what is to come from the classes that are left completes the rows
abbrev pub invariant-loop-i : goal.invariant-loop-i
invariant-loop-i l =
    l.rows.items ++ map (λ row. filter_map (class_named (entries_of l.file)) row.supers) (class_rows_of (drop l.i l.classes))
    ≡ super_numbers (entries_of l.file)
