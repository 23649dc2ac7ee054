use Rattle.std.proofs.Common.{◌≡◌, ◌++◌, drop}
use Rattle.xmi_read.specs.Groups.{own_run}
use Rattle.ecore_rows.specs.CodeRows.{feature_rows_of}
use Rattle.xmi_read.proofs.classes.own_of.Given as goal

abbrev pub invariant-loop-i : goal.invariant-loop-i
invariant-loop-i l =
    l.list ++ own_run l.class l.i (feature_rows_of (drop l.i l.features)) ≡ own_run l.class l.begin (feature_rows_of (drop l.begin l.features))
