use Rattle.std.proofs.Common.{◌≡◌, drop, eqb}
use Rattle.indexmap.specs.IndexSet.{insert_all}
use Rattle.ecore_rows.proofs.reach.add_new.Given as goal

-- what is to come completes the set
abbrev pub invariant-loop-i : goal.invariant-loop-i
invariant-loop-i l = insert_all eqb l.reached.keys (drop l.i l.classes) ≡ insert_all eqb l.fn.reached.keys l.classes
