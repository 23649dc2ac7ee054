use Rattle.std.proofs.Common.{◌≡◌, ◌++◌, ℕ, length, drop}
use Rattle.xmi_names.specs.Tables.{names_in, names_of}
use Rattle.xmi_names.proofs.skipped.declared_names.Given as goal

abbrev pub invariant-loop-i : goal.invariant-loop-i
invariant-loop-i l = record {
  lengths : length l.rows.items ≡ l.count;
  each : (d : ℕ) → names_in l.rows.items d ++ names_of d (drop l.i l.skipped) ≡ names_of d l.skipped;
}
