use Rattle.std.proofs.Common.{◌≡◌, ℕ, [], length}
use Rattle.xmi_names.specs.Tables.{names_in}
use Rattle.xmi_names.proofs.skipped.empty_rows.Given as goal

abbrev pub invariant-loop : goal.invariant-loop
invariant-loop l = record { lengths : length l.rows.items ≡ l.counter; each : (d : ℕ) → names_in l.rows.items d ≡ [] }
