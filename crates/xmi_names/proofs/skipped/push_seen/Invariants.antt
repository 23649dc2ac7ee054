use Rattle.std.proofs.Common.{◌≡◌, ◌++◌, drop}
use Rattle.std.specs.Prelude.{flat_map}
use Rattle.xmi_text.specs.Keys.{keys_of}
use Rattle.xmi_names.specs.Tables.{keyed, names_in}
use Rattle.xmi_names.proofs.skipped.push_seen.Given as goal

abbrev pub invariant-loop-i : goal.invariant-loop-i
invariant-loop-i l =
    keys_of l.keys.items ++ flat_map (λ d. keyed l.number (names_in l.rows d)) (drop l.i l.above)
    ≡ keys_of l.fn.keys.items ++ flat_map (λ d. keyed l.number (names_in l.rows d)) l.above
