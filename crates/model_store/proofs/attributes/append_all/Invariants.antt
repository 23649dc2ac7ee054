use Rattle.std.proofs.Common.{◌≡◌, drop, length, take}
use Rattle.model_store.specs.Writes.{appended}
use Rattle.model_store.proofs.attributes.append_all.Given as goal

-- the values that are left, after what stands, give the same, and the slot begins as before
abbrev pub invariant-loop-value : goal.invariant-loop-value
invariant-loop-value l = (appended l.unique l.row (drop l.value-index l.values) ≡ appended l.unique l.initial.row l.values)
    × (take (length l.initial.row) l.row ≡ l.initial.row)
