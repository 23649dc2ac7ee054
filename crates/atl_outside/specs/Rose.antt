-- Counters of 64 bits, which stop at their last value, and when a count of faults rose: it is greater than before, or stands
-- at that last value.
use Rattle.std.specs.Prelude.{ℕ, ◌+◌, ◌-◌, ◌^◌, ◌≤◌, min}

-- one more, up to the last value
abbrev pub count_after : ℕ → ℕ
count_after n = min (n + 1) (2 ^ 64 - 1)

abbrev pub Rose : ℕ → ℕ → Type 0
Rose before after = count_after before ≤ after
