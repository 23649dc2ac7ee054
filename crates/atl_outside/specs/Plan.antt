-- Which calls on an object in memory fail: those whose numbers are listed, counted from 1. Both counters stop at their
-- last value; no number is left for the calls behind that many, and they don't fail.
use Rattle.std.specs.Prelude.{ℕ, ◌+◌, ◌==◌, Bool, List, if◌then◌else◌}
use Rattle.std.specs.List.{list_any}
use Rattle.atl_outside.specs.Rose.{count_after}

pub record Plan : Type 0 where
  -- the numbers of the calls that fail
  pub fails : List ℕ
  -- how many calls there were
  pub calls : ℕ
  -- how often the object has failed
  pub faults : ℕ

-- before the first call
abbrev pub new_plan : List ℕ → Plan
new_plan fails = record { fails = fails; calls = 0; faults = 0 }

-- whether the next call is listed
abbrev pub fails_next : Plan → Bool
fails_next plan = list_any (λ number. number == plan.calls + 1) plan.fails

-- after a call that failed or didn't
abbrev pub plan_after : Bool → Plan → Plan
plan_after failed plan = record { fails = plan.fails; calls = count_after plan.calls; faults = if failed then count_after plan.faults else plan.faults }
