use Rattle.std.proofs.Common.{◌≡◌, ◌+◌, ◌-◌, ◌≤◌, drop, length}
use Rattle.std.specs.Vec.{vec_len, vec_capacity}
use Rattle.model_store.specs.Drafts.{settled}
use Rattle.model_store.specs.Roots.{IsKnown}
use Rattle.model_store.proofs.roots.take_steps.Given as goal

-- the steps that are left give the same, and there is room for them
abbrev pub invariant-loop-step : goal.invariant-loop-step
invariant-loop-step l = record {
  same : settled (drop l.step-index l.steps) (drop l.after.from l.list.items) ≡ settled l.steps (drop l.fn.known.from l.initial.list.items);
  room : vec_len l.list + (length l.steps - l.step-index) ≤ vec_capacity l.list;
  known : IsKnown l.list.items l.after.from l.after.rise;
}
