use Rattle.std.proofs.Common.{◌≡◌, ◌++◌, reverse, length}
use Rattle.std.specs.List.{flat_map}
use Rattle.model_store.specs.Paths.{step_text}
use Rattle.model_store.proofs.path.push_steps.Given as goal

-- the text so far, and the steps that are left
abbrev pub invariant-loop-step : goal.invariant-loop-step
invariant-loop-step l = l.text ++ flat_map (step_text l.model) (reverse l.steps.items) ≡ l.initial.text ++ flat_map (step_text l.model) (reverse l.initial.steps.items)

abbrev pub decreases-loop-step : goal.decreases-loop-step
decreases-loop-step l = length l.steps.items
