use Rattle.std.proofs.Common.{◌≡◌, map, take}
use Rattle.model_store.specs.declared.roots.RootStep.TheVariants.{TakenIn}
use Rattle.model_store.proofs.roots.taken.Given as goal

-- the numbers so far
abbrev pub invariant-loop-step : goal.invariant-loop-step
invariant-loop-step l = map (λ n. TakenIn (record { 0 = n })) l.numbers.items ≡ take l.step-index l.steps
