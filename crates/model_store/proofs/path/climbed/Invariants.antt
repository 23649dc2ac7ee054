use Rattle.std.proofs.Common.{◌≡◌, ◌++◌, ◌-◌, suc, reverse, length}
use Rattle.model_store.specs.Paths.{steps_within, top_within}
use Rattle.model_store.proofs.path.climbed.Given as goal

-- what stands above, and the steps from there
abbrev pub invariant-loop-level : goal.invariant-loop-level
invariant-loop-level l = record {
  top : top_within (suc (length l.model.objects) - l.level) l.model l.top ≡ top_within (suc (length l.model.objects)) l.model l.fn.o;
  steps : steps_within (suc (length l.model.objects) - l.level) l.model l.top ++ reverse l.steps.items ≡ steps_within (suc (length l.model.objects)) l.model l.fn.o;
}
