use Rattle.std.proofs.Common.{sym, ◌∙◌}
use Rattle.model_store.proofs.Places.{not_found}
use Rattle.model_store.proofs.roots.place_by_steps.Goals as goal

pub returns-in-None-clause-place : goal.returns-in-None-clause-place
returns-in-None-clause-place c = not_found _ c.args.roots.now (sym c.first_greater.ensures ∙ c.in-None.is)
