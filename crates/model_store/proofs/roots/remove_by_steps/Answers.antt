use Rattle.std.proofs.Common.{ap, ◌∙◌, rules}
use Rattle.std.specs.Prelude.{not, ◌==◌}
use Rattle.std.proofs.lemmas.Fn.{filter_same}
use Rattle.model_store.specs.Writes.{without_root}
use Rattle.model_store.proofs.roots.remove_by_steps.Goals as goal

pub returns-clause-items : goal.returns-clause-items
returns-clause-items c = filter_same _ (λ r. not (r.0 == c.args.o.0)) _ (λ x b q h. (search rules, search rules)) _ _ c.retain.ensures.filtered ∙ ap (without_root c.args.o) c.close.ensures.items
