use Rattle.std.proofs.Common.{ap, ◌∙◌, rules}
use Rattle.std.specs.Prelude.{not}
use Rattle.std.proofs.lemmas.Fn.{filter_same}
use Rattle.model_store.specs.Roots.{is_among, without_all}
use Rattle.model_store.proofs.roots.remove_all.Goals as goal

pub returns : goal.returns
returns c = filter_same _ (λ r. not (is_among c.args.numbers.now r)) _ (λ x b q h. (search rules, search rules)) _ _ c.retain.ensures.filtered ∙ ap (without_all c.args.numbers.now) c.close.ensures.items
