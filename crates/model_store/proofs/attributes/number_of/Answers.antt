use Rattle.model_store.proofs.Numbers.{is_read}
use Rattle.model_store.proofs.attributes.number_of.Goals as goal

pub returns-in-Err : goal.returns-in-Err
returns-in-Err c = absurd (c.in-Err.ensures.value.0 (is_read c.args.text.now c.requires))
