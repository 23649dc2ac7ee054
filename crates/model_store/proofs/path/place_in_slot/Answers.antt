use Rattle.std.proofs.Common.{sym, ◌∙◌}
use Rattle.model_store.specs.Contents.{refers_to}
use Rattle.model_store.proofs.Places.{not_found}
use Rattle.model_store.proofs.path.place_in_slot.Goals as goal

pub returns-in-None : goal.returns-in-None
returns-in-None c = not_found (refers_to c.args.o) c.args.cells.now (sym c.found_in_slot.ensures ∙ c.in-None.is)
