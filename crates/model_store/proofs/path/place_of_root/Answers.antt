use Rattle.std.proofs.Common.{sym, ◌∙◌}
use Rattle.model_store.specs.Contents.{is_object_no}
use Rattle.model_store.proofs.Places.{not_found}
use Rattle.model_store.proofs.path.place_of_root.Goals as goal

pub returns-in-None : goal.returns-in-None
returns-in-None c = not_found (is_object_no c.args.o) c.args.roots.now (sym c.found_root.ensures ∙ c.in-None.is)
