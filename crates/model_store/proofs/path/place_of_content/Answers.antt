use Rattle.std.proofs.Common.{◌≡◌, sym, subst, rules}
use Rattle.std.specs.Prelude.{true}
use Rattle.ecore_meta.specs.Valid.{AllDiffer}
use Rattle.model_store.specs.Contents.{Contents, contains, slot}
use Rattle.model_store.proofs.Added.{contains_refers}
use Rattle.model_store.proofs.path.place_of_content.Goals as goal

pub near_place-requires : goal.near_place-requires
near_place-requires c =
    let m : Contents = c.args.model.now in
    let step = c.args.step in
    let content : contains m.meta step.feature ≡ true = search rules in
    let cells : c.cells-cells.result.now ≡ slot m step.from step.feature = search rules in
    subst AllDiffer (sym cells) (c.valid.ensures.model.differ step.from step.feature (contains_refers m.meta step.feature content))
