use Rattle.std.proofs.Common.{sym, ◌∙◌}
use Rattle.model_store.specs.Contents.{Contents}
use Rattle.model_store.specs.Drafts.{current}
use Rattle.model_store.proofs.Pairing.{by_container}
use Rattle.model_store.proofs.adding.is_held_by.Goals as goal

pub returns : goal.returns
returns c =
    let m : Contents = current c.args.model.now in
    c.is_place.ensures ∙ by_container m c.requires.ready.valid c.args.o c.args.f c.args.p c.requires.content c.holder.result (sym c.holder.ensures)
