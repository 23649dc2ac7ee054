use Rattle.std.proofs.Common.{◌≡◌, Some, sym, ap, ◌∙◌}
use Rattle.model_store.specs.Contents.{Contents, first_object, slot}
use Rattle.model_store.specs.Drafts.{current}
use Rattle.model_store.proofs.Added.{first_held}
use Rattle.model_store.proofs.adding.give_up.Goals as goal

pub unlink-requires-clause-pair : goal.unlink-requires-clause-pair
unlink-requires-clause-pair c =
    let m : Contents = current c.args.model.now in
    let first : first_object (slot m c.args.o c.args.f) ≡ Some c.in-Some.q = ap first_object (sym c.cells.ensures) ∙ sym c.first_object.ensures ∙ c.in-Some.is in
    first_held (slot m c.args.o c.args.f) c.in-Some.q first
