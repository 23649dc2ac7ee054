use Rattle.std.proofs.Common.{◌≡◌, Some, sym, ap, ◌∙◌}
use Rattle.model_store.specs.Contents.{Contents, first_object, opposite, slot}
use Rattle.model_store.specs.Drafts.{current}
use Rattle.model_store.proofs.Added.{first_held}
use Rattle.model_store.proofs.Wired.{opposite_back}
use Rattle.model_store.proofs.adding.give_up_back.Goals as goal

pub unlink-requires-clause-pair : goal.unlink-requires-clause-pair
unlink-requires-clause-pair c =
    let m : Contents = current c.args.model.now in
    let back : opposite m.meta c.args.f ≡ Some c.in-Some.g = ap (λ z. opposite z c.args.f) (sym c.meta.ensures) ∙ sym c.opposite.ensures ∙ c.in-Some.is in
    let first : first_object (slot m c.args.p c.in-Some.g) ≡ Some c.in-Some-first_object.r = ap first_object (sym c.cells.ensures) ∙ sym c.first_object.ensures ∙ c.in-Some-first_object.is in
    c.requires.ready.valid.model.opposites c.args.p c.in-Some-first_object.r c.in-Some.g c.args.f (opposite_back m.meta c.requires.ready.valid.metamodel c.args.f c.in-Some.g back)
    (first_held (slot m c.args.p c.in-Some.g) c.in-Some-first_object.r first)
