use Rattle.std.proofs.Common.{◌≡◌, sym, ap, ◌∙◌, Some}
use Rattle.model_store.specs.Contents.{Contents, holds, opposite}
use Rattle.model_store.specs.Drafts.{current}
use Rattle.model_store.proofs.Pairing.{both_ends}
use Rattle.model_store.proofs.adding.has_pair.Goals as goal

pub shorter_holds-requires : goal.shorter_holds-requires
shorter_holds-requires c =
    let m : Contents = current c.args.model.now in
    let back : opposite m.meta c.args.f ≡ Some c.in-Some.g = ap (λ z. opposite z c.args.f) (sym c.meta-2.ensures) ∙ sym c.opposite.ensures ∙ c.in-Some.is in
    ap (holds c.args.p) c.cells.ensures ∙ both_ends m c.requires.ready.valid c.args.o c.args.f c.args.p c.in-Some.g back ∙ sym (ap (holds c.args.o) c.cells-in-Some.ensures)
