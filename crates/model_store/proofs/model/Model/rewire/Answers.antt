use Rattle.std.proofs.Common.{◌≡◌, true, sym, ap, subst, ◌∙◌}
use Rattle.std.specs.Prelude.{All}
use Rattle.model_store.specs.Contents.{Contents, refers}
use Rattle.model_store.specs.Drafts.{IsReady}
use Rattle.model_store.specs.Valid.{HasSlot, IsOfType}
use Rattle.model_store.proofs.model.Model.rewire.Goals as goal

pub write_reference-store-requires-clause-ready : goal.write_reference-store-requires-clause-ready
write_reference-store-requires-clause-ready c =
    let ready : IsReady c.self.inside.store c.self.inside.holders.items = record { valid = c.self.invariant.0; table = c.self.invariant.1 } in
    subst (λ n. IsReady n c.replace-holders.result.items) (sym c.replace-store.ensures.value)
    (subst (λ l. IsReady c.self.inside.store l) (ap (λ v. v.items) (sym c.replace-holders.ensures.value)) ready)

pub write_reference-store-requires-clause-there : goal.write_reference-store-requires-clause-there
write_reference-store-requires-clause-there c = subst (λ (v : Contents). HasSlot v c.args.o c.args.f) (sym (c.replace-store.ensures.value ∙ c.self.view_is)) c.requires.there

pub write_reference-store-requires-clause-reference : goal.write_reference-store-requires-clause-reference
write_reference-store-requires-clause-reference c = subst (λ (v : Contents). refers v.meta c.args.f ≡ true) (sym (c.replace-store.ensures.value ∙ c.self.view_is)) c.requires.reference

pub write_reference-store-requires-clause-typed : goal.write_reference-store-requires-clause-typed
write_reference-store-requires-clause-typed c = subst (λ (v : Contents). All (IsOfType v c.args.f) c.args.values.now) (sym (c.replace-store.ensures.value ∙ c.self.view_is)) c.requires.fits.typed
