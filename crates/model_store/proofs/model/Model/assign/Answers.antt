use Rattle.std.proofs.Common.{◌≡◌, false, sym, subst}
use Rattle.model_store.specs.Contents.{Contents, refers}
use Rattle.model_store.specs.HolderTables.{AreHolders}
use Rattle.model_store.specs.Valid.{Fits, HasSlot, IsValid}
use Rattle.model_store.proofs.SameHolders.{after_valid, holders_stay}
use Rattle.model_store.proofs.model.Model.assign.Goals as goal

pub assign-requires : goal.assign-requires
assign-requires c = subst (λ (v : Contents). refers v.meta c.args.f ≡ false) (sym c.self.view_is) c.requires.attribute

pub invariant_of-self-2 : goal.invariant_of-self-2
invariant_of-self-2 c =
    let m : Contents = c.self.inside.store in
    let o = c.args.o in
    let f = c.args.f in
    let values = c.args.values.now in
    let there : HasSlot m o f = subst (λ (v : Contents). HasSlot v o f) (sym c.self.view_is) c.requires.there in
    let attribute : refers m.meta f ≡ false = subst (λ (v : Contents). refers v.meta f ≡ false) (sym c.self.view_is) c.requires.attribute in
    let fit : Fits m f values = subst (λ (v : Contents). Fits v f values) (sym c.self.view_is) c.requires.fits in
    let valid : IsValid m = c.self.invariant.0 in
    subst (λ n. IsValid n × AreHolders n c.self.inside.holders.items) (sym c.in_ok-assign.ensures.ok)
    (after_valid m valid o f values there fit attribute, holders_stay m valid o f values there fit attribute c.self.inside.holders.items c.self.invariant.1)
