use Rattle.std.proofs.Common.{◌≡◌, ◌<◌, ◌++◌, ◌∷◌, [], length, sym, subst, None, rules}
use Rattle.model_store.specs.Contents.{Contents}
use Rattle.model_store.specs.Valid.{IsConcrete}
use Rattle.model_store.proofs.SameHolders.{create_ok, BothHold}
use Rattle.model_store.proofs.model.Model.create.Goals as goal

pub invariant_of-self-in-Ok : goal.invariant_of-self-in-Ok
invariant_of-self-in-Ok c =
    let m = c.self.inside.store in
    let within = subst (λ (v : Contents). c.args.class.0 < length v.meta.classes) (sym c.self.view_is) c.requires.class in
    let concrete = subst (λ (v : Contents). IsConcrete v.meta c.args.class) (sym c.self.view_is) c.requires.concrete in
    let pushed : c.push.new.self.items ≡ c.self.inside.holders.items ++ None ∷ [] = search rules in
    subst (BothHold m c.create.new.self c.self.invariant.0 c.self.inside.holders.items c.self.invariant.1) (sym pushed)
    (create_ok m c.create.new.self c.self.invariant.0 c.self.inside.holders.items c.self.invariant.1 c.args.class c.in-Ok.o within concrete c.in-Ok.ensures)
