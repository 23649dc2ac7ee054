use Rattle.std.proofs.Common.{◌≤◌, length, sym, ap, ◌∙◌, arith, rules}
use Rattle.model_store.specs.Contents.{Contents, holder}
use Rattle.model_store.proofs.SameHolders.{no_holder}
use Rattle.model_store.proofs.model.Model.holder.Goals as goal

pub returns-in_err-get : goal.returns-in_err-get
returns-in_err-get c =
    let past : length c.self.inside.holders.items ≤ c.args.p.0 = search rules in
    let beyond : length c.self.inside.store.objects ≤ c.args.p.0 = omega (arith, past, c.self.invariant.1.size) in
    c.from_residual.ensures ∙ sym (no_holder c.self.inside.store c.self.invariant.0 c.args.p beyond) ∙ ap (λ (v : Contents). holder v c.args.p) c.self.view_is
