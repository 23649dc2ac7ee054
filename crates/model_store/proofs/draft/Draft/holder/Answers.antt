use Rattle.std.proofs.Common.{◌≤◌, length, sym, ◌∙◌, arith, rules}
use Rattle.model_store.specs.Contents.{Contents}
use Rattle.model_store.specs.Drafts.{current}
use Rattle.model_store.proofs.SameHolders.{no_holder}
use Rattle.model_store.proofs.draft.Draft.holder.Goals as goal

pub returns-in_err-get : goal.returns-in_err-get
returns-in_err-get c =
    let m : Contents = current c.args.self.now in
    let past : length c.args.self.now.holders.items ≤ c.args.p.0 = search rules in
    let beyond : length m.objects ≤ c.args.p.0 = omega (arith, past, c.requires.table.size) in
    c.from_residual.ensures ∙ sym (no_holder m c.requires.valid c.args.p beyond)
