use Rattle.std.proofs.Common.{sym, ap, ◌∙◌}
use Rattle.model_store.specs.Drafts.{undone}
use Rattle.model_store.proofs.Exchanges.{undone_more}
use Rattle.model_store.proofs.draft.undo_all.Goals as goal

pub back-preserved : goal.back-preserved
back-preserved c =
    let rest = c.pop.new.self.items in
    ap (undone rest) c.undo.ensures
    ∙ sym (undone_more rest c.in-Some.change c.back.store)
    ∙ ap (λ changes. undone changes c.back.store) (sym c.in-Some.ensures.items)
    ∙ c.back.invariant
