use Rattle.std.proofs.Common.{◌≡◌, ◌++◌, ◌∷◌, ℕ, [], length, ap, ◌∙◌, rules}
use Rattle.model_store.specs.declared.draft.Change.TheVariants.{Appended}
use Rattle.model_store.specs.declared.parts.Cellv.TheVariants.{Obj}
use Rattle.model_store.specs.Contents.{Contents, set_slot, slot}
use Rattle.model_store.specs.Drafts.{undone}
use Rattle.model_store.proofs.Exchanges.{appended_back}
use Rattle.model_store.proofs.draft.Draft.append.Goals as goal

pub returns-clause-back : goal.returns-clause-back
returns-clause-back c =
    let old = c.args.self.now in
    let pushed : c.push.new.self.items ≡ old.journal.items ++ Appended c.args.o c.args.f ∷ [] = search rules in
    let stands : c.append.new.self ≡ set_slot old.store c.args.o c.args.f (slot old.store c.args.o c.args.f ++ Obj c.args.q ∷ []) = c.in_ok-append.ensures.ok in
    ap (λ (n : Contents). let p : Contents × ℕ = (n, length old.holders.items) in p) (
    ap (λ changes. undone changes c.append.new.self) pushed
    ∙ ap (undone (old.journal.items ++ Appended c.args.o c.args.f ∷ [])) stands
    ∙ appended_back old.store c.args.o c.args.f (Obj c.args.q) old.journal.items)
