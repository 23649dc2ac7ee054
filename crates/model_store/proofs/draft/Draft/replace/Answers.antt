use Rattle.std.proofs.Common.{◌≡◌, ◌++◌, ◌∷◌, ℕ, [], length, ap, ◌∙◌, rules}
use Rattle.model_store.specs.declared.draft.Change.TheVariants.{Replaced}
use Rattle.model_store.specs.Contents.{Contents, set_slot, slot}
use Rattle.model_store.specs.Drafts.{undone}
use Rattle.model_store.proofs.Exchanges.{replaced_back}
use Rattle.model_store.proofs.draft.Draft.replace.Goals as goal

pub returns-clause-back : goal.returns-clause-back
returns-clause-back c =
    let old = c.args.self.now in
    let pushed : c.push.new.self.items ≡ old.journal.items ++ Replaced c.args.o c.args.f (slot old.store c.args.o c.args.f) ∷ [] = search rules in
    let stands : c.exchange-old.new.self ≡ set_slot old.store c.args.o c.args.f c.args.cells = c.exchange-old.ensures.new ∙ ap (set_slot old.store c.args.o c.args.f) c.new.ensures in
    ap (λ (n : Contents). let p : Contents × ℕ = (n, length old.holders.items) in p) (
    ap (λ changes. undone changes c.exchange-old.new.self) pushed
    ∙ ap (undone (old.journal.items ++ Replaced c.args.o c.args.f (slot old.store c.args.o c.args.f) ∷ [])) stands
    ∙ replaced_back old.journal.items old.store c.args.o c.args.f c.args.cells)
