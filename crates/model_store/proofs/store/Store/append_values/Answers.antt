use Rattle.std.proofs.Common.{◌≡◌, List, ap, ◌∙◌, rules}
use Rattle.std.proofs.lemmas.Result.{on_ok_weaker, on_err_weaker}
use Rattle.model_store.specs.declared.parts.Cellv.{Cellv}
use Rattle.model_store.specs.Contents.{Contents, is_unique, set_slot, slot}
use Rattle.model_store.specs.Writes.{appended}
use Rattle.model_store.proofs.Exchanges.{set_same, set_twice}
use Rattle.model_store.proofs.store.Store.append_values.Goals as goal

pub returns-clause-ok : goal.returns-clause-ok
returns-clause-ok c =
    let m : Contents = c.args.self.now in
    let cells : List Cellv = c.append_or_not-done.new.row in
    let unique : c.is_unique-unique.result ≡ is_unique m.meta c.args.f = search rules in
    on_ok_weaker c.append_or_not-done.result (λ longer.
    c.exchange-2.ensures.new
    ∙ ap (λ (n : Contents). set_slot n c.args.o c.args.f cells) c.exchange-row.ensures.new
    ∙ set_twice m c.args.o c.args.f _ cells
    ∙ ap (set_slot m c.args.o c.args.f) (
    longer
    ∙ ap (λ unique. appended unique c.exchange-row.result c.args.values.now) unique
    ∙ ap (λ (l : List Cellv). appended (is_unique m.meta c.args.f) l c.args.values.now) c.exchange-row.ensures.old)) c.append_or_not-done.ensures.ok

pub returns-clause-err : goal.returns-clause-err
returns-clause-err c =
    let m : Contents = c.args.self.now in
    let cells : List Cellv = c.append_or_not-done.new.row in
    on_err_weaker c.append_or_not-done.result (λ same.
    c.exchange-2.ensures.new
    ∙ ap (λ (n : Contents). set_slot n c.args.o c.args.f cells) c.exchange-row.ensures.new
    ∙ set_twice m c.args.o c.args.f _ cells
    ∙ ap (set_slot m c.args.o c.args.f) (same ∙ c.exchange-row.ensures.old)
    ∙ set_same m c.args.o c.args.f) c.append_or_not-done.ensures.err
