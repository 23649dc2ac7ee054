use Rattle.std.proofs.Common.{◌≡◌, ◌++◌, ◌∷◌, [], List, ap, ◌∙◌}
use Rattle.std.proofs.lemmas.Result.{on_ok_weaker, on_err_weaker}
use Rattle.model_store.specs.declared.parts.Cellv.{Cellv}
use Rattle.model_store.specs.Contents.{Contents, set_slot}
use Rattle.model_store.proofs.Exchanges.{set_same, set_twice}
use Rattle.model_store.proofs.store.Store.append_value.Goals as goal

pub returns-clause-ok : goal.returns-clause-ok
returns-clause-ok c =
    let m : Contents = c.args.self.now in
    let cells : List Cellv = c.push-pushed.new.self in
    on_ok_weaker c.push-pushed.result (λ longer.
    c.exchange-2.ensures.new
    ∙ ap (λ (n : Contents). set_slot n c.args.o c.args.f cells) c.exchange-cells.ensures.new
    ∙ set_twice m c.args.o c.args.f _ cells
    ∙ ap (set_slot m c.args.o c.args.f) (longer ∙ ap (λ (l : List Cellv). l ++ c.args.value ∷ []) c.exchange-cells.ensures.old)) c.push-pushed.ensures.ok

pub returns-clause-err : goal.returns-clause-err
returns-clause-err c =
    let m : Contents = c.args.self.now in
    let cells : List Cellv = c.push-pushed.new.self in
    on_err_weaker c.push-pushed.result (λ same.
    c.exchange-2.ensures.new
    ∙ ap (λ (n : Contents). set_slot n c.args.o c.args.f cells) c.exchange-cells.ensures.new
    ∙ set_twice m c.args.o c.args.f _ cells
    ∙ ap (set_slot m c.args.o c.args.f) (same ∙ c.exchange-cells.ensures.old)
    ∙ set_same m c.args.o c.args.f) c.push-pushed.ensures.err
