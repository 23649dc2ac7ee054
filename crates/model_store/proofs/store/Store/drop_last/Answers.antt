use Rattle.std.proofs.Common.{◌≡◌, ◌-◌, List, length, take, ap, ◌∙◌}
use Rattle.model_store.specs.declared.parts.Cellv.{Cellv}
use Rattle.model_store.specs.Contents.{Contents, set_slot, slot}
use Rattle.model_store.proofs.Exchanges.{popped, set_twice}
use Rattle.model_store.proofs.store.Store.drop_last.Goals as goal

pub returns : goal.returns
returns c =
    let m : Contents = c.args.self.now in
    let rest : List Cellv = c.pop.new.self in
    let shorter : rest ≡ take (length (slot m c.args.o c.args.f) - 1) (slot m c.args.o c.args.f) =
    popped c.pop.result c.exchange-cells.result rest c.pop.ensures ∙ ap (λ (l : List Cellv). take (length l - 1) l) c.exchange-cells.ensures.old in
    c.exchange-2.ensures.new
    ∙ ap (λ (n : Contents). set_slot n c.args.o c.args.f rest) c.exchange-cells.ensures.new
    ∙ set_twice m c.args.o c.args.f _ rest
    ∙ ap (set_slot m c.args.o c.args.f) shorter
