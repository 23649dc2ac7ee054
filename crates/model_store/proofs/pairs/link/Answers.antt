use Rattle.std.proofs.Common.{◌≡◌, sym, ap, subst, ◌∙◌}
use Rattle.std.specs.Prelude.{◌==◌, ◌&&◌}
use Rattle.model_store.specs.Contents.{Contents, holds, opposite, slot}
use Rattle.model_store.specs.Drafts.{current, with_ends}
use Rattle.model_store.specs.Writes.{join, join_back}
use Rattle.model_store.proofs.Keeping.{join_keeps, join_back_keeps}
use Rattle.model_store.proofs.Pairing.{end_apart}
use Rattle.model_store.proofs.pairs.link.Goals as goal

pub join_back-requires : goal.join_back-requires
join_back-requires c = λ g e.
    let o = c.args.o in
    let f = c.args.f in
    let q = c.args.q in
    let m : Contents = current c.args.model.now in
    let one : current c.join.new.model ≡ join o f q m = c.in_ok-join.ensures.current in
    let meta : (current c.join.new.model).meta ≡ m.meta = ap (λ (n : Contents). n.meta) one ∙ (join_keeps o f q m).meta in
    subst (λ (n : Contents). holds o (slot n q g) ≡ (q.0 == o.0 && g.0 == f.0)) (sym one)
    (end_apart m c.requires.ready.valid o f q c.requires.there c.requires.apart g (ap (λ z. opposite z f) (sym meta) ∙ e))

pub returns-clause-holders : goal.returns-clause-holders
returns-clause-holders c =
    let o = c.args.o in
    let f = c.args.f in
    let q = c.args.q in
    let m : Contents = current c.args.model.now in
    let two : current c.join_back.new.model ≡ join_back o f q (join o f q m) = c.in_ok-join_back.ensures.current ∙ ap (join_back o f q) c.in_ok-join.ensures.current in
    let meta : (current c.join_back.new.model).meta ≡ m.meta = ap (λ (n : Contents). n.meta) two ∙ (join_back_keeps o f q (join o f q m)).meta ∙ (join_keeps o f q m).meta in
    c.in_ok-take_ends_in.ensures.holders
    ∙ ap (λ z. with_ends z o f q c.join_back.new.model.holders.items) meta
    ∙ ap (with_ends m.meta o f q) (c.in_ok-join_back.ensures.holders ∙ c.in_ok-join.ensures.holders)
