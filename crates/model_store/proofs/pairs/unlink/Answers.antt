use Rattle.std.proofs.Common.{◌≡◌, sym, ap, subst, ◌∙◌}
use Rattle.model_store.specs.Contents.{Contents}
use Rattle.model_store.specs.Drafts.{current, without_ends, IsReady}
use Rattle.model_store.specs.Writes.{cut, cut_back, free_ends, unlink}
use Rattle.model_store.proofs.Keeping.{cut_keeps, cut_back_keeps}
use Rattle.model_store.proofs.Ready.{unlink_ready}
use Rattle.model_store.proofs.pairs.unlink.Goals as goal

pub returns-clause-ready : goal.returns-clause-ready
unfolding unlink
returns-clause-ready c =
    let o = c.args.o in
    let f = c.args.f in
    let q = c.args.q in
    let m : Contents = current c.args.model.now in
    let one : current c.cut.new.model ≡ cut o f q m = c.in_ok-cut.ensures.current in
    let two : current c.cut_back.new.model ≡ cut_back o f q (cut o f q m) = c.in_ok-cut_back.ensures.current ∙ ap (cut_back o f q) one in
    let three : current c.free_ends.new.model ≡ unlink o f q m = c.in_ok-free_ends.ensures.current ∙ ap (free_ends o f q) two in
    let meta : (current c.cut_back.new.model).meta ≡ m.meta = ap (λ (n : Contents). n.meta) two ∙ (cut_back_keeps o f q (cut o f q m)).meta ∙ (cut_keeps o f q m).meta in
    let table : c.free_ends.new.model.holders.items ≡ without_ends m.meta o f q c.args.model.now.holders.items =
    c.in_ok-free_ends.ensures.holders
    ∙ ap (λ z. without_ends z o f q c.cut_back.new.model.holders.items) meta
    ∙ ap (without_ends m.meta o f q) (c.cut_back.ensures.holders ∙ c.cut.ensures.holders) in
    subst (λ n. IsReady n c.free_ends.new.model.holders.items) (sym three)
    (subst (IsReady (unlink o f q m)) (sym table) (unlink_ready m c.args.model.now.holders.items c.requires.ready o f q c.requires.reference c.requires.pair))
