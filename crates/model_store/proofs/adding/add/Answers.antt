use Rattle.std.proofs.Common.{◌≡◌, false, sym, ap, subst, ◌∙◌}
use Rattle.model_store.specs.Contents.{Contents, holds, refers, slot}
use Rattle.model_store.specs.Drafts.{current, with_ends, IsReady}
use Rattle.model_store.specs.Valid.{HasSlot}
use Rattle.model_store.specs.Writes.{give_up, give_up_back, make_way, link}
use Rattle.model_store.proofs.Keeping.{give_up_keeps}
use Rattle.model_store.proofs.Ready.{link_ready}
use Rattle.model_store.proofs.ReferenceWrites.{may}
use Rattle.model_store.proofs.adding.add.Goals as goal

pub give_up_back-requires-clause-reference : goal.give_up_back-requires-clause-reference
give_up_back-requires-clause-reference c =
    let m : Contents = current c.args.model.now in
    let one : current c.give_up.new.model ≡ give_up c.args.o c.args.f m = c.in_ok-give_up.ensures.current in
    ap (λ (n : Contents). refers n.meta c.args.f) one ∙ ap (λ z. refers z c.args.f) (give_up_keeps c.args.o c.args.f m).meta ∙ c.requires.reference

pub link-requires-clause-there : goal.link-requires-clause-there
link-requires-clause-there c =
    let o = c.args.o in
    let f = c.args.f in
    let p = c.args.p in
    let m : Contents = current c.args.model.now in
    let three : Contents = make_way o f p (give_up_back f p (give_up o f m)) in
    let is : current c.make_way.new.model ≡ three = c.in_ok-make_way.ensures.current ∙ ap (make_way o f p) (c.in_ok-give_up_back.ensures.current ∙ ap (give_up_back f p) c.in_ok-give_up.ensures.current) in
    let new : holds p (slot m o f) ≡ false = sym c.has_pair.ensures ∙ c.if-has_pair.false in
    subst (λ n. HasSlot n o f) (sym is) (may m c.requires.ready.valid.metamodel c.requires.ready.valid.model o f p c.requires.there c.requires.reference c.requires.typed new).has

pub link-requires-clause-apart : goal.link-requires-clause-apart
link-requires-clause-apart c =
    let o = c.args.o in
    let f = c.args.f in
    let p = c.args.p in
    let m : Contents = current c.args.model.now in
    let three : Contents = make_way o f p (give_up_back f p (give_up o f m)) in
    let is : current c.make_way.new.model ≡ three = c.in_ok-make_way.ensures.current ∙ ap (make_way o f p) (c.in_ok-give_up_back.ensures.current ∙ ap (give_up_back f p) c.in_ok-give_up.ensures.current) in
    let new : holds p (slot m o f) ≡ false = sym c.has_pair.ensures ∙ c.if-has_pair.false in
    ap (λ (n : Contents). holds p (slot n o f)) is ∙ (may m c.requires.ready.valid.metamodel c.requires.ready.valid.model o f p c.requires.there c.requires.reference c.requires.typed new).apart

pub returns-clause-ready : goal.returns-clause-ready
returns-clause-ready c =
    let o = c.args.o in
    let f = c.args.f in
    let p = c.args.p in
    let m : Contents = current c.args.model.now in
    let three : Contents = make_way o f p (give_up_back f p (give_up o f m)) in
    let is : current c.make_way.new.model ≡ three = c.in_ok-make_way.ensures.current ∙ ap (make_way o f p) (c.in_ok-give_up_back.ensures.current ∙ ap (give_up_back f p) c.in_ok-give_up.ensures.current) in
    let new : holds p (slot m o f) ≡ false = sym c.has_pair.ensures ∙ c.if-has_pair.false in
    let four : current c.link.new.model ≡ link o f p three = c.in_ok-link.ensures.current ∙ ap (link o f p) is in
    let before = c.make_way.new.model.holders.items in
    let table : c.link.new.model.holders.items ≡ with_ends three.meta o f p before = c.in_ok-link.ensures.holders ∙ ap (λ (n : Contents). with_ends n.meta o f p before) is in
    let ready : IsReady three before = subst (λ n. IsReady n before) is c.in_ok-make_way.ensures.ready in
    subst (λ n. IsReady n c.link.new.model.holders.items) (sym four)
    (subst (IsReady (link o f p three)) (sym table) (link_ready three before ready o f p (may m c.requires.ready.valid.metamodel c.requires.ready.valid.model o f p c.requires.there c.requires.reference c.requires.typed new)))
