use Rattle.std.proofs.Common.{◌∙◌, ap, sym, Some}
use Rattle.atl_outside.specs.Held.{content_of}
use Rattle.atl_outside.proofs.Pairs.{found, found-here, found-next, found-end, content_of-held_of}
use Rattle.atl_outside.proofs.path_table.PathTable.content.Goals as goal

pub loop-pair-preserved : goal.loop-pair-preserved
loop-pair-preserved c =
    found-next c.deref-pair-items.result.now c.loop-pair.pair-index c.args.path.now c.pair-item.result c.loop-pair-test.true c.pair-item.is (sym c.eq.ensures ∙ c.if-eq.false)
    ∙ c.loop-pair.invariant

pub returns-then-eq : goal.returns-then-eq
returns-then-eq c =
    ap Some c.as_slice.ensures.value
    ∙ sym (found-here c.deref-pair-items.result.now c.loop-pair.pair-index c.args.path.now c.pair-item.result c.loop-pair-test.true c.pair-item.is (sym c.eq.ensures ∙ c.if-eq.true))
    ∙ c.loop-pair.invariant
    ∙ ap (found c.args.path.now) c.deref-pair-items.ensures.value
    ∙ sym (content_of-held_of c.self.inside.pairs.items c.args.path.now)
    ∙ ap (λ held. content_of held c.args.path.now) c.self.view_is

pub returns : goal.returns
returns c =
    sym (found-end c.deref-pair-items.result.now c.loop-pair.pair-index c.args.path.now c.loop-pair-test.false)
    ∙ c.loop-pair.invariant
    ∙ ap (found c.args.path.now) c.deref-pair-items.ensures.value
    ∙ sym (content_of-held_of c.self.inside.pairs.items c.args.path.now)
    ∙ ap (λ held. content_of held c.args.path.now) c.self.view_is
