use Rattle.std.proofs.Common.{◌≡◌, ◌+◌, ◌<◌, ℕ, List, length, sym, ap, subst, ◌∙◌, arith, below_more}
use Rattle.std.specs.List.{Contains}
use Rattle.atl_base.specs.declared.numbers.ObjId.{ObjId}
use Rattle.model_store.specs.Contents.{Contents}
use Rattle.model_store.specs.Order.{contents}
use Rattle.model_store.proofs.Rising.{RisesAt, no_cycle}
use Rattle.model_store.proofs.tests.rises.Goals as goal

pub loop-n-preserved : goal.loop-n-preserved
loop-n-preserved c =
    let n : ℕ = c.loop-n.n in
    let items : List ObjId = c.deref-q-items.result.now in
    let same : items ≡ contents c.args.model.now (record { 0 = n }) = c.deref-q-items.ensures.value ∙ c.in_ok-contents.ensures ∙ ap (λ (m : Contents). contents m (record { 0 = n })) c.store.ensures in
    below_more (RisesAt c.args.model.now) n c.loop-n.invariant (λ q h.
    let there : Contains items q = subst (λ (l : List ObjId). Contains l q) (sym same) h in
    let low : there.0 < c.loop-q.q-index = omega (arith, there.1, c.loop-q-test.false) in
    subst (λ (y : ObjId). n < y.0) there.2 (c.loop-q.invariant there.0 q low))

pub returns : goal.returns
returns c = λ t. no_cycle c.args.model.now (λ k h. c.loop-n.invariant k (omega (arith, h, c.given-n-end.ensures, c.loop-n-test.false)))
