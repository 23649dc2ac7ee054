use Rattle.std.proofs.Common.{◌≡◌, ◌≤◌, List, None, Some, length, sym, subst, ◌∙◌, ap, arith}
use Rattle.std.proofs.lemmas.List.{length_push}
use Rattle.std.proofs.lemmas.Result.{IfOk-weaker}
use Rattle.atl_base.specs.declared.numbers.ObjId.{ObjId}
use Rattle.model_store.specs.Contents.{container}
use Rattle.xmi_write.specs.Cycles.{IsRingFrom}
use Rattle.xmi_write.proofs.Rings.{IsApart, IsRise, apart_push, no_end, not_apart, ring_end, rise_push}
use Rattle.xmi_write.proofs.cycles.ring.Goals as goal

pub returns-in_default : goal.returns-in_default
returns-in_default c =
    let m = c.args.model.now in
    let none : container m c.loop-level.top ≡ None = sym c.container.ensures ∙ c.in_default.is in
    absurd (no_end m c.valid.ensures.metamodel c.valid.ensures.model c.args.o c.requires c.loop-level.up.items c.loop-level.top c.loop-level.invariant.rise none)

pub returns-then-next-o : goal.returns-then-next-o
returns-then-next-o c =
    let m = c.args.model.now in
    let held : container m c.loop-level.top ≡ Some c.in-Some.next = sym c.container.ensures ∙ c.in-Some.is in
    IfOk-weaker c.turned-then-next-o.result _ (IsRingFrom m c.args.o)
    (λ list is. ring_end m c.valid.ensures.metamodel c.valid.ensures.model c.args.o c.loop-level.top c.in-Some.next c.loop-level.up.items c.push.new.self.items list
    c.loop-level.invariant.rise c.loop-level.invariant.apart held c.if-next-o.true c.in_ok-push.ensures.items is)
    c.turned-then-next-o.ensures

pub loop-level-preserved : goal.loop-level-preserved
loop-level-preserved c =
    let m = c.args.model.now in
    let up : List ObjId = c.loop-level.up.items in
    let held : container m c.loop-level.top ≡ Some c.in-Some.next = sym c.container.ensures ∙ c.in-Some.is in
    record {
      size = omega (arith, ap length c.in_ok-push.ensures.items, length_push up c.in-Some.next, c.loop-level.invariant.size);
      rise = subst (λ (l : List ObjId). IsRise m c.args.o l c.in-Some.next) (sym c.in_ok-push.ensures.items)
          (rise_push m c.valid.ensures.metamodel c.valid.ensures.model c.args.o up c.loop-level.top c.in-Some.next c.loop-level.invariant.rise held);
      apart = subst (IsApart c.args.o) (sym c.in_ok-push.ensures.items) (apart_push c.args.o c.in-Some.next up c.loop-level.invariant.apart c.if-next-o.false);
    }

pub returns : goal.returns
returns c =
    let m = c.args.model.now in
    let high : length m.objects ≤ length c.loop-level.up.items = omega (arith, c.loop-level-test.false, c.given-level-end.ensures, c.loop-level.invariant.size) in
    absurd (not_apart m c.valid.ensures.metamodel c.valid.ensures.model c.args.o c.requires c.loop-level.up.items c.loop-level.top c.loop-level.invariant.rise high c.loop-level.invariant.apart)
