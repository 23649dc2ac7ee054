use Rattle.std.proofs.Common.{◌≡◌, ◌≤◌, ◌∙◌, false, get_or, take, length, refl, sym, arith, None, Some, Option}
use Rattle.std.specs.Option.{is_some}
use Rattle.std.proofs.lemmas.List.{take_all}
use Rattle.std.proofs.lemmas.List.Elements.{All-more, All-same}
use Rattle.atl_base.specs.declared.numbers.ObjId.{ObjId}
use Rattle.xmi_write.proofs.cycles.is_free.Goals as goal

none_from : (x : Option ObjId) → is_some x ≡ false → x ≡ None
none_from None h = refl
none_from (Some p) h = cc

pub loop-o-preserved : goal.loop-o-preserved
loop-o-preserved c =
    All-more (λ (o : Option ObjId). o ≡ None) c.args.above.now c.loop-o.o-index None c.loop-o-test.true c.loop-o.invariant
    (none_from (get_or c.args.above.now c.loop-o.o-index None) (sym c.is_some.ensures ∙ c.if-is_some.false))

pub returns : goal.returns
returns c = λ _.
    let past : length c.args.above.now ≤ c.loop-o.o-index = omega arith in
    All-same (λ (o : Option ObjId). o ≡ None) c.args.above.now (take c.loop-o.o-index c.args.above.now) (sym (take_all c.loop-o.o-index c.args.above.now past)) c.loop-o.invariant
