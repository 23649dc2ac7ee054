use Rattle.std.proofs.Common.{List, Option, Some, sym, subst}
use Rattle.std.specs.Prelude.{Contains}
use Rattle.atl_base.specs.declared.numbers.ObjId.{ObjId}
use Rattle.xmi_write.proofs.Rings.{ring_cycle}
use Rattle.xmi_write.proofs.cycles.least_cycle.Goals as goal

pub returns-in-Some : goal.returns-in-Some
returns-in-Some c = ring_cycle c.args.model.now c.in-Some.o c.in_ok-ring-in-Some.field-0 c.in_ok-ring-in-Some.ensures
    (λ p h. c.in-Some.ensures.1 p (subst (λ (l : List (Option ObjId)). Contains l (Some p)) (sym c.deref.ensures.value) (c.in_ok-cyclic.ensures.whole p h)))

pub returns : goal.returns
returns c = λ o h. c.in-None.ensures o (subst (λ (l : List (Option ObjId)). Contains l (Some o)) (sym c.deref.ensures.value) (c.in_ok-cyclic.ensures.whole o h))
