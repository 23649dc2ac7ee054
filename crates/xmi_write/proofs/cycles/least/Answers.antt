use Rattle.std.proofs.Common.{◌<◌, ◌≤◌, List, Option, None, get_or, length, take, sym, subst, arith}
use Rattle.std.proofs.lemmas.List.{take_all, take_more}
use Rattle.atl_base.specs.declared.numbers.ObjId.{ObjId}
use Rattle.xmi_write.specs.Climbs.{IsLeast}
use Rattle.xmi_write.proofs.Climbing.{least_more}
use Rattle.xmi_write.proofs.cycles.least.Goals as goal

pub loop-o-preserved : goal.loop-o-preserved
loop-o-preserved c =
    let xs : List (Option ObjId) = c.args.objects.now in
    let within : c.loop-o.o-index < length xs = omega arith in
    subst (λ (l : List (Option ObjId)). IsLeast l c.lesser-least.result) (sym (take_more xs c.loop-o.o-index None within))
    (least_more (take c.loop-o.o-index xs) c.loop-o.least (get_or xs c.loop-o.o-index None) c.lesser-least.result c.loop-o.invariant c.lesser-least.ensures)

pub returns : goal.returns
returns c =
    let xs : List (Option ObjId) = c.args.objects.now in
    let past : length xs ≤ c.loop-o.o-index = omega arith in
    subst (λ (l : List (Option ObjId)). IsLeast l c.loop-o.least) (take_all c.loop-o.o-index xs past) c.loop-o.invariant
