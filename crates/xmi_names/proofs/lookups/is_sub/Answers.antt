use Rattle.std.proofs.Common.{length, ap, arith}
use Rattle.xmi_names.proofs.Inheriting.{sub_inside, sub_first, sub_second}
use Rattle.xmi_names.proofs.lookups.is_sub.Goals as goal
use Rattle.xmi_names.proofs.lookups.is_sub.Goals.{then-sub-count-via-then-sub-count, then-sub-count-via-else-sub-count+then-sup-count}

pub returns-then-sub-count : goal.returns-then-sub-count
returns-then-sub-count c =
    let valid = c.parts-parts.ensures.valid in
    let classes = c.args.meta.now.classes in
    elim c.then-sub-count.branch [
      | then-sub-count-via-then-sub-count w ↦ sub_first classes valid.places.supers c.args.sub c.args.sup (omega (arith, ap (λ m. length m.classes) c.parts-parts.ensures.parts))
      | then-sub-count-via-else-sub-count+then-sup-count w ↦ sub_second classes valid.places.supers c.args.sub c.args.sup (omega (arith, ap (λ m. length m.classes) c.parts-parts.ensures.parts))
    ]

pub returns : goal.returns
returns c = sub_inside c.args.meta.now.classes c.parts-parts.ensures.valid.places.supers c.args.sub c.args.sup c.conforms.result (omega (arith, ap (λ m. length m.classes) c.parts-parts.ensures.parts)) c.conforms.ensures
