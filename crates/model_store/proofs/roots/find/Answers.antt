use Rattle.std.proofs.Common.{ap, ◌∙◌, arith}
use Rattle.std.proofs.lemmas.List.{get_or_default}
use Rattle.model_store.proofs.RisingRoots.{one_less, none_less}
use Rattle.model_store.proofs.roots.find.Goals as goal
use Rattle.model_store.proofs.roots.find.Goals.{else-at-roots-via-then-at-roots+else-roots-at, else-at-roots-via-else-at-roots}

pub returns-then-roots-at : goal.returns-then-roots-at
returns-then-roots-at c = (c.if-at-roots.true, one_less c.args.o c.args.roots.now c.requires c.lower-at.result _ c.if-at-roots.true c.if-roots-at.true)

pub returns : goal.returns
returns c = none_less c.args.o c.args.roots.now c.requires c.lower-at.result c.lower-at.ensures.below c.lower-at.ensures.rest (λ d l same.
    elim c.else-at-roots.branch [
      | else-at-roots-via-then-at-roots+else-roots-at w ↦ w.if-roots-at.false (ap (λ r. r.0) (get_or_default c.args.roots.now c.lower-at.result _ d l) ∙ same)
      | else-at-roots-via-else-at-roots w ↦ omega arith
    ])
