use Rattle.std.proofs.Common.{◌<◌, ◌≤◌, length, ap, ◌∙◌, ⊎_elim, arith}
use Rattle.std.proofs.lemmas.Bool.{cases_lt}
use Rattle.ecore_meta.specs.declared.parts.Parts.{Parts}
use Rattle.ecore_meta.specs.Order.{class_no}
use Rattle.xmi_names.proofs.SkippedLaws.{none_skipped}
use Rattle.xmi_names.proofs.skipped.seen_keys.Goals as goal

pub returns : goal.returns
returns c = λ n q l.
    let m = c.args.meta.now in
    let i = c.loop-place.invariant in
    let place = c.loop-place.place in
    ⊎_elim
    (λ (h : n < place). i.done n q l h)
    (λ (h : place ≤ n). i.open_ n q l h
    ∙ none_skipped m c.parts-parts.ensures.valid (class_no n)
    (omega (arith, h, c.loop-place-test.false, c.len-count.ensures, ap (λ (p : Parts). length p.classes) c.parts-parts.ensures.parts)) q)
    (cases_lt n place)
