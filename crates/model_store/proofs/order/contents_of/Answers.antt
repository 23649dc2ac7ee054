use Rattle.std.proofs.Common.{◌≡◌, List, length, sym, ap, ◌∙◌, arith}
use Rattle.std.specs.Prelude.{slice_index_or}
use Rattle.atl_base.specs.declared.numbers.FeatId.{FeatId}
use Rattle.ecore_meta.specs.Inheritance.{features}
use Rattle.model_store.specs.declared.parts.Cellv.{Cellv}
use Rattle.model_store.proofs.Trees.{contents_more}
use Rattle.model_store.proofs.order.contents_of.Goals as goal

pub loop-at-preserved : goal.loop-at-preserved
loop-at-preserved c =
    let fs : List FeatId = c.features_seen-features.result.now in
    let slots : List (List Cellv) = c.slots-slots.result.now in
    let lengths : length slots ≡ length fs = ap length c.slots-slots.ensures ∙ c.requires.slots ∙ sym (ap length (c.features_seen-features.ensures ∙ ap (features c.args.meta.now.classes) c.class.ensures)) in
    contents_more c.args.meta.now fs slots c.loop-at.at (record { 0 = 0 }) c.as_slice.result.now c.loop-at.list.items c.push_contents.new.list.items c.loop-at-test.true (omega (arith, lengths))
    (c.as_slice.ensures ∙ c.index-slots-at.is ∙ ap (λ d. slice_index_or slots c.loop-at.at d) (sym c.as_slice.ensures)) c.in_ok-push_contents.ensures
    ∙ c.loop-at.invariant
