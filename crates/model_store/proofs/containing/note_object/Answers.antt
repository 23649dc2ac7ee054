use Rattle.std.proofs.Common.{◌≡◌, ◌<◌, List, length, sym, ap, ◌∙◌, arith, rules, Option, None}
use Rattle.std.specs.Prelude.{slice_index_or}
use Rattle.atl_base.specs.declared.numbers.FeatId.{FeatId}
use Rattle.atl_base.specs.declared.numbers.ObjId.{ObjId}
use Rattle.ecore_meta.specs.Inheritance.{features}
use Rattle.model_store.specs.declared.parts.Cellv.{Cellv}
use Rattle.model_store.specs.HolderTables.{or_else}
use Rattle.model_store.proofs.Noting.{by_features, feature_more, feature_end}
use Rattle.model_store.proofs.containing.note_object.Goals as goal

pub loop-at-preserved : goal.loop-at-preserved
loop-at-preserved c = λ k l.
    let fs : List FeatId = c.features_seen-features.result.now in
    let slots : List (List Cellv) = c.slots-slots.result.now in
    let lengths : length slots ≡ length fs = ap length c.slots-slots.ensures ∙ c.requires.slots ∙ sym (ap length (c.features_seen-features.ensures ∙ ap (features c.args.meta.now.classes) c.class.ensures)) in
    let within : k < length c.loop-at.holders = search rules in
    feature_more c.args.meta.now c.args.o (record { 0 = k }) fs slots c.loop-at.at (record { 0 = 0 }) c.as_slice.result.now
    (slice_index_or c.loop-at.holders k None) (slice_index_or c.note_feature.new.holders k None) c.loop-at-test.true (omega (arith, lengths))
    (c.as_slice.ensures ∙ c.index-slots-at.is ∙ ap (λ d. slice_index_or slots c.loop-at.at d) (sym c.as_slice.ensures)) (c.note_feature.ensures k within)
    ∙ c.loop-at.invariant k l

pub returns : goal.returns
returns c = λ k l.
    let fs : List FeatId = c.features_seen-features.result.now in
    let slots : List (List Cellv) = c.slots-slots.result.now in
    let p : ObjId = record { 0 = k } in
    let before : Option (ObjId × FeatId) = slice_index_or c.args.holders.now k None in
    sym (feature_end c.args.meta.now c.args.o p fs slots c.loop-at.at (slice_index_or c.loop-at.holders k None) c.loop-at-test.false)
    ∙ c.loop-at.invariant k l
    ∙ ap (λ gs. or_else before (by_features c.args.meta.now c.args.o p gs slots)) (c.features_seen-features.ensures ∙ ap (features c.args.meta.now.classes) c.class.ensures)
    ∙ ap (λ s. or_else before (by_features c.args.meta.now c.args.o p (features c.args.meta.now.classes c.args.object.now.class) s)) c.slots-slots.ensures
