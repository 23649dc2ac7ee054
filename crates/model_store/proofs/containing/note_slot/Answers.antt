use Rattle.std.proofs.Common.{◌<◌, ◌≤◌, length, sym, ◌∙◌, rules, None}
use Rattle.std.specs.Prelude.{slice_index_or}
use Rattle.model_store.proofs.Noting.{value_more, value_end}
use Rattle.model_store.proofs.containing.note_slot.Goals as goal

pub loop-value-preserved : goal.loop-value-preserved
loop-value-preserved c = λ k l.
    let low : c.loop-value.value-index < length c.args.cells.now = search rules in
    let within : k < length c.loop-value.holders = search rules in
    value_more (c.args.o, c.args.f) (record { 0 = k }) c.args.cells.now c.loop-value.value-index c.value-item.result
    (slice_index_or c.loop-value.holders k None) (slice_index_or c.note_value.new.holders k None) low c.value-item.is (c.note_value.ensures k within)
    ∙ c.loop-value.invariant k l

pub returns : goal.returns
returns c = λ k l.
    let done : length c.args.cells.now ≤ c.loop-value.value-index = search rules in
    sym (value_end (c.args.o, c.args.f) (record { 0 = k }) c.args.cells.now c.loop-value.value-index (slice_index_or c.loop-value.holders k None) done) ∙ c.loop-value.invariant k l
