use Rattle.std.proofs.Common.{◌<◌, ◌≤◌, length, sym, ap, subst, ◌∙◌, arith, rules, Option, None}
use Rattle.std.specs.Prelude.{slice_index_or, option_map}
use Rattle.atl_base.specs.declared.numbers.FeatId.{FeatId}
use Rattle.atl_base.specs.declared.numbers.ObjId.{ObjId}
use Rattle.model_store.specs.Contents.{Contents, IsShaped, holding_place, holder}
use Rattle.model_store.specs.HolderTables.{or_else, pair_with}
use Rattle.model_store.proofs.Holders.{shaped_at}
use Rattle.model_store.proofs.Noting.{object_more, object_end, from_none}
use Rattle.model_store.proofs.store.Store.note_holders.Goals as goal

pub loop-at-init : goal.loop-at-init
loop-at-init c = λ k l.
    from_none c.self.inside.meta.value (record { 0 = k }) c.self.inside.objects.items (slice_index_or c.clear.new.holders k None)
    (c.clear.ensures k (omega (arith, l, c.clear.auto.holders)))

pub note_place-requires : goal.note_place-requires
note_place-requires c = λ object is.
    let within : c.loop-at.at < length c.self.inside.objects.items = search rules in
    subst (λ m. IsShaped m object) (sym c.deref.ensures)
    (shaped_at c.self.inside.meta.value c.self.inside.objects.items c.loop-at.at c.index.result.now object c.self.invariant.2 within c.index.ensures is)

pub loop-at-preserved : goal.loop-at-preserved
loop-at-preserved c = λ k l.
    let within : c.loop-at.at < length c.self.inside.objects.items = search rules in
    let before : Option (ObjId × FeatId) = slice_index_or c.loop-at.holders k None in
    let noted = c.note_place.ensures k (omega (arith, l, c.loop-at.auto.holders)) in
    object_more c.self.inside.meta.value (record { 0 = k }) c.self.inside.objects.items c.loop-at.at c.index.result.now before (slice_index_or c.note_place.new.holders k None) within c.index.ensures
    (noted ∙ ap (λ m. or_else before (option_map (pair_with (record { 0 = c.loop-at.at })) (holding_place m (record { 0 = k }) c.index.result.now))) c.deref.ensures)
    ∙ c.loop-at.invariant k l

pub returns : goal.returns
returns c =
    let done : length c.self.inside.objects.items ≤ c.loop-at.at = search rules in
    record {
      size = c.loop-at.auto.holders ∙ c.clear.auto.holders ∙ c.requires;
      each = λ k l.
          sym (object_end c.self.inside.meta.value (record { 0 = k }) c.self.inside.objects.items c.loop-at.at (slice_index_or c.loop-at.holders k None) done)
          ∙ c.loop-at.invariant k (omega (arith, l, c.loop-at.auto.holders))
          ∙ ap (λ (v : Contents). holder v (record { 0 = k })) c.self.view_is;
    }
