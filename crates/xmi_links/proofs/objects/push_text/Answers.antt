use Rattle.std.proofs.Common.{◌≡◌, ◌<◌, ℕ, List, length, get_or, Option, Some, refl, sym, ap, ◌∙◌}
use Rattle.std.specs.Prelude.{false, slice_get}
use Rattle.std.specs.Option.{option_map_or}
use Rattle.std.proofs.lemmas.Bool.{ltb-true}
use Rattle.std.proofs.lemmas.Option.{slice_get_read}
use Rattle.ecore_meta.specs.declared.parts.Feature.{Feature}
use Rattle.ecore_meta.specs.declared.parts.Parts.{Parts}
use Rattle.ecore_meta.specs.Valid.{is_reference}
use Rattle.model_store.specs.Sketches.{with_value}
use Rattle.model_store.specs.Writes.{value_of_text}
use Rattle.xmi_models.specs.Faults.{is_text_of}
use Rattle.xmi_links.proofs.Steps.{on_ok}
use Rattle.xmi_links.proofs.Typing.{text_typed}
use Rattle.xmi_links.proofs.objects.push_text.Goals as goal

found_in : (all features : List Feature) (n : ℕ) (feature : Feature) → all ≡ features → n < length all → feature ≡ get_or all n feature → slice_get features n ≡ Some feature
found_in all features n feature same l is = ap (λ (fs : List Feature). slice_get fs n) (sym same) ∙ slice_get_read all (length all) n feature refl l is

pub value_of_text-requires : goal.value_of_text-requires
value_of_text-requires c =
    let meta : Parts = c.args.meta.now in
    let feature : Feature = c.in-Some.feature.now in
    let h = c.in-Some.ensures.lookup in
    let found : slice_get meta.features c.args.f.0 ≡ Some feature = found_in c.all_features.result.now meta.features c.args.f.0 feature c.all_features.ensures (ltb-true _ _ (sym h.0)) h.1 in
    text_typed meta feature.kind c.args.text.now
    (sym (ap (λ (x : Option Feature). option_map_or (λ feature. is_reference feature.kind) x false) found) ∙ c.requires.attribute)
    (sym (ap (λ (x : Option Feature). option_map_or (λ feature. is_text_of meta feature.kind c.args.text.now) x false) found) ∙ c.requires.text)

pub returns : goal.returns
returns c =
    let meta : Parts = c.args.meta.now in
    let feature : Feature = c.in-Some.feature.now in
    let h = c.in-Some.ensures.lookup in
    let found : slice_get meta.features c.args.f.0 ≡ Some feature = found_in c.all_features.result.now meta.features c.args.f.0 feature c.all_features.ensures (ltb-true _ _ (sym h.0)) h.1 in
    on_ok c.push_value.result
    (λ is. is
    ∙ ap (λ v. with_value c.args.o c.args.f v c.args.sketch.now) c.in_ok-value.ensures
    ∙ sym (ap (λ (x : Option Feature). option_map_or (λ feature. with_value c.args.o c.args.f (value_of_text meta feature.kind c.args.text.now) c.args.sketch.now) x c.args.sketch.now) found))
    c.push_value.ensures
