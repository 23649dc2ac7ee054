use Rattle.std.proofs.Common.{◌≡◌, List, [], ◌∷◌, map, sym, subst, ◌∙◌, Some}
use Rattle.atl_base.specs.declared.numbers.ObjId.{ObjId}
use Rattle.ecore_meta.specs.declared.parts.Parts.{Parts}
use Rattle.model_store.specs.declared.parts.Object.{Object}
use Rattle.model_store.specs.Contents.{Contents}
use Rattle.model_store.specs.Valid.{IsModel}
use Rattle.model_store.proofs.LoneModel.{object, two_are_a_model}
use Rattle.model_store.proofs.tests.two_things.Goals as goal

abbrev made : Parts → List Object → List ObjId → Contents
made meta objects roots = record { meta = meta; objects = map Some objects; roots = roots }

pub from_parts-requires-clause-model : goal.from_parts-requires-clause-model
from_parts-requires-clause-model c =
    let parts : Parts = c.in_ok-things.field-0 in
    let meta : c.in-Ok.meta.value ≡ parts = c.in-Ok.ensures.ok ∙ c.in_ok-meta.ensures in
    let objects : List Object = object ∷ object ∷ [] in
    let roots : List ObjId = record { 0 = 1 } ∷ record { 0 = 0 } ∷ [] in
    subst (λ (rs : List ObjId). IsModel (made c.in-Ok.meta.value c.in_ok-objects.objects.items rs)) (sym c.in_ok-roots.ensures.items)
    (subst (λ (xs : List Object). IsModel (made c.in-Ok.meta.value xs roots)) (sym c.in_ok-objects.ensures)
    (subst (λ (m : Parts). IsModel (made m objects roots)) (sym meta) (two_are_a_model parts c.in_ok-things.ensures.0 c.in_ok-things.ensures.1)))
