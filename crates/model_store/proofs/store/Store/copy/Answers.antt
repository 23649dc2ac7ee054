use Rattle.std.proofs.Common.{◌≡◌, ◌<◌, ◌^◌, List, length, sym, subst, ◌∙◌, Option, rules}
use Rattle.ecore_meta.specs.declared.parts.Parts.{Parts}
use Rattle.model_store.specs.declared.parts.Object.{Object}
use Rattle.model_store.specs.Contents.{object_count, AreShaped}
use Rattle.model_store.proofs.store.Store.copy.Goals as goal

pub invariant_of-result : goal.invariant_of-result
invariant_of-result c =
    let objects : List (Option Object) = c.self.inside.objects.items in
    let same : c.in_ok-copy_objects.field-0.items ≡ objects = c.in_ok-copy_objects.ensures ∙ c.deref.ensures.value in
    let meta : c.in_ok-clone.field-0.value ≡ c.self.inside.meta.value = search rules in
    let i = c.self.invariant in
    let Keeps : Parts → List (Option Object) → Type 0 = λ m xs. (c.self.inside.count ≡ object_count xs) × (length xs < 2 ^ 32) × AreShaped m xs in
    subst (λ m. Keeps m c.in_ok-copy_objects.field-0.items) (sym meta) (subst (Keeps c.self.inside.meta.value) (sym same) i)
