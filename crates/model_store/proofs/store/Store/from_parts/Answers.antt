use Rattle.std.proofs.Common.{◌≡◌, ◌<◌, ◌^◌, List, length, map, sym, subst, ◌∙◌, arith, rules, Option, Some}
use Rattle.std.proofs.lemmas.List.{length-map}
use Rattle.model_store.specs.declared.parts.Object.{Object}
use Rattle.model_store.specs.Contents.{object_count, AreShaped}
use Rattle.model_store.proofs.Updates.{counted_all}
use Rattle.model_store.proofs.store.Store.from_parts.Goals as goal

pub invariant_of-result : goal.invariant_of-result
invariant_of-result c =
    let objects : List Object = c.args.objects.items in
    let same : c.in_ok-objects.objects.items ≡ map Some objects = c.in_ok-objects.ensures in
    let size : length objects ≡ length (map Some objects) = sym (length-map objects Some) in
    let few : length (map Some objects) < 2 ^ 32 = omega (arith, size, c.requires.few) in
    let Keeps : List (Option Object) → Type 0 = λ xs. (c.len-count.result ≡ object_count xs) × (length xs < 2 ^ 32) × AreShaped c.args.meta.value xs in
    let told : c.len-count.result ≡ length objects = search rules in
    subst Keeps (sym same) (told ∙ sym (counted_all objects), few, c.requires.model.shaped)
