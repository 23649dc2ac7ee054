use Rattle.std.proofs.Common.{◌≡◌, ◌<◌, ◌+◌, ◌++◌, ◌∷◌, [], ◌^◌, List, length, sym, ap, subst, ◌∙◌, Option, Some, arith, rules, length-append}
use Rattle.ecore_meta.specs.declared.parts.Parts.{Parts}
use Rattle.model_store.specs.declared.parts.Object.{Object}
use Rattle.model_store.specs.Contents.{Contents, object_count, AreShaped, IsShaped}
use Rattle.model_store.specs.Writes.{fresh}
use Rattle.model_store.proofs.Updates.{counted_push, shaped_push, fresh_shaped}
use Rattle.model_store.proofs.store.Store.create.Goals as goal

pub invariant_of-self : goal.invariant_of-self
invariant_of-self c =
    let Keeps : List (Option Object) → Type 0 = λ xs. (c.self.inside.count ≡ object_count xs) × (length xs < 2 ^ 32) × AreShaped c.self.inside.meta.value xs in
    let same : c.push_root.new.objects.items ≡ c.self.inside.objects.items = c.in_err-push_root.ensures.objects in
    subst Keeps (sym same) c.self.invariant

pub invariant_of-self-2 : goal.invariant_of-self-2
invariant_of-self-2 c =
    let objects : List (Option Object) = c.self.inside.objects.items in
    let meta : Parts = c.self.inside.meta.value in
    let x : Object = c.in_ok-object.object in
    let i = c.self.invariant in
    let same : c.push_root.new.objects.items ≡ objects ++ Some x ∷ [] = c.in_ok-push_root.ensures.objects in
    let Keeps : List (Option Object) → Type 0 = λ xs. (c.self.inside.count + 1 ≡ object_count xs) × (length xs < 2 ^ 32) × AreShaped meta xs in
    let is : x ≡ fresh meta c.args.class = c.in_ok-object.ensures ∙ ap (λ m. fresh m c.args.class) c.deref.ensures in
    let within : c.args.class.0 < length meta.classes = subst (λ (v : Contents). c.args.class.0 < length v.meta.classes) (sym c.self.view_is) c.requires.class in
    let few : length objects < 4294967295 = search rules in
    subst Keeps (sym same) (
      ap (λ n. n + 1) i.0 ∙ sym (counted_push objects x),
      omega (arith, length-append objects (Some x ∷ []), few),
      shaped_push meta objects x i.2 (subst (IsShaped meta) (sym is) (fresh_shaped meta c.args.class within)),
    )
