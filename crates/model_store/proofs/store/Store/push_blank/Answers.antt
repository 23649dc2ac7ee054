use Rattle.std.proofs.Common.{◌≡◌, ◌<◌, ◌+◌, ◌++◌, ◌∷◌, [], ◌^◌, List, suc, length, sym, ap, subst, ◌∙◌, Option, Some, arith, length-append}
use Rattle.ecore_meta.specs.declared.parts.Parts.{Parts}
use Rattle.model_store.specs.declared.parts.Object.{Object}
use Rattle.model_store.specs.Contents.{Contents, object_count, AreShaped, IsShaped}
use Rattle.model_store.specs.Sketches.{blank}
use Rattle.model_store.proofs.Updates.{counted_push, shaped_push, blank_shaped}
use Rattle.model_store.proofs.store.Store.push_blank.Goals as goal

pub invariant_of-self : goal.invariant_of-self
invariant_of-self c =
    let Keeps : List (Option Object) → Type 0 = λ xs. (c.self.inside.count ≡ object_count xs) × (length xs < 2 ^ 32) × AreShaped c.self.inside.meta.value xs in
    let same : c.push.new.self.items ≡ c.self.inside.objects.items = c.in_err-push.ensures.items in
    subst Keeps (sym same) c.self.invariant

pub invariant_of-self-2 : goal.invariant_of-self-2
invariant_of-self-2 c =
    let objects : List (Option Object) = c.self.inside.objects.items in
    let meta : Parts = c.self.inside.meta.value in
    let x : Object = c.in_ok-object.object in
    let i = c.self.invariant in
    let same : c.push.new.self.items ≡ objects ++ Some x ∷ [] = c.in_ok-push.ensures.items in
    let Keeps : List (Option Object) → Type 0 = λ xs. (c.self.inside.count + 1 ≡ object_count xs) × (length xs < 2 ^ 32) × AreShaped meta xs in
    let is : x ≡ blank meta c.args.class = c.in_ok-object.ensures ∙ ap (λ m. blank m c.args.class) c.deref.ensures in
    let within : c.args.class.0 < length meta.classes = subst (λ (v : Contents). c.args.class.0 < length v.meta.classes) (sym c.self.view_is) c.requires.class in
    let few : suc (length objects) < 2 ^ 32 = subst (λ (v : Contents). suc (length v.objects) < 2 ^ 32) (sym c.self.view_is) c.requires.few in
    subst Keeps (sym same) (
      ap (λ n. n + 1) i.0 ∙ sym (counted_push objects x),
      omega (arith, length-append objects (Some x ∷ []), few),
      shaped_push meta objects x i.2 (subst (IsShaped meta) (sym is) (blank_shaped meta c.args.class within)),
    )
