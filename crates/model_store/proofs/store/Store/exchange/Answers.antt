use Rattle.std.proofs.Common.{◌≡◌, ◌<◌, ◌^◌, ℕ, List, length, sym, ap, subst, ◌∙◌, Option, Some, None}
use Rattle.std.specs.Option.{option_map_or}
use Rattle.ecore_meta.specs.declared.parts.Parts.{Parts}
use Rattle.model_store.specs.declared.parts.Object.{Object}
use Rattle.model_store.specs.Contents.{Contents, HasPlace, object_at, object_count, place_in, set_slot, AreShaped}
use Rattle.model_store.proofs.Updates.{set_slot_is, change_is, shaped_change, counted_change, length_change}
use Rattle.model_store.proofs.store.Store.exchange.Goals as goal

pub invariant_of-self : goal.invariant_of-self
invariant_of-self c =
    let objects : List (Option Object) = c.self.inside.objects.items in
    let meta : Parts = c.self.inside.meta.value in
    let m : Contents = record { meta = meta; objects = objects; roots = c.self.inside.roots } in
    let same : m ≡ c.args.self.now = c.self.view_is in
    let i = c.self.invariant in
    let at : ℕ = c.in-Some.at in
    let within : HasPlace c.args.self.now.meta c.args.self.now.objects c.args.o at = c.in-Some.ensures.within in
    let place : HasPlace meta objects c.args.o at = subst (λ (v : Contents). HasPlace v.meta v.objects c.args.o at) (sym same) within in
    let told : Some at ≡ option_map_or (λ object. place_in c.args.self.now.meta object.class c.args.f) (object_at c.args.self.now.objects c.args.o) None = c.in-Some.ensures.place in
    let found : Some at ≡ option_map_or (λ object. place_in meta object.class c.args.f) (object_at objects c.args.o) None =
    subst (λ (v : Contents). Some at ≡ option_map_or (λ object. place_in v.meta object.class c.args.f) (object_at v.objects c.args.o) None) (sym same) told in
    let change = change_is m c.args.o c.args.f at c.args.cells place found c.index_mut.result.now c.exchange_at.new.place c.index_mut.ensures.value c.exchange_at.ensures.new in
    let Keeps : List (Option Object) → Type 0 = λ xs. (c.self.inside.count ≡ object_count xs) × (length xs < 2 ^ 32) × AreShaped meta xs in
    subst Keeps (sym change) (
      i.0 ∙ sym (counted_change m c.args.o c.args.f at c.args.cells place found),
      subst (λ n. n < 2 ^ 32) (sym (length_change m c.args.o c.args.f at c.args.cells place found)) i.1,
      shaped_change m c.args.o c.args.f at c.args.cells place found i.2,
    )

pub returns-clause-new : goal.returns-clause-new
returns-clause-new c =
    let objects : List (Option Object) = c.self.inside.objects.items in
    let meta : Parts = c.self.inside.meta.value in
    let m : Contents = record { meta = meta; objects = objects; roots = c.self.inside.roots } in
    let same : m ≡ c.args.self.now = c.self.view_is in
    let at : ℕ = c.in-Some.at in
    let within : HasPlace c.args.self.now.meta c.args.self.now.objects c.args.o at = c.in-Some.ensures.within in
    let place : HasPlace meta objects c.args.o at = subst (λ (v : Contents). HasPlace v.meta v.objects c.args.o at) (sym same) within in
    let told : Some at ≡ option_map_or (λ object. place_in c.args.self.now.meta object.class c.args.f) (object_at c.args.self.now.objects c.args.o) None = c.in-Some.ensures.place in
    let found : Some at ≡ option_map_or (λ object. place_in meta object.class c.args.f) (object_at objects c.args.o) None =
    subst (λ (v : Contents). Some at ≡ option_map_or (λ object. place_in v.meta object.class c.args.f) (object_at v.objects c.args.o) None) (sym same) told in
    let change = change_is m c.args.o c.args.f at c.args.cells place found c.index_mut.result.now c.exchange_at.new.place c.index_mut.ensures.value c.exchange_at.ensures.new in
    ap (λ (xs : List (Option Object)). let v : Contents = record { meta = meta; objects = xs; roots = c.self.inside.roots } in v) change
    ∙ sym (set_slot_is m c.args.o c.args.f at c.args.cells place found)
    ∙ ap (λ (v : Contents). set_slot v c.args.o c.args.f c.args.cells) same
