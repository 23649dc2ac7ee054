-- The draft of a model's file has the same roots, classes and contents as the model, but for the numbers.
use Rattle.std.proofs.Common.{◌≡◌, ℕ, [], map, refl, sym, ap, ◌∙◌, Option, Some, None}
use Rattle.std.specs.Prelude.{◌==◌, true, is_some, slice_index_or, option_map, IsSome, if◌then◌else◌}
use Rattle.std.specs.Option.{option_map_or}
use Rattle.std.proofs.lemmas.Bool.{eqb-true, true≢false}
use Rattle.std.proofs.lemmas.List.{get_or-map}
use Rattle.std.proofs.lemmas.List.Quantifiers.{position-Some}
use Rattle.atl_base.specs.declared.numbers.ClassId.{ClassId}
use Rattle.atl_base.specs.declared.numbers.FeatId.{FeatId}
use Rattle.atl_base.specs.declared.numbers.ObjId.{ObjId}
use Rattle.ecore_meta.specs.Inheritance.{features}
use Rattle.model_store.specs.declared.parts.Object.{Object}
use Rattle.model_store.specs.Contents.{Contents, class_of, contains, object_at, place_in, refers, slot, slot_in}
use Rattle.model_store.specs.Valid.{IsValid}
use Rattle.model_store.proofs.Slots.{same_feature}
use Rattle.xmi_links.specs.References.{draft, drafted_slot, object_by}
use Rattle.xmi_round_trip.specs.Renumbered.{number, renumbered_value}
use Rattle.xmi_round_trip.proofs.Drafts.{IsDrafted}
use Rattle.xmi_round_trip.proofs.Filed.{IsFiled, IsOrdered, file, object_entry}
use Rattle.xmi_round_trip.proofs.SameContents.{HaveSameContents}
use Rattle.xmi_round_trip.proofs.Numbers.{mapped_at}
use Rattle.xmi_round_trip.proofs.Entries.{own_is}

module _ (m : Contents) (known : IsOrdered m) (drafts : IsDrafted m) where
  -- what is made of an object
  abbrev made : ObjId → Option Object
  made o = object_by m.meta (drafted_slot m.meta (file m) (number m o) (object_entry m o)) (object_entry m o)

  -- so what is made of it is there
  object_is : (o : ObjId) → IsSome (object_at m.objects o) → object_at (draft m.meta (file m)).objects (number m o) ≡ made o
  object_is o h =
      ap (λ objects. object_at objects (number m o)) (drafts.objects (drafted_slot m.meta (file m)))
      ∙ mapped_at m made o None (known.has o h)

  -- an object of a class
  abbrev with_class : ObjId → ClassId → Object
  with_class o c = record { class = c; slots = map (drafted_slot m.meta (file m) (number m o) (object_entry m o)) (features m.meta.classes c) }

  -- what is made of an object is of its class
  made_is : (o : ObjId) → made o ≡ option_map (with_class o) (class_of m o)
  made_is o = ap (option_map (with_class o)) (own_is m o)

  -- classes are kept
  classes : (o : ObjId) → IsSome (object_at m.objects o) → class_of (draft m.meta (file m)) (number m o) ≡ class_of m o
  classes o h = ap (option_map (λ (x : Object). x.class)) (object_is o h ∙ made_is o) ∙ on (class_of m o)
    where
      on : (c : Option ClassId) → option_map (λ (x : Object). x.class) (option_map (with_class o) c) ≡ c
      on None = refl
      on (Some c) = refl

  module _ (o : ObjId) (object : Object) (is : object_at m.objects o ≡ Some object) (f : FeatId) (inside : contains m.meta f ≡ true) where
    -- the object with that number
    there_is : object_at (draft m.meta (file m)).objects (number m o) ≡ Some (with_class o object.class)
    there_is = object_is o (ap is_some is) ∙ made_is o ∙ ap (λ x. option_map (with_class o) (option_map (λ (y : Object). y.class) x)) is

    -- its slot of a feature that it has
    slot_is : (k : ℕ) → place_in m.meta object.class f ≡ Some k
        → slice_index_or (with_class o object.class).slots k [] ≡ map (renumbered_value (number m)) (slot m o f)
    slot_is k e =
        let x = position-Some (λ g. g.0 == f.0) (features m.meta.classes object.class) k f e in
        let same : slice_index_or (features m.meta.classes object.class) k f ≡ f = same_feature (slice_index_or (features m.meta.classes object.class) k f) f (eqb-true _ f.0 x.1) in
        get_or-map (drafted_slot m.meta (file m) (number m o) (object_entry m o)) (features m.meta.classes object.class) k f [] x.0
        ∙ ap (drafted_slot m.meta (file m) (number m o) (object_entry m o)) same
        ∙ drafts.slots o object f is (k, x.0, same)
        ∙ ap (λ a. if a then map (renumbered_value (number m)) (slot m o f) else if refers m.meta f then [] else slot m o f) inside

    -- its slot of any feature
    same_slot : slot (draft m.meta (file m)) (number m o) f ≡ map (renumbered_value (number m)) (slot m o f)
    same_slot = ap (λ x. option_map_or (slot_in m.meta f) x []) there_is ∙ on (place_in m.meta object.class f) refl
      where
        on : (x : Option ℕ) → place_in m.meta object.class f ≡ x → option_map_or (λ k. slice_index_or (with_class o object.class).slots k []) x [] ≡ map (renumbered_value (number m)) (slot m o f)
        on (Some k) e = slot_is k e
        on None e = ap (map (renumbered_value (number m))) (sym (ap (λ x. option_map_or (slot_in m.meta f) x []) is ∙ ap (λ x. option_map_or (λ k. slice_index_or object.slots k []) x []) e))

-- the draft has the same contents
pub same_contents : (m : Contents) → IsValid m → IsOrdered m → IsFiled m → IsDrafted m → HaveSameContents (number m) m (draft m.meta (file m))
same_contents m valid known filed drafts = record {
  meta = refl;
  roots = drafts.roots;
  classes = classes m known drafts;
  contents = λ o f h inside. on o f inside (object_at m.objects o) refl h;
}
  where
    on : (o : ObjId) (f : FeatId) → contains m.meta f ≡ true → (x : Option Object) → object_at m.objects o ≡ x → IsSome x → slot (draft m.meta (file m)) (number m o) f ≡ map (renumbered_value (number m)) (slot m o f)
    on o f inside None e h = absurd (true≢false (sym h))
    on o f inside (Some object) e h = same_slot m known drafts o object e f inside
