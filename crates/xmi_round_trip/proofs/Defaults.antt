-- What a slot holds that nothing was written to: a default, where its feature has one.
use Rattle.std.proofs.Common.{◌≡◌, ℕ, List, [], ◌∷◌, refl, sym, ap, Option, Some, None}
use Rattle.std.specs.Prelude.{Bool, true, false, slice_get, IsSome, if◌then◌else◌}
use Rattle.std.specs.Option.{option_map_or, IsSomeAnd}
use Rattle.std.proofs.lemmas.Bool.{true≢false}
use Rattle.atl_base.specs.declared.numbers.FeatId.{FeatId}
use Rattle.ecore_meta.specs.declared.parts.Feature.{Feature}
use Rattle.ecore_meta.specs.declared.parts.Parts.{Parts}
use Rattle.ecore_meta.specs.Valid.{is_reference}
use Rattle.model_store.specs.Contents.{is_many, refers}
use Rattle.model_store.specs.Writes.{initial, initial_of, value_of_text}
use Rattle.xmi_write.specs.Values.{are_same, is_untouched}

-- a many-valued feature has no default
pub many_initial : (meta : Parts) (f : FeatId) → is_many meta f ≡ true → initial meta f ≡ []
many_initial meta f h = on (slice_get meta.features f.0) h
  where
    on : (x : Option Feature) → option_map_or (λ feature. feature.many) x false ≡ true → option_map_or (initial_of meta) x [] ≡ []
    on None h = refl
    on (Some feature) h = ap (λ (b : Bool). if (if b then true else is_reference feature.kind) then [] else option_map_or (λ text. value_of_text meta feature.kind text ∷ []) feature.default []) h

-- a reference has no default
pub no_initial : (meta : Parts) (f : FeatId) → refers meta f ≡ true → initial meta f ≡ []
no_initial meta f h = on (slice_get meta.features f.0) h
  where
    on : (x : Option Feature) → option_map_or (λ feature. is_reference feature.kind) x false ≡ true → option_map_or (initial_of meta) x [] ≡ []
    on None e = absurd (true≢false (sym e))
    on (Some feature) e = many feature.many
      where
        many : (b : Bool) → (if (if b then true else is_reference feature.kind) then [] else option_map_or (λ text. value_of_text meta feature.kind text ∷ []) feature.default []) ≡ []
        many true = refl
        many false = ap (λ r. if r then [] else option_map_or (λ text. value_of_text meta feature.kind text ∷ []) feature.default []) e

-- a slot that is empty, and touched, is of a feature with a default
pub empty_touched : (meta : Parts) (f : FeatId) → is_untouched meta f [] ≡ false → IsSomeAnd (slice_get meta.features f.0) (λ feature. IsSome feature.default)
empty_touched meta f h = on (slice_get meta.features f.0) h
  where
    by : (feature : Feature) (a : Bool) (x : Option (List ℕ)) → are_same [] (if a then [] else option_map_or (λ text. value_of_text meta feature.kind text ∷ []) x []) ≡ false → IsSome x
    by feature true x h = absurd (true≢false h)
    by feature false None h = absurd (true≢false h)
    by feature false (Some text) h = refl

    on : (x : Option Feature) → are_same [] (option_map_or (initial_of meta) x []) ≡ false → IsSomeAnd x (λ feature. IsSome feature.default)
    on None h = absurd (true≢false h)
    on (Some feature) h = by feature (if feature.many then true else is_reference feature.kind) feature.default h
