-- Each list is what was put into it, and the test of the conditions passes on all five.
use Rattle.std.proofs.Common.{◌≡◌, List, [], ◌∷◌, ◌++◌, true, false, None, refl, sym, subst, ◌∙◌}
use Rattle.std.specs.Prelude.{codes}
use Rattle.ecore_meta.specs.declared.parts.FeatKind.TheVariants.{Str}
use Rattle.ecore_meta.specs.declared.parts.Parts.{Parts}
use Rattle.ecore_meta.specs.Inheritance.{features, features_within}
use Rattle.ecore_meta.specs.Valid.{IsMetamodel}
use Rattle.ecore_meta.proofs.Samples.{Passes, passed}
use Rattle.ecore_meta.proofs.tests.diamond.Goals as goal

abbrev sample : Parts
sample = record {
  packages = record { name = codes "Shapes"; uri = codes "Shapes"; prefix = codes "Shapes" } ∷ [];
  classes = record { name = codes "Low"; «package» = 0; is_abstract = false; supers = record { 0 = 1 } ∷ record { 0 = 2 } ∷ []; own = record { 0 = 0 } ∷ [] }
      ∷ record { name = codes "Left"; «package» = 0; is_abstract = false; supers = record { 0 = 3 } ∷ []; own = record { 0 = 1 } ∷ [] }
      ∷ record { name = codes "Right"; «package» = 0; is_abstract = false; supers = record { 0 = 3 } ∷ []; own = record { 0 = 2 } ∷ [] }
      ∷ record { name = codes "Top"; «package» = 0; is_abstract = true; supers = []; own = record { 0 = 3 } ∷ [] }
      ∷ record { name = codes "Lowest"; «package» = 0; is_abstract = false; supers = record { 0 = 3 } ∷ record { 0 = 0 } ∷ []; own = record { 0 = 4 } ∷ [] } ∷ [];
  features = record { name = codes "low"; owner = record { 0 = 0 }; kind = Str; many = false; unique = true; is_id = false; default = None }
      ∷ record { name = codes "left"; owner = record { 0 = 1 }; kind = Str; many = false; unique = true; is_id = false; default = None }
      ∷ record { name = codes "right"; owner = record { 0 = 2 }; kind = Str; many = false; unique = true; is_id = false; default = None }
      ∷ record { name = codes "top"; owner = record { 0 = 3 }; kind = Str; many = false; unique = true; is_id = false; default = None }
      ∷ record { name = codes "lowest"; owner = record { 0 = 4 }; kind = Str; many = false; unique = true; is_id = false; default = None } ∷ [];
  enums = [];
  skipped = [];
}

valid : IsMetamodel sample
unfolding features features_within
valid = passed (2 ∷ 1 ∷ 1 ∷ 0 ∷ 3 ∷ []) sample (record {
  enums = refl;
  skipped = refl;
  packages = refl;
  supers = refl;
  owners = refl;
  kinds = refl;
  rising = refl;
  owned = refl;
  owning = refl;
  own = refl;
  seen = refl;
  defaults = refl;
  opposites = refl;
  classifiers = refl;
  uris = refl;
  prefixes = refl;
  package_names = refl;
  class_names = refl;
  feature_names = refl;
})

pub returns-clause-valid : goal.returns-clause-valid
returns-clause-valid c =
    let classes1 = c.in_ok-classes.ensures ∙ (λ i. c.new.ensures i ++ record { name = codes "Low"; «package» = 0; is_abstract = false; supers = record { 0 = 1 } ∷ record { 0 = 2 } ∷ []; own = record { 0 = 0 } ∷ [] } ∷ []) in
    let classes2 = c.in_ok-classes-2.ensures ∙ (λ i. classes1 i ++ record { name = codes "Left"; «package» = 0; is_abstract = false; supers = record { 0 = 3 } ∷ []; own = record { 0 = 1 } ∷ [] } ∷ []) in
    let classes3 = c.in_ok-classes-3.ensures ∙ (λ i. classes2 i ++ record { name = codes "Right"; «package» = 0; is_abstract = false; supers = record { 0 = 3 } ∷ []; own = record { 0 = 2 } ∷ [] } ∷ []) in
    let classes4 = c.in_ok-classes-4.ensures ∙ (λ i. classes3 i ++ record { name = codes "Top"; «package» = 0; is_abstract = true; supers = []; own = record { 0 = 3 } ∷ [] } ∷ []) in
    let classes5 = c.in_ok-classes-5.ensures ∙ (λ i. classes4 i ++ record { name = codes "Lowest"; «package» = 0; is_abstract = false; supers = record { 0 = 3 } ∷ record { 0 = 0 } ∷ []; own = record { 0 = 4 } ∷ [] } ∷ []) in
    let features1 = c.in_ok-features.ensures ∙ (λ i. c.new-2.ensures i ++ record { name = codes "low"; owner = record { 0 = 0 }; kind = Str; many = false; unique = true; is_id = false; default = None } ∷ []) in
    let features2 = c.in_ok-features-2.ensures ∙ (λ i. features1 i ++ record { name = codes "left"; owner = record { 0 = 1 }; kind = Str; many = false; unique = true; is_id = false; default = None } ∷ []) in
    let features3 = c.in_ok-features-3.ensures ∙ (λ i. features2 i ++ record { name = codes "right"; owner = record { 0 = 2 }; kind = Str; many = false; unique = true; is_id = false; default = None } ∷ []) in
    let features4 = c.in_ok-features-4.ensures ∙ (λ i. features3 i ++ record { name = codes "top"; owner = record { 0 = 3 }; kind = Str; many = false; unique = true; is_id = false; default = None } ∷ []) in
    let features5 = c.in_ok-features-5.ensures ∙ (λ i. features4 i ++ record { name = codes "lowest"; owner = record { 0 = 4 }; kind = Str; many = false; unique = true; is_id = false; default = None } ∷ []) in
    let built : ◌≡◌ {A = Parts} (record { packages = c.in_ok-packages.packages; classes = c.in_ok-classes-5.classes; features = c.in_ok-features-5.features; enums = c.new-3.result; skipped = c.new-4.result }) sample =
    λ i. record { packages = c.in_ok-packages.ensures i; classes = classes5 i; features = features5 i; enums = c.new-3.ensures i; skipped = c.new-4.ensures i } in
    subst IsMetamodel (sym built) valid
