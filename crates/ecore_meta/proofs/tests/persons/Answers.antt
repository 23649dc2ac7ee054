-- Each list is what was put into it, and the test of the conditions passes on all five.
use Rattle.std.proofs.Common.{◌≡◌, List, [], ◌∷◌, ◌++◌, true, false, None, refl, sym, subst, ◌∙◌}
use Rattle.std.specs.Prelude.{codes}
use Rattle.ecore_meta.specs.declared.parts.FeatKind.TheVariants.{Str}
use Rattle.ecore_meta.specs.declared.parts.Parts.{Parts}
use Rattle.ecore_meta.specs.Inheritance.{features, features_within}
use Rattle.ecore_meta.specs.Valid.{IsMetamodel}
use Rattle.ecore_meta.proofs.Samples.{Passes, passed}
use Rattle.ecore_meta.proofs.tests.persons.Goals as goal

abbrev sample : Parts
sample = record {
  packages = record { name = codes "Persons"; uri = codes "Persons"; prefix = codes "Persons" } ∷ [];
  classes = record { name = codes "Male"; «package» = 0; is_abstract = false; supers = record { 0 = 2 } ∷ []; own = [] }
      ∷ record { name = codes "Female"; «package» = 0; is_abstract = false; supers = record { 0 = 2 } ∷ []; own = [] }
      ∷ record { name = codes "Person"; «package» = 0; is_abstract = true; supers = []; own = record { 0 = 0 } ∷ [] } ∷ [];
  features = record { name = codes "fullName"; owner = record { 0 = 2 }; kind = Str; many = false; unique = true; is_id = false; default = None } ∷ [];
  enums = [];
  skipped = [];
}

valid : IsMetamodel sample
unfolding features features_within
valid = passed (1 ∷ 1 ∷ 0 ∷ []) sample (record {
  enums = refl;
  skipped = refl;
  packages = refl;
  supers = refl;
  owners = refl;
  kinds = refl;
  rising = refl;
  owned = refl;
  owning = refl;
  own = refl;
  seen = refl;
  defaults = refl;
  opposites = refl;
  classifiers = refl;
  uris = refl;
  prefixes = refl;
  package_names = refl;
  class_names = refl;
  feature_names = refl;
})

pub returns-clause-valid : goal.returns-clause-valid
returns-clause-valid c =
    let classes1 = c.in_ok-classes.ensures ∙ (λ i. c.new.ensures i ++ record { name = codes "Male"; «package» = 0; is_abstract = false; supers = record { 0 = 2 } ∷ []; own = [] } ∷ []) in
    let classes2 = c.in_ok-classes-2.ensures ∙ (λ i. classes1 i ++ record { name = codes "Female"; «package» = 0; is_abstract = false; supers = record { 0 = 2 } ∷ []; own = [] } ∷ []) in
    let classes3 = c.in_ok-classes-3.ensures ∙ (λ i. classes2 i ++ record { name = codes "Person"; «package» = 0; is_abstract = true; supers = []; own = record { 0 = 0 } ∷ [] } ∷ []) in
    let features1 = c.in_ok-features.ensures ∙ (λ i. c.new-2.ensures i ++ record { name = codes "fullName"; owner = record { 0 = 2 }; kind = Str; many = false; unique = true; is_id = false; default = None } ∷ []) in
    let built : ◌≡◌ {A = Parts} (record { packages = c.in_ok-packages.packages; classes = c.in_ok-classes-3.classes; features = c.in_ok-features.features; enums = c.new-3.result; skipped = c.new-4.result }) sample =
    λ i. record { packages = c.in_ok-packages.ensures i; classes = classes3 i; features = features1 i; enums = c.new-3.ensures i; skipped = c.new-4.ensures i } in
    subst IsMetamodel (sym built) valid
