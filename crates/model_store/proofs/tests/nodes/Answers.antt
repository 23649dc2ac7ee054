-- Each list is what was put into it, and the test of the conditions passes on all five.
use Rattle.std.proofs.Common.{◌≡◌, List, [], ◌∷◌, ◌++◌, true, false, None, Some, refl, sym, subst, ◌∙◌}
use Rattle.std.specs.Prelude.{codes}
use Rattle.ecore_meta.specs.declared.parts.FeatKind.TheVariants.{Refer, Str}
use Rattle.ecore_meta.specs.declared.parts.Parts.{Parts}
use Rattle.ecore_meta.specs.Inheritance.{features, features_within}
use Rattle.ecore_meta.specs.Valid.{IsMetamodel}
use Rattle.ecore_meta.proofs.Samples.{Passes, passed}
use Rattle.model_store.proofs.tests.nodes.Goals as goal

abbrev sample : Parts
sample = record {
  packages = record { name = codes "Nodes"; uri = codes "Nodes"; prefix = codes "Nodes" } ∷ [];
  classes = record { name = codes "Node"; «package» = 0; is_abstract = false; supers = []; own = record { 0 = 0 } ∷ record { 0 = 1 } ∷ record { 0 = 2 } ∷ record { 0 = 3 } ∷ record { 0 = 4 } ∷ record { 0 = 5 } ∷ record { 0 = 6 } ∷ record { 0 = 7 } ∷ [] }
      ∷ record { name = codes "Leaf"; «package» = 0; is_abstract = false; supers = record { 0 = 0 } ∷ []; own = [] } ∷ [];
  features = record { name = codes "name"; owner = record { 0 = 0 }; kind = Str; many = false; unique = true; is_id = false; default = None }
      ∷ record { name = codes "kids"; owner = record { 0 = 0 }; kind = Refer (record { 0 = 0 }) true (Some (record { 0 = 2 })); many = true; unique = true; is_id = false; default = None }
      ∷ record { name = codes "up"; owner = record { 0 = 0 }; kind = Refer (record { 0 = 0 }) false (Some (record { 0 = 1 })); many = false; unique = true; is_id = false; default = None }
      ∷ record { name = codes "heart"; owner = record { 0 = 0 }; kind = Refer (record { 0 = 0 }) true None; many = false; unique = true; is_id = false; default = None }
      ∷ record { name = codes "friends"; owner = record { 0 = 0 }; kind = Refer (record { 0 = 0 }) false (Some (record { 0 = 5 })); many = true; unique = true; is_id = false; default = None }
      ∷ record { name = codes "admirers"; owner = record { 0 = 0 }; kind = Refer (record { 0 = 0 }) false (Some (record { 0 = 4 })); many = true; unique = true; is_id = false; default = None }
      ∷ record { name = codes "spouse"; owner = record { 0 = 0 }; kind = Refer (record { 0 = 0 }) false (Some (record { 0 = 6 })); many = false; unique = true; is_id = false; default = None }
      ∷ record { name = codes "tags"; owner = record { 0 = 0 }; kind = Str; many = true; unique = true; is_id = false; default = None } ∷ [];
  enums = [];
  skipped = [];
}

valid : IsMetamodel sample
unfolding features features_within
valid = passed (0 ∷ 1 ∷ []) sample (record {
  enums = refl;
  skipped = refl;
  packages = refl;
  supers = refl;
  owners = refl;
  kinds = refl;
  rising = refl;
  owned = refl;
  owning = refl;
  own = refl;
  seen = refl;
  defaults = refl;
  opposites = refl;
  classifiers = refl;
  uris = refl;
  prefixes = refl;
  package_names = refl;
  class_names = refl;
  feature_names = refl;
})

pub returns : goal.returns
returns c =
    let classes1 = c.in_ok-classes.ensures ∙ (λ i. c.new.ensures i ++ record { name = codes "Node"; «package» = 0; is_abstract = false; supers = []; own = record { 0 = 0 } ∷ record { 0 = 1 } ∷ record { 0 = 2 } ∷ record { 0 = 3 } ∷ record { 0 = 4 } ∷ record { 0 = 5 } ∷ record { 0 = 6 } ∷ record { 0 = 7 } ∷ [] } ∷ []) in
    let classes2 = c.in_ok-classes-2.ensures ∙ (λ i. classes1 i ++ record { name = codes "Leaf"; «package» = 0; is_abstract = false; supers = record { 0 = 0 } ∷ []; own = [] } ∷ []) in
    let features1 = c.in_ok-features.ensures ∙ (λ i. c.new-2.ensures i ++ record { name = codes "name"; owner = record { 0 = 0 }; kind = Str; many = false; unique = true; is_id = false; default = None } ∷ []) in
    let features2 = c.in_ok-features-2.ensures ∙ (λ i. features1 i ++ record { name = codes "kids"; owner = record { 0 = 0 }; kind = c.refer.ensures i; many = true; unique = true; is_id = false; default = None } ∷ []) in
    let features3 = c.in_ok-features-3.ensures ∙ (λ i. features2 i ++ record { name = codes "up"; owner = record { 0 = 0 }; kind = c.refer-2.ensures i; many = false; unique = true; is_id = false; default = None } ∷ []) in
    let features4 = c.in_ok-features-4.ensures ∙ (λ i. features3 i ++ record { name = codes "heart"; owner = record { 0 = 0 }; kind = c.alone.ensures i; many = false; unique = true; is_id = false; default = None } ∷ []) in
    let features5 = c.in_ok-features-5.ensures ∙ (λ i. features4 i ++ record { name = codes "friends"; owner = record { 0 = 0 }; kind = c.refer-3.ensures i; many = true; unique = true; is_id = false; default = None } ∷ []) in
    let features6 = c.in_ok-features-6.ensures ∙ (λ i. features5 i ++ record { name = codes "admirers"; owner = record { 0 = 0 }; kind = c.refer-4.ensures i; many = true; unique = true; is_id = false; default = None } ∷ []) in
    let features7 = c.in_ok-features-7.ensures ∙ (λ i. features6 i ++ record { name = codes "spouse"; owner = record { 0 = 0 }; kind = c.refer-5.ensures i; many = false; unique = true; is_id = false; default = None } ∷ []) in
    let features8 = c.in_ok-features-8.ensures ∙ (λ i. features7 i ++ record { name = codes "tags"; owner = record { 0 = 0 }; kind = Str; many = true; unique = true; is_id = false; default = None } ∷ []) in
    let built : ◌≡◌ {A = Parts} (record { packages = c.in_ok-packages.packages; classes = c.in_ok-classes-2.classes; features = c.in_ok-features-8.features; enums = c.new-3.result; skipped = c.new-4.result }) sample =
    λ i. record { packages = c.in_ok-packages.ensures i; classes = classes2 i; features = features8 i; enums = c.new-3.ensures i; skipped = c.new-4.ensures i } in
    subst IsMetamodel (sym built) valid
