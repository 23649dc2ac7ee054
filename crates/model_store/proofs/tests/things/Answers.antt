-- Each list is what was put into it, and the test of the conditions passes on all five.
use Rattle.std.proofs.Common.{◌≡◌, [], ◌∷◌, ◌++◌, refl, sym, subst, ◌∙◌}
use Rattle.std.specs.Prelude.{codes}
use Rattle.ecore_meta.specs.declared.parts.Parts.{Parts}
use Rattle.ecore_meta.specs.Inheritance.{features, features_within}
use Rattle.ecore_meta.specs.Valid.{IsMetamodel}
use Rattle.ecore_meta.proofs.Samples.{Passes, passed}
use Rattle.model_store.proofs.LoneModel.{thing}
use Rattle.model_store.proofs.tests.things.Goals as goal

abbrev sample : Parts
sample = record {
  packages = record { name = codes "Things"; uri = codes "Things"; prefix = codes "Things" } ∷ [];
  classes = thing ∷ [];
  features = [];
  enums = [];
  skipped = [];
}

valid : IsMetamodel sample
unfolding features features_within
valid = passed (0 ∷ []) sample (record {
  enums = refl;
  skipped = refl;
  packages = refl;
  supers = refl;
  owners = refl;
  kinds = refl;
  rising = refl;
  owned = refl;
  owning = refl;
  own = refl;
  seen = refl;
  defaults = refl;
  opposites = refl;
  classifiers = refl;
  uris = refl;
  prefixes = refl;
  package_names = refl;
  class_names = refl;
  feature_names = refl;
})

pub returns : goal.returns
returns c =
    let classes = c.in_ok-classes.ensures ∙ (λ i. c.new.ensures i ++ thing ∷ []) in
    let built : ◌≡◌ {A = Parts} (record { packages = c.in_ok-packages.packages; classes = c.in_ok-classes.classes; features = c.new-2.result; enums = c.new-3.result; skipped = c.new-4.result }) sample =
    λ i. record { packages = c.in_ok-packages.ensures i; classes = classes i; features = c.new-2.ensures i; enums = c.new-3.ensures i; skipped = c.new-4.ensures i } in
    (subst IsMetamodel (sym built) valid, classes)
