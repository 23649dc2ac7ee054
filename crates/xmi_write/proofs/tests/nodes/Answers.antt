-- Each list is what was put into it, and the test of the conditions passes on all five.
use Rattle.std.proofs.Common.{◌≡◌, [], ◌∷◌, ◌++◌, true, false, None, Some, refl, sym, subst, ◌∙◌}
use Rattle.std.specs.Prelude.{codes}
use Rattle.ecore_meta.specs.declared.parts.Class.{Class}
use Rattle.ecore_meta.specs.declared.parts.FeatKind.TheVariants.{Enum, Int, Refer, Str, Truth}
use Rattle.ecore_meta.specs.declared.parts.Parts.{Parts}
use Rattle.ecore_meta.specs.Inheritance.{features, features_within}
use Rattle.ecore_meta.specs.Valid.{IsMetamodel}
use Rattle.ecore_meta.proofs.Samples.{Passes, passed}
use Rattle.xmi_write.proofs.tests.nodes.Goals as goal

abbrev node : Class
node = record { name = codes "Node"; «package» = 0; is_abstract = false; supers = []; own = record { 0 = 0 } ∷ record { 0 = 1 } ∷ record { 0 = 2 } ∷ record { 0 = 3 } ∷ record { 0 = 4 } ∷ record { 0 = 5 } ∷ record { 0 = 6 } ∷ record { 0 = 7 } ∷ record { 0 = 8 } ∷ record { 0 = 9 } ∷ [] }

abbrev leaf : Class
leaf = record { name = codes "Leaf"; «package» = 1; is_abstract = false; supers = record { 0 = 0 } ∷ []; own = [] }

abbrev sample : Parts
sample = record {
  packages = record { name = codes "A"; uri = codes "urn:a"; prefix = codes "A" } ∷ record { name = codes "L"; uri = codes "urn:l"; prefix = codes "L" } ∷ [];
  classes = node ∷ leaf ∷ [];
  features = record { name = codes "name"; owner = record { 0 = 0 }; kind = Str; many = false; unique = false; is_id = false; default = None }
      ∷ record { name = codes "count"; owner = record { 0 = 0 }; kind = Int; many = false; unique = false; is_id = false; default = Some (codes "01") }
      ∷ record { name = codes "color"; owner = record { 0 = 0 }; kind = Enum 0; many = false; unique = false; is_id = false; default = Some (codes "green") }
      ∷ record { name = codes "next"; owner = record { 0 = 0 }; kind = Refer (record { 0 = 0 }) false None; many = false; unique = false; is_id = false; default = None }
      ∷ record { name = codes "kids"; owner = record { 0 = 0 }; kind = Refer (record { 0 = 0 }) true (Some (record { 0 = 5 })); many = true; unique = false; is_id = false; default = None }
      ∷ record { name = codes "up"; owner = record { 0 = 0 }; kind = Refer (record { 0 = 0 }) false (Some (record { 0 = 4 })); many = false; unique = false; is_id = false; default = None }
      ∷ record { name = codes "tags"; owner = record { 0 = 0 }; kind = Str; many = true; unique = false; is_id = false; default = None }
      ∷ record { name = codes "heart"; owner = record { 0 = 0 }; kind = Refer (record { 0 = 0 }) true None; many = false; unique = false; is_id = false; default = None }
      ∷ record { name = codes "open"; owner = record { 0 = 0 }; kind = Truth; many = false; unique = false; is_id = false; default = None }
      ∷ record { name = codes "friends"; owner = record { 0 = 0 }; kind = Refer (record { 0 = 0 }) false None; many = true; unique = false; is_id = false; default = None } ∷ [];
  enums = record { name = codes "Color"; literals = record { name = codes "Red"; text = codes "dark red" } ∷ record { name = codes "Green"; text = codes "green" } ∷ [] } ∷ [];
  skipped = [];
}

valid : IsMetamodel sample
unfolding features features_within
valid = passed (0 ∷ 1 ∷ []) sample (record {
  enums = refl;
  skipped = refl;
  packages = refl;
  supers = refl;
  owners = refl;
  kinds = refl;
  rising = refl;
  owned = refl;
  owning = refl;
  own = refl;
  seen = refl;
  defaults = refl;
  opposites = refl;
  classifiers = refl;
  uris = refl;
  prefixes = refl;
  package_names = refl;
  class_names = refl;
  feature_names = refl;
})

pub returns : goal.returns
returns c =
    let packages1 = c.in_ok-packages.ensures ∙ (λ i. c.new.ensures i ++ record { name = codes "A"; uri = codes "urn:a"; prefix = codes "A" } ∷ []) in
    let packages2 = c.in_ok-packages-2.ensures ∙ (λ i. packages1 i ++ record { name = codes "L"; uri = codes "urn:l"; prefix = codes "L" } ∷ []) in
    let classes1 = c.in_ok-classes.ensures ∙ (λ i. c.new-2.ensures i ++ node ∷ []) in
    let classes2 = c.in_ok-classes-2.ensures ∙ (λ i. classes1 i ++ leaf ∷ []) in
    let features1 = c.in_ok-features.ensures ∙ (λ i. c.new-3.ensures i ++ record { name = codes "name"; owner = record { 0 = 0 }; kind = Str; many = false; unique = false; is_id = false; default = None } ∷ []) in
    let features2 = c.in_ok-features-2.ensures ∙ (λ i. features1 i ++ record { name = codes "count"; owner = record { 0 = 0 }; kind = Int; many = false; unique = false; is_id = false; default = Some (c.in_ok-text.ensures i) } ∷ []) in
    let features3 = c.in_ok-features-3.ensures ∙ (λ i. features2 i ++ record { name = codes "color"; owner = record { 0 = 0 }; kind = Enum 0; many = false; unique = false; is_id = false; default = Some (c.in_ok-text-2.ensures i) } ∷ []) in
    let features4 = c.in_ok-features-4.ensures ∙ (λ i. features3 i ++ record { name = codes "next"; owner = record { 0 = 0 }; kind = c.refer.ensures i; many = false; unique = false; is_id = false; default = None } ∷ []) in
    let features5 = c.in_ok-features-5.ensures ∙ (λ i. features4 i ++ record { name = codes "kids"; owner = record { 0 = 0 }; kind = c.refer-2.ensures i; many = true; unique = false; is_id = false; default = None } ∷ []) in
    let features6 = c.in_ok-features-6.ensures ∙ (λ i. features5 i ++ record { name = codes "up"; owner = record { 0 = 0 }; kind = c.refer-3.ensures i; many = false; unique = false; is_id = false; default = None } ∷ []) in
    let features7 = c.in_ok-features-7.ensures ∙ (λ i. features6 i ++ record { name = codes "tags"; owner = record { 0 = 0 }; kind = Str; many = true; unique = false; is_id = false; default = None } ∷ []) in
    let features8 = c.in_ok-features-8.ensures ∙ (λ i. features7 i ++ record { name = codes "heart"; owner = record { 0 = 0 }; kind = c.refer-4.ensures i; many = false; unique = false; is_id = false; default = None } ∷ []) in
    let features9 = c.in_ok-features-9.ensures ∙ (λ i. features8 i ++ record { name = codes "open"; owner = record { 0 = 0 }; kind = Truth; many = false; unique = false; is_id = false; default = None } ∷ []) in
    let features10 = c.in_ok-features-10.ensures ∙ (λ i. features9 i ++ record { name = codes "friends"; owner = record { 0 = 0 }; kind = c.refer-5.ensures i; many = true; unique = false; is_id = false; default = None } ∷ []) in
    let literals1 = c.in_ok-literals.ensures ∙ (λ i. c.new-4.ensures i ++ record { name = codes "Red"; text = codes "dark red" } ∷ []) in
    let literals2 = c.in_ok-literals-2.ensures ∙ (λ i. literals1 i ++ record { name = codes "Green"; text = codes "green" } ∷ []) in
    let enums1 = c.in_ok-enums.ensures ∙ (λ i. record { name = codes "Color"; literals = literals2 i } ∷ []) in
    let built : ◌≡◌ {A = Parts} (record { packages = c.in_ok-packages-2.packages; classes = c.in_ok-classes-2.classes; features = c.in_ok-features-10.features; enums = c.in_ok-enums.enums; skipped = c.new-5.result }) sample =
    λ i. record { packages = packages2 i; classes = classes2 i; features = features10 i; enums = enums1 i; skipped = c.new-5.ensures i } in
    subst IsMetamodel (sym built) valid
