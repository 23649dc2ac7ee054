-- Which objects some fragments name: a root of two kids, of which the second has a heart.
use Rattle.std.proofs.Common.{◌≡◌, ℕ, [], ◌∷◌, true, false, refl, Some, None}
use Rattle.std.specs.Prelude.{codes}
use Rattle.atl_base.specs.declared.numbers.ObjId.{ObjId}
use Rattle.ecore_meta.specs.declared.parts.FeatKind.TheVariants.{Refer}
use Rattle.ecore_meta.specs.declared.parts.Parts.{Parts}
use Rattle.ecore_meta.specs.Inheritance.{features, features_within}
use Rattle.model_store.specs.declared.parts.Cellv.TheVariants.{Obj}
use Rattle.model_store.specs.Contents.{Contents}
use Rattle.model_store.specs.Paths.{object_of_path}

abbrev sample : Parts
sample = record {
  packages = [];
  classes = record { name = codes "Node"; «package» = 0; is_abstract = false; supers = []; own = record { 0 = 0 } ∷ record { 0 = 1 } ∷ [] } ∷ [];
  features = record { name = codes "kids"; owner = record { 0 = 0 }; kind = Refer (record { 0 = 0 }) true None; many = true; unique = true; is_id = false; default = None }
      ∷ record { name = codes "heart"; owner = record { 0 = 0 }; kind = Refer (record { 0 = 0 }) true None; many = false; unique = true; is_id = false; default = None } ∷ [];
  enums = [];
  skipped = [];
}

abbrev no : ℕ → ObjId
no n = record { 0 = n }

abbrev tree : Contents
tree = record {
  meta = sample;
  objects = Some (record { class = record { 0 = 0 }; slots = (Obj (no 1) ∷ Obj (no 2) ∷ []) ∷ [] ∷ [] })
      ∷ Some (record { class = record { 0 = 0 }; slots = [] ∷ [] ∷ [] })
      ∷ Some (record { class = record { 0 = 0 }; slots = [] ∷ (Obj (no 3) ∷ []) ∷ [] })
      ∷ Some (record { class = record { 0 = 0 }; slots = [] ∷ [] ∷ [] }) ∷ [];
  roots = no 0 ∷ [];
}

single_root : object_of_path tree (codes "/") ≡ Some (no 0)
single_root = refl

root_by_number : object_of_path tree (codes "/00") ≡ Some (no 0)
root_by_number = refl

no_such_root : object_of_path tree (codes "/1") ≡ None
no_such_root = refl

kid : object_of_path tree (codes "//@kids.1") ≡ Some (no 2)
unfolding features features_within
kid = refl

heart : object_of_path tree (codes "//@kids.01/@heart") ≡ Some (no 3)
unfolding features features_within
heart = refl

many_without_place : object_of_path tree (codes "//@kids") ≡ None
unfolding features features_within
many_without_place = refl

single_with_place : object_of_path tree (codes "//@kids.1/@heart.0") ≡ None
unfolding features features_within
single_with_place = refl

two_slashes : object_of_path tree (codes "//") ≡ None
two_slashes = refl

no_slash : object_of_path tree (codes "@kids.1") ≡ None
no_slash = refl
