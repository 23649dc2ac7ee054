-- The names that a metamodel's classes, packages and features are found by: no two that are looked through have one name.
use Rattle.std.proofs.Common.{◌≡◌, ℕ, ◌<◌, List, [], ◌∷◌, length, get_or, map, refl, sym, ap, subst, ◌∙◌, Option, Some, None}
use Rattle.std.specs.Prelude.{◌&&◌, ◌^◌, not, Bool, true, false, bytes_eq, find, is_some, codes, option_map, slice_get, Contains, if◌then◌else◌}
use Rattle.std.specs.List.{list_any}
use Rattle.std.specs.Option.{option_map_or}
use Rattle.std.proofs.lemmas.Bool.{and_from, and_left, lt-ltb}
use Rattle.std.proofs.lemmas.List.{append-nil}
use Rattle.atl_base.specs.declared.numbers.ClassId.{ClassId}
use Rattle.atl_base.specs.declared.numbers.FeatId.{FeatId}
use Rattle.doc_text.specs.Names.{xmi_space, xsi_space}
use Rattle.doc_text.specs.declared.tree.Prefix.{Prefix}
use Rattle.ecore_meta.specs.declared.parts.Class.{Class}
use Rattle.ecore_meta.specs.declared.parts.Package.{Package}
use Rattle.ecore_meta.specs.declared.parts.Parts.{Parts}
use Rattle.ecore_meta.specs.Inheritance.{features, name_of}
use Rattle.ecore_meta.specs.Names.{IsName, IsPrefix, IsUri}
use Rattle.ecore_meta.specs.Valid.{AllDiffer, IsMetamodel}
use Rattle.xmi_text.specs.Markup.{uri_in}
use Rattle.xmi_text.specs.Options.{then_}
use Rattle.xmi_text.proofs.Lists.{get_of_map, get_or_map}
use Rattle.xmi_names.specs.Names.{class_at, class_named, is_class_named, is_skipped, is_sub}
use Rattle.xmi_names.proofs.FeatureNames.{one_found}
use Rattle.xmi_write.specs.Xmi.{declared, package_prefix}
use Rattle.xmi_round_trip.proofs.Lists.{some_at, at_place}
use Rattle.doc_text.proofs.ScopesAgain.{same_bytes, differs}
use Rattle.xmi_round_trip.proofs.Names.{found_here, position_here, names_before}

module _ (meta : Parts) (valid : IsMetamodel meta) where
  -- ## Classes

  -- a class with its package
  pub record HasPackage (c : ClassId) : Type 0 where
    pub class : Class
    pub group : Package
    pub there : slice_get meta.classes c.0 ≡ Some class
    pub inside : slice_get meta.packages class.«package» ≡ Some group

  -- each class has its package
  pub has_package : (c : ClassId) → c.0 < length meta.classes → HasPackage c
  has_package c h =
      let x = some_at meta.classes c.0 h in
      let y = some_at meta.packages x.0.«package» (at_place (λ class. class.«package» < length meta.packages) meta.classes c.0 x.0 valid.places.packages x.1) in
      record { class = x.0; group = y.0; there = x.1; inside = y.1 }

  -- a class is found by its package's namespace and its name
  pub class_found : (c : ClassId) (has : HasPackage c) → c.0 < 2 ^ 32 → class_named meta has.group.uri has.class.name ≡ Some c
  class_found c has few =
      ap (λ o. then_ o class_at) (position_here (is_class_named meta has.group.uri has.class.name) meta.classes c.0 has.class has.there passes others)
      ∙ ap (λ b. if b then Some c else None) (lt-ltb c.0 4294967296 few)
    where
      passes : is_class_named meta has.group.uri has.class.name has.class ≡ true
      passes = and_from (bytes_eq has.class.name has.class.name) (option_map_or (λ p. bytes_eq p.uri has.group.uri) (slice_get meta.packages has.class.«package») false)
          (same_bytes has.class.name)
          (ap (λ o. option_map_or (λ p. bytes_eq p.uri has.group.uri) o false) has.inside ∙ same_bytes has.group.uri)

      others : (k : ℕ) → k < c.0 → is_class_named meta has.group.uri has.class.name (get_or meta.classes k has.class) ≡ false
      others k l = and_left
          (bytes_eq (get_or meta.classes k has.class).name has.class.name)
          (option_map_or (λ p. bytes_eq p.uri has.group.uri) (slice_get meta.packages (get_or meta.classes k has.class).«package») false)
          (names_before (λ class. class.name) meta.classes (map (λ e. e.name) meta.enums) c.0 has.class valid.classifiers_differ has.there k l)

  -- ## Prefixes

  -- a package's prefix stands for its namespace in a file
  pub prefix_found : (n : ℕ) (p : Package) → slice_get meta.packages n ≡ Some p → uri_in (declared meta) p.prefix ≡ Some p.uri
  prefix_found n p h =
      ap (λ b. option_map_or (λ d. Some d.uri) (if b then Some (record { prefix = codes "xmi"; uri = xmi_space }) else find is_it (record { prefix = codes "xsi"; uri = xsi_space } ∷ map package_prefix meta.packages)) none)
      (differs (codes "xmi") p.prefix (λ e. name.not_xmi (sym e)))
      ∙ ap (λ b. option_map_or (λ d. Some d.uri) (if b then Some (record { prefix = codes "xsi"; uri = xsi_space }) else find is_it (map package_prefix meta.packages)) none)
      (differs (codes "xsi") p.prefix (λ e. name.not_xsi (sym e)))
      ∙ ap (λ o. option_map_or (λ d. Some d.uri) o none) (found_here is_it (map package_prefix meta.packages) n (package_prefix p) there (same_bytes p.prefix) others)
    where
      name : IsPrefix p.prefix
      name = (at_place (λ p. IsName p.name × IsPrefix p.prefix × IsUri p.uri) meta.packages n p valid.names.packages h).1

      is_it : Prefix → Bool
      is_it = λ d. bytes_eq d.prefix p.prefix

      none : Option (List ℕ)
      none = if bytes_eq p.prefix [] then Some [] else None

      there : slice_get (map package_prefix meta.packages) n ≡ Some (package_prefix p)
      there = get_of_map package_prefix meta.packages n ∙ ap (option_map package_prefix) h

      others : (k : ℕ) → k < n → is_it (get_or (map package_prefix meta.packages) k (package_prefix p)) ≡ false
      others k l = ap is_it (get_or_map package_prefix meta.packages k p)
          ∙ names_before (λ p. p.prefix) meta.packages [] n p (subst AllDiffer (sym (append-nil (map (λ p. p.prefix) meta.packages))) valid.prefixes_differ) h k l

  -- ## Features

  -- a feature's name is not one that is passed over
  pub not_skipped : (c : ClassId) (f : FeatId) → c.0 < length meta.classes → Contains (features meta.classes c) f → is_skipped meta c (name_of meta.features f) ≡ false
  not_skipped c f h k = ap (λ o. not (is_some o) && list_any (λ s. bytes_eq s.name (name_of meta.features f) && is_sub meta c s.owner) meta.skipped) (one_found (name_of meta.features) (name_of meta.features f) (features meta.classes c) f (valid.seen_differ c h) k refl)
