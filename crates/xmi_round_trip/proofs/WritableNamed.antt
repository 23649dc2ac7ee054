-- What the elements of a model's file are named: for a class, for a feature, or `XMI`; the names are plain, and their spaces declared.
use Rattle.std.proofs.Common.{◌≡◌, ◌≢◌, ℕ, zero, suc, ◌<◌, true, List, [], ◌∷◌, length, map, refl, sym, ap, subst, arith, Option, Some, None}
use Rattle.std.specs.Prelude.{◌||◌, codes, slice_get, slice_index_or, bytes_eq, All, AllPairs}
use Rattle.std.specs.List.{list_any}
use Rattle.std.specs.Option.{option_map_or}
use Rattle.std.proofs.lemmas.Bool.{false≢true, or_left, or_right}
use Rattle.std.proofs.lemmas.List.Elements.{All-cons, All-head, All-map, All-nil, All-tail}
use Rattle.std.proofs.lemmas.List.Kept.{AllPairs-cons}
use Rattle.std.proofs.lemmas.Option.{get_or_from_slice_get, slice_get_within}
use Rattle.std.proofs.lemmas.Slice.Eq.{bytes_eq-Decides}
use Rattle.atl_base.specs.declared.numbers.ClassId.{ClassId}
use Rattle.atl_base.specs.declared.numbers.FeatId.{FeatId}
use Rattle.atl_base.specs.declared.numbers.ObjId.{ObjId}
use Rattle.atl_base.specs.XmlText.{IsXmlText}
use Rattle.atl_base.proofs.XmlTexts.{IsXmlText-ascii}
use Rattle.doc_text.specs.Names.{xmi_space, xsi_space}
use Rattle.doc_text.specs.ReadBack.{IsDeclared, IsPlainName}
use Rattle.doc_text.specs.declared.tree.Prefix.{Prefix}
use Rattle.ecore_meta.specs.declared.parts.Class.{Class}
use Rattle.ecore_meta.specs.declared.parts.Package.{Package}
use Rattle.ecore_meta.specs.declared.parts.Parts.{Parts}
use Rattle.ecore_meta.specs.Names.{IsName}
use Rattle.ecore_meta.specs.Valid.{AllDiffer, IsMetamodel}
use Rattle.model_store.specs.declared.parts.Object.{Object}
use Rattle.model_store.specs.Contents.{Contents, object_at}
use Rattle.model_store.specs.Valid.{IsValid}
use Rattle.xmi_write.specs.declared.named.Named.{Named}
use Rattle.xmi_write.specs.declared.named.Named.TheVariants.{Around, Root, Inside}
use Rattle.xmi_write.specs.Xmi.{class_name, declared, local_name, package_prefix, root_name, space_of}
use Rattle.xmi_round_trip.specs.RoundTrip.{AreTexts}
use Rattle.xmi_round_trip.proofs.WritableAttributes.{pairs_first}
use Rattle.xmi_round_trip.proofs.WritableNames.{name_is_plain}
use Rattle.xmi_round_trip.proofs.WritableTags.{around_is_plain, xmi_is_declared, xmi_is_plain, xsi_is_plain}
use Rattle.xmi_round_trip.proofs.WritableTexts.{text_at}
use Rattle.xmi_round_trip.proofs.Lists.{at_place, some_at}
use Rattle.xmi_text.proofs.Lists.{pairs_rest}

-- ## Elements

-- its name is plain, and its space declared
pub record IsGoodNamed (meta : Parts) (named : Named) : Type 0 where
  pub name : IsPlainName (local_name meta named)
  pub space : IsDeclared (declared meta) (space_of meta named)

-- `xmi:XMI` is named so
pub around_good : (meta : Parts) → IsGoodNamed meta Around
around_good meta = record { name = around_is_plain; space = xmi_is_declared meta }

-- so is what is named for a feature of plain name
pub inside_good : (meta : Parts) (f : FeatId) → IsPlainName (local_name meta (Inside f)) → IsGoodNamed meta (Inside f)
inside_good meta f h = record { name = h; space = refl }

-- a package's space is declared
among_packages : (uri : List ℕ) (packages : List Package) → (n : ℕ) → n < length packages → (d : Package) → (slice_index_or packages n d).uri ≡ uri
    → list_any (λ d. bytes_eq d.uri uri) (map package_prefix packages) ≡ true
among_packages uri [] n low d same = absurd (omega (arith, low))
among_packages uri (p ∷ packages) zero low d same = or_left (bytes_eq p.uri uri) (list_any (λ d. bytes_eq d.uri uri) (map package_prefix packages)) ((bytes_eq-Decides p.uri uri).1 same)
among_packages uri (p ∷ packages) (suc n) low d same =
    or_right (bytes_eq p.uri uri) (list_any (λ d. bytes_eq d.uri uri) (map package_prefix packages)) (among_packages uri packages n (omega (arith, low)) d same)

module _ (meta : Parts) (valid : IsMetamodel meta) (texts : AreTexts meta) where
  -- so is that of the package at a place, or none
  uri_is_declared : (n : ℕ) → IsDeclared (declared meta) (option_map_or (λ p. p.uri) (slice_get meta.packages n) [])
  uri_is_declared n = on (slice_get meta.packages n) refl
    where
      on : (x : Option Package) → slice_get meta.packages n ≡ x → IsDeclared (declared meta) (option_map_or (λ p. p.uri) x [])
      on None e = refl
      on (Some p) e =
          or_right (bytes_eq p.uri []) (list_any (λ d. bytes_eq d.uri p.uri) (declared meta)) (
          or_right (bytes_eq xmi_space p.uri) (bytes_eq xsi_space p.uri || list_any (λ d. bytes_eq d.uri p.uri) (map package_prefix meta.packages)) (
          or_right (bytes_eq xsi_space p.uri) (list_any (λ d. bytes_eq d.uri p.uri) (map package_prefix meta.packages)) (
          among_packages p.uri meta.packages n (slice_get_within meta.packages n p e) p (ap (λ (q : Package). q.uri) (get_or_from_slice_get meta.packages n p p e)))))

  -- and that of a class
  space_is_declared : (c : ClassId) → IsDeclared (declared meta) (space_of meta (Root c))
  space_is_declared c = on (slice_get meta.classes c.0)
    where
      on : (x : Option Class) → IsDeclared (declared meta) (option_map_or (λ p. p.uri) (option_map_or (λ class. slice_get meta.packages class.«package») x None) [])
      on None = refl
      on (Some class) = uri_is_declared class.«package»

  -- what is named for a class is named so
  pub root_good : (c : ClassId) → c.0 < length meta.classes → IsGoodNamed meta (Root c)
  root_good c low =
      let at = some_at meta.classes c.0 low in
      let good : IsName at.0.name = at_place (λ (x : Class). IsName x.name) meta.classes c.0 at.0 valid.names.classes at.1 in
      record {
        name = name_is_plain (class_name meta c) (subst IsName (sym (ap (λ x. option_map_or (λ class. class.name) x []) at.1)) good) (text_at (λ class. class.name) meta.classes c.0 texts.classes);
        space = space_is_declared c;
      }

-- a root's, also where it is not there
pub root_name_good : (m : Contents) → IsValid m → AreTexts m.meta → (o : ObjId) → IsGoodNamed m.meta (root_name m o)
root_name_good m valid texts o = on (object_at m.objects o) refl
  where
    on : (x : Option Object) → object_at m.objects o ≡ x → IsGoodNamed m.meta (option_map_or (λ object. Root object.class) x Around)
    on None e = around_good m.meta
    on (Some object) e = root_good m.meta valid.metamodel texts object.class (valid.model.shaped o.0 object e).class_within

-- ## Declarations

-- two that are declared differ in prefix
abbrev pub PrefixesDiffer : Prefix → Prefix → Type 0
PrefixesDiffer c d = c.prefix ≢ d.prefix

-- a prefix that no package has is none that a package's declaration has
all_prefixes : (prefix : List ℕ) (packages : List Package) → All (λ n. prefix ≢ n) (map (λ p. p.prefix) packages) → All (λ d. prefix ≢ d.prefix) (map package_prefix packages)
all_prefixes prefix [] h = All-nil (λ d. prefix ≢ d.prefix)
all_prefixes prefix (p ∷ packages) h =
    All-cons (λ d. prefix ≢ d.prefix) (package_prefix p) (map package_prefix packages) (All-head (λ n. prefix ≢ n) p.prefix (map (λ p. p.prefix) packages) h)
    (all_prefixes prefix packages (All-tail (λ n. prefix ≢ n) p.prefix (map (λ p. p.prefix) packages) h))

-- packages that differ in prefix do so in their declarations
packages_differ : (packages : List Package) → AllDiffer (map (λ p. p.prefix) packages) → AllPairs PrefixesDiffer (map package_prefix packages)
packages_differ [] h = λ i j d lt low. absurd (omega (arith, low))
packages_differ (p ∷ packages) h =
    AllPairs-cons PrefixesDiffer (package_prefix p) (map package_prefix packages)
    (all_prefixes p.prefix packages (pairs_first (λ x y. x ≢ y) p.prefix (map (λ p. p.prefix) packages) h))
    (packages_differ packages (pairs_rest (λ x y. x ≢ y) p.prefix (map (λ p. p.prefix) packages) h))

module _ (meta : Parts) (valid : IsMetamodel meta) (texts : AreTexts meta) where
  -- those of a file: XMI's, that of XML Schema's instances, and those of packages
  abbrev xmi_prefix : Prefix
  xmi_prefix = record { prefix = codes "xmi"; uri = xmi_space }

  abbrev xsi_prefix : Prefix
  xsi_prefix = record { prefix = codes "xsi"; uri = xsi_space }

  abbrev of_packages : List Prefix
  of_packages = map package_prefix meta.packages

  -- their prefixes are plain names
  pub prefixes_are_plain : All (λ d. IsPlainName d.prefix) (declared meta)
  prefixes_are_plain =
      All-cons (λ d. IsPlainName d.prefix) xmi_prefix (xsi_prefix ∷ of_packages) xmi_is_plain (
      All-cons (λ d. IsPlainName d.prefix) xsi_prefix of_packages xsi_is_plain (
      All-map (λ d. IsPlainName d.prefix) package_prefix meta.packages (λ k d low.
      name_is_plain (slice_index_or meta.packages k d).prefix (valid.names.packages k d low).1.name (texts.packages k d low).0)))

  -- their namespaces are texts
  pub uris_are_texts : All (λ d. IsXmlText d.uri) (declared meta)
  uris_are_texts =
      All-cons (λ d. IsXmlText d.uri) xmi_prefix (xsi_prefix ∷ of_packages) (IsXmlText-ascii xmi_space refl) (
      All-cons (λ d. IsXmlText d.uri) xsi_prefix of_packages (IsXmlText-ascii xsi_space refl) (
      All-map (λ d. IsXmlText d.uri) package_prefix meta.packages (λ k d low. (texts.packages k d low).1)))

  -- no package has XMI's prefix
  xmi_apart : All (PrefixesDiffer xmi_prefix) of_packages
  xmi_apart = All-map (PrefixesDiffer xmi_prefix) package_prefix meta.packages (λ k d low e. (valid.names.packages k d low).1.not_xmi (sym e))

  -- nor that of XML Schema's instances
  xsi_apart : All (PrefixesDiffer xsi_prefix) of_packages
  xsi_apart = All-map (PrefixesDiffer xsi_prefix) package_prefix meta.packages (λ k d low e. (valid.names.packages k d low).1.not_xsi (sym e))

  -- so all differ in prefix
  pub prefixes_differ : AllPairs PrefixesDiffer (declared meta)
  prefixes_differ =
      AllPairs-cons PrefixesDiffer xmi_prefix (xsi_prefix ∷ of_packages)
      (All-cons (PrefixesDiffer xmi_prefix) xsi_prefix of_packages (λ e. false≢true (ap (λ l. bytes_eq l (codes "xsi")) e)) xmi_apart)
      (AllPairs-cons PrefixesDiffer xsi_prefix of_packages xsi_apart (packages_differ meta.packages valid.prefixes_differ))
