-- What is named in a file without faults has a name of the form, and packages have prefixes and namespaces that may be chosen.
use Rattle.std.proofs.Common.{◌≡◌, ◌≢◌, ℕ, suc, List, [], ◌∷◌, ◌++◌, refl, sym, ap, ◌∙◌}
use Rattle.std.specs.Prelude.{Bool, true, false, not, ◌&&◌, ◌||◌, ◌==◌, bytes_eq, codes, Option, Some, None, All, if◌then◌else◌}
use Rattle.std.specs.List.{list_any}
use Rattle.std.proofs.lemmas.Bool.{or_parts, and_parts, not-true, not-false}
use Rattle.std.proofs.lemmas.List.Elements.{All-nil, All-cons, All-map}
use Rattle.std.proofs.lemmas.Slice.Eq.{bytes_eq-Decides}
use Rattle.ecore_meta.specs.Names.{is_plain_name, IsName, IsPrefix, IsUri, HasNoDot}
use Rattle.ecore_meta.specs.Valid.{AreNames}
use Rattle.xmi_text.specs.Markup.{given, has_text, is_bad_flag}
use Rattle.ecore_outline.specs.declared.outline.Role.TheVariants.{Package, Class, Enum, Literal, Attribute, Reference}
use Rattle.ecore_outline.specs.Outline.{Entry, entry, is_package_role, is_class_role, is_enum_role, is_feature_role, name_of}
use Rattle.ecore_outline.specs.Enumerations.{is_literal_role, literals_from}
use Rattle.xmi_read.specs.Parts.{literal_of}
use Rattle.ecore_outline.specs.Forms.{is_name, is_bad_name, has_point, is_prefix, is_bad_prefix, is_kept_uri, or_name, uri_of, prefix_of}
use Rattle.ecore_faults.specs.Faults.{first_fault, is_misnamed, is_stray, is_empty_type, flags_of}
use Rattle.ecore_faults.proofs.Roles.{packages, classes, enums, literals, features}
use Rattle.ecore_faults.proofs.Sound.{Fine, fine}
use Rattle.ecore_outline.proofs.Splits.{all_rows}
use Rattle.xmi_read.proofs.Tables.{tables, package_made, class_made, feature_made, enum_made}
use Rattle.xmi_text.proofs.Tests.{true-false}

pub differ : (xs ys : List ℕ) → bytes_eq xs ys ≡ false → xs ≢ ys
differ xs ys h e = true-false (sym ((bytes_eq-Decides xs ys).1 e) ∙ h)

name_is : (name : List ℕ) → is_name name ≡ true → IsName name
name_is name h =
    let p = and_parts (is_plain_name name) (not (bytes_eq name (codes "xmlns"))) h in
    record { plain = p.0; no_declaration = differ name (codes "xmlns") (not-true (bytes_eq name (codes "xmlns")) p.1) }

pub good_name : (name : List ℕ) → bytes_eq name [] ≡ false → is_bad_name name ≡ false → IsName name
good_name [] h k = absurd (true-false h)
good_name (c ∷ cs) h k = name_is (c ∷ cs) (not-false (is_name (c ∷ cs)) k)

prefix_is : (prefix : List ℕ) → is_prefix prefix ≡ true → IsPrefix prefix
prefix_is prefix h =
    let p = and_parts (is_name prefix) (not (bytes_eq prefix (codes "xml") || bytes_eq prefix (codes "xmi") || bytes_eq prefix (codes "xsi"))) h in
    let q = or_parts (bytes_eq prefix (codes "xml") || bytes_eq prefix (codes "xmi")) (bytes_eq prefix (codes "xsi")) (not-true _ p.1) in
    let r = or_parts (bytes_eq prefix (codes "xml")) (bytes_eq prefix (codes "xmi")) q.0 in
    record { name = name_is prefix p.0; not_xml = differ prefix (codes "xml") r.0; not_xmi = differ prefix (codes "xmi") r.1; not_xsi = differ prefix (codes "xsi") q.1 }

good_prefix : (prefix : List ℕ) → bytes_eq prefix [] ≡ false → is_bad_prefix prefix ≡ false → IsPrefix prefix
good_prefix [] h k = absurd (true-false h)
good_prefix (c ∷ cs) h k = prefix_is (c ∷ cs) (not-false (is_prefix (c ∷ cs)) k)

good_uri : (uri : List ℕ) → bytes_eq uri [] ≡ false → is_kept_uri uri ≡ false → IsUri uri
good_uri uri h k =
    let p = or_parts (bytes_eq uri (codes "http://www.omg.org/XMI")) (bytes_eq uri (codes "http://www.w3.org/2001/XMLSchema-instance")) k in
    record { some = differ uri [] h; not_xmi = differ uri (codes "http://www.omg.org/XMI") p.0; not_xsi = differ uri (codes "http://www.w3.org/2001/XMLSchema-instance") p.1 }

some_text : (name : List ℕ) (text : Option (List ℕ)) → bytes_eq name [] ≡ false → bytes_eq (or_name name text) [] ≡ false
some_text name (Some (c ∷ cs)) h = refl
some_text name (Some []) h = h
some_text name None h = h

module _ (file before : List Entry) (behind : List Entry) where
  -- an element is named as its role wants it
  well_named : (e : Entry) → Fine file before e behind → is_misnamed e ≡ false
  well_named e f = (or_parts (is_stray e.role behind || is_empty_type e || has_text e.site.element || list_any (is_bad_flag e.site.element) (flags_of e.role)) (is_misnamed e) f.ecore).1

  package_names : (e : Entry) → is_package_role e.role ≡ true → Fine file before e behind → IsName (name_of e) × IsPrefix (prefix_of e) × IsUri (uri_of e)
  package_names = packages (λ e. Fine file before e behind → IsName (name_of e) × IsPrefix (prefix_of e) × IsUri (uri_of e))
      (λ s f.
      let e : Entry = entry Package s in
      let m = or_parts (is_bad_name (name_of e) || is_bad_prefix (prefix_of e)) (is_kept_uri (uri_of e)) (well_named e f) in
      let n = or_parts (is_bad_name (name_of e)) (is_bad_prefix (prefix_of e)) m.0 in
      let some : bytes_eq (name_of e) [] ≡ false = f.named in (
        good_name (name_of e) some n.0,
        good_prefix (prefix_of e) (some_text (name_of e) (given (codes "nsPrefix") s.element) some) n.1,
        good_uri (uri_of e) (some_text (name_of e) (given (codes "nsURI") s.element) some) m.1,
      ))

  class_names : (e : Entry) → is_class_role e.role ≡ true → Fine file before e behind → IsName (name_of e)
  class_names = classes (λ e. Fine file before e behind → IsName (name_of e)) (λ s f. good_name (name_of (entry Class s)) f.named (well_named (entry Class s) f))

  enum_names : (e : Entry) → is_enum_role e.role ≡ true → Fine file before e behind → IsName (name_of e)
  enum_names = enums (λ e. Fine file before e behind → IsName (name_of e)) (λ s f. good_name (name_of (entry Enum s)) f.named (well_named (entry Enum s) f))

  literal_names : (e : Entry) → is_literal_role e.role ≡ true → Fine file before e behind → IsName (name_of e)
  literal_names = literals (λ e. Fine file before e behind → IsName (name_of e)) (λ s f. good_name (name_of (entry Literal s)) f.named (well_named (entry Literal s) f))

  pub feature_names : (e : Entry) → is_feature_role e.role ≡ true → Fine file before e behind → IsName (name_of e) × HasNoDot (name_of e)
  feature_names = features (λ e. Fine file before e behind → IsName (name_of e) × HasNoDot (name_of e))
      (λ s f.
      let m = or_parts (is_bad_name (name_of (entry Attribute s))) (has_point (name_of (entry Attribute s))) (well_named (entry Attribute s) f) in
      (good_name (name_of (entry Attribute s)) f.named m.0, m.1))
      (λ s f.
      let m = or_parts (is_bad_name (name_of (entry Reference s))) (has_point (name_of (entry Reference s))) (well_named (entry Reference s) f) in
      (good_name (name_of (entry Reference s)) f.named m.0, m.1))

-- ## Literals

-- what holds of each literal of a file holds of those of each enumeration
pub all_literals : (P : Entry → Type 0) (enum n : ℕ) (rest : List Entry) → ((b : List Entry) (e : Entry) (h : List Entry) → rest ≡ b ++ (e ∷ h) → is_literal_role e.role ≡ true → P e) → All P (literals_from enum n rest)
all_literals P enum n [] f = All-nil P
all_literals P enum n (e ∷ es) f = by (is_enum_role e.role) (is_literal_role e.role) (n == suc enum) (f [] e es refl) (all_literals P enum n es later) (all_literals P enum (suc n) es later)
  where
    later : (b : List Entry) (d : Entry) (h : List Entry) → es ≡ b ++ (d ∷ h) → is_literal_role d.role ≡ true → P d
    later b d h s = f (e ∷ b) d h (ap (λ l. e ∷ l) s)

    by : (t u v : Bool) → (u ≡ true → P e) → All P (literals_from enum n es) → All P (literals_from enum (suc n) es)
        → All P (if t then literals_from enum (suc n) es else (if u && v then e ∷ literals_from enum n es else literals_from enum n es))
    by true u v g h k = k
    by false true true g h k = All-cons P e (literals_from enum n es) (g refl) h
    by false true false g h k = h
    by false false v g h k = h

module _ (file : List Entry) (none : first_fault file ≡ None) where
  pub names : AreNames (tables file)
  names = record {
    packages = all_rows is_package_role (package_made file) file (λ p. IsName p.name × IsPrefix p.prefix × IsUri p.uri) (λ b e h s r. package_names file b h e r (fine file none b e h s));
    classes = all_rows is_class_role (class_made file) file (λ c. IsName c.name) (λ b e h s r. class_names file b h e r (fine file none b e h s));
    features = all_rows is_feature_role (feature_made file) file (λ f. IsName f.name × HasNoDot f.name) (λ b e h s r. feature_names file b h e r (fine file none b e h s));
    enums = all_rows is_enum_role (enum_made file) file (λ e. IsName e.name × All (λ l. IsName l.name) e.literals)
        (λ b e h s r. (
          enum_names file b h e r (fine file none b e h s),
          All-map (λ l. IsName l.name) (literal_of file) _ (all_literals (λ l. IsName (name_of l)) _ 0 file (λ b e h s r. literal_names file b h e r (fine file none b e h s))),
        ));
  }
