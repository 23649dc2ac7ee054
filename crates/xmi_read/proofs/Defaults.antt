-- The kinds of the features of a file without faults: their numbers are places in the lists, and defaults are texts of them.
use Rattle.std.proofs.Common.{◌≡◌, ℕ, ◌<◌, List, [], length, refl, sym, ap, subst, arith}
use Rattle.std.specs.Prelude.{Bool, true, false, not, ◌&&◌, bytes_eq, codes, Option, Some, None, option_map, IfSome, All, find, if◌then◌else◌}
use Rattle.std.specs.Option.{option_map_or}
use Rattle.std.proofs.lemmas.Bool.{and_parts, not-false}
use Rattle.std.proofs.lemmas.Option.{none-some, same_Some}
use Rattle.std.proofs.lemmas.Slice.Eq.{bytes_eq-Decides}
use Rattle.doc_text.specs.declared.tree.Attribute.{Attribute}
use Rattle.doc_text.specs.declared.tree.Element.{Element}
use Rattle.ecore_meta.specs.Valid.{IsTextOf, IsKindWithin, is_reference}
use Rattle.xmi_text.specs.Markup.{Site, is_called, given}
use Rattle.ecore_outline.specs.declared.outline.Role.TheVariants.{Attribute as AttributeRole, Reference as ReferenceRole}
use Rattle.ecore_outline.specs.Outline.{Entry, entry, is_feature_role, count}
use Rattle.ecore_names.specs.References.{Own, Kept, Skips, feature_named}
use Rattle.ecore_names.specs.Types.{DataType}
use Rattle.ecore_rows.specs.Rows.{Typed, ByData, ByClass, Foreign, Untyped, typed}
use Rattle.xmi_read.specs.Parts.{kept, opposite_of, kind_of, default_of}
use Rattle.xmi_text.specs.Numbers.{is_upper}
use Rattle.ecore_faults.specs.declared.fault.Kind.TheVariants.{BadNumber}
use Rattle.ecore_faults.specs.Faults.{Fault, first_fault, is_text_of, is_bad_default, is_bad_number, number_fault}
use Rattle.xmi_read.proofs.DataTypes.{AttributeFits, ReferenceFits, attribute_fits, reference_fits, text_is}
use Rattle.xmi_text.proofs.Lists.{found_passes, found_fails}
use Rattle.ecore_faults.proofs.Roles.{features}
use Rattle.ecore_faults.proofs.Sound.{Fine, fine, some-none}
use Rattle.ecore_outline.proofs.Splits.{all_rows, length-rows, count-here}
use Rattle.ecore_rows.proofs.RowLists.{feature_row}
use Rattle.xmi_read.proofs.Tables.{tables, feature_made}
use Rattle.ecore_names.proofs.Targets.{feature_named_at}
use Rattle.xmi_text.proofs.Tests.{true-false, false-true}

module _ (file : List Entry) where
  -- ## Opposites are features
  kept_within : (text : List ℕ) (o : Option Own) → feature_named file text ≡ o → IfSome (kept file o) (λ g. g.0 < length (tables file).features)
  kept_within text (Some (Kept g d)) h =
      let w = feature_named_at file text g d h in
      let number : count is_feature_role w.before ≡ g = omega (arith, w.number) in
      subst (λ n. g < n) (sym (length-rows is_feature_role (feature_made file) [] file))
      (omega (arith, number, ap (count is_feature_role) w.whole, count-here is_feature_role w.before d w.behind w.role))
  kept_within text (Some Skips) h = tt
  kept_within text None h = tt

  opposite_within : (e : Entry) → IfSome (opposite_of file e) (λ g. g.0 < length (tables file).features)
  opposite_within e = by (given (codes "eOpposite") e.site.element)
    where
      by : (o : Option (List ℕ)) → IfSome (option_map_or (λ text. kept file (feature_named file text)) o None) (λ g. g.0 < length (tables file).features)
      by (Some text) = kept_within text (feature_named file text) refl
      by None = tt

  -- ## Kinds
  attribute_kind : (b h : List Entry) (s : Site) (t : Typed) → AttributeFits file t → IsKindWithin (tables file) (kind_of file (feature_row file b (entry AttributeRole s) h) t)
  attribute_kind b h s (ByData t) f = f.within
  attribute_kind b h s (ByClass c) f = absurd f
  attribute_kind b h s (Foreign w) f = tt
  attribute_kind b h s (Untyped w) f = tt

  reference_kind : (b h : List Entry) (s : Site) (t : Typed) → ReferenceFits file t → IsKindWithin (tables file) (kind_of file (feature_row file b (entry ReferenceRole s) h) t)
  reference_kind b h s (ByData t) f = absurd f
  reference_kind b h s (ByClass c) f = (f, opposite_within (entry ReferenceRole s))
  reference_kind b h s (Foreign w) f = tt
  reference_kind b h s (Untyped w) f = tt

  kind_at : (b h : List Entry) (e : Entry) → is_feature_role e.role ≡ true → IsKindWithin (tables file) (feature_made file b e h).kind
  kind_at b h = features (λ e. IsKindWithin (tables file) (feature_made file b e h).kind)
      (λ s. attribute_kind b h s (typed file (entry AttributeRole s) h) (attribute_fits file s h))
      (λ s. reference_kind b h s (typed file (entry ReferenceRole s) h) (reference_fits file s h))

  pub kinds : All (λ f. IsKindWithin (tables file) f.kind) (tables file).features
  kinds = all_rows is_feature_role (feature_made file) file (λ f. IsKindWithin (tables file) f.kind) (λ b e h s r. kind_at b h e r)

  -- ## Defaults

  -- the attribute that is read under a name
  attribute_given : (name : List ℕ) (e : Element) (text : List ℕ) → given name e ≡ Some text → (a : Attribute) × (find (is_called [] name) e.attributes ≡ Some a) × (a.value ≡ text)
  attribute_given name e text h = by (find (is_called [] name) e.attributes) refl h
    where
      by : (o : Option Attribute) → find (is_called [] name) e.attributes ≡ o → option_map (λ a. a.value) o ≡ Some text → (a : Attribute) × (find (is_called [] name) e.attributes ≡ Some a) × (a.value ≡ text)
      by (Some a) e h = (a, e, same_Some a.value text h)
      by None e h = absurd (none-some text h)

  no_attribute : (t : Typed) (e : Element) → number_fault file AttributeRole t e ≡ None → find (is_bad_number file AttributeRole t) e.attributes ≡ None
  no_attribute t e h = by (find (is_bad_number file AttributeRole t) e.attributes) h
    where
      by : (o : Option Attribute) → option_map {U = Fault} (λ a. (BadNumber, a.value)) o ≡ None → o ≡ None
      by (Some a) h = absurd (some-none h)
      by None h = refl

  judged : (s u d n b : Bool) → s ≡ true → u ≡ false → d ≡ true → (if s && u then n else s && d && true && b) ≡ false → b ≡ false
  judged true false true n b p q r h = h
  judged true true d n b p q r h = absurd (true-false q)
  judged false u d n b p q r h = absurd (false-true p)
  judged true false false n b p q r h = absurd (false-true r)

  good_default : (t : DataType) (e : Element) (text : List ℕ) → given (codes "defaultValueLiteral") e ≡ Some text → number_fault file AttributeRole (ByData t) e ≡ None → is_text_of file t.kind text ≡ true
  good_default t e text h k =
      let r = attribute_given (codes "defaultValueLiteral") e text h in
      let called = and_parts (bytes_eq r.0.space []) (bytes_eq r.0.name (codes "defaultValueLiteral")) (found_passes (is_called [] (codes "defaultValueLiteral")) e.attributes r.0 r.1) in
      let fails : is_bad_number file AttributeRole (ByData t) r.0 ≡ false = found_fails (is_called [] (codes "defaultValueLiteral")) (is_bad_number file AttributeRole (ByData t)) e.attributes r.0 r.1 (no_attribute (ByData t) e k) in
      let name : r.0.name ≡ codes "defaultValueLiteral" = (bytes_eq-Decides r.0.name (codes "defaultValueLiteral")).0 called.1 in
      let other : bytes_eq r.0.name (codes "upperBound") ≡ false = ap (λ n. bytes_eq n (codes "upperBound")) name in
      let fits : is_bad_default file (ByData t) r.0.value ≡ false =
      judged (bytes_eq r.0.space []) (bytes_eq r.0.name (codes "upperBound")) (bytes_eq r.0.name (codes "defaultValueLiteral")) (true && not (is_upper r.0.value)) (is_bad_default file (ByData t) r.0.value)
      called.0 other called.1 fails in
      not-false (is_text_of file t.kind text) (subst (λ v. not (is_text_of file t.kind v) ≡ false) r.2 fits)

  attribute_default : (b h : List Entry) (s : Site) (t : Typed) → AttributeFits file t → number_fault file AttributeRole t s.element ≡ None
      → IfSome (default_of file (feature_row file b (entry AttributeRole s) h) t) (IsTextOf (tables file) (kind_of file (feature_row file b (entry AttributeRole s) h) t))
  attribute_default b h s (ByData t) f k = by (given (codes "defaultValueLiteral") s.element) refl
    where
      by : (o : Option (List ℕ)) → given (codes "defaultValueLiteral") s.element ≡ o → IfSome (option_map_or (λ (x : List ℕ). Some x) o t.default) (IsTextOf (tables file) t.kind)
      by (Some text) e = text_is file t.kind text f.data_type f.within (good_default t s.element text e k)
      by None e = f.default
  attribute_default b h s (ByClass c) f k = absurd f
  attribute_default b h s (Foreign w) f k = tt
  attribute_default b h s (Untyped w) f k = tt

  reference_default : (b h : List Entry) (s : Site) (t : Typed) → ReferenceFits file t
      → IfSome (default_of file (feature_row file b (entry ReferenceRole s) h) t) (IsTextOf (tables file) (kind_of file (feature_row file b (entry ReferenceRole s) h) t))
  reference_default b h s (ByData t) f = absurd f
  reference_default b h s (ByClass c) f = tt
  reference_default b h s (Foreign w) f = tt
  reference_default b h s (Untyped w) f = tt

  default_at : (b h : List Entry) (e : Entry) → is_feature_role e.role ≡ true → Fine file b e h → IfSome (feature_made file b e h).default (IsTextOf (tables file) (feature_made file b e h).kind)
  default_at b h = features (λ e. Fine file b e h → IfSome (feature_made file b e h).default (IsTextOf (tables file) (feature_made file b e h).kind))
      (λ s f. attribute_default b h s (typed file (entry AttributeRole s) h) (attribute_fits file s h) f.number)
      (λ s f. reference_default b h s (typed file (entry ReferenceRole s) h) (reference_fits file s h))

  pub defaults : first_fault file ≡ None → All (λ f. is_reference f.kind ≡ false → IfSome f.default (IsTextOf (tables file) f.kind)) (tables file).features
  defaults none = all_rows is_feature_role (feature_made file) file (λ f. is_reference f.kind ≡ false → IfSome f.default (IsTextOf (tables file) f.kind)) (λ b e h s r d. default_at b h e r (fine file none b e h s))
