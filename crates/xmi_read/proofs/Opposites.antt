-- Opposites in a file without faults name each other, fit each other's classes, and do not both contain.
use Rattle.std.proofs.Common.{◌≡◌, ℕ, List, [], ◌∷◌, ◌++◌, refl, sym, ap, ◌∙◌, subst, arith}
use Rattle.std.specs.Prelude.{true, false, not, ◌&&◌, ◌==◌, codes, Option, Some, None, slice_get}
use Rattle.std.specs.Option.{option_map_or}
use Rattle.std.proofs.lemmas.Bool.{and_parts, eqb-true, not-true, not-false}
use Rattle.std.proofs.lemmas.Option.{none-some, same_Some}
use Rattle.atl_base.specs.declared.numbers.FeatId.{FeatId}
use Rattle.ecore_meta.specs.declared.parts.Feature.{Feature}
use Rattle.ecore_meta.specs.declared.parts.FeatKind.{FeatKind}
use Rattle.ecore_meta.specs.declared.parts.FeatKind.TheVariants.{Str, Int, Truth, Enum, Opaque, Refer}
use Rattle.ecore_meta.specs.Valid.{is_reference, opposite_of, AreOpposite}
use Rattle.xmi_text.specs.Markup.{Site, given}
use Rattle.ecore_outline.specs.declared.outline.Role.TheVariants.{Attribute, Reference}
use Rattle.ecore_outline.specs.Outline.{Entry, entry, is_feature_role, count, name_of}
use Rattle.ecore_names.specs.References.{Own, Kept, Skips, feature_named}
use Rattle.ecore_rows.specs.Rows.{FeatureRow, Typed, ByData, ByClass, Foreign, Untyped, typed, feature_rows}
use Rattle.xmi_read.specs.Parts.{class_no, feature_no, kept, kind_of, feature_of, opposite_of as opposite_in}
use Rattle.ecore_faults.specs.declared.fault.Kind.TheVariants.{BadOpposite}
use Rattle.ecore_faults.specs.Faults.{first_fault, when, typed_fault, is_reference_role, is_contained, is_this, fit_both, fit, is_opposite, is_bad_end, is_bad_opposite}
use Rattle.xmi_read.proofs.DataTypes.{AttributeFits, ReferenceFits, attribute_fits, reference_fits}
use Rattle.ecore_faults.proofs.Roles.{features, references}
use Rattle.ecore_faults.proofs.Sound.{fine, not_when, some-none}
use Rattle.ecore_outline.proofs.Splits.{rows, row_at, row_here}
use Rattle.ecore_rows.proofs.RowLists.{feature_row, the_features}
use Rattle.xmi_read.proofs.Tables.{tables, feature_made}
use Rattle.ecore_names.proofs.Targets.{KeptAt, feature_named_at}
use Rattle.ecore_faults.proofs.TypesKnown.{type_known}
use Rattle.xmi_text.proofs.Tests.{true-false, false-true}

no_opposite : (k : FeatKind) → is_reference k ≡ false → opposite_of k ≡ None
no_opposite (Refer class contains opposite) h = absurd (true-false h)
no_opposite Str h = refl
no_opposite Int h = refl
no_opposite Truth h = refl
no_opposite (Enum e) h = refl
no_opposite Opaque h = refl

module _ (file : List Entry) (none : first_fault file ≡ None) where
  -- the other end, as it is judged
  pub record Other (f : ℕ) (row : FeatureRow) (e : Entry) (g : FeatId) : Type 0 where
    pub number : ℕ
    pub found : Entry
    pub same : feature_no number ≡ g
    pub at : KeptAt 0 file number found
    pub good : is_opposite file f row number found ≡ true

  row_of : (b : List Entry) (e : Entry) (h : List Entry) → file ≡ b ++ (e ∷ h) → is_feature_role e.role ≡ true → slice_get (feature_rows file) (count is_feature_role b) ≡ Some (feature_row file b e h)
  row_of b e h s r =
      ap (λ rows. slice_get rows (count is_feature_role b)) (the_features file)
      ∙ ap (λ l. slice_get (rows is_feature_role (feature_row file) [] l) (count is_feature_role b)) s
      ∙ row_here is_feature_role (feature_row file) [] b e h r

  not_bad : (b : List Entry) (s : Site) (h : List Entry) → file ≡ b ++ (entry Reference s ∷ h) → is_bad_opposite file (count is_feature_role b) (feature_row file b (entry Reference s) h) ≡ false
  not_bad b s h w =
      by (slice_get (feature_rows file) (count is_feature_role b)) (row_of b (entry Reference s) h w refl) (fine file none b (entry Reference s) h w).opposite
    where
      by : (o : Option FeatureRow) → o ≡ Some (feature_row file b (entry Reference s) h)
          → option_map_or (λ row. when (is_bad_opposite file (count is_feature_role b) row) BadOpposite (name_of (entry Reference s))) o None ≡ None
          → is_bad_opposite file (count is_feature_role b) (feature_row file b (entry Reference s) h) ≡ false
      by (Some row) e k = subst (λ r. is_bad_opposite file (count is_feature_role b) r ≡ false) (same_Some row (feature_row file b (entry Reference s) h) e) (not_when (is_bad_opposite file (count is_feature_role b) row) BadOpposite (name_of (entry Reference s)) k)
      by None e k = absurd (none-some (feature_row file b (entry Reference s) h) e)

  -- what a reference names as its opposite
  other_end : (b : List Entry) (s : Site) (h : List Entry) (g : FeatId) → file ≡ b ++ (entry Reference s ∷ h) → opposite_in file (entry Reference s) ≡ Some g → Other (count is_feature_role b) (feature_row file b (entry Reference s) h) (entry Reference s) g
  other_end b s h g w k = by (given (codes "eOpposite") s.element) k (not_bad b s h w)
    where
      on : (text : List ℕ) (o : Option Own) → feature_named file text ≡ o → kept file o ≡ Some g → is_bad_end file (count is_feature_role b) (feature_row file b (entry Reference s) h) o ≡ false → Other (count is_feature_role b) (feature_row file b (entry Reference s) h) (entry Reference s) g
      on text (Some (Kept n d)) e k f = record {
        number = n;
        found = d;
        same = same_Some (feature_no n) g k;
        at = feature_named_at file text n d e;
        good = not-false (is_opposite file (count is_feature_role b) (feature_row file b (entry Reference s) h) n d) f;
      }
      on text (Some Skips) e k f = absurd (none-some g k)
      on text None e k f = absurd (none-some g k)

      by : (o : Option (List ℕ)) → option_map_or (λ text. kept file (feature_named file text)) o None ≡ Some g → option_map_or (λ text. is_bad_end file (count is_feature_role b) (feature_row file b (entry Reference s) h) (feature_named file text)) o false ≡ false
          → Other (count is_feature_role b) (feature_row file b (entry Reference s) h) (entry Reference s) g
      by (Some text) k f = on text (feature_named file text) refl k f
      by None k f = absurd (none-some g k)

  -- a reference whose other end names it back
  names_back : (f : ℕ) (d : Entry) → option_map_or (λ text. is_this file f (feature_named file text)) (given (codes "eOpposite") d.site.element) false ≡ true → opposite_in file d ≡ Some (feature_no f)
  names_back f d h = by (given (codes "eOpposite") d.site.element) h
    where
      on : (o : Option Own) → is_this file f o ≡ true → kept file o ≡ Some (feature_no f)
      on (Some (Kept g e)) h = ap (λ n. Some (feature_no n)) (eqb-true g f h)
      on (Some Skips) h = absurd (false-true h)
      on None h = absurd (false-true h)

      by : (o : Option (List ℕ)) → option_map_or (λ text. is_this file f (feature_named file text)) o false ≡ true → option_map_or (λ text. kept file (feature_named file text)) o None ≡ Some (feature_no f)
      by (Some text) h = on (feature_named file text) h
      by None h = absurd (false-true h)

  -- two ends with their classes
  ends_fit : (b : List Entry) (s : Site) (h : List Entry) (c : List Entry) (d : Site) (k : List Entry) (t u : Typed) → ReferenceFits file t → ReferenceFits file u → typed_fault file u ≡ None
      → (g : FeatId) → opposite_of (kind_of file (feature_row file b (entry Reference s) h) t) ≡ Some g → opposite_in file (entry Reference d) ≡ Some (feature_no (count is_feature_role b))
      → fit_both file t (feature_row file b (entry Reference s) h).owner u (feature_row file c (entry Reference d) k).owner ≡ true
      → (is_contained file (entry Reference s) && is_contained file (entry Reference d)) ≡ false
      → (f : FeatId) → count is_feature_role b ≡ f.0
      → AreOpposite f (feature_of file (record { entry = entry Reference s; owner = (feature_row file b (entry Reference s) h).owner; type = t })) (feature_of file (record { entry = entry Reference d; owner = (feature_row file c (entry Reference d) k).owner; type = u }))
  ends_fit b s h c d k (ByData t) u p q r g n o m l f e = absurd p
  ends_fit b s h c d k (Foreign w) u p q r g n o m l f e = absurd (none-some g n)
  ends_fit b s h c d k (Untyped w) u p q r g n o m l f e = absurd (none-some g n)
  ends_fit b s h c d k (ByClass x) (ByData u) p q r g n o m l f e = absurd q
  ends_fit b s h c d k (ByClass x) (Foreign w) p q r g n o m l f e = absurd (some-none r)
  ends_fit b s h c d k (ByClass x) (Untyped w) p q r g n o m l f e = absurd (some-none r)
  ends_fit b s h c d k (ByClass x) (ByClass y) p q r g n o m l f e =
      let parts = and_parts (x == (feature_row file c (entry Reference d) k).owner) (y == (feature_row file b (entry Reference s) h).owner) m in
      record {
        returned = o ∙ ap (λ n. Some (feature_no n)) e;
        there = ap (λ n. Some (class_no n)) (eqb-true x (feature_row file c (entry Reference d) k).owner parts.0);
        back = ap (λ n. Some (class_no n)) (eqb-true y (feature_row file b (entry Reference s) h).owner parts.1);
        one_contains = l;
      }

  -- the same where they are found
  found_fit : (b : List Entry) (s : Site) (h : List Entry) (f g : FeatId) → file ≡ b ++ (entry Reference s ∷ h) → count is_feature_role b ≡ f.0
      → opposite_of (feature_made file b (entry Reference s) h).kind ≡ Some g → (n : ℕ) (d : Entry) → KeptAt 0 file n d → feature_no n ≡ g → is_opposite file (count is_feature_role b) (feature_row file b (entry Reference s) h) n d ≡ true
      → (other : Feature) → slice_get (tables file).features g.0 ≡ Some other → AreOpposite f (feature_made file b (entry Reference s) h) other
  found_fit b s h f g w e k n d at same good other there =
      let parts = and_parts (is_reference_role d.role && option_map_or (λ text. is_this file (count is_feature_role b) (feature_named file text)) (given (codes "eOpposite") d.site.element) false && fit file (feature_row file b (entry Reference s) h) (slice_get (feature_rows file) n))
      (not (is_contained file (entry Reference s) && is_contained file d)) good in
      let more = and_parts (is_reference_role d.role && option_map_or (λ text. is_this file (count is_feature_role b) (feature_named file text)) (given (codes "eOpposite") d.site.element) false) (fit file (feature_row file b (entry Reference s) h) (slice_get (feature_rows file) n)) parts.0 in
      let most = and_parts (is_reference_role d.role) (option_map_or (λ text. is_this file (count is_feature_role b) (feature_named file text)) (given (codes "eOpposite") d.site.element) false) more.0 in
      let number : count is_feature_role at.before ≡ n = omega (arith, at.number) in
      let row : slice_get (feature_rows file) n ≡ Some (feature_row file at.before d at.behind) = ap (slice_get (feature_rows file)) (sym number) ∙ row_of at.before d at.behind at.whole at.role in
      let fits : fit_both file (typed file (entry Reference s) h) (feature_row file b (entry Reference s) h).owner (typed file d at.behind) (feature_row file at.before d at.behind).owner ≡ true =
      sym (ap (fit file (feature_row file b (entry Reference s) h)) row) ∙ more.1 in
      let here : slice_get (tables file).features g.0 ≡ Some (feature_made file at.before d at.behind) =
      ap (slice_get (tables file).features) (sym (ap (λ (x : FeatId). x.0) same) ∙ sym number)
      ∙ ap (λ l. slice_get (rows is_feature_role (feature_made file) [] l) (count is_feature_role at.before)) at.whole
      ∙ row_here is_feature_role (feature_made file) [] at.before d at.behind at.role in
      let made : other ≡ feature_made file at.before d at.behind = same_Some other (feature_made file at.before d at.behind) (sym there ∙ here) in
      subst (AreOpposite f (feature_made file b (entry Reference s) h)) (sym made)
      (references (λ d. is_feature_role d.role ≡ true → file ≡ at.before ++ (d ∷ at.behind) → opposite_in file d ≡ Some (feature_no (count is_feature_role b))
      → fit_both file (typed file (entry Reference s) h) (feature_row file b (entry Reference s) h).owner (typed file d at.behind) (feature_row file at.before d at.behind).owner ≡ true
      → (is_contained file (entry Reference s) && is_contained file d) ≡ false → AreOpposite f (feature_made file b (entry Reference s) h) (feature_made file at.before d at.behind))
      (λ x r u o m l. ends_fit b s h at.before x at.behind (typed file (entry Reference s) h) (typed file (entry Reference x) at.behind) (reference_fits file s h) (reference_fits file x at.behind)
      (type_known file none at.before (entry Reference x) at.behind u r) g k o m l f e)
      d most.0 at.role at.whole (names_back (count is_feature_role b) d most.1) fits (not-true (is_contained file (entry Reference s) && is_contained file d) parts.1))

  attribute_none : (b : List Entry) (s : Site) (h : List Entry) (g : FeatId) (t : Typed) → AttributeFits file t → opposite_of (kind_of file (feature_row file b (entry Attribute s) h) t) ≡ Some g → ⊥
  attribute_none b s h g (ByData t) p k = none-some g (sym (no_opposite t.kind p.data_type) ∙ k)
  attribute_none b s h g (ByClass c) p k = p
  attribute_none b s h g (Foreign w) p k = none-some g k
  attribute_none b s h g (Untyped w) p k = none-some g k

  in_reference : (b : List Entry) (s : Site) (h : List Entry) (g : FeatId) (t : Typed) → ReferenceFits file t → opposite_of (kind_of file (feature_row file b (entry Reference s) h) t) ≡ Some g → opposite_in file (entry Reference s) ≡ Some g
  in_reference b s h g (ByData t) p k = absurd p
  in_reference b s h g (ByClass c) p k = k
  in_reference b s h g (Foreign w) p k = absurd (none-some g k)
  in_reference b s h g (Untyped w) p k = absurd (none-some g k)

  at_feature : (b : List Entry) (e : Entry) (h : List Entry) (f g : FeatId) (other : Feature) → is_feature_role e.role ≡ true → file ≡ b ++ (e ∷ h) → count is_feature_role b ≡ f.0
      → opposite_of (feature_made file b e h).kind ≡ Some g → slice_get (tables file).features g.0 ≡ Some other → AreOpposite f (feature_made file b e h) other
  at_feature b e h f g other = features (λ e. file ≡ b ++ (e ∷ h) → count is_feature_role b ≡ f.0
      → opposite_of (feature_made file b e h).kind ≡ Some g → slice_get (tables file).features g.0 ≡ Some other → AreOpposite f (feature_made file b e h) other)
      (λ s w n k there. absurd (attribute_none b s h g (typed file (entry Attribute s) h) (attribute_fits file s h) k))
      (λ s w n k there.
      let o = other_end b s h g w (in_reference b s h g (typed file (entry Reference s) h) (reference_fits file s h) k) in
      found_fit b s h f g w n k o.number o.found o.at o.same o.good other there)
      e

  pub opposites : (f g : FeatId) (feature other : Feature) → slice_get (tables file).features f.0 ≡ Some feature → opposite_of feature.kind ≡ Some g → slice_get (tables file).features g.0 ≡ Some other → AreOpposite f feature other
  opposites f g feature other h k l =
      let w = row_at is_feature_role (feature_made file) [] file f.0 feature h in
      subst (λ x. AreOpposite f x other) (sym w.made)
      (at_feature w.before w.here w.behind f g other w.role w.whole w.number (subst (λ (x : Feature). opposite_of x.kind ≡ Some g) w.made k) l)
