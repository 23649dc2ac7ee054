-- Each feature of an outline is among those of its owner, once, and among no others'.
use Rattle.std.proofs.Common.{◌≡◌, ◌≢◌, ◌↔◌, ℕ, zero, suc, ◌+◌, ◌-◌, ◌<◌, ◌≤◌, List, [], ◌∷◌, ◌++◌, length, get_or, map, refl, sym, ap, ◌∙◌, subst, ⊎_elim, arith}
use Rattle.std.specs.Prelude.{Bool, true, false, ◌==◌, Option, Some, None, option_map, slice_get, Contains, All, if◌then◌else◌}
use Rattle.std.specs.Option.{option_map_or}
use Rattle.std.proofs.lemmas.Bool.{eqb-true, eq-eqb, cases_lt, or_left, or_right}
use Rattle.std.proofs.lemmas.List.{length-map}
use Rattle.std.proofs.lemmas.List.Elements.{All-nil, All-cons, All-weaker}
use Rattle.std.proofs.lemmas.Option.{none-some, same_Some, slice_get_within, slice_get_past, slice_get_cases}
use Rattle.atl_base.specs.declared.numbers.ClassId.{ClassId}
use Rattle.atl_base.specs.declared.numbers.FeatId.{FeatId}
use Rattle.ecore_meta.specs.declared.parts.Class.{Class}
use Rattle.ecore_meta.specs.Inheritance.{own_of}
use Rattle.ecore_meta.specs.Valid.{AllDiffer, owner_of}
use Rattle.ecore_outline.specs.declared.outline.Role.{Role}
use Rattle.ecore_outline.specs.Outline.{Entry, is_package_role, is_class_role, is_feature_role, is_skipped_role, count}
use Rattle.ecore_rows.specs.Rows.{FeatureRow, feature_rows}
use Rattle.xmi_read.specs.Parts.{class_no, feature_no, feature_of, own_of as own_from}
use Rattle.ecore_outline.proofs.Behind.{Behind, is_member_role, some_before}
use Rattle.xmi_text.proofs.Lists.{get_of_map, pairs_cons}
use Rattle.ecore_outline.proofs.Splits.{row_at, all_rows, length-rows, count-append}
use Rattle.ecore_rows.proofs.RowLists.{feature_row, the_features, map-rows}
use Rattle.xmi_read.proofs.Tables.{tables, package_made, class_made, feature_made, skipped_made}

-- the number before the next one, where there is one
below : (of needs : Role → Bool) (file b : List Entry) (e : Entry) (h : List Entry) → Behind of needs false file → file ≡ b ++ (e ∷ h) → needs e.role ≡ true → count of b - 1 < count of file
below of needs file b e h o s r =
    let some : 0 < count of b = some_before of needs b e h (subst (Behind of needs false) s o) r in
    omega (arith, ap (count of) s, count-append of b (e ∷ h))

module _ (file : List Entry) where
  -- ## The features that a class declares
  found_in : (class n : ℕ) (list : List FeatureRow) (f : FeatId) → Contains (own_from file class n list) f → (k : ℕ) × (row : FeatureRow) × (slice_get list k ≡ Some row) × (row.owner ≡ class) × (f.0 ≡ n + k)
  found_in class n [] f m = absurd (omega (arith, m.1))
  found_in class n (row ∷ list) f m = by (row.owner == class) refl m (found_in class (suc n) list f)
    where
      on : (k : ℕ) × (row : FeatureRow) × (slice_get list k ≡ Some row) × (row.owner ≡ class) × (f.0 ≡ suc n + k) → (k : ℕ) × (r : FeatureRow) × (slice_get (row ∷ list) k ≡ Some r) × (r.owner ≡ class) × (f.0 ≡ n + k)
      on r = (suc r.0, r.1, r.2, r.3, omega (arith, r.4))

      first : (k : ℕ) → row.owner ≡ class → k < length (feature_no n ∷ own_from file class (suc n) list) → get_or (feature_no n ∷ own_from file class (suc n) list) k f ≡ f
          → (Contains (own_from file class (suc n) list) f → (k : ℕ) × (row : FeatureRow) × (slice_get list k ≡ Some row) × (row.owner ≡ class) × (f.0 ≡ suc n + k))
          → (k : ℕ) × (r : FeatureRow) × (slice_get (row ∷ list) k ≡ Some r) × (r.owner ≡ class) × (f.0 ≡ n + k)
      first zero e l q later =
          let number : n ≡ f.0 = ap (λ g. g.0) q in
          (0, row, refl, e, omega arith)
      first (suc k) e l q later = on (later (k, omega arith, q))

      by : (t : Bool) → (row.owner == class) ≡ t → Contains (if t then feature_no n ∷ own_from file class (suc n) list else own_from file class (suc n) list) f
          → (Contains (own_from file class (suc n) list) f → (k : ℕ) × (row : FeatureRow) × (slice_get list k ≡ Some row) × (row.owner ≡ class) × (f.0 ≡ suc n + k))
          → (k : ℕ) × (r : FeatureRow) × (slice_get (row ∷ list) k ≡ Some r) × (r.owner ≡ class) × (f.0 ≡ n + k)
      by true e m later = first m.0 (eqb-true row.owner class e) m.1 m.2 later
      by false e m later = on (later m)

  found_again : (class n : ℕ) (list : List FeatureRow) (k : ℕ) (row : FeatureRow) → slice_get list k ≡ Some row → row.owner ≡ class → Contains (own_from file class n list) (feature_no (n + k))
  found_again class n [] k row h e = absurd (none-some row h)
  found_again class n (r ∷ list) zero row h e =
      let same : (r.owner == class) ≡ true = eq-eqb r.owner class (ap (λ r. r.owner) (same_Some r row h) ∙ e) in
      let number : n ≡ n + 0 = omega arith in
      subst (λ t. Contains (if t then feature_no n ∷ own_from file class (suc n) list else own_from file class (suc n) list) (feature_no (n + 0))) (sym same) (0, omega arith, ap feature_no number)
  found_again class n (r ∷ list) (suc k) row h e =
      let number : suc n + k ≡ n + suc k = omega arith in
      by (r.owner == class) (subst (λ m. Contains (own_from file class (suc n) list) (feature_no m)) number (found_again class (suc n) list k row h e))
    where
      by : (t : Bool) → Contains (own_from file class (suc n) list) (feature_no (n + suc k)) → Contains (if t then feature_no n ∷ own_from file class (suc n) list else own_from file class (suc n) list) (feature_no (n + suc k))
      by true m = (suc m.0, omega (arith, m.1), m.2)
      by false m = m

  from_here : (class n : ℕ) (list : List FeatureRow) → All (λ f. n ≤ f.0) (own_from file class n list)
  from_here class n [] = All-nil (λ f. n ≤ f.0)
  from_here class n (row ∷ list) = by (row.owner == class) (All-weaker (λ f. suc n ≤ f.0) (λ f. n ≤ f.0) (λ f l. omega arith) (own_from file class (suc n) list) (from_here class (suc n) list))
    where
      by : (t : Bool) → All (λ f. n ≤ f.0) (own_from file class (suc n) list) → All (λ f. n ≤ f.0) (if t then feature_no n ∷ own_from file class (suc n) list else own_from file class (suc n) list)
      by true h = All-cons (λ f. n ≤ f.0) (feature_no n) (own_from file class (suc n) list) (omega arith) h
      by false h = h

  each_once : (class n : ℕ) (list : List FeatureRow) → AllDiffer (own_from file class n list)
  each_once class n [] = λ i j d l m same. omega (arith, m)
  each_once class n (row ∷ list) = by (row.owner == class) (each_once class (suc n) list)
    where
      apart : (k : ℕ) (d : FeatId) → k < length (own_from file class (suc n) list) → feature_no n ≢ get_or (own_from file class (suc n) list) k d
      apart k d l e = omega (arith, from_here class (suc n) list k d l, ap (λ (f : FeatId). f.0) e)

      by : (t : Bool) → AllDiffer (own_from file class (suc n) list) → AllDiffer (if t then feature_no n ∷ own_from file class (suc n) list else own_from file class (suc n) list)
      by true h = pairs_cons (λ x y. x ≢ y) (feature_no n) (own_from file class (suc n) list) apart h
      by false h = h

  -- ## Those of the tables
  abbrev own : ℕ → List FeatId
  own c = own_from file c 0 (feature_rows file)

  own_is : (c : ClassId) → c.0 < length (tables file).classes → own_of (tables file).classes c ≡ own c.0
  own_is c h = ⊎_elim
      (λ (r : (x : Class) × (c.0 < length (tables file).classes) × (slice_get (tables file).classes c.0 ≡ Some x) × (get_or (tables file).classes c.0 x ≡ x)).
      let w = row_at is_class_role (class_made file) [] file c.0 r.0 r.2 in
      ap (λ o. option_map_or (λ k. k.own) o []) r.2 ∙ ap (λ x. x.own) w.made ∙ ap own w.number)
      (λ (r : (length (tables file).classes ≤ c.0) × (slice_get (tables file).classes c.0 ≡ None)). absurd (omega (arith, r.0)))
      (slice_get_cases (tables file).classes c.0).1

  own_past : (c : ClassId) → length (tables file).classes ≤ c.0 → own_of (tables file).classes c ≡ []
  own_past c h = ap (λ o. option_map_or (λ k. k.own) o []) (slice_get_past (tables file).classes c.0 h)

  pub own_differ : (c : ClassId) → AllDiffer (own_of (tables file).classes c)
  own_differ c = ⊎_elim
      (λ (h : c.0 < length (tables file).classes). subst AllDiffer (sym (own_is c h)) (each_once c.0 0 (feature_rows file)))
      (λ (h : length (tables file).classes ≤ c.0). subst AllDiffer (sym (own_past c h)) (λ i j d l m same. omega (arith, m)))
      (cases_lt c.0 (length (tables file).classes))

  pub features_are : (tables file).features ≡ map (feature_of file) (feature_rows file)
  features_are = sym (map-rows is_feature_role (feature_row file) (feature_of file) [] file) ∙ ap (map (feature_of file)) (sym (the_features file))

  pub owner_is : (f : FeatId) → owner_of (tables file).features f ≡ option_map (λ row. class_no row.owner) (slice_get (feature_rows file) f.0)
  owner_is f =
      ap (λ fs. owner_of fs f) features_are ∙ ap (option_map (λ feature. feature.owner)) (get_of_map (feature_of file) (feature_rows file) f.0)
      ∙ by (slice_get (feature_rows file) f.0)
    where
      by : (o : Option FeatureRow) → option_map (λ feature. feature.owner) (option_map (feature_of file) o) ≡ option_map (λ row. class_no row.owner) o
      by (Some row) = refl
      by None = refl

  pub owner_row : (f : FeatId) (c : ClassId) (o : Option FeatureRow) → slice_get (feature_rows file) f.0 ≡ o → option_map (λ row. class_no row.owner) o ≡ Some c → (row : FeatureRow) × (slice_get (feature_rows file) f.0 ≡ Some row) × (class_no row.owner ≡ c)
  owner_row f c (Some row) e h = (row, e, same_Some (class_no row.owner) c h)
  owner_row f c None e h = absurd (none-some c h)

  module _ (ordered : Behind is_class_role is_member_role false file) where
    pub feature_owners : All (λ f. f.owner.0 < length (tables file).classes) (tables file).features
    feature_owners = all_rows is_feature_role (feature_made file) file (λ f. f.owner.0 < length (tables file).classes)
        (λ b e h s r. subst (λ n. count is_class_role b - 1 < n) (sym (length-rows is_class_role (class_made file) [] file))
        (below is_class_role is_member_role file b e h ordered s (or_left (is_feature_role e.role) (is_skipped_role e.role) r)))

    pub skipped_owners : All (λ s. s.owner.0 < length (tables file).classes) (tables file).skipped
    skipped_owners = all_rows is_skipped_role (skipped_made file) file (λ f. f.owner.0 < length (tables file).classes)
        (λ b e h s r. subst (λ n. count is_class_role b - 1 < n) (sym (length-rows is_class_role (class_made file) [] file))
        (below is_class_role is_member_role file b e h ordered s (or_right (is_feature_role e.role) (is_skipped_role e.role) r)))

    owner_within : (row : FeatureRow) (k : ℕ) → slice_get (feature_rows file) k ≡ Some row → row.owner < length (tables file).classes
    owner_within row k h =
        let w = row_at is_feature_role (feature_row file) [] file k row (ap (λ rows. slice_get rows k) (sym (the_features file)) ∙ h) in
        subst (λ r. r.owner < length (tables file).classes) (sym w.made)
        (subst (λ n. count is_class_role w.before - 1 < n) (sym (length-rows is_class_role (class_made file) [] file))
        (below is_class_role is_member_role file w.before w.here w.behind ordered w.whole (or_left (is_feature_role w.here.role) (is_skipped_role w.here.role) w.role)))

    pub owners : (c : ClassId) (f : FeatId) → Contains (own_of (tables file).classes c) f ↔ (owner_of (tables file).features f ≡ Some c)
    owners c f = (
      λ m. ⊎_elim
          (λ (h : c.0 < length (tables file).classes).
          let r = found_in c.0 0 (feature_rows file) f (subst (λ l. Contains l f) (own_is c h) m) in
          let number : r.0 ≡ f.0 = omega (arith, r.4) in
          owner_is f ∙ ap (λ k. option_map (λ row. class_no row.owner) (slice_get (feature_rows file) k)) (sym number) ∙ ap (option_map (λ row. class_no row.owner)) r.2 ∙ ap (λ n. Some (class_no n)) r.3)
          (λ (h : length (tables file).classes ≤ c.0). absurd (empty f (subst (λ l. Contains l f) (own_past c h) m)))
          (cases_lt c.0 (length (tables file).classes)),
      λ e.
          let r = owner_row f c (slice_get (feature_rows file) f.0) refl (sym (owner_is f) ∙ e) in
          let number : 0 + f.0 ≡ f.0 = omega arith in
          let here : c.0 < length (tables file).classes = subst (λ (c : ClassId). c.0 < length (tables file).classes) r.2 (owner_within r.0 f.0 r.1) in
          subst (λ l. Contains l f) (sym (own_is c here))
          (subst (λ n. Contains (own c.0) (feature_no n)) number (found_again c.0 0 (feature_rows file) f.0 r.0 r.1 (ap (λ (c : ClassId). c.0) r.2))),
    )
      where
        empty : (f : FeatId) → Contains [] f → ⊥
        empty f m = omega (arith, m.1)

    pub own_within : (c : ClassId) (f : FeatId) → Contains (own_of (tables file).classes c) f → f.0 < length (tables file).features
    own_within c f m =
        let r = owner_row f c (slice_get (feature_rows file) f.0) refl (sym (owner_is f) ∙ (owners c f).0 m) in
        subst (λ n. f.0 < n) (sym (length-map (feature_rows file) (feature_of file)) ∙ ap length (sym features_are)) (slice_get_within (feature_rows file) f.0 r.0 r.1)

  pub class_packages : Behind is_package_role is_class_role false file → All (λ c. c.«package» < length (tables file).packages) (tables file).classes
  class_packages ordered = all_rows is_class_role (class_made file) file (λ c. c.«package» < length (tables file).packages)
      (λ b e h s r. subst (λ n. count is_package_role b - 1 < n) (sym (length-rows is_package_role (package_made file) [] file)) (below is_package_role is_class_role file b e h ordered s r))
