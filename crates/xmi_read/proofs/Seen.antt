-- The features that are seen in one class of a file without faults differ in name.
use Rattle.std.proofs.Common.{◌≡◌, ◌≢◌, ℕ, zero, suc, ◌<◌, ◌≤◌, ◌⊎◌, List, [], ◌∷◌, length, get_or, map, refl, sym, ap, ◌∙◌, subst, ⊎_elim, arith}
use Rattle.std.specs.Prelude.{Bool, true, false, not, cond, ◌&&◌, ◌==◌, bytes_eq, Option, Some, None, option_map, slice_get, filter, flat_map, Contains, All, if◌then◌else◌}
use Rattle.std.specs.Option.{option_map_or}
use Rattle.std.specs.List.{list_any}
use Rattle.std.proofs.lemmas.Bool.{or_parts, and_from, not-true, eqb-false, cases_order}
use Rattle.std.proofs.lemmas.List.Elements.{All-filter, filter_passes, Contains-get_or}
use Rattle.std.proofs.lemmas.Option.{none-some, same_Some, slice_get_cases}
use Rattle.atl_base.specs.declared.numbers.ClassId.{ClassId}
use Rattle.atl_base.specs.declared.numbers.FeatId.{FeatId}
use Rattle.ecore_meta.specs.Inheritance.{supers_of, own_of, Conforms, distinct, features, name_of}
use Rattle.ecore_meta.specs.Valid.{AllDiffer}
use Rattle.ecore_meta.proofs.FeatureLaws.{features-is, seen-is}
use Rattle.ecore_meta.proofs.Membership.{Contains-from_flat_map, Contains-from_distinct}
use Rattle.ecore_outline.specs.declared.outline.Role.TheVariants.{Class}
use Rattle.ecore_outline.specs.Outline.{Entry, entry, is_class_role, is_feature_role, count, name_of as name_in}
use Rattle.xmi_text.specs.Inheriting.{conforms}
use Rattle.ecore_rows.specs.Rows.{ClassRow, FeatureRow, feature_rows, super_numbers, is_unnamed, twice_from, twice_seen}
use Rattle.xmi_read.specs.Parts.{feature_of}
use Rattle.ecore_faults.specs.declared.fault.Kind.TheVariants.{TwiceName}
use Rattle.ecore_faults.specs.Faults.{Fault, first_fault, classifier_twice}
use Rattle.ecore_outline.proofs.Behind.{Behind, is_member_role}
use Rattle.xmi_text.proofs.Lists.{get_of_map, pairs_cons, pairs_rest}
use Rattle.xmi_read.proofs.Naming.{differ}
use Rattle.xmi_read.proofs.Owners.{own_differ, features_are, owner_row, owner_is, owners}
use Rattle.ecore_faults.proofs.Roles.{classes, features as of_feature}
use Rattle.ecore_faults.proofs.Sound.{Fine, fine, else_parts, some-none}
use Rattle.ecore_outline.proofs.Splits.{rows, row_at, length-rows}
use Rattle.xmi_read.proofs.Supers.{supers_within, conforms_to, acyclic}
use Rattle.ecore_rows.proofs.RowLists.{class_row, feature_row, the_features}
use Rattle.xmi_read.proofs.Tables.{tables, class_made}
use Rattle.xmi_read.proofs.Twice.{differ_append, differ_mapped}

-- ## Each once

filter_differ : {X : Type 0} (p : X → Bool) (xs : List X) → AllDiffer xs → AllDiffer (filter p xs)
filter_differ p [] h = h
filter_differ p (x ∷ xs) h = by (p x) (filter_differ p xs (pairs_rest (λ x y. x ≢ y) x xs h))
  where
    others : All (λ y. x ≢ y) xs
    others k d l = h zero (suc k) d (omega arith) (omega arith)

    by : (b : Bool) → AllDiffer (filter p xs) → AllDiffer (cond b (x ∷ filter p xs) (filter p xs))
    by true k = pairs_cons (λ x y. x ≢ y) x (filter p xs) (All-filter p (λ y. x ≢ y) xs others) k
    by false k = k

distinct_differ : (fs : List FeatId) → AllDiffer (distinct fs)
distinct_differ [] = λ i j d l m same. omega (arith, m)
distinct_differ (f ∷ fs) =
    pairs_cons (λ x y. x ≢ y) f (filter (λ g. not (g.0 == f.0)) (distinct fs))
    (λ k d l e. eqb-false _ _ (not-true _ (filter_passes (λ g. not (g.0 == f.0)) (distinct fs) k d l)) (ap (λ (g : FeatId). g.0) (sym e)))
    (filter_differ (λ g. not (g.0 == f.0)) (distinct fs) (distinct_differ fs))

-- ## Names among the rows

module _ (supers : List (List ℕ)) (class : ℕ) where
  -- a row that is seen, and named
  abbrev IsSeen : FeatureRow → Type 0
  IsSeen row = (conforms supers class row.owner && not (is_unnamed (name_in row.entry))) ≡ true

  abbrev after : List (List ℕ) → FeatureRow → List FeatureRow → Option (List ℕ)
  after seen row rows = if list_any (bytes_eq (name_in row.entry)) seen then Some (name_in row.entry) else twice_from supers class (name_in row.entry ∷ seen) rows

  new_name : (seen : List (List ℕ)) (row : FeatureRow) (rows : List FeatureRow) → after seen row rows ≡ None → (list_any (bytes_eq (name_in row.entry)) seen ≡ false) × (twice_from supers class (name_in row.entry ∷ seen) rows ≡ None)
  new_name seen row rows h = by (list_any (bytes_eq (name_in row.entry)) seen) h
    where
      by : (b : Bool) → (if b then Some (name_in row.entry) else twice_from supers class (name_in row.entry ∷ seen) rows) ≡ None → (b ≡ false) × (twice_from supers class (name_in row.entry ∷ seen) rows ≡ None)
      by true h = absurd (some-none h)
      by false h = (refl, h)

  here_new : (seen : List (List ℕ)) (row : FeatureRow) (rows : List FeatureRow) → twice_from supers class seen (row ∷ rows) ≡ None → IsSeen row
      → (list_any (bytes_eq (name_in row.entry)) seen ≡ false) × (twice_from supers class (name_in row.entry ∷ seen) rows ≡ None)
  here_new seen row rows h i = new_name seen row rows (sym (ap (λ b. if b then after seen row rows else twice_from supers class seen rows) i) ∙ h)

  -- what is seen later bears no name that was seen
  later_new : (seen : List (List ℕ)) (rows : List FeatureRow) (k : ℕ) (row : FeatureRow) → twice_from supers class seen rows ≡ None → slice_get rows k ≡ Some row → IsSeen row → list_any (bytes_eq (name_in row.entry)) seen ≡ false
  later_new seen [] k row h e i = absurd (none-some row e)
  later_new seen (r ∷ rows) zero row h e i =
      subst (λ r. list_any (bytes_eq (name_in r.entry)) seen ≡ false) (same_Some r row e)
      (here_new seen r rows h (subst IsSeen (sym (same_Some r row e)) i)).0
  later_new seen (r ∷ rows) (suc k) row h e i = by (conforms supers class r.owner && not (is_unnamed (name_in r.entry))) h (λ s n. later_new s rows k row n e i)
    where
      by : (b : Bool) → (if b then after seen r rows else twice_from supers class seen rows) ≡ None → ((s : List (List ℕ)) → twice_from supers class s rows ≡ None → list_any (bytes_eq (name_in row.entry)) s ≡ false) → list_any (bytes_eq (name_in row.entry)) seen ≡ false
      by true h later = (or_parts (bytes_eq (name_in row.entry) (name_in r.entry)) (list_any (bytes_eq (name_in row.entry)) seen) (later (name_in r.entry ∷ seen) (new_name seen r rows h).1)).1
      by false h later = later seen h

  names_apart : (seen : List (List ℕ)) (rows : List FeatureRow) (k l : ℕ) (row other : FeatureRow) → twice_from supers class seen rows ≡ None → k < l → slice_get rows k ≡ Some row → slice_get rows l ≡ Some other → IsSeen row → IsSeen other → name_in other.entry ≢ name_in row.entry
  names_apart seen [] k l row other h o e f i j = absurd (none-some row e)
  names_apart seen (r ∷ rows) k zero row other h o e f i j = absurd (omega (arith, o))
  names_apart seen (r ∷ rows) zero (suc l) row other h o e f i j =
      let next = (here_new seen r rows h (subst IsSeen (sym (same_Some r row e)) i)).1 in
      let new = later_new (name_in r.entry ∷ seen) rows l other next f j in
      subst (λ r. name_in other.entry ≢ name_in r.entry) (same_Some r row e)
      (differ (name_in other.entry) (name_in r.entry) (or_parts (bytes_eq (name_in other.entry) (name_in r.entry)) (list_any (bytes_eq (name_in other.entry)) seen) new).0)
  names_apart seen (r ∷ rows) (suc k) (suc l) row other h o e f i j =
      by (conforms supers class r.owner && not (is_unnamed (name_in r.entry))) h (λ s n. names_apart s rows k l row other n (omega (arith, o)) e f i j)
    where
      by : (b : Bool) → (if b then after seen r rows else twice_from supers class seen rows) ≡ None → ((s : List (List ℕ)) → twice_from supers class s rows ≡ None → name_in other.entry ≢ name_in row.entry) → name_in other.entry ≢ name_in row.entry
      by true h later = later (name_in r.entry ∷ seen) (new_name seen r rows h).1
      by false h later = later seen h

module _ (file : List Entry) (none : first_fault file ≡ None) (ordered : Behind is_class_role is_member_role false file) where
  same_class : (c d : ClassId) → Some c ≡ Some d → c ≡ d
  same_class c d h = same_Some c d h

  -- what a class declares none of its supertypes has
  once : (c : ClassId) → c.0 < length (tables file).classes → AllDiffer (features (tables file).classes c)
  once c h =
      subst AllDiffer (sym (features-is (tables file).classes (acyclic file none) (supers_within file) c h))
      (differ_append inherited (own_of (tables file).classes c) (distinct_differ (flat_map (features (tables file).classes) (supers_of (tables file).classes c))) (own_differ file c) apart)
    where
      inherited : List FeatId
      inherited = distinct (flat_map (features (tables file).classes) (supers_of (tables file).classes c))

      apart : (i j : ℕ) (d : FeatId) → i < length inherited → j < length (own_of (tables file).classes c) → get_or inherited i d ≢ get_or (own_of (tables file).classes c) j d
      apart i j d l m same =
          let f : FeatId = get_or inherited i d in
          let above = Contains-from_flat_map (features (tables file).classes) (supers_of (tables file).classes c) f (Contains-from_distinct (flat_map (features (tables file).classes) (supers_of (tables file).classes c)) f (Contains-get_or inherited i d l)) in
          let from = (seen-is (tables file).classes (acyclic file none) (supers_within file) above.0 f (supers_within file c above.0 above.1)).0 above.2 in
          let mine : Contains (own_of (tables file).classes c) f = subst (Contains (own_of (tables file).classes c)) (sym same) (Contains-get_or (own_of (tables file).classes c) j d m) in
          let owner : from.0 ≡ c = same_Some from.0 c (sym ((owners file ordered from.0 f).0 from.2) ∙ (owners file ordered c f).0 mine) in
          acyclic file none c above.0 above.1 (subst (Conforms (tables file).classes above.0) owner from.1)

  -- no name is seen twice in a class
  none_twice : (c : ℕ) → c < length (tables file).classes → twice_from (super_numbers file) c [] (feature_rows file) ≡ None
  none_twice c h = ⊎_elim
      (λ (r : (x : ClassRow) × (c < length (rows is_class_role class_row [] file)) × (slice_get (rows is_class_role class_row [] file) c ≡ Some x) × (get_or (rows is_class_role class_row [] file) c x ≡ x)).
      let w = row_at is_class_role class_row [] file c r.0 r.2 in
      subst (λ n. twice_seen file n ≡ None) w.number
      (classes (λ e. Fine file w.before e w.behind → twice_seen file (count is_class_role w.before) ≡ None)
      (λ s f. nothing (twice_seen file (count is_class_role w.before)) (else_parts (classifier_twice file w.before (entry Class s)) _ f.twice).1)
      w.here w.role (fine file none w.before w.here w.behind w.whole)))
      (λ (r : (length (rows is_class_role class_row [] file) ≤ c) × (slice_get (rows is_class_role class_row [] file) c ≡ None)).
      absurd (omega (arith, r.0, length-rows is_class_role class_row [] file, length-rows is_class_role (class_made file) [] file)))
      (slice_get_cases (rows is_class_role class_row [] file) c).1
    where
      nothing : (o : Option (List ℕ)) → option_map {U = Fault} (λ n. (TwiceName, n)) o ≡ None → o ≡ None
      nothing (Some n) h = absurd (some-none h)
      nothing None h = refl

  named_at : (b : List Entry) (e : Entry) (h : List Entry) → is_feature_role e.role ≡ true → Fine file b e h → bytes_eq (name_in e) [] ≡ false
  named_at b e h = of_feature (λ e. Fine file b e h → bytes_eq (name_in e) [] ≡ false) (λ s f. f.named) (λ s f. f.named) e

  row_named : (k : ℕ) (row : FeatureRow) → slice_get (feature_rows file) k ≡ Some row → is_unnamed (name_in row.entry) ≡ false
  row_named k row h =
      let w = row_at is_feature_role (feature_row file) [] file k row (ap (λ l. slice_get l k) (sym (the_features file)) ∙ h) in
      subst (λ (r : FeatureRow). bytes_eq (name_in r.entry) [] ≡ false) (sym w.made)
      (named_at w.before w.here w.behind w.role (fine file none w.before w.here w.behind w.whole))

  -- the row of a feature that is seen
  record SeenRow (c : ClassId) (f : FeatId) : Type 0 where
    row : FeatureRow
    found : slice_get (feature_rows file) f.0 ≡ Some row
    seen : IsSeen (super_numbers file) c.0 row
    name : name_of (tables file).features f ≡ name_in row.entry

  seen_row : (c : ClassId) (f : FeatId) → c.0 < length (tables file).classes → Contains (features (tables file).classes c) f → SeenRow c f
  seen_row c f h m =
      let from = (seen-is (tables file).classes (acyclic file none) (supers_within file) c f h).0 m in
      let r = owner_row file f from.0 (slice_get (feature_rows file) f.0) refl (sym (owner_is file f) ∙ (owners file ordered from.0 f).0 from.2) in
      let conforming : conforms (super_numbers file) c.0 r.0.owner ≡ true =
      ap (conforms (super_numbers file) c.0) (ap (λ (d : ClassId). d.0) r.2) ∙ conforms_to file c from.0 h from.1 in
      record {
        row = r.0;
        found = r.1;
        seen = and_from (conforms (super_numbers file) c.0 r.0.owner) (not (is_unnamed (name_in r.0.entry))) conforming (ap not (row_named f.0 r.0 r.1));
        name = ap (λ fs. name_of fs f) (features_are file)
            ∙ ap (λ o. option_map_or (λ feature. feature.name) o []) (get_of_map (feature_of file) (feature_rows file) f.0 ∙ ap (option_map (feature_of file)) r.1);
      }

  pub seen_differ : (c : ClassId) → c.0 < length (tables file).classes → AllDiffer (map (name_of (tables file).features) (features (tables file).classes c))
  seen_differ c h = differ_mapped (name_of (tables file).features) (features (tables file).classes c) (λ i j d l m same.
      let f : FeatId = get_or (features (tables file).classes c) i d in
      let g : FeatId = get_or (features (tables file).classes c) j d in
      let v = seen_row c f h (Contains-get_or (features (tables file).classes c) i d (omega arith)) in
      let w = seen_row c g h (Contains-get_or (features (tables file).classes c) j d m) in
      let names : name_in v.row.entry ≡ name_in w.row.entry = sym v.name ∙ same ∙ w.name in
      ⊎_elim
      (λ (e : f.0 ≡ g.0). once c h i j d l m (ap (λ n. let x : FeatId = record { 0 = n } in x) e))
      (λ (r : (f.0 < g.0) ⊎ (g.0 < f.0)). ⊎_elim
      (λ (o : f.0 < g.0). names_apart (super_numbers file) c.0 [] (feature_rows file) f.0 g.0 v.row w.row (none_twice c.0 h) o v.found w.found v.seen w.seen (sym names))
      (λ (o : g.0 < f.0). names_apart (super_numbers file) c.0 [] (feature_rows file) g.0 f.0 w.row v.row (none_twice c.0 h) o w.found v.found w.seen v.seen names)
      r)
      (cases_order f.0 g.0))
