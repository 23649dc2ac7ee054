-- What the tables answer, and that those of a metamodel are right.
use Rattle.std.proofs.Common.{◌≡◌, ◌≢◌, ℕ, ◌<◌, ◌≤◌, List, [], length, get_or, map, refl, sym, ap, subst, ◌∙◌, ⊎_elim, arith, Option, Some, None, Result, Ok, Err}
use Rattle.std.specs.Prelude.{◌↔◌, IsTrue, is_ok, IfSome, IfNone, is_some, nat_eq, slice_index, slice_index_or}
use Rattle.std.proofs.lemmas.Bool.{cases_lt, false≢true}
use Rattle.std.proofs.lemmas.List.{get_or_default, get_or_past, get_or-map, length-map}
use Rattle.std.proofs.lemmas.List.Elements.{Contains-get_or}
use Rattle.std.proofs.lemmas.List.Sorted.{searched}
use Rattle.std.proofs.lemmas.Map.Keys.{below_from_sorted, sorted_from_strictly_increasing}
use Rattle.std.proofs.lemmas.Option.{none-some, same_Some}
use Rattle.std.specs.HashMap.{get, get_by_text}
use Rattle.std.specs.List.{Contains}
use Rattle.std.specs.List.Sorted.{IsBinarySearchResult, IsStrictlyIncreasing}
use Rattle.std.specs.Ordering.{nat_cmp}
use Rattle.atl_base.specs.declared.numbers.ClassId.{ClassId}
use Rattle.atl_base.specs.declared.numbers.FeatId.{FeatId}
use Rattle.ecore_meta.specs.declared.parts.Class.{Class}
use Rattle.ecore_meta.specs.declared.parts.Feature.{Feature}
use Rattle.ecore_meta.specs.declared.parts.Parts.{Parts}
use Rattle.ecore_meta.specs.Inheritance.{Conforms, features, name_of}
use Rattle.ecore_meta.specs.Order.{class_no}
use Rattle.ecore_meta.specs.Tables.{Firsts, Row, AreFeatureLists, AreConformed, AreFirsts, ArePlacesOf, IsRow, AreNamed, AreNamedRows}
use Rattle.ecore_meta.specs.Valid.{AllDiffer, IsMetamodel}
use Rattle.ecore_meta.proofs.FeatureLaws.{seen-is}

-- ---- conformance
not_falling : (xs : List ℕ) → IsStrictlyIncreasing xs → (i j : ℕ) → i ≤ j → j < length xs → get_or xs i 0 ≤ get_or xs j 0
not_falling xs rising i j h l = ⊎_elim
    (λ (below : i < j). let up : get_or xs i 0 < get_or xs j 0 = below_from_sorted xs i j 0 (sorted_from_strictly_increasing xs rising) below l in omega arith)
    (λ (same : j ≤ i). let at : i ≡ j = omega arith in subst (λ k. get_or xs i 0 ≤ get_or xs k 0) at (omega arith))
    (cases_lt i j)

found_is : (xs : List ℕ) (d : ℕ) (r : Result ℕ ℕ) → IsStrictlyIncreasing xs → IsBinarySearchResult (λ y. nat_cmp y d) xs r → IsTrue (is_ok r) ↔ Contains xs d
found_is xs d (Ok i) rising h =
    let at = searched xs d (Ok i) h (not_falling xs rising) in
    (λ t. (i, at.0, get_or_default xs i d 0 at.0 ∙ at.1), λ m. refl)
found_is xs d (Err i) rising h =
    let at = searched xs d (Err i) h (not_falling xs rising) in (
      λ t. absurd (false≢true t),
      λ m.
          let here : get_or xs m.0 0 ≡ d = get_or_default xs m.0 0 d m.1 ∙ m.2 in
          absurd (⊎_elim
          (λ (before : m.0 < i). let lower : get_or xs m.0 0 < d = at.1 m.0 before in let no : ⊥ = omega arith in no)
          (λ (after : i ≤ m.0). let higher : d < get_or xs m.0 0 = at.2 m.0 after m.1 in let no : ⊥ = omega arith in no)
          (cases_lt m.0 i)),
    )

pub conforms_is : (classes : List Class) (lists : List (List ℕ)) (c d : ℕ) (r : Result ℕ ℕ) → AreConformed classes lists → c < length classes
    → IsBinarySearchResult (λ y. nat_cmp y d) (get_or lists c []) r → IsTrue (is_ok r) ↔ Conforms classes (class_no c) (class_no d)
conforms_is classes lists c d r t h s =
    let found = found_is (get_or lists c []) d r (t.rising c h) s in
    let each = t.each c d h in
    (λ b. each.0 (found.0 b), λ k. found.1 (each.1 k))

-- ---- features by their names
module _ (all : List Feature) (firsts : Firsts) (seen : List FeatId) (row : Row) (names : AreFirsts all firsts) (named : AreNamed all firsts seen row) (name : List ℕ) (first : ℕ) (leads : get_by_text firsts name ≡ Some first) where
  pub feature_some : (r : Option FeatId) → r ≡ get nat_eq row first → IfSome r (λ f. Contains seen f × (name_of all f ≡ name))
  feature_some None e = tt
  feature_some (Some f) e =
      let at = named.found first f (sym e) in
      (at.0, sym (names.bears (name_of all f) first at.1).1 ∙ (names.bears name first leads).1)

  pub feature_none : (r : Option FeatId) → r ≡ get nat_eq row first → IfNone r ((f : FeatId) → Contains seen f → name_of all f ≢ name)
  feature_none (Some f) e = tt
  feature_none None e = λ f m same. none-some f (e ∙ named.each first f m (ap (get_by_text firsts) same ∙ leads))

pub no_feature : (all : List Feature) (firsts : Firsts) (seen : List FeatId) (name : List ℕ) → AreFirsts all firsts → ((f : FeatId) → Contains seen f → f.0 < length all) → get_by_text firsts name ≡ None
    → (f : FeatId) → Contains seen f → name_of all f ≢ name
no_feature all firsts seen name names within absent f m same =
    false≢true (sym (ap is_some (ap (get_by_text firsts) same ∙ absent)) ∙ names.each f (within f m))

-- ---- the tables of a metamodel
module _ (m : Parts) (valid : IsMetamodel m) (lists : List (List FeatId)) (told : AreFeatureLists m.classes lists) where
  pub features_within : (c : ClassId) (f : FeatId) → c.0 < length m.classes → Contains (features m.classes c) f → f.0 < length m.features
  features_within c f h k =
      let from = (seen-is m.classes valid.acyclic valid.places.supers c f h).0 k in
      valid.places.own from.0 f from.2

  pub seen_within : (c : ℕ) (f : FeatId) → Contains (get_or lists c []) f → f.0 < length m.features
  seen_within c f k = ⊎_elim
      (λ (here : c < length m.classes). features_within (class_no c) f here (subst (λ (l : List FeatId). Contains l f) (told.each c here) k))
      (λ (past : length m.classes ≤ c).
      let none : get_or lists c [] ≡ [] = get_or_past lists c [] (omega (arith, told.lengths)) in
      let inside : Contains [] f = subst (λ (l : List FeatId). Contains l f) none k in
      absurd (omega (arith, inside.1)))
      (cases_lt c (length m.classes))

  module _ (firsts : Firsts) (places : List ℕ) (names : AreFirsts m.features firsts) (of : ArePlacesOf m.features firsts places) where
    -- features of one place have one name
    same_name : (f g : FeatId) → f.0 < length m.features → g.0 < length m.features → slice_index places f.0 ≡ slice_index places g.0 → name_of m.features f ≡ name_of m.features g
    same_name f g h k e =
        sym (names.bears (name_of m.features f) (slice_index places f.0) (of.each f h)).1
        ∙ ap (λ n. name_of m.features (record { 0 = n })) e
        ∙ (names.bears (name_of m.features g) (slice_index places g.0) (of.each g k)).1

    pub places_differ : (c : ℕ) → AllDiffer (map (λ f. slice_index places f.0) (get_or lists c []))
    places_differ c i j d low high same =
        let none : FeatId = record { 0 = 0 } in
        let seen : List FeatId = get_or lists c [] in
        let place : FeatId → ℕ = λ f. slice_index places f.0 in
        let j_in : j < length seen = omega (arith, high, length-map seen place) in
        let i_in : i < length seen = omega arith in
        let one : place (get_or seen i none) ≡ place (get_or seen j none) = sym (get_or-map place seen i none d i_in) ∙ same ∙ get_or-map place seen j none d j_in in
        let names_same : name_of m.features (get_or seen i none) ≡ name_of m.features (get_or seen j none) =
        same_name (get_or seen i none) (get_or seen j none) (seen_within c _ (Contains-get_or seen i none i_in)) (seen_within c _ (Contains-get_or seen j none j_in)) one in
        ⊎_elim
        (λ (here : c < length m.classes).
        let differ : AllDiffer (map (name_of m.features) seen) = subst (λ (l : List FeatId). AllDiffer (map (name_of m.features) l)) (sym (told.each c here)) (valid.seen_differ (class_no c) here) in
        differ i j [] low (omega (arith, j_in, length-map seen (name_of m.features)))
        (get_or-map (name_of m.features) seen i none [] i_in ∙ names_same ∙ sym (get_or-map (name_of m.features) seen j none [] j_in)))
        (λ (past : length m.classes ≤ c).
        let none_there : get_or lists c [] ≡ [] = get_or_past lists c [] (omega (arith, told.lengths)) in
        let no : ⊥ = omega (arith, j_in, ap length none_there) in no)
        (cases_lt c (length m.classes))

    pub named_is : (rows : List Row) → length rows ≡ length lists → ((c : ℕ) (d : Row) → c < length lists → IsRow places (slice_index_or lists c []) (slice_index_or rows c d)) → AreNamedRows m.classes m.features firsts rows
    named_is rows lengths each = record {
      lengths = lengths ∙ told.lengths;
      each = λ c d h.
          let row = each c d (omega (arith, h, told.lengths)) in
          let same : get_or lists c [] ≡ features m.classes (class_no c) = told.each c h in
          record {
            found = λ i f k.
                let at = row.found i f k in
                (subst (λ (l : List FeatId). Contains l f) same at.0, of.each f (seen_within c f at.0) ∙ ap Some at.1);
            each = λ i f k leads.
                let here : Contains (get_or lists c []) f = subst (λ (l : List FeatId). Contains l f) (sym same) k in
                subst (λ n. get nat_eq (get_or rows c d) n ≡ Some f) (same_Some (slice_index places f.0) i (sym (of.each f (seen_within c f here)) ∙ leads)) (row.each f here);
          };
    }
