-- A test of the conditions on a metamodel that computes: by it the lists that the tests build are shown to be valid. Ranks of the
-- classes, higher than those of their supertypes, show that none is its own. Of the defaults of whole numbers it passes those without a sign.
use Rattle.std.proofs.Common.{◌≡◌, ◌≢◌, ℕ, zero, suc, ◌+◌, ◌^◌, ◌<◌, ◌≤◌, ◌⊎◌, inl, inr, ◌&&◌, Bool, true, false, not, eqb, ltb, List, [], ◌∷◌, ◌++◌, length, map, refl, sym, ap, subst, ◌∙◌, arith, add-zero, Option, Some, None}
use Rattle.std.specs.Prelude.{◌↔◌, ◌||◌, codes, IfSome, slice_index, slice_get, option_map}
use Rattle.std.proofs.lemmas.Bool.{and_parts, false≢true, ltb-true, eqb-true, eq-eqb}
use Rattle.std.proofs.lemmas.List.Elements.{All-weaker}
use Rattle.std.proofs.lemmas.List.Folds.{Any-from_list_any}
use Rattle.std.proofs.lemmas.List.Kept.{AllPairs-cons}
use Rattle.std.proofs.lemmas.List.Sums.{AllPass-from_list_all}
use Rattle.std.proofs.lemmas.Option.{none-some, same_Some, slice_get-get_or, get_or_from_slice_get, slice_get_within}
use Rattle.std.proofs.lemmas.Slice.Eq.{bytes_eq-Decides}
use Rattle.std.specs.Int.{is_in_range}
use Rattle.std.specs.List.{All, Contains, list_all, list_any}
use Rattle.std.specs.Option.{option_map_or}
use Rattle.std.specs.Str.{bytes_eq}
use Rattle.atl_base.specs.declared.numbers.ClassId.{ClassId}
use Rattle.atl_base.specs.declared.numbers.FeatId.{FeatId}
use Rattle.ecore_meta.specs.declared.parts.Class.{Class}
use Rattle.ecore_meta.specs.declared.parts.EnumDef.{EnumDef}
use Rattle.ecore_meta.specs.declared.parts.FeatKind.{FeatKind}
use Rattle.ecore_meta.specs.declared.parts.FeatKind.TheVariants.{Str, Int, Truth, Enum, Opaque, Refer}
use Rattle.ecore_meta.specs.declared.parts.Feature.{Feature}
use Rattle.ecore_meta.specs.declared.parts.Parts.{Parts}
use Rattle.ecore_meta.specs.Inheritance.{Conforms, itself, by_super, IsAcyclic, supers_of, own_of, features, name_of}
use Rattle.ecore_meta.specs.Names.{IsName, IsPrefix, IsUri, HasNoDot, is_plain_name}
use Rattle.ecore_meta.specs.Order.{class_no}
use Rattle.ecore_meta.specs.Valid.{AllDiffer, owner_of, IsKindWithin, AreOpposite, IsMetamodel, is_reference, is_containment, class_of, opposite_of, IsIntText, IsTextOf, number_of}

-- ---- tests of lists
abbrev pub all_from : {X : Type 0} → (ℕ → X → Bool) → ℕ → List X → Bool
all_from p i [] = true
all_from p i (x ∷ xs) = p i x && all_from p (i + 1) xs

list_all-at : {X : Type 0} (q : X → Bool) (xs : List X) (k : ℕ) (x : X) → list_all q xs ≡ true → slice_get xs k ≡ Some x → q x ≡ true
list_all-at q xs k x h e = subst (λ y. q y ≡ true) (get_or_from_slice_get xs k x x e) (AllPass-from_list_all q xs h k x (slice_get_within xs k x e))

all_from-at : {X : Type 0} (p : ℕ → X → Bool) (i : ℕ) (xs : List X) (k : ℕ) (x : X) → all_from p i xs ≡ true → slice_get xs k ≡ Some x → p (i + k) x ≡ true
all_from-at p i [] k x h e = absurd (none-some x e)
all_from-at p i (y ∷ ys) zero x h e = subst (λ n. p n x ≡ true) (sym (add-zero i)) (subst (λ z. p i z ≡ true) (same_Some y x e) (and_parts _ _ h).0)
all_from-at p i (y ∷ ys) (suc k) x h e =
    let same : (i + 1) + k ≡ i + suc k = omega arith in
    subst (λ n. p n x ≡ true) same (all_from-at p (i + 1) ys k x (and_parts _ _ h).1 e)

at_place : {X : Type 0} (p : ℕ → X → Bool) (xs : List X) (k : ℕ) (x : X) → all_from p 0 xs ≡ true → slice_get xs k ≡ Some x → p k x ≡ true
at_place p xs k x h e =
    let same : 0 + k ≡ k = omega arith in
    subst (λ n. p n x ≡ true) same (all_from-at p 0 xs k x h e)

All-tested : {X : Type 0} (P : X → Type 0) (p : X → Bool) → ((x : X) → p x ≡ true → P x) → (xs : List X) → list_all p xs ≡ true → All P xs
All-tested P p tells xs h = All-weaker (λ x. p x ≡ true) P tells xs (AllPass-from_list_all p xs h)

tested : {X : Type 0} (p : X → Bool) (xs : List X) (x : X) → list_all p xs ≡ true → Contains xs x → p x ≡ true
tested p xs x h m = subst (λ y. p y ≡ true) m.2 (AllPass-from_list_all p xs h m.0 x m.1)

abbrev pub all_differ : {X : Type 0} → (X → X → Bool) → List X → Bool
all_differ e [] = true
all_differ e (x ∷ xs) = list_all (λ y. not (e x y)) xs && all_differ e xs

AllDiffer-tested : {X : Type 0} (e : X → X → Bool) → ((x y : X) → x ≡ y → e x y ≡ true) → (xs : List X) → all_differ e xs ≡ true → AllDiffer xs
AllDiffer-tested e tells [] h = λ i j d low high. absurd (omega (arith, high))
AllDiffer-tested e tells (x ∷ xs) h =
    let parts = and_parts (list_all (λ y. not (e x y)) xs) (all_differ e xs) h in
    AllPairs-cons (λ x y. x ≢ y) x xs
    (All-tested (λ y. x ≢ y) (λ y. not (e x y)) (λ y t same. false≢true (ap not (sym (tells x y same)) ∙ t)) xs parts.0)
    (AllDiffer-tested e tells xs parts.1)

same_text : (x y : List ℕ) → x ≡ y → bytes_eq x y ≡ true
same_text x y e = (bytes_eq-Decides x y).1 e

other_text : (x y : List ℕ) → not (bytes_eq x y) ≡ true → x ≢ y
other_text x y t same = false≢true (ap not (sym (same_text x y same)) ∙ t)

-- ---- what a class has, by its number
of_class : {X : Type 0} (g : Class → List X) (o : Option Class) (x : X) → Contains (option_map_or g o []) x → (k : Class) × (o ≡ Some k) × Contains (g k) x
of_class g None x m = absurd (omega (arith, m.1))
of_class g (Some k) x m = (k, refl, m)

-- ---- the conditions
abbrev pub rises : List ℕ → ℕ → Class → Bool
rises ranks i class = list_all (λ s. ltb (slice_index ranks s.0) (slice_index ranks i)) class.supers

abbrev pub owns : List Feature → ℕ → Class → Bool
owns all i class = list_all (λ f. option_map_or (λ x. eqb x.owner.0 i) (slice_get all f.0) false) class.own

abbrev pub is_owned : List Class → ℕ → Feature → Bool
is_owned classes j feature = list_any (λ g. eqb g.0 j) (own_of classes feature.owner)

abbrev pub is_class : Option ClassId → ClassId → Bool
is_class None c = false
is_class (Some d) c = eqb d.0 c.0

abbrev pub is_feature : Option FeatId → ℕ → Bool
is_feature None i = false
is_feature (Some d) i = eqb d.0 i

abbrev pub fits : ℕ → Feature → Feature → Bool
fits i feature other = is_feature (opposite_of other.kind) i && (is_class (class_of feature.kind) other.owner && (is_class (class_of other.kind) feature.owner && not (is_containment feature.kind && is_containment other.kind)))

abbrev pub fits_opposite : List Feature → ℕ → Feature → Bool
fits_opposite all i feature = option_map_or (λ g. option_map_or (fits i feature) (slice_get all g.0) true) (opposite_of feature.kind) true

abbrev pub is_kind_within : Parts → FeatKind → Bool
is_kind_within m (Enum e) = ltb e (length m.enums)
is_kind_within m (Refer class contains opposite) = ltb class.0 (length m.classes) && option_map_or (λ g. ltb g.0 (length m.features)) opposite true
is_kind_within m _ = true

abbrev pub is_name : List ℕ → Bool
is_name n = is_plain_name n && not (bytes_eq n (codes "xmlns"))

abbrev pub is_prefix : List ℕ → Bool
is_prefix n = is_name n && (not (bytes_eq n (codes "xml")) && (not (bytes_eq n (codes "xmi")) && not (bytes_eq n (codes "xsi"))))

abbrev pub is_uri : List ℕ → Bool
is_uri n = not (bytes_eq n []) && (not (bytes_eq n (codes "http://www.omg.org/XMI")) && not (bytes_eq n (codes "http://www.w3.org/2001/XMLSchema-instance")))

abbrev pub is_number : List ℕ → Bool
is_number [] = false
is_number (c ∷ cs) = list_all (is_in_range 48 57) (c ∷ cs) && ltb (number_of (c ∷ cs)) (2 ^ 63)

abbrev pub is_text_of : Parts → FeatKind → List ℕ → Bool
is_text_of m Str text = true
is_text_of m Int text = is_number text
is_text_of m Truth text = bytes_eq text (codes "true") || bytes_eq text (codes "false")
is_text_of m (Enum e) text = list_any (bytes_eq text) (map (λ l. l.text) (option_map_or (λ d. d.literals) (slice_get m.enums e) []))
is_text_of m Opaque text = true
is_text_of m (Refer class contains opposite) text = true

abbrev pub has_default : Parts → Feature → Bool
has_default m f = option_map_or (is_text_of m f.kind) f.default true

abbrev pub is_enumeration : EnumDef → Bool
is_enumeration e = is_name e.name && (list_all (λ l. is_name l.name) e.literals && (all_differ bytes_eq (map (λ l. l.name) e.literals) && all_differ bytes_eq (map (λ l. l.text) e.literals)))

pub record Passes (ranks : List ℕ) (m : Parts) : Type 0 where
  pub enums : list_all is_enumeration m.enums ≡ true
  pub skipped : m.skipped ≡ []
  pub packages : list_all (λ c. ltb c.package (length m.packages)) m.classes ≡ true
  pub supers : list_all (λ c. list_all (λ s. ltb s.0 (length m.classes)) c.supers) m.classes ≡ true
  pub owners : list_all (λ f. ltb f.owner.0 (length m.classes)) m.features ≡ true
  pub kinds : list_all (λ f. is_kind_within m f.kind) m.features ≡ true
  pub rising : all_from (rises ranks) 0 m.classes ≡ true
  pub owned : all_from (owns m.features) 0 m.classes ≡ true
  pub owning : all_from (is_owned m.classes) 0 m.features ≡ true
  pub own : list_all (λ c. all_differ (λ f g. eqb f.0 g.0) c.own) m.classes ≡ true
  pub seen : all_from (λ i c. all_differ bytes_eq (map (name_of m.features) (features m.classes (class_no i)))) 0 m.classes ≡ true
  pub defaults : list_all (has_default m) m.features ≡ true
  pub opposites : all_from (fits_opposite m.features) 0 m.features ≡ true
  pub classifiers : all_differ bytes_eq (map (λ c. c.name) m.classes ++ map (λ e. e.name) m.enums) ≡ true
  pub uris : all_differ bytes_eq (map (λ p. p.uri) m.packages) ≡ true
  pub prefixes : all_differ bytes_eq (map (λ p. p.prefix) m.packages) ≡ true
  pub package_names : list_all (λ p. is_name p.name && (is_prefix p.prefix && is_uri p.uri)) m.packages ≡ true
  pub class_names : list_all (λ c. is_name c.name) m.classes ≡ true
  pub feature_names : list_all (λ f. is_name f.name && not (list_any (λ b. eqb b 46) f.name)) m.features ≡ true

-- ---- and that they say what they test
IsName-tested : (n : List ℕ) → is_name n ≡ true → IsName n
IsName-tested n h = let p = and_parts (is_plain_name n) (not (bytes_eq n (codes "xmlns"))) h in record { plain = p.0; no_declaration = other_text n (codes "xmlns") p.1 }

IsPrefix-tested : (n : List ℕ) → is_prefix n ≡ true → IsPrefix n
IsPrefix-tested n h =
    let p = and_parts (is_name n) _ h in
    let q = and_parts (not (bytes_eq n (codes "xml"))) _ p.1 in
    let r = and_parts (not (bytes_eq n (codes "xmi"))) (not (bytes_eq n (codes "xsi"))) q.1 in
    record { name = IsName-tested n p.0; not_xml = other_text n (codes "xml") q.0; not_xmi = other_text n (codes "xmi") r.0; not_xsi = other_text n (codes "xsi") r.1 }

IsUri-tested : (n : List ℕ) → is_uri n ≡ true → IsUri n
IsUri-tested n h =
    let p = and_parts (not (bytes_eq n [])) _ h in
    let q = and_parts (not (bytes_eq n (codes "http://www.omg.org/XMI"))) (not (bytes_eq n (codes "http://www.w3.org/2001/XMLSchema-instance"))) p.1 in
    record { some = other_text n [] p.0; not_xmi = other_text n (codes "http://www.omg.org/XMI") q.0; not_xsi = other_text n (codes "http://www.w3.org/2001/XMLSchema-instance") q.1 }

not_true : (b : Bool) → not b ≡ true → b ≡ false
not_true true h = absurd (false≢true h)
not_true false h = refl

IfSome-tested : (n : ℕ) (o : Option FeatId) → option_map_or (λ g. ltb g.0 n) o true ≡ true → IfSome o (λ g. g.0 < n)
IfSome-tested n None h = tt
IfSome-tested n (Some g) h = ltb-true g.0 n h

IsKindWithin-tested : (m : Parts) (kind : FeatKind) → is_kind_within m kind ≡ true → IsKindWithin m kind
IsKindWithin-tested m Str h = tt
IsKindWithin-tested m Int h = tt
IsKindWithin-tested m Truth h = tt
IsKindWithin-tested m (Enum e) h = ltb-true e (length m.enums) h
IsKindWithin-tested m Opaque h = tt
IsKindWithin-tested m (Refer class contains opposite) h =
    let p = and_parts (ltb class.0 (length m.classes)) (option_map_or (λ g. ltb g.0 (length m.features)) opposite true) h in
    (ltb-true class.0 (length m.classes) p.0, IfSome-tested (length m.features) opposite p.1)

is_class-told : (o : Option ClassId) (c : ClassId) → is_class o c ≡ true → o ≡ Some c
is_class-told None c h = absurd (false≢true h)
is_class-told (Some d) c h = ap (λ n. let e : Option ClassId = Some (record { 0 = n }) in e) (eqb-true d.0 c.0 h)

is_feature-told : (o : Option FeatId) (f : FeatId) → is_feature o f.0 ≡ true → o ≡ Some f
is_feature-told None f h = absurd (false≢true h)
is_feature-told (Some d) f h = ap (λ n. let e : Option FeatId = Some (record { 0 = n }) in e) (eqb-true d.0 f.0 h)

is_number-told : (text : List ℕ) → is_number text ≡ true → IsIntText text
is_number-told [] h = absurd (false≢true h)
is_number-told (c ∷ cs) h =
    let p = and_parts (list_all (is_in_range 48 57) (c ∷ cs)) (ltb (number_of (c ∷ cs)) (2 ^ 63)) h in
    inl (record { some = λ e. cc; digits = p.0 }, ltb-true (number_of (c ∷ cs)) (2 ^ 63) p.1)

is_truth-told : (text : List ℕ) (b : Bool) → bytes_eq text (codes "true") ≡ b → (b || bytes_eq text (codes "false")) ≡ true → (text ≡ codes "true") ⊎ (text ≡ codes "false")
is_truth-told text true e h = inl ((bytes_eq-Decides text (codes "true")).0 e)
is_truth-told text false e h = inr ((bytes_eq-Decides text (codes "false")).0 h)

is_among-told : (text : List ℕ) (texts : List (List ℕ)) → list_any (bytes_eq text) texts ≡ true → Contains texts text
is_among-told text texts h =
    let found = Any-from_list_any (bytes_eq text) texts h in
    let it : text ≡ found.1 = (bytes_eq-Decides text found.1).0 found.4 in
    subst (Contains texts) (sym it) (found.0, found.2, found.3)

is_text_of-told : (m : Parts) (kind : FeatKind) (text : List ℕ) → is_reference kind ≡ false → is_text_of m kind text ≡ true → IsTextOf m kind text
is_text_of-told m Str text k h = tt
is_text_of-told m Int text k h = is_number-told text h
is_text_of-told m Truth text k h = is_truth-told text (bytes_eq text (codes "true")) refl h
is_text_of-told m (Enum e) text k h = is_among-told text (map (λ l. l.text) (option_map_or (λ d. d.literals) (slice_get m.enums e) [])) h
is_text_of-told m Opaque text k h = tt
is_text_of-told m (Refer class contains opposite) text k h = absurd (false≢true (sym k))

default_told : (m : Parts) (kind : FeatKind) (o : Option (List ℕ)) → option_map_or (is_text_of m kind) o true ≡ true → is_reference kind ≡ false → IfSome o (IsTextOf m kind)
default_told m kind None h k = tt
default_told m kind (Some text) h k = is_text_of-told m kind text k h

record IsEnumeration (e : EnumDef) : Type 0 where
  name : IsName e.name
  literals : All (λ l. IsName l.name) e.literals
  names_differ : AllDiffer (map (λ l. l.name) e.literals)
  texts_differ : AllDiffer (map (λ l. l.text) e.literals)

is_enumeration-told : (e : EnumDef) → is_enumeration e ≡ true → IsEnumeration e
is_enumeration-told e h =
    let a = and_parts (is_name e.name) _ h in
    let b = and_parts (list_all (λ l. is_name l.name) e.literals) _ a.1 in
    let d = and_parts (all_differ bytes_eq (map (λ l. l.name) e.literals)) (all_differ bytes_eq (map (λ l. l.text) e.literals)) b.1 in
    record {
      name = IsName-tested e.name a.0;
      literals = All-tested (λ l. IsName l.name) (λ l. is_name l.name) (λ l t. IsName-tested l.name t) e.literals b.0;
      names_differ = AllDiffer-tested bytes_eq same_text (map (λ l. l.name) e.literals) d.0;
      texts_differ = AllDiffer-tested bytes_eq same_text (map (λ l. l.text) e.literals) d.1;
    }

module _ (ranks : List ℕ) (m : Parts) (p : Passes ranks m) where
  rank_falls : (c s : ClassId) → Contains (supers_of m.classes c) s → slice_index ranks s.0 < slice_index ranks c.0
  rank_falls c s h =
      let k = of_class (λ k. k.supers) (slice_get m.classes c.0) s h in
      ltb-true (slice_index ranks s.0) (slice_index ranks c.0)
      (tested (λ s. ltb (slice_index ranks s.0) (slice_index ranks c.0)) k.0.supers s (at_place (rises ranks) m.classes c.0 k.0 p.rising k.1) k.2)

  rank_conforms : {c d : ClassId} → Conforms m.classes c d → slice_index ranks d.0 ≤ slice_index ranks c.0
  rank_conforms itself = omega arith
  rank_conforms {c} {d} (by_super {s = s} up rest) = omega (arith, rank_falls c s up, rank_conforms rest)

  pub acyclic_tested : IsAcyclic m.classes
  acyclic_tested c s up back = omega (arith, rank_falls c s up, rank_conforms back)

  owner_told : (c : ClassId) (f : FeatId) (o : Option Feature) → option_map_or (λ x. eqb x.owner.0 c.0) o false ≡ true → option_map (λ x. x.owner) o ≡ Some c
  owner_told c f None h = absurd (false≢true h)
  owner_told c f (Some x) h = ap (λ n. let e : Option ClassId = Some (record { 0 = n }) in e) (eqb-true x.owner.0 c.0 h)

  owned_told : (c : ClassId) (f : FeatId) (o : Option Feature) → slice_get m.features f.0 ≡ o → option_map (λ x. x.owner) o ≡ Some c → Contains (own_of m.classes c) f
  owned_told c f None at e = absurd (none-some c e)
  owned_told c f (Some x) at e =
      let found = Any-from_list_any (λ g. eqb g.0 f.0) (own_of m.classes x.owner) (at_place (is_owned m.classes) m.features f.0 x p.owning at) in
      let it : found.1 ≡ f = ap (λ n. let g : FeatId = record { 0 = n } in g) (eqb-true found.1.0 f.0 found.4) in
      subst (λ d. Contains (own_of m.classes d) f) (same_Some x.owner c e)
      (subst (Contains (own_of m.classes x.owner)) it (found.0, found.2, found.3))

  pub owners_tested : (c : ClassId) (f : FeatId) → Contains (own_of m.classes c) f ↔ (owner_of m.features f ≡ Some c)
  owners_tested c f = (
    λ h.
        let k = of_class (λ k. k.own) (slice_get m.classes c.0) f h in
        owner_told c f (slice_get m.features f.0)
        (tested (λ f. option_map_or (λ x. eqb x.owner.0 c.0) (slice_get m.features f.0) false) k.0.own f (at_place (owns m.features) m.classes c.0 k.0 p.owned k.1) k.2),
    λ e. owned_told c f (slice_get m.features f.0) refl e,
  )

  owner_place : (c : ClassId) (f : FeatId) (o : Option Feature) → slice_get m.features f.0 ≡ o → option_map (λ x. x.owner) o ≡ Some c → f.0 < length m.features
  owner_place c f None at e = absurd (none-some c e)
  owner_place c f (Some x) at e = slice_get_within m.features f.0 x at

  own_differ_tested : (c : ClassId) (o : Option Class) → slice_get m.classes c.0 ≡ o → AllDiffer (option_map_or (λ k. k.own) o [])
  own_differ_tested c None at = AllDiffer-tested (λ f g. eqb f.0 g.0) (λ f g e. eq-eqb f.0 g.0 (ap (λ x. x.0) e)) [] refl
  own_differ_tested c (Some k) at =
      AllDiffer-tested (λ f g. eqb f.0 g.0) (λ f g e. eq-eqb f.0 g.0 (ap (λ x. x.0) e)) k.own
      (list_all-at (λ c. all_differ (λ f g. eqb f.0 g.0) c.own) m.classes c.0 k p.own at)

  fits_told : (f g : FeatId) (feature other : Feature) → slice_get m.features f.0 ≡ Some feature → opposite_of feature.kind ≡ Some g → slice_get m.features g.0 ≡ Some other → AreOpposite f feature other
  fits_told f g feature other at e there =
      let h : fits_opposite m.features f.0 feature ≡ true = at_place (fits_opposite m.features) m.features f.0 feature p.opposites at in
      let t : fits f.0 feature other ≡ true =
      ap (λ o. option_map_or (fits f.0 feature) o true) (sym there) ∙ ap (λ o. option_map_or (λ g. option_map_or (fits f.0 feature) (slice_get m.features g.0) true) o true) (sym e) ∙ h in
      let a = and_parts (is_feature (opposite_of other.kind) f.0) _ t in
      let b = and_parts (is_class (class_of feature.kind) other.owner) _ a.1 in
      let d = and_parts (is_class (class_of other.kind) feature.owner) (not (is_containment feature.kind && is_containment other.kind)) b.1 in
      record {
        returned = is_feature-told (opposite_of other.kind) f a.0;
        there = is_class-told (class_of feature.kind) other.owner b.0;
        back = is_class-told (class_of other.kind) feature.owner d.0;
        one_contains = not_true _ d.1;
      }

  pub passed : IsMetamodel m
  passed = record {
    places = record {
      packages = All-tested (λ c. c.package < length m.packages) (λ c. ltb c.package (length m.packages)) (λ c t. ltb-true c.package (length m.packages) t) m.classes p.packages;
      supers = λ c s h.
          let k = of_class (λ k. k.supers) (slice_get m.classes c.0) s h in
          ltb-true s.0 (length m.classes) (tested (λ s. ltb s.0 (length m.classes)) k.0.supers s (list_all-at (λ c. list_all (λ s. ltb s.0 (length m.classes)) c.supers) m.classes c.0 k.0 p.supers k.1) k.2);
      own = λ c f h. owner_place c f (slice_get m.features f.0) refl ((owners_tested c f).0 h);
      owners = All-tested (λ f. f.owner.0 < length m.classes) (λ f. ltb f.owner.0 (length m.classes)) (λ f t. ltb-true f.owner.0 (length m.classes) t) m.features p.owners;
      kinds = All-tested (λ f. IsKindWithin m f.kind) (λ f. is_kind_within m f.kind) (λ f t. IsKindWithin-tested m f.kind t) m.features p.kinds;
      skipped = subst (All (λ s. s.owner.0 < length m.classes)) (sym p.skipped) (λ k d h. absurd (omega (arith, h)));
    };
    acyclic = acyclic_tested;
    owners = owners_tested;
    own_differ = λ c. own_differ_tested c (slice_get m.classes c.0) refl;
    seen_differ = λ c h.
        AllDiffer-tested bytes_eq same_text (map (name_of m.features) (features m.classes c))
        (at_place (λ i k. all_differ bytes_eq (map (name_of m.features) (features m.classes (class_no i)))) m.classes c.0 _ p.seen (slice_get-get_or m.classes c.0 (record { name = []; «package» = 0; is_abstract = false; supers = []; own = [] }) h));
    defaults = All-tested (λ f. is_reference f.kind ≡ false → IfSome f.default (IsTextOf m f.kind)) (has_default m) (λ f t k. default_told m f.kind f.default t k) m.features p.defaults;
    opposites = fits_told;
    classifiers_differ = AllDiffer-tested bytes_eq same_text _ p.classifiers;
    literals_differ = All-tested (λ e. AllDiffer (map (λ l. l.name) e.literals) × AllDiffer (map (λ l. l.text) e.literals)) is_enumeration
        (λ e t. let told = is_enumeration-told e t in (told.names_differ, told.texts_differ)) m.enums p.enums;
    uris_differ = AllDiffer-tested bytes_eq same_text (map (λ p. p.uri) m.packages) p.uris;
    prefixes_differ = AllDiffer-tested bytes_eq same_text (map (λ p. p.prefix) m.packages) p.prefixes;
    names = record {
      packages = All-tested (λ p. IsName p.name × IsPrefix p.prefix × IsUri p.uri) (λ p. is_name p.name && (is_prefix p.prefix && is_uri p.uri))
          (λ p t. let a = and_parts (is_name p.name) _ t in let b = and_parts (is_prefix p.prefix) (is_uri p.uri) a.1 in (IsName-tested p.name a.0, IsPrefix-tested p.prefix b.0, IsUri-tested p.uri b.1)) m.packages p.package_names;
      classes = All-tested (λ c. IsName c.name) (λ c. is_name c.name) (λ c t. IsName-tested c.name t) m.classes p.class_names;
      features = All-tested (λ f. IsName f.name × HasNoDot f.name) (λ f. is_name f.name && not (list_any (λ b. eqb b 46) f.name))
          (λ f t. let a = and_parts (is_name f.name) (not (list_any (λ b. eqb b 46) f.name)) t in (IsName-tested f.name a.0, not_true _ a.1)) m.features p.feature_names;
      enums = All-tested (λ e. IsName e.name × All (λ l. IsName l.name) e.literals) is_enumeration
          (λ e t. let told = is_enumeration-told e t in (told.name, told.literals)) m.enums p.enums;
    };
  }
