-- What a reference names is in the lists: classes, enumerations and features by their numbers.
use Rattle.std.proofs.Common.{◌≡◌, ◌≢◌, ℕ, suc, ◌+◌, ◌<◌, List, [], ◌∷◌, ◌++◌, refl, ap, ◌∙◌, subst, arith}
use Rattle.std.specs.Prelude.{Bool, true, false, ◌==◌, ◌&&◌, bytes_eq, Option, Some, None, if◌then◌else◌}
use Rattle.std.specs.Option.{option_or}
use Rattle.std.proofs.lemmas.Option.{none-some, same_Some}
use Rattle.ecore_outline.specs.Outline.{Entry, is_class_role, is_enum_role, is_feature_role, is_skipped_role, count, name_of}
use Rattle.xmi_text.specs.Fragments.{Path, path_of, parts_of, fragment, feature_path_of, names_file}
use Rattle.xmi_text.specs.Options.{then_}
use Rattle.ecore_names.specs.References.{Target, OfClass, OfEnum, OfData, Stand, first_stand, past, target_here, is_named_by, target_from, target, local_target, class_of, class_named, Own, Kept, Skips, own_from, own_feature, own_named, feature_named}
use Rattle.xmi_text.proofs.Tests.{false-true}

pub then_some : {A B : Type 0} (o : Option A) (f : A → Option B) (y : B) → then_ o f ≡ Some y → (x : A) × (o ≡ Some x) × (f x ≡ Some y)
then_some (Some x) f y h = (x, refl, h)
then_some None f y h = absurd (none-some y h)

-- ## Classifiers

-- a number below these
abbrev pub IsWithin : ℕ → ℕ → Target → Type 0
IsWithin classes enums (OfClass c) = c < classes
IsWithin classes enums (OfEnum e) = e < enums
IsWithin classes enums (OfData d) = Unit {0}

target_within : (p : Path) (s : Stand) (es : List Entry) (t : Target) → target_from p s es ≡ Some t → IsWithin (s.classes + count is_class_role es) (s.enums + count is_enum_role es) t
target_within p s [] t h = absurd (none-some t h)
target_within p s (e ∷ es) t h = by (is_named_by p s e) h (target_within p (past s e) es t)
  where
    here : (c n : Bool) → IsWithin (s.classes + (if c then suc (count is_class_role es) else count is_class_role es)) (s.enums + (if n then suc (count is_enum_role es) else count is_enum_role es))
        (if c then OfClass s.classes else (if n then OfEnum s.enums else OfData e.site.element))
    here true n = omega arith
    here false true = omega arith
    here false false = tt

    later : (c n : Bool) → IsWithin ((if c then suc s.classes else s.classes) + count is_class_role es) ((if n then suc s.enums else s.enums) + count is_enum_role es) t
        → IsWithin (s.classes + (if c then suc (count is_class_role es) else count is_class_role es)) (s.enums + (if n then suc (count is_enum_role es) else count is_enum_role es)) t
    later true true w =
        let p : suc s.classes + count is_class_role es ≡ s.classes + suc (count is_class_role es) = omega arith in
        let q : suc s.enums + count is_enum_role es ≡ s.enums + suc (count is_enum_role es) = omega arith in
        subst (λ m. IsWithin (s.classes + suc (count is_class_role es)) m t) q (subst (λ m. IsWithin m (suc s.enums + count is_enum_role es) t) p w)
    later true false w =
        let p : suc s.classes + count is_class_role es ≡ s.classes + suc (count is_class_role es) = omega arith in
        subst (λ m. IsWithin m (s.enums + count is_enum_role es) t) p w
    later false true w =
        let q : suc s.enums + count is_enum_role es ≡ s.enums + suc (count is_enum_role es) = omega arith in
        subst (λ m. IsWithin (s.classes + count is_class_role es) m t) q w
    later false false w = w

    by : (b : Bool) → (if b then Some (target_here s e) else target_from p (past s e) es) ≡ Some t
        → (target_from p (past s e) es ≡ Some t → IsWithin ((past s e).classes + count is_class_role es) ((past s e).enums + count is_enum_role es) t)
        → IsWithin (s.classes + count is_class_role (e ∷ es)) (s.enums + count is_enum_role (e ∷ es)) t
    by true h r = subst (IsWithin (s.classes + count is_class_role (e ∷ es)) (s.enums + count is_enum_role (e ∷ es))) (same_Some (target_here s e) t h) (here (is_class_role e.role) (is_enum_role e.role))
    by false h r = later (is_class_role e.role) (is_enum_role e.role) (r h)

module _ (file : List Entry) where
  pub path_within : (p : Path) (t : Target) → target file p ≡ Some t → IsWithin (count is_class_role file) (count is_enum_role file) t
  path_within p t h =
      let c : 0 + count is_class_role file ≡ count is_class_role file = omega arith in
      let n : 0 + count is_enum_role file ≡ count is_enum_role file = omega arith in
      subst (λ m. IsWithin m (count is_enum_role file) t) c (subst (λ m. IsWithin (0 + count is_class_role file) m t) n (target_within p first_stand file t h))

  pub local_within : (word : List ℕ) (t : Target) → local_target file word ≡ Some t → IsWithin (count is_class_role file) (count is_enum_role file) t
  local_within word t h =
      let r = then_some (path_of (parts_of (fragment word))) (target file) t h in
      path_within r.0 t r.2

  class_within : (t : Target) (c : ℕ) → IsWithin (count is_class_role file) (count is_enum_role file) t → class_of t ≡ Some c → c < count is_class_role file
  class_within (OfClass d) c w h = subst (λ n. n < count is_class_role file) (same_Some d c h) w
  class_within (OfEnum e) c w h = absurd (none-some c h)
  class_within (OfData d) c w h = absurd (none-some c h)

  pub class_named_within : (word : List ℕ) (c : ℕ) → class_named file word ≡ Some c → c < count is_class_role file
  class_named_within word c h =
      let r = then_some (local_target file word) class_of c h in
      class_within r.0 c (local_within word r.0 r.1) r.2

-- ## Features

-- a feature, with so many before it
pub record KeptAt (f : ℕ) (es : List Entry) (g : ℕ) (d : Entry) : Type 0 where
  pub before : List Entry
  pub behind : List Entry
  pub whole : es ≡ before ++ (d ∷ behind)
  pub role : is_feature_role d.role ≡ true
  pub number : f + count is_feature_role before ≡ g

abbrev entry_or : Entry → Option Own → Entry
entry_or x (Some (Kept n y)) = y
entry_or x o = x

abbrev number_or : ℕ → Option Own → ℕ
number_or n (Some (Kept m y)) = m
number_or n o = n

abbrev is_kept : Option Own → Bool
is_kept (Some (Kept m y)) = true
is_kept o = false

kept_first : (f g : ℕ) (e d : Entry) (es : List Entry) → is_feature_role e.role ≡ true → Some (Kept f e) ≡ Some (Kept g d) → KeptAt f (e ∷ es) g d
kept_first f g e d es r h =
    let same : e ≡ d = ap (entry_or e) h in
    let more : f + 0 ≡ f = omega arith in
    record {
      before = [];
      behind = es;
      whole = ap (λ x. x ∷ es) same;
      role = subst (λ x. is_feature_role x.role ≡ true) same r;
      number = more ∙ ap (number_or 0) h;
    }

kept_later : (f g : ℕ) (e d : Entry) (es : List Entry) → KeptAt (if is_feature_role e.role then suc f else f) es g d → KeptAt f (e ∷ es) g d
kept_later f g e d es w = record {
  before = e ∷ w.before;
  behind = w.behind;
  whole = ap (λ l. e ∷ l) w.whole;
  role = w.role;
  number = by (is_feature_role e.role) ∙ w.number;
}
  where
    by : (t : Bool) → f + (if t then suc (count is_feature_role w.before) else count is_feature_role w.before) ≡ (if t then suc f else f) + count is_feature_role w.before
    by true = omega arith
    by false = refl

kept_at : (class : ℕ) (name : List ℕ) (c f : ℕ) (es : List Entry) (g : ℕ) (d : Entry) → own_from true class name c f es ≡ Some (Kept g d) → KeptAt f es g d
kept_at class name c f [] g d h = absurd (none-some (Kept g d) h)
kept_at class name c f (e ∷ es) g d h =
    by (c == suc class && bytes_eq (name_of e) name) (is_feature_role e.role) refl h
    (kept_at class name (if is_class_role e.role then suc c else c) (if is_feature_role e.role then suc f else f) es g d)
  where
    by : (t u : Bool) → is_feature_role e.role ≡ u
        → option_or (if t then (if u then Some (Kept f e) else None) else None) (own_from true class name (if is_class_role e.role then suc c else c) (if is_feature_role e.role then suc f else f) es) ≡ Some (Kept g d)
        → (own_from true class name (if is_class_role e.role then suc c else c) (if is_feature_role e.role then suc f else f) es ≡ Some (Kept g d) → KeptAt (if is_feature_role e.role then suc f else f) es g d)
        → KeptAt f (e ∷ es) g d
    by true true r h later = kept_first f g e d es r h
    by true false r h later = kept_later f g e d es (later h)
    by false u r h later = kept_later f g e d es (later h)

-- what is left out is not kept
none_kept : (class : ℕ) (name : List ℕ) (c f : ℕ) (es : List Entry) (g : ℕ) (d : Entry) → own_from false class name c f es ≢ Some (Kept g d)
none_kept class name c f [] g d h = none-some (Kept g d) h
none_kept class name c f (e ∷ es) g d h =
    by (c == suc class && bytes_eq (name_of e) name) (is_skipped_role e.role) h
    (none_kept class name (if is_class_role e.role then suc c else c) (if is_feature_role e.role then suc f else f) es g d)
  where
    by : (t u : Bool)
        → option_or (if t then (if u then Some Skips else None) else None) (own_from false class name (if is_class_role e.role then suc c else c) (if is_feature_role e.role then suc f else f) es) ≡ Some (Kept g d)
        → own_from false class name (if is_class_role e.role then suc c else c) (if is_feature_role e.role then suc f else f) es ≢ Some (Kept g d) → ⊥
    by true true h later = false-true (ap is_kept h)
    by true false h later = later h
    by false u h later = later h

feature_at : (class : ℕ) (name : List ℕ) (file : List Entry) (g : ℕ) (d : Entry) → own_feature class name file ≡ Some (Kept g d) → KeptAt 0 file g d
feature_at class name file g d h = by (own_from true class name 0 0 file) refl h
  where
    by : (o : Option Own) → own_from true class name 0 0 file ≡ o → option_or o (own_from false class name 0 0 file) ≡ Some (Kept g d) → KeptAt 0 file g d
    by (Some own) e h = kept_at class name 0 0 file g d (e ∙ h)
    by None e h = absurd (none_kept class name 0 0 file g d h)

pub feature_named_at : (file : List Entry) (word : List ℕ) (g : ℕ) (d : Entry) → feature_named file word ≡ Some (Kept g d) → KeptAt 0 file g d
feature_named_at file word g d h = by (names_file word) h
  where
    by : (t : Bool) → (if t then None else then_ (feature_path_of (parts_of (fragment word))) (own_named file)) ≡ Some (Kept g d) → KeptAt 0 file g d
    by true h = absurd (none-some (Kept g d) h)
    by false h =
        let r = then_some (feature_path_of (parts_of (fragment word))) (own_named file) (Kept g d) h in
        let q = then_some (then_ (target file r.0.0) class_of) (λ class. own_feature class r.0.1 file) (Kept g d) r.2 in
        feature_at q.0 r.0.1 file g d q.2
