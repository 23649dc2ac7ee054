-- The names under a class's number are those of the skipped features that are seen in it.
use Rattle.std.proofs.Common.{◌≡◌, ℕ, zero, suc, ◌<◌, ◌≤◌, List, [], ◌∷◌, length, get_or, refl, sym, ap, ◌∙◌, subst, arith}
use Rattle.std.specs.Prelude.{Bool, true, false, ◌==◌, ◌&&◌, ◌||◌, ◌↔◌, bytes_eq, flat_map, nat_lt, Some, None, All, Contains, if◌then◌else◌, Result, Ok, Err, OnOk}
use Rattle.std.specs.List.{list_any}
use Rattle.std.proofs.lemmas.Bool.{eqb-true, eq-eqb, ne_eqb, false≢true, lt-ltb}
use Rattle.std.proofs.lemmas.List.Elements.{All-head, All-tail}
use Rattle.std.proofs.lemmas.List.Folds.{list_any-append, Any-from_list_any}
use Rattle.std.proofs.lemmas.Option.{none-some, same_Some}
use Rattle.atl_base.specs.declared.numbers.ClassId.{ClassId}
use Rattle.ecore_meta.specs.declared.parts.Parts.{Parts}
use Rattle.ecore_meta.specs.declared.parts.Skipped.{Skipped}
use Rattle.ecore_meta.specs.Inheritance.{Conforms}
use Rattle.ecore_meta.specs.Order.{class_no}
use Rattle.ecore_meta.specs.Valid.{IsMetamodel}
use Rattle.xmi_text.specs.Keys.{is_key}
use Rattle.xmi_text.specs.declared.keys.Key.{Key as CodeKey}
use Rattle.xmi_names.specs.Names.{class_at, is_sub}
use Rattle.xmi_names.specs.Tables.{has_skipped, names_of, keyed, names_in}
use Rattle.xmi_names.proofs.Inheriting.{sub_inside, sub_first}

-- ## Some of a list

any_none : {X : Type 0} (xs : List X) → list_any (λ x. false) xs ≡ false
any_none [] = refl
any_none (x ∷ xs) = any_none xs

any_or : {X : Type 0} (p q : X → Bool) (xs : List X) → list_any (λ x. p x || q x) xs ≡ (list_any p xs || list_any q xs)
any_or p q [] = refl
any_or p q (x ∷ xs) = ap (λ r. (p x || q x) || r) (any_or p q xs) ∙ by (p x) (q x) (list_any p xs) (list_any q xs)
  where
    by : (a b c d : Bool) → ((a || b) || (c || d)) ≡ ((a || c) || (b || d))
    by true b c d = refl
    by false true true d = refl
    by false true false d = refl
    by false false true d = refl
    by false false false d = refl

any_same : {X : Type 0} (p q : X → Bool) → ((x : X) → p x ≡ q x) → (xs : List X) → list_any p xs ≡ list_any q xs
any_same p q h [] = refl
any_same p q h (x ∷ xs) = ap (λ b. b || list_any p xs) (h x) ∙ ap (λ r. q x || r) (any_same p q h xs)

any_and : {X : Type 0} (p : X → Bool) (b : Bool) (xs : List X) → list_any (λ x. p x && b) xs ≡ (b && list_any p xs)
any_and p true [] = refl
any_and p false [] = refl
any_and p b (x ∷ xs) = ap (λ r. (p x && b) || r) (any_and p b xs) ∙ by b (p x) (list_any p xs)
  where
    by : (b c d : Bool) → ((c && b) || (b && d)) ≡ (b && (c || d))
    by true true d = refl
    by true false d = refl
    by false true d = refl
    by false false d = refl

any_flat : {X : Type 0} {Y : Type 0} (p : Y → Bool) (f : X → List Y) (xs : List X) → list_any p (flat_map f xs) ≡ list_any (λ x. list_any p (f x)) xs
any_flat p f [] = refl
any_flat p f (x ∷ xs) = list_any-append p (f x) (flat_map f xs) ∙ ap (λ r. list_any p (f x) || r) (any_flat p f xs)

and_any : {X : Type 0} (p : X → Bool) (b : Bool) (xs : List X) → list_any (λ x. b && p x) xs ≡ (b && list_any p xs)
and_any p true xs = refl
and_any p false xs = any_none xs

-- ## Names

module _ (name : List ℕ) where
  abbrev is_name : List ℕ → Bool
  is_name t = bytes_eq t name

  any_keyed : (n m : ℕ) (b : Bool) → (m == n) ≡ b → (names : List (List ℕ)) → list_any (is_key n name) (keyed m names) ≡ (b && list_any is_name names)
  any_keyed n m true h [] = refl
  any_keyed n m false h [] = refl
  any_keyed n m b h (t ∷ names) =
      ap (λ c. (c && is_name t) || list_any (is_key n name) (keyed m names)) h
      ∙ ap (λ r. (b && is_name t) || r) (any_keyed n m b h names)
      ∙ together b (is_name t) (list_any is_name names)
    where
      together : (b x y : Bool) → ((b && x) || (b && y)) ≡ (b && (x || y))
      together true x y = refl
      together false x y = refl

  any_declared : (d : ℕ) (skipped : List Skipped) → list_any is_name (names_of d skipped) ≡ list_any (λ s. s.owner.0 == d && is_name s.name) skipped
  any_declared d [] = refl
  any_declared d (s ∷ skipped) = by (any_declared d skipped) (s.owner.0 == d)
    where
      by : list_any is_name (names_of d skipped) ≡ list_any (λ s. s.owner.0 == d && is_name s.name) skipped
          → (b : Bool) → list_any is_name (if b then s.name ∷ names_of d skipped else names_of d skipped) ≡ ((b && is_name s.name) || list_any (λ s. s.owner.0 == d && is_name s.name) skipped)
      by rest true = ap (λ r. is_name s.name || r) rest
      by rest false = rest

  module _ (above : List ℕ) (test : Skipped → Bool) (is : (s : Skipped) → list_any (λ d. s.owner.0 == d) above ≡ test s) where
    skipped_found : (skipped : List Skipped) → list_any (λ d. list_any (λ s. s.owner.0 == d && is_name s.name) skipped) above ≡ list_any (λ s. is_name s.name && test s) skipped
    skipped_found [] = any_none above
    skipped_found (s ∷ skipped) =
        any_or (λ d. s.owner.0 == d && is_name s.name) (λ d. list_any (λ s. s.owner.0 == d && is_name s.name) skipped) above
        ∙ ap (λ b. b || list_any (λ d. list_any (λ s. s.owner.0 == d && is_name s.name) skipped) above) (any_and (λ d. s.owner.0 == d) (is_name s.name) above)
        ∙ ap (λ b. (is_name s.name && b) || list_any (λ d. list_any (λ s. s.owner.0 == d && is_name s.name) skipped) above) (is s)
        ∙ ap (λ r. (is_name s.name && test s) || r) (skipped_found skipped)

-- ## Classes above a class

any_contained : (n : ℕ) (xs : List ℕ) → list_any (λ d. n == d) xs ≡ true → Contains xs n
any_contained n xs h =
    let found = Any-from_list_any (λ d. n == d) xs h in
    subst (Contains xs) (sym (eqb-true n found.1 found.4)) (found.0, found.2, found.3)

contained_any : (n : ℕ) (xs : List ℕ) (k : ℕ) → k < length xs → get_or xs k n ≡ n → list_any (λ d. n == d) xs ≡ true
contained_any n [] k l e = absurd (omega (arith, l))
contained_any n (x ∷ xs) zero l e = ap (λ b. b || list_any (λ d. n == d) xs) (eq-eqb n x (sym e))
contained_any n (x ∷ xs) (suc k) l e = ap (λ r. (n == x) || r) (contained_any n xs k (omega (arith, l)) e) ∙ or_true (n == x)
  where
    or_true : (b : Bool) → (b || true) ≡ true
    or_true true = refl
    or_true false = refl

-- the classes above a class, by their numbers
above_is : (meta : Parts) → IsMetamodel meta → (class : ClassId) → class.0 < length meta.classes → (above : List ℕ) → ((d : ClassId) → Contains above d.0 ↔ Conforms meta.classes class d)
    → (s : Skipped) → list_any (λ d. s.owner.0 == d) above ≡ is_sub meta class s.owner
above_is meta valid class l above each s =
    sub_inside meta.classes valid.places.supers class s.owner (list_any (λ d. s.owner.0 == d) above) l (
      λ h. (each s.owner).0 (any_contained s.owner.0 above h),
      λ h. let m = (each s.owner).1 h in contained_any s.owner.0 above m.0 m.1 m.2,
    )

-- what is added for a class
module _ (meta : Parts) (valid : IsMetamodel meta) (rows : List (List CodeKey)) (each : (d : ℕ) → names_in rows d ≡ names_of d meta.skipped) where
  pub class_sees : (class : ClassId) → class.0 < length meta.classes → (above : List ℕ) → ((d : ClassId) → Contains above d.0 ↔ Conforms meta.classes class d)
      → (n : ℕ) (q : List ℕ) → list_any (is_key n q) (flat_map (λ d. keyed class.0 (names_in rows d)) above) ≡ (class.0 == n && has_skipped meta class q)
  class_sees class l above h n q =
      any_flat (is_key n q) (λ d. keyed class.0 (names_in rows d)) above
      ∙ any_same (λ d. list_any (is_key n q) (keyed class.0 (names_in rows d))) (λ d. class.0 == n && list_any (λ s. s.owner.0 == d && bytes_eq s.name q) meta.skipped)
      (λ d. any_keyed q n class.0 (class.0 == n) refl (names_in rows d)
      ∙ ap (λ l. class.0 == n && list_any (λ t. bytes_eq t q) l) (each d)
      ∙ ap (λ b. class.0 == n && b) (any_declared q d meta.skipped))
      above
      ∙ and_any (λ d. list_any (λ s. s.owner.0 == d && bytes_eq s.name q) meta.skipped) (class.0 == n) above
      ∙ ap (λ b. class.0 == n && b) (skipped_found q above (λ s. is_sub meta class s.owner) (above_is meta valid class l above h) meta.skipped)

-- nothing is skipped in what is no class
none_in : (meta : Parts) → IsMetamodel meta → (class : ClassId) → length meta.classes ≤ class.0 → (name : List ℕ) (ss : List Skipped) → All (λ s. s.owner.0 < length meta.classes) ss
    → false ≡ list_any (λ s. bytes_eq s.name name && is_sub meta class s.owner) ss
none_in meta valid class l name [] h = refl
none_in meta valid class l name (s ∷ ss) h =
    none_in meta valid class l name ss (All-tail (λ s. s.owner.0 < length meta.classes) s ss h)
    ∙ ap (λ b. b || list_any (λ s. bytes_eq s.name name && is_sub meta class s.owner) ss) (and_none (bytes_eq s.name name) ∙ ap (λ b. bytes_eq s.name name && b) (not_sub s.owner (All-head (λ s. s.owner.0 < length meta.classes) s ss h)))
  where
    and_none : (b : Bool) → false ≡ (b && false)
    and_none true = refl
    and_none false = refl

    not_sub : (d : ClassId) → d.0 < length meta.classes → false ≡ is_sub meta class d
    not_sub d h = sym (ne_eqb class.0 d.0 (λ e. absurd (omega (arith, l, h, e)))) ∙ sub_first meta.classes valid.places.supers class d l

pub none_skipped : (meta : Parts) → IsMetamodel meta → (class : ClassId) → length meta.classes ≤ class.0 → (name : List ℕ) → false ≡ has_skipped meta class name
none_skipped meta valid class l name = none_in meta valid class l name meta.skipped valid.places.skipped

-- ## Numbers of classes

pub class_is : (n : ℕ) (c : ClassId) → class_at n ≡ Some c → c ≡ class_no n
class_is n c h = by (nat_lt n 4294967296) h
  where
    by : (b : Bool) → (if b then Some (class_no n) else None) ≡ Some c → c ≡ class_no n
    by true h = sym (same_Some (class_no n) c h)
    by false h = absurd (none-some c h)

pub no_class : (n : ℕ) → class_at n ≡ None → n < 4294967296 → ⊥
no_class n h l = by (nat_lt n 4294967296) refl h
  where
    by : (b : Bool) → nat_lt n 4294967296 ≡ b → (if b then Some (class_no n) else None) ≡ None → ⊥
    by true e h = none-some (class_no n) (sym h)
    by false e h = absurd (false≢true (sym e ∙ lt-ltb n 4294967296 l))

-- ## One class more

pub at_same : (has : ℕ → Bool) (i n : ℕ) → (i == n && has i) ≡ (i == n && has n)
at_same has i n = by (i == n) refl
  where
    by : (b : Bool) → (i == n) ≡ b → (b && has i) ≡ (b && has n)
    by true h = ap has (eqb-true i n h)
    by false h = refl

pub kept : (old : Bool) (i n : ℕ) (h : Bool) → (i ≡ n → ⊥) → (old || (i == n && h)) ≡ old
kept old i n h e = ap (λ b. old || (b && h)) (ne_eqb i n e) ∙ or_false old
  where
    or_false : (b : Bool) → (b || false) ≡ b
    or_false true = refl
    or_false false = refl

pub added : (old : Bool) (i n : ℕ) (h : Bool) → i ≡ n → old ≡ false → (old || (i == n && h)) ≡ h
added old i n h e none = ap (λ b. b || (i == n && h)) none ∙ ap (λ b. b && h) (eq-eqb i n e)

-- ## Answers without a refusal

pub on_ok : {A E P Q : Type 0} (r : Result A E) → (P → Q) → OnOk r P → OnOk r Q
on_ok (Ok x) f p = f p
on_ok (Err e) f p = p
