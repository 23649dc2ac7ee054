-- What the tables answer is what the metamodel says.
use Rattle.std.proofs.Common.{◌≡◌, ◌≢◌, ℕ, zero, suc, ◌+◌, ◌<◌, ◌≤◌, List, [], ◌∷◌, map, refl, sym, ap, ◌∙◌, ⊎_elim, arith}
use Rattle.std.specs.Prelude.{Bool, true, false, ◌==◌, ◌&&◌, ◌||◌, bytes_eq, position, slice_get, is_some, option_map, Option, Some, None, if◌then◌else◌}
use Rattle.std.specs.Option.{option_map_or}
use Rattle.std.specs.List.{list_any, position_from}
use Rattle.std.proofs.lemmas.Bool.{eqb-true, eq-eqb, ne_eqb, false≢true, cases_lt}
use Rattle.std.proofs.lemmas.Iterator.Adapters.{position_from-zero}
use Rattle.std.proofs.lemmas.List.{length-map}
use Rattle.std.proofs.lemmas.List.Folds.{list_any-append}
use Rattle.std.proofs.lemmas.Option.{none-some, slice_get_within, get_or_from_slice_get, slice_get-map}
use Rattle.std.proofs.lemmas.Slice.Eq.{bytes_eq-Decides}
use Rattle.ecore_meta.specs.declared.parts.EnumDef.{EnumDef}
use Rattle.ecore_meta.specs.declared.parts.Literal.{Literal}
use Rattle.ecore_meta.specs.declared.parts.Package.{Package}
use Rattle.ecore_meta.specs.declared.parts.Parts.{Parts}
use Rattle.ecore_meta.specs.Valid.{AllDiffer}
use Rattle.xmi_text.specs.Keys.{is_key, place_of}
use Rattle.xmi_text.specs.Options.{then_}
use Rattle.xmi_text.proofs.Positions.{position_same, position_map, position_none, position_at, position_any}
use Rattle.xmi_names.specs.Names.{is_class_named}
use Rattle.xmi_names.specs.Tables.{package_key, class_key, literal_key, literal_keys_from, literal_keys}
use Rattle.xmi_names.proofs.Inheriting.{agree}

-- ## The one that passes a test

none_passes : {X : Type 0} (t : X → Bool) (i : ℕ) (xs : List X) → position_from t i xs ≡ None → (n : ℕ) → option_map_or t (slice_get xs n) false ≡ false
none_passes t i [] h n = refl
none_passes {X = X} t i (x ∷ xs) h n = by (λ g k. none_passes t (i + 1) xs g k) (t x) refl h n
  where
    by : (position_from t (i + 1) xs ≡ None → (n : ℕ) → option_map_or t (slice_get xs n) false ≡ false)
        → (b : Bool) → t x ≡ b → (if b then Some i else position_from t (i + 1) xs) ≡ None → (n : ℕ) → option_map_or t (slice_get (x ∷ xs) n) false ≡ false
    by rest true e h n = absurd (none-some i (sym h))
    by rest false e h zero = e
    by rest false e h (suc n) = rest h n

module _ {X : Type 0} (t : X → Bool) (xs : List X) (one : (j k : ℕ) (x y : X) → slice_get xs j ≡ Some x → slice_get xs k ≡ Some y → t x ≡ true → t y ≡ true → j ≡ k) where
  passing_is : (n : ℕ) → option_map_or t (slice_get xs n) false ≡ true → (y : X) × (slice_get xs n ≡ Some y) × (t y ≡ true)
  passing_is n h = by (slice_get xs n) h
    where
      by : (o : Option X) → option_map_or t o false ≡ true → (y : X) × (o ≡ Some y) × (t y ≡ true)
      by (Some y) h = (y, refl, h)
      by None h = absurd (false≢true h)

  only : (n : ℕ) → option_map_or t (slice_get xs n) false ≡ option_map_or (λ k. k == n) (position_from t 0 xs) false
  only n = by (position_from t 0 xs) refl
    where
      by : (o : Option ℕ) → position_from t 0 xs ≡ o → option_map_or t (slice_get xs n) false ≡ option_map_or (λ k. k == n) o false
      by None e = none_passes t 0 xs e n
      by (Some k) e =
          let at = position_at t 0 xs k e in
          let there : slice_get xs k ≡ Some at.0 = ap (slice_get xs) (omega arith) ∙ at.1 in
          agree (option_map_or t (slice_get xs n) false) (k == n)
          (λ h. let p = passing_is n h in eq-eqb k n (one k n at.0 p.0 there p.1 at.2 p.2))
          (λ h. ap (λ o. option_map_or t o false) (ap (slice_get xs) (sym (eqb-true k n h)) ∙ there) ∙ at.2)

-- ## Classes by package and name

module _ (packages : List Package) (differ : AllDiffer (map (λ p. p.uri) packages)) (space : List ℕ) where
  abbrev is_package : Package → Bool
  is_package p = bytes_eq p.uri space

  ordered : (j k : ℕ) (x y : Package) → j < k → slice_get packages j ≡ Some x → slice_get packages k ≡ Some y → x.uri ≢ y.uri
  ordered j k x y l a b e = differ j k [] l
      (omega (arith, slice_get_within packages k y b, length-map packages (λ p. p.uri)))
      (get_or_from_slice_get (map (λ p. p.uri) packages) j x.uri [] (slice_get-map (λ p. p.uri) packages j ∙ ap (option_map (λ p. p.uri)) a)
      ∙ e
      ∙ sym (get_or_from_slice_get (map (λ p. p.uri) packages) k y.uri [] (slice_get-map (λ p. p.uri) packages k ∙ ap (option_map (λ p. p.uri)) b)))

  uri_is : (x : Package) → is_package x ≡ true → x.uri ≡ space
  uri_is x h = (bytes_eq-Decides x.uri space).0 h

  one : (j k : ℕ) (x y : Package) → slice_get packages j ≡ Some x → slice_get packages k ≡ Some y → is_package x ≡ true → is_package y ≡ true → j ≡ k
  one j k x y a b p q = ⊎_elim
      (λ (l : j < k). absurd (ordered j k x y l a b (uri_is x p ∙ sym (uri_is y q))))
      (λ (l : k ≤ j). ⊎_elim
      (λ (m : k < j). absurd (ordered k j y x m b a (uri_is y q ∙ sym (uri_is x p))))
      (λ (m : j ≤ k). omega (arith, l, m))
      (cases_lt k j))
      (cases_lt j k)

  pub package_is : (n : ℕ) → option_map_or is_package (slice_get packages n) false ≡ option_map_or (λ k. k == n) (place_of 0 space (map package_key packages)) false
  package_is n = only is_package packages one n ∙ ap (λ o. option_map_or (λ k. k == n) o false) (sym (position_map (is_key 0 space) package_key 0 packages))

both_ways : (a b : ℕ) (x : Bool) → (x && a == b) ≡ (b == a && x)
both_ways a b x = by x (agree (a == b) (b == a) (λ h. eq-eqb b a (sym (eqb-true a b h))) (λ h. eq-eqb a b (sym (eqb-true b a h))))
  where
    by : (x : Bool) → (a == b) ≡ (b == a) → (x && a == b) ≡ (b == a && x)
    by true e = e ∙ and_true (b == a)
      where
        and_true : (c : Bool) → c ≡ (c && true)
        and_true true = refl
        and_true false = refl
    by false e = and_false (b == a)
      where
        and_false : (c : Bool) → false ≡ (c && false)
        and_false true = refl
        and_false false = refl

-- the first class of a name in the package of a namespace
pub class_found : (meta : Parts) → AllDiffer (map (λ p. p.uri) meta.packages) → (space name : List ℕ)
    → position (is_class_named meta space name) meta.classes
    ≡ then_ (place_of 0 space (map package_key meta.packages)) (λ number. place_of number name (map class_key meta.classes))
class_found meta differ space name =
    position_from-zero (is_class_named meta space name) meta.classes ∙ by (place_of 0 space (map package_key meta.packages)) refl
  where
    by : (o : Option ℕ) → place_of 0 space (map package_key meta.packages) ≡ o
        → position_from (is_class_named meta space name) 0 meta.classes ≡ then_ o (λ number. place_of number name (map class_key meta.classes))
    by None e =
        position_same (is_class_named meta space name) (λ class. false)
        (λ class. ap (λ b. bytes_eq class.name name && b) (package_is meta.packages differ space class.«package» ∙ ap (λ o. option_map_or (λ k. k == class.«package») o false) e) ∙ and_false (bytes_eq class.name name))
        0 meta.classes
        ∙ position_none 0 meta.classes
      where
        and_false : (c : Bool) → (c && false) ≡ false
        and_false true = refl
        and_false false = refl
    by (Some number) e =
        position_same (is_class_named meta space name) (λ class. is_key number name (class_key class))
        (λ class. ap (λ b. bytes_eq class.name name && b) (package_is meta.packages differ space class.«package» ∙ ap (λ o. option_map_or (λ k. k == class.«package») o false) e)
        ∙ both_ways number class.«package» (bytes_eq class.name name))
        0 meta.classes
        ∙ sym (position_map (is_key number name) class_key 0 meta.classes)

-- ## Literals by enumeration and text

or_false : (a : Bool) → (a || false) ≡ a
or_false true = refl
or_false false = refl

module _ (text : List ℕ) where
  abbrev is_text : Literal → Bool
  is_text l = bytes_eq l.text text

  in_one : (n m : ℕ) (b : Bool) → (n == m) ≡ b → (ls : List Literal) → list_any (is_key m text) (map (literal_key n) ls) ≡ (b && list_any is_text ls)
  in_one n m true h [] = refl
  in_one n m false h [] = refl
  in_one n m b h (l ∷ ls) =
      ap (λ c. (c && is_text l) || list_any (is_key m text) (map (literal_key n) ls)) h
      ∙ ap (λ r. (b && is_text l) || r) (in_one n m b h ls)
      ∙ together b (is_text l) (list_any is_text ls)
    where
      together : (b x y : Bool) → ((b && x) || (b && y)) ≡ (b && (x || y))
      together true x y = refl
      together false x y = refl

  past : (m n : ℕ) → m < n → (es : List EnumDef) → list_any (is_key m text) (literal_keys_from n es) ≡ false
  past m n h [] = refl
  past m n h (e ∷ es) =
      list_any-append (is_key m text) (map (literal_key n) e.literals) (literal_keys_from (suc n) es)
      ∙ ap (λ r. list_any (is_key m text) (map (literal_key n) e.literals) || r) (past m (suc n) (omega (arith, h)) es)
      ∙ ap (λ r. r || false) (in_one n m false (ne_eqb n m (λ q. absurd (omega (arith, h, q)))) e.literals)

  among : (m n k : ℕ) → m ≡ n + k → (es : List EnumDef) → list_any (is_key m text) (literal_keys_from n es) ≡ list_any is_text (option_map_or (λ d. d.literals) (slice_get es k) [])
  among m n k h [] = refl
  among m n zero h (e ∷ es) =
      list_any-append (is_key m text) (map (literal_key n) e.literals) (literal_keys_from (suc n) es)
      ∙ ap (λ r. list_any (is_key m text) (map (literal_key n) e.literals) || r) (past m (suc n) (omega (arith, h)) es)
      ∙ ap (λ r. r || false) (in_one n m true (eq-eqb n m (omega (arith, h))) e.literals)
      ∙ or_false (list_any is_text e.literals)
  among m n (suc k) h (e ∷ es) =
      list_any-append (is_key m text) (map (literal_key n) e.literals) (literal_keys_from (suc n) es)
      ∙ ap (λ r. r || list_any (is_key m text) (literal_keys_from (suc n) es)) (in_one n m false (ne_eqb n m (λ q. absurd (omega (arith, h, q)))) e.literals)
      ∙ among m (suc n) k (omega (arith, h)) es

  pub literal_found : (enumeration : ℕ) (es : List EnumDef) → is_some (place_of enumeration text (literal_keys es)) ≡ list_any is_text (option_map_or (λ d. d.literals) (slice_get es enumeration) [])
  literal_found enumeration es = position_any (is_key enumeration text) 0 (literal_keys es) ∙ among enumeration 0 enumeration (omega arith) es
