-- No two packages of a file without faults have one namespace or prefix, no two classifiers one name, and no two literals of
-- one enumeration one name or text.
use Rattle.std.proofs.Common.{◌≡◌, ◌≢◌, ℕ, suc, ◌+◌, ◌-◌, ◌<◌, ◌≤◌, List, [], ◌∷◌, ◌++◌, length, get_or, map, refl, sym, ap, ◌∙◌, subst, append_assoc, ⊎_elim, arith}
use Rattle.std.specs.Prelude.{Bool, true, false, ◌&&◌, ◌==◌, bytes_eq, None, All, AllPairs, if◌then◌else◌}
use Rattle.std.specs.List.{list_any}
use Rattle.std.proofs.lemmas.Bool.{or_parts, eqb-true, false_from_ne_true, cases_lt}
use Rattle.std.proofs.lemmas.List.{append-nil, length-append, get_or_append_left, get_or-append_right, get_or-map, length-map}
use Rattle.std.proofs.lemmas.List.Folds.{list_any-append, list_any_at}
use Rattle.std.proofs.lemmas.List.Quantifiers.{all_pairs_push}
use Rattle.ecore_meta.specs.Valid.{AllDiffer}
use Rattle.ecore_outline.specs.declared.outline.Role.{Role}
use Rattle.ecore_outline.specs.declared.outline.Role.TheVariants.{Package, Class, Enum, Literal}
use Rattle.ecore_outline.specs.Outline.{Entry, entry, is_package_role, is_class_role, is_enum_role, is_classifier_role, count, name_of}
use Rattle.ecore_outline.specs.Enumerations.{is_literal_role, literals_from, literals_of, literal_text}
use Rattle.xmi_read.specs.Parts.{literal_of}
use Rattle.ecore_outline.specs.Forms.{uri_of, prefix_of}
use Rattle.ecore_faults.specs.declared.fault.Kind.TheVariants.{TwiceName}
use Rattle.ecore_faults.specs.Faults.{first_fault, is_same_package, is_same_classifier, is_same_literal, classifier_twice}
use Rattle.xmi_text.proofs.Lists.{map-map}
use Rattle.xmi_read.proofs.Naming.{differ}
use Rattle.ecore_faults.proofs.Roles.{packages, classes, enums, literals}
use Rattle.ecore_faults.proofs.Sound.{Fine, fine, not_when, else_parts}
use Rattle.ecore_outline.proofs.Splits.{rows, RowAt, get_row, all_rows, pairs_of_rows, Meet, Same, Later, Earlier, meet}
use Rattle.ecore_rows.proofs.RowLists.{map-rows}
use Rattle.xmi_read.proofs.Tables.{tables, package_made, class_made, enum_made}
use Rattle.xmi_text.proofs.Tests.{true-false, false-true, right_fails, both_fail}

-- a test that fails at all of a list fails at each
pub fails_at : (test : Entry → Bool) (b : List Entry) (d : Entry) (m : List Entry) → list_any test (b ++ (d ∷ m)) ≡ false → test d ≡ false
fails_at test b d m h = (or_parts (test d) (list_any test m) (or_parts (list_any test b) (list_any test (d ∷ m)) (sym (list_any-append test b (d ∷ m)) ∙ h)).1).0

pub passes_none : {X : Type 0} (test : X → Bool) (xs : List X) (k : ℕ) (d : X) → k < length xs → list_any test xs ≡ false → test (get_or xs k d) ≡ false
passes_none test xs k d l h = false_from_ne_true (test (get_or xs k d)) (λ t. true-false (sym (list_any_at test xs k d l t) ∙ h))

pub differ_mapped : {X Z : Type 0} (f : X → Z) (xs : List X) → AllPairs (λ x y. f x ≢ f y) xs → AllDiffer (map f xs)
differ_mapped f [] h i j d l n same = absurd (omega (arith, n))
differ_mapped f (x ∷ xs) h i j d l n same =
    let m : j < length (x ∷ xs) = omega (arith, n, length-map (x ∷ xs) f) in
    h i j x l m (sym (get_or-map f (x ∷ xs) i x d (omega arith)) ∙ same ∙ get_or-map f (x ∷ xs) j x d m)

-- what differs in a list of items differs in what is made of them
differ_map : {X Y Z : Type 0} (f : X → Z) (g : Y → Z) (xs : List X) (ys : List Y) → map g ys ≡ map f xs → AllPairs (λ x y. f x ≢ f y) xs → AllDiffer (map g ys)
differ_map f g xs ys e h = subst AllDiffer (sym e) (differ_mapped f xs h)

-- two lists of which no item of the one is in the other
pub differ_append : {X : Type 0} (xs ys : List X) → AllDiffer xs → AllDiffer ys → ((i j : ℕ) (d : X) → i < length xs → j < length ys → get_or xs i d ≢ get_or ys j d) → AllDiffer (xs ++ ys)
differ_append xs ys h k f i j d l n = ⊎_elim
    (λ (low : j < length xs) (same : get_or (xs ++ ys) i d ≡ get_or (xs ++ ys) j d).
    h i j d l low (sym (get_or_append_left xs ys d i (omega arith)) ∙ same ∙ get_or_append_left xs ys d j low))
    (λ (high : length xs ≤ j). ⊎_elim
    (λ (low : i < length xs) (same : get_or (xs ++ ys) i d ≡ get_or (xs ++ ys) j d).
    f i (j - length xs) d low (omega (arith, length-append xs ys)) (sym (get_or_append_left xs ys d i low) ∙ same ∙ get_or-append_right xs ys (length xs) j d refl high))
    (λ (far : length xs ≤ i) (same : get_or (xs ++ ys) i d ≡ get_or (xs ++ ys) j d).
    k (i - length xs) (j - length xs) d (omega arith) (omega (arith, length-append xs ys))
    (sym (get_or-append_right xs ys (length xs) i d refl far) ∙ same ∙ get_or-append_right xs ys (length xs) j d refl high))
    (cases_lt i (length xs)))
    (cases_lt j (length xs))

module _ (file before : List Entry) (behind : List Entry) where
  package_alone : (e : Entry) → is_package_role e.role ≡ true → Fine file before e behind → list_any (is_same_package file e) before ≡ false
  package_alone = packages (λ e. Fine file before e behind → list_any (is_same_package file e) before ≡ false)
      (λ s f. not_when (list_any (is_same_package file (entry Package s)) before) TwiceName (name_of (entry Package s)) f.twice)

  class_alone : (e : Entry) → is_class_role e.role ≡ true → Fine file before e behind → list_any (is_same_classifier file e) before ≡ false
  class_alone = classes (λ e. Fine file before e behind → list_any (is_same_classifier file e) before ≡ false)
      (λ s f. not_when (list_any (is_same_classifier file (entry Class s)) before) TwiceName (name_of (entry Class s)) (else_parts (classifier_twice file before (entry Class s)) _ f.twice).0)

  enum_alone : (e : Entry) → is_enum_role e.role ≡ true → Fine file before e behind → list_any (is_same_classifier file e) before ≡ false
  enum_alone = enums (λ e. Fine file before e behind → list_any (is_same_classifier file e) before ≡ false)
      (λ s f. not_when (list_any (is_same_classifier file (entry Enum s)) before) TwiceName (name_of (entry Enum s)) f.twice)

  literal_alone : (e : Entry) → is_literal_role e.role ≡ true → Fine file before e behind → list_any (is_same_literal file e) (literals_of before (count is_enum_role before - 1)) ≡ false
  literal_alone = literals (λ e. Fine file before e behind → list_any (is_same_literal file e) (literals_of before (count is_enum_role before - 1)) ≡ false)
      (λ s f. not_when (list_any (is_same_literal file (entry Literal s)) (literals_of before (count is_enum_role before - 1))) TwiceName (name_of (entry Literal s)) f.twice)

-- ## Packages

class_is_classifier : (r : Role) → is_class_role r ≡ true → is_classifier_role r ≡ true
class_is_classifier Class h = refl
class_is_classifier r h = absurd (false-true h)

enum_is_classifier : (r : Role) → is_enum_role r ≡ true → is_classifier_role r ≡ true
enum_is_classifier Enum h = refl
enum_is_classifier r h = absurd (false-true h)

class_is_no_enum : (r : Role) → is_class_role r ≡ true → is_enum_role r ≡ true → ⊥
class_is_no_enum Class h k = false-true k
class_is_no_enum r h k = false-true h

module _ (file : List Entry) (none : first_fault file ≡ None) where
  packages_apart : (b : List Entry) (d : Entry) (h c : List Entry) (e : Entry) (k m : List Entry) → file ≡ c ++ (e ∷ k) → is_package_role d.role ≡ true → is_package_role e.role ≡ true → c ≡ b ++ (d ∷ m)
      → (uri_of d ≢ uri_of e) × (prefix_of d ≢ prefix_of e)
  packages_apart b d h c e k m s p q w =
      let alone : list_any (is_same_package file e) (b ++ (d ∷ m)) ≡ false = subst (λ l. list_any (is_same_package file e) l ≡ false) w (package_alone file c k e q (fine file none c e k s)) in
      let parts = both_fail (is_package_role d.role) (bytes_eq (uri_of d) (uri_of e)) (bytes_eq (prefix_of d) (prefix_of e)) p (fails_at (is_same_package file e) b d m alone) in
      (differ (uri_of d) (uri_of e) parts.0, differ (prefix_of d) (prefix_of e) parts.1)

  pub uris : AllDiffer (map (λ p. p.uri) (tables file).packages)
  uris = subst AllDiffer (sym (map-rows is_package_role (package_made file) (λ p. p.uri) [] file))
      (pairs_of_rows is_package_role (λ b e h. uri_of e) file (λ x y. x ≢ y) (λ b d h c e k m s t p q w. (packages_apart b d h c e k m t p q w).0))

  pub prefixes : AllDiffer (map (λ p. p.prefix) (tables file).packages)
  prefixes = subst AllDiffer (sym (map-rows is_package_role (package_made file) (λ p. p.prefix) [] file))
      (pairs_of_rows is_package_role (λ b e h. prefix_of e) file (λ x y. x ≢ y) (λ b d h c e k m s t p q w. (packages_apart b d h c e k m t p q w).1))

  -- ## Classifiers

  named_apart : (b : List Entry) (d : Entry) (m : List Entry) (e : Entry) → is_classifier_role d.role ≡ true → list_any (is_same_classifier file e) (b ++ (d ∷ m)) ≡ false → name_of d ≢ name_of e
  named_apart b d m e p h = differ (name_of d) (name_of e) (right_fails (is_classifier_role d.role) (bytes_eq (name_of d) (name_of e)) p (fails_at (is_same_classifier file e) b d m h))

  class_alone_here : (b : List Entry) (e : Entry) (h : List Entry) → file ≡ b ++ (e ∷ h) → is_class_role e.role ≡ true → (c : List Entry) → b ≡ c → list_any (is_same_classifier file e) c ≡ false
  class_alone_here b e h s r c w = subst (λ l. list_any (is_same_classifier file e) l ≡ false) w (class_alone file b h e r (fine file none b e h s))

  enum_alone_here : (b : List Entry) (e : Entry) (h : List Entry) → file ≡ b ++ (e ∷ h) → is_enum_role e.role ≡ true → (c : List Entry) → b ≡ c → list_any (is_same_classifier file e) c ≡ false
  enum_alone_here b e h s r c w = subst (λ l. list_any (is_same_classifier file e) l ≡ false) w (enum_alone file b h e r (fine file none b e h s))

  abbrev class_names : List (List ℕ)
  class_names = rows is_class_role (λ b e h. name_of e) [] file

  abbrev enum_names : List (List ℕ)
  enum_names = rows is_enum_role (λ b e h. name_of e) [] file

  classes_differ : AllDiffer class_names
  classes_differ = pairs_of_rows is_class_role (λ b e h. name_of e) file (λ x y. x ≢ y)
      (λ b d h c e k m s t p q w. named_apart b d m e (class_is_classifier d.role p) (class_alone_here c e k t q (b ++ (d ∷ m)) w))

  enums_differ : AllDiffer enum_names
  enums_differ = pairs_of_rows is_enum_role (λ b e h. name_of e) file (λ x y. x ≢ y)
      (λ b d h c e k m s t p q w. named_apart b d m e (enum_is_classifier d.role p) (enum_alone_here c e k t q (b ++ (d ∷ m)) w))

  class_and_enum : (i j : ℕ) (d : List ℕ) → i < length class_names → j < length enum_names → get_or class_names i d ≢ get_or enum_names j d
  class_and_enum i j d l n same = by (meet v.before w.before v.here w.here v.behind w.behind (sym v.whole ∙ w.whole))
    where
      v : RowAt is_class_role (λ b e h. name_of e) [] file i (get_or class_names i d)
      v = get_row is_class_role (λ b e h. name_of e) file i d l

      w : RowAt is_enum_role (λ b e h. name_of e) [] file j (get_or enum_names j d)
      w = get_row is_enum_role (λ b e h. name_of e) file j d n

      by : Meet v.before w.before v.here w.here v.behind w.behind → ⊥
      by (Same p q r) = class_is_no_enum w.here.role (subst (λ e. is_class_role e.role ≡ true) q v.role) w.role
      by (Later m p) = named_apart v.before v.here m w.here (class_is_classifier v.here.role v.role)
          (enum_alone_here w.before w.here w.behind w.whole w.role (v.before ++ (v.here ∷ m)) p) (sym v.made ∙ same ∙ w.made)
      by (Earlier m p) = named_apart w.before w.here m v.here (enum_is_classifier w.here.role w.role)
          (class_alone_here v.before v.here v.behind v.whole v.role (w.before ++ (w.here ∷ m)) p) (sym w.made ∙ sym same ∙ v.made)

  pub classifiers : AllDiffer (map (λ c. c.name) (tables file).classes ++ map (λ e. e.name) (tables file).enums)
  classifiers = subst AllDiffer
      (ap (λ xs. xs ++ enum_names) (sym (map-rows is_class_role (class_made file) (λ c. c.name) [] file))
      ∙ ap (λ ys. map (λ c. c.name) (tables file).classes ++ ys) (sym (map-rows is_enum_role (enum_made file) (λ e. e.name) [] file)))
      (differ_append class_names enum_names classes_differ enums_differ class_and_enum)

  -- ## Literals
  abbrev Apart : Entry → Entry → Type 0
  Apart d e = (name_of d ≢ name_of e) × (literal_text d ≢ literal_text e)

  apart : (e d : Entry) → is_same_literal file e d ≡ false → Apart d e
  apart e d h =
      let p = or_parts (bytes_eq (name_of d) (name_of e)) (bytes_eq (literal_text d) (literal_text e)) h in
      (differ (name_of d) (name_of e) p.0, differ (literal_text d) (literal_text e) p.1)

  -- one element more
  literals_more : (enum n : ℕ) (b : List Entry) (e : Entry) → literals_from enum n (b ++ (e ∷ [])) ≡ literals_from enum n b ++ literals_from enum (n + count is_enum_role b) (e ∷ [])
  literals_more enum n [] e = ap (λ m. literals_from enum m (e ∷ [])) zero_more
    where
      zero_more : n ≡ n + 0
      zero_more = omega arith
  literals_more enum n (d ∷ b) e = by (is_enum_role d.role) (is_literal_role d.role && n == suc enum) (literals_more enum n b e) (literals_more enum (suc n) b e)
    where
      by : (t u : Bool) → literals_from enum n (b ++ (e ∷ [])) ≡ literals_from enum n b ++ literals_from enum (n + count is_enum_role b) (e ∷ [])
          → literals_from enum (suc n) (b ++ (e ∷ [])) ≡ literals_from enum (suc n) b ++ literals_from enum (suc n + count is_enum_role b) (e ∷ [])
          → (if t then literals_from enum (suc n) (b ++ (e ∷ [])) else (if u then d ∷ literals_from enum n (b ++ (e ∷ [])) else literals_from enum n (b ++ (e ∷ []))))
          ≡ (if t then literals_from enum (suc n) b else (if u then d ∷ literals_from enum n b else literals_from enum n b)) ++ literals_from enum (n + (if t then suc (count is_enum_role b) else count is_enum_role b)) (e ∷ [])
      by true u h k =
          let same : suc n + count is_enum_role b ≡ n + suc (count is_enum_role b) = omega arith in
          k ∙ ap (λ m. literals_from enum (suc n) b ++ literals_from enum m (e ∷ [])) same
      by false true h k = ap (λ l. d ∷ l) h
      by false false h k = h

  literals_grow : (enum : ℕ) (b : List Entry) (e : Entry) (h : List Entry) → file ≡ b ++ (e ∷ h) → AllPairs Apart (literals_of b enum) → AllPairs Apart (literals_of (b ++ (e ∷ [])) enum)
  literals_grow enum b e h s a = subst (AllPairs Apart) (sym (literals_more enum 0 b e)) (by (is_enum_role e.role) (is_literal_role e.role) ((0 + count is_enum_role b) == suc enum) refl refl)
    where
      nothing : AllPairs Apart (literals_of b enum ++ [])
      nothing = subst (AllPairs Apart) (sym (append-nil (literals_of b enum))) a

      by : (t u v : Bool) → is_literal_role e.role ≡ u → ((0 + count is_enum_role b) == suc enum) ≡ v
          → AllPairs Apart (literals_of b enum ++ (if t then [] else (if u && v then e ∷ [] else [])))
      by true u v p q = nothing
      by false false v p q = nothing
      by false true false p q = nothing
      by false true true p q =
          let number : 0 + count is_enum_role b ≡ suc enum = eqb-true (0 + count is_enum_role b) (suc enum) q in
          let here : count is_enum_role b - 1 ≡ enum = omega arith in
          let alone : list_any (is_same_literal file e) (literals_of b enum) ≡ false =
          subst (λ n. list_any (is_same_literal file e) (literals_of b n) ≡ false) here (literal_alone file b h e p (fine file none b e h s)) in
          all_pairs_push Apart (literals_of b enum) e a (λ k d l. apart e (get_or (literals_of b enum) k d) (passes_none (is_same_literal file e) (literals_of b enum) k d l alone))

  literals_apart : (enum : ℕ) (b rest : List Entry) → file ≡ b ++ rest → AllPairs Apart (literals_of b enum) → AllPairs Apart (literals_of (b ++ rest) enum)
  literals_apart enum b [] s a = subst (λ l. AllPairs Apart (literals_of l enum)) (sym (append-nil b)) a
  literals_apart enum b (e ∷ rest) s a =
      subst (λ l. AllPairs Apart (literals_of l enum)) (append_assoc b (e ∷ []) rest)
      (literals_apart enum (b ++ (e ∷ [])) rest (s ∙ sym (append_assoc b (e ∷ []) rest)) (literals_grow enum b e rest s a))

  pub literals_differ : All (λ e. AllDiffer (map (λ l. l.name) e.literals) × AllDiffer (map (λ l. l.text) e.literals)) (tables file).enums
  literals_differ = all_rows is_enum_role (enum_made file) file (λ e. AllDiffer (map (λ l. l.name) e.literals) × AllDiffer (map (λ l. l.text) e.literals))
      (λ b e h s r.
      let n : ℕ = count is_enum_role b in
      let list : AllPairs Apart (literals_of file n) = literals_apart n [] file refl (λ i j d l m. absurd (omega (arith, m))) in (
        differ_map (λ l. name_of l) (λ l. l.name) (literals_of file n) (map (literal_of file) (literals_of file n)) (map-map (λ l. l.name) (literal_of file) (literals_of file n)) (λ i j d l m. (list i j d l m).0),
        differ_map (λ l. literal_text l) (λ l. l.text) (literals_of file n) (map (literal_of file) (literals_of file n)) (map-map (λ l. l.text) (literal_of file) (literals_of file n)) (λ i j d l m. (list i j d l m).1),
      ))
