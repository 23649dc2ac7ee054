-- The first classifier that a path names is the first of its name in a package that the path names: by the package's number, or
-- by the package's name.
use Rattle.std.proofs.Common.{◌≡◌, ℕ, zero, suc, ◌+◌, ◌-◌, ◌≤◌, List, [], ◌∷◌, ◌++◌, length, map, refl, sym, ap, ◌∙◌, arith}
use Rattle.std.specs.Prelude.{Bool, true, false, cond, ◌==◌, ◌&&◌, ◌||◌, bytes_eq, Option, Some, None, option_map, slice_get, find, if◌then◌else◌}
use Rattle.std.specs.List.{position_from}
use Rattle.std.specs.Option.{option_map_or}
use Rattle.std.proofs.lemmas.Bool.{eq-eqb, eqb-true, ne_eqb}
use Rattle.std.proofs.lemmas.List.{append-nil, append_assoc}
use Rattle.std.proofs.lemmas.Option.{none-some, same_Some}
use Rattle.std.proofs.lemmas.Slice.Eq.{bytes_eq-Decides}
use Rattle.ecore_meta.specs.Valid.{number_of}
use Rattle.ecore_names.specs.declared.classifiers.Targets.{Targets}
use Rattle.ecore_outline.specs.Outline.{Entry, is_classifier_role, is_package_role, name_of}
use Rattle.xmi_text.specs.Fragments.{Path}
use Rattle.xmi_text.specs.Numbers.{is_number}
use Rattle.xmi_text.specs.Options.{then_, earlier}
use Rattle.ecore_names.specs.References.{Target, Stand, first_stand, past, target_here, is_holder, target_from, target}
use Rattle.xmi_text.specs.Keys.{Key, is_key, place_of, has_place}
use Rattle.ecore_names.specs.Classifiers.{Classifier, classifier_here, classifiers_from, classifiers_in, is_named, is_numbered, is_of_holder, holders_from, holders_in, alias_of, Row, row_in, named, numbered, aliased, row_target, row_data, data_of}
use Rattle.ecore_names.specs.FileTables.{rows_of, rows_in, AreTargets}
use Rattle.xmi_text.proofs.Positions.{position_same, position_map, position_none, position_past, position_at, position_either, found_at}
use Rattle.xmi_text.proofs.Tests.{same_tests, false-true}

-- ## Tests either way

either_way : (a b : List ℕ) → bytes_eq a b ≡ bytes_eq b a
either_way a b = same_tests (bytes_eq a b) (bytes_eq b a)
    (λ h. (bytes_eq-Decides b a).1 (sym ((bytes_eq-Decides a b).0 h)))
    (λ h. (bytes_eq-Decides a b).1 (sym ((bytes_eq-Decides b a).0 h)))

numbers_either_way : (m n : ℕ) → (m == n) ≡ (n == m)
numbers_either_way m n = same_tests (m == n) (n == m) (λ h. eq-eqb n m (sym (eqb-true m n h))) (λ h. eq-eqb m n (sym (eqb-true n m h)))

and_true : (a : Bool) → (a && true) ≡ a
and_true true = refl
and_true false = refl

and_swap : (a b : Bool) → (a && b) ≡ (b && a)
and_swap true b = sym (and_true b)
and_swap false true = refl
and_swap false false = refl

-- ## A path's target is the first classifier that it names

module _ (p : Path) where
  first_here : (s : Stand) (es : List Entry) → target_from p s es ≡ option_map (λ c. c.target) (find (is_named p) (classifiers_from s es))
  first_here s [] = refl
  first_here s (e ∷ es) = by (is_classifier_role e.role) (first_here (past s e) es)
    where
      choose : (a b c : Bool) (later : Option Target) (found : Option Classifier) → a ≡ b → later ≡ option_map (λ k. k.target) found
          → (if a && c then Some (target_here s e) else later) ≡ option_map (λ k. k.target) (cond (b && c) (Some (classifier_here s e)) found)
      choose true true true later found h k = refl
      choose true true false later found h k = k
      choose false false c later found h k = k
      choose true false c later found h k = absurd (false-true (sym h))
      choose false true c later found h k = absurd (false-true h)

      by : (k : Bool) → target_from p (past s e) es ≡ option_map (λ c. c.target) (find (is_named p) (classifiers_from (past s e) es))
          → (if k && bytes_eq (name_of e) p.name && is_holder p (s.packages - 1) s.holder then Some (target_here s e) else target_from p (past s e) es)
          ≡ option_map (λ c. c.target) (find (is_named p) (if k then classifier_here s e ∷ classifiers_from (past s e) es else classifiers_from (past s e) es))
      by true h = choose (bytes_eq (name_of e) p.name) (bytes_eq p.name (name_of e)) (is_holder p (s.packages - 1) s.holder)
          (target_from p (past s e) es) (find (is_named p) (classifiers_from (past s e) es)) (either_way (name_of e) p.name) h
      by false h = h

  row_at : (keys : List Key) (cs : List Classifier) (k : ℕ) → slice_get (map (λ c. c.target) cs) k ≡ option_map row_target (slice_get (map (row_in keys) cs) k)
  row_at keys [] k = refl
  row_at keys (c ∷ cs) zero = refl
  row_at keys (c ∷ cs) (suc k) = row_at keys cs k

  pub target_is : (file : List Entry) (t : Targets) → AreTargets file t
      → target file p ≡ then_ (position_from (is_named p) 0 (classifiers_in file)) (λ k. option_map row_target (slice_get (rows_of t.rows.items) k))
  target_is file t h =
      first_here first_stand file
      ∙ found_at (is_named p) (λ c. c.target) (classifiers_in file)
      ∙ by (position_from (is_named p) 0 (classifiers_in file))
      ∙ ap (λ l. then_ (position_from (is_named p) 0 (classifiers_in file)) (λ k. option_map row_target (slice_get l k))) (sym h.rows)
    where
      by : (o : Option ℕ) → then_ o (slice_get (map (λ c. c.target) (classifiers_in file))) ≡ then_ o (λ k. option_map row_target (slice_get (rows_in file) k))
      by None = refl
      by (Some k) = row_at (holders_in file) (classifiers_in file) k

  data_row : (keys : List Key) (cs : List Classifier) (k : ℕ) → option_map data_of (slice_get (map (λ c. c.target) cs) k) ≡ option_map row_data (slice_get (map (row_in keys) cs) k)
  data_row keys [] k = refl
  data_row keys (c ∷ cs) zero = refl
  data_row keys (c ∷ cs) (suc k) = data_row keys cs k

  pub data_is : (file : List Entry) (t : Targets) → AreTargets file t
      → option_map data_of (target file p) ≡ then_ (position_from (is_named p) 0 (classifiers_in file)) (λ k. option_map row_data (slice_get (rows_of t.rows.items) k))
  data_is file t h =
      ap (option_map data_of) (first_here first_stand file ∙ found_at (is_named p) (λ c. c.target) (classifiers_in file))
      ∙ by (position_from (is_named p) 0 (classifiers_in file))
      ∙ ap (λ l. then_ (position_from (is_named p) 0 (classifiers_in file)) (λ k. option_map row_data (slice_get l k))) (sym h.rows)
    where
      by : (o : Option ℕ) → option_map data_of (then_ o (slice_get (map (λ c. c.target) (classifiers_in file)))) ≡ then_ o (λ k. option_map row_data (slice_get (rows_in file) k))
      by None = refl
      by (Some k) = data_row (holders_in file) (classifiers_in file) k

  -- ## In any package

  holder_any : (a b c : Bool) → a ≡ true → (a || b || c) ≡ true
  holder_any true b c h = refl
  holder_any false b c h = absurd (false-true h)

  pub any_is : (file : List Entry) (t : Targets) → AreTargets file t → bytes_eq p.holder [] ≡ true → has_place t.names 0 p.name ≡ position_from (is_named p) 0 (classifiers_in file)
  any_is file t h a =
      h.names 0 p.name
      ∙ position_map (is_key 0 p.name) named 0 (rows_in file)
      ∙ position_map (λ r. is_key 0 p.name (named r)) (row_in (holders_in file)) 0 (classifiers_in file)
      ∙ position_same (λ c. is_key 0 p.name (0, c.name)) (is_named p) same 0 (classifiers_in file)
    where
      same : (c : Classifier) → is_key 0 p.name (0, c.name) ≡ is_named p c
      same c =
          either_way c.name p.name
          ∙ sym (and_true (bytes_eq p.name c.name))
          ∙ ap (λ b. bytes_eq p.name c.name && b) (sym (holder_any (bytes_eq p.holder []) (is_number p.holder && number_of p.holder == c.number) (bytes_eq p.holder c.holder) a))

  -- ## In a package of a number, or of a name

  either : (n a b d : Bool) → a ≡ false → (n && (a || b || d)) ≡ ((b && n) || (d && n))
  either n true b d h = absurd (false-true (sym h))
  either true false true d h = refl
  either true false false true h = refl
  either true false false false h = refl
  either false false true true h = refl
  either false false true false h = refl
  either false false false true h = refl
  either false false false false h = refl

  pub either_is : (file : List Entry) → bytes_eq p.holder [] ≡ false
      → earlier (position_from (is_numbered p) 0 (classifiers_in file)) (position_from (is_of_holder p) 0 (classifiers_in file)) ≡ position_from (is_named p) 0 (classifiers_in file)
  either_is file a =
      sym (position_either (is_numbered p) (is_of_holder p) 0 (classifiers_in file))
      ∙ position_same (λ c. is_numbered p c || is_of_holder p c) (is_named p)
      (λ c. sym (either (bytes_eq p.name c.name) (bytes_eq p.holder []) (is_number p.holder && number_of p.holder == c.number) (bytes_eq p.holder c.holder) a)) 0 (classifiers_in file)

  -- ## By number

  pub no_number : (cs : List Classifier) → is_number p.holder ≡ false → position_from (is_numbered p) 0 cs ≡ None
  no_number cs h =
      position_same (is_numbered p) (λ c. false) (λ c. ap (λ b. (b && number_of p.holder == c.number) && bytes_eq p.name c.name) h) 0 cs
      ∙ position_none 0 cs

  none_so_great : (s : Stand) (i : ℕ) (es : List Entry) → s.packages + length es ≤ number_of p.holder → position_from (is_numbered p) i (classifiers_from s es) ≡ None
  none_so_great s i [] l = refl
  none_so_great s i (e ∷ es) l =
      by (is_classifier_role e.role) (none_so_great (past s e) (i + 1) es (further (is_package_role e.role))) (none_so_great (past s e) i es (further (is_package_role e.role)))
    where
      further : (b : Bool) → (if b then suc s.packages else s.packages) + length es ≤ number_of p.holder
      further true = omega (arith, l)
      further false = omega (arith, l)

      fails : is_numbered p (classifier_here s e) ≡ false
      fails = by (is_number p.holder)
        where
          by : (b : Bool) → ((b && number_of p.holder == (s.packages - 1)) && bytes_eq p.name (name_of e)) ≡ false
          by true = ap (λ b. b && bytes_eq p.name (name_of e)) (ne_eqb (number_of p.holder) (s.packages - 1) (λ q. omega (arith, q, l)))
          by false = refl

      by : (k : Bool) → position_from (is_numbered p) (i + 1) (classifiers_from (past s e) es) ≡ None → position_from (is_numbered p) i (classifiers_from (past s e) es) ≡ None
          → position_from (is_numbered p) i (if k then classifier_here s e ∷ classifiers_from (past s e) es else classifiers_from (past s e) es) ≡ None
      by true h g = ap (λ b. cond b (Some i) (position_from (is_numbered p) (i + 1) (classifiers_from (past s e) es))) fails ∙ h
      by false h g = g

  pub too_great : (file : List Entry) → length file ≤ number_of p.holder → position_from (is_numbered p) 0 (classifiers_in file) ≡ None
  too_great file l = none_so_great first_stand 0 file (omega (arith, l))

  pub number_is : (file : List Entry) (t : Targets) → AreTargets file t → is_number p.holder ≡ true → has_place t.numbers (number_of p.holder) p.name ≡ position_from (is_numbered p) 0 (classifiers_in file)
  number_is file t h a =
      h.numbers (number_of p.holder) p.name
      ∙ position_map (is_key (number_of p.holder) p.name) numbered 0 (rows_in file)
      ∙ position_map (λ r. is_key (number_of p.holder) p.name (numbered r)) (row_in (holders_in file)) 0 (classifiers_in file)
      ∙ position_same (λ c. is_key (number_of p.holder) p.name (c.number, c.name)) (is_numbered p) same 0 (classifiers_in file)
    where
      same : (c : Classifier) → is_key (number_of p.holder) p.name (c.number, c.name) ≡ is_numbered p c
      same c =
          ap (λ b. b && bytes_eq c.name p.name) (numbers_either_way c.number (number_of p.holder))
          ∙ ap (λ b. (number_of p.holder == c.number) && b) (either_way c.name p.name)
          ∙ ap (λ b. (b && number_of p.holder == c.number) && bytes_eq p.name c.name) (sym a)

  -- ## By name

  module _ (some : bytes_eq p.holder [] ≡ false) where
    not_empty : is_key 0 p.holder (0, []) ≡ false
    not_empty = either_way [] p.holder ∙ some

    behind : (file : List Entry) → place_of 0 p.holder (holders_in file) ≡ position_from (is_key 0 p.holder) 1 (holders_from file)
    behind file = ap (λ b. cond b (Some 0) (position_from (is_key 0 p.holder) 1 (holders_from file))) not_empty

    none_before : (s : Stand) (i j : ℕ) (es : List Entry) → bytes_eq p.holder s.holder ≡ false → position_from (is_key 0 p.holder) j (holders_from es) ≡ None
        → position_from (is_of_holder p) i (classifiers_from s es) ≡ None
    none_before s i j [] a h = refl
    none_before s i j (e ∷ es) a h =
        let r = by (is_package_role e.role) h in
        step (is_classifier_role e.role) (classifiers_from (past s e) es) (λ n. none_before (past s e) n r.1 es r.0 r.2)
      where
        step : (k : Bool) (rest : List Classifier) → ((n : ℕ) → position_from (is_of_holder p) n rest ≡ None) → position_from (is_of_holder p) i (if k then classifier_here s e ∷ rest else rest) ≡ None
        step true rest r = ap (λ b. cond (b && bytes_eq p.name (name_of e)) (Some i) (position_from (is_of_holder p) (i + 1) rest)) a ∙ r (i + 1)
        step false rest r = r i

        fails : (b : Bool) (o : Option ℕ) → cond b (Some j) o ≡ None → (b ≡ false) × (o ≡ None)
        fails true o h = absurd (none-some j (sym h))
        fails false o h = (refl, h)

        by : (k : Bool) → position_from (is_key 0 p.holder) j (if k then (0, name_of e) ∷ holders_from es else holders_from es) ≡ None
            → (bytes_eq p.holder (if k then name_of e else s.holder) ≡ false) × (m : ℕ) × (position_from (is_key 0 p.holder) m (holders_from es) ≡ None)
        by true h =
            let r = fails (is_key 0 p.holder (0, name_of e)) (position_from (is_key 0 p.holder) (j + 1) (holders_from es)) h in
            (either_way p.holder (name_of e) ∙ r.0, j + 1, r.1)
        by false h = (a, j, h)

    pub no_holder : (file : List Entry) → place_of 0 p.holder (holders_in file) ≡ None → position_from (is_of_holder p) 0 (classifiers_in file) ≡ None
    no_holder file h = none_before first_stand 0 1 file some (sym (behind file) ∙ h)

    -- the place of a name tells the name
    text_at : (keys : List Key) (q r : List ℕ) (a : ℕ) → place_of 0 q keys ≡ Some a → place_of 0 r keys ≡ Some a → q ≡ r
    text_at keys q r a h k =
        let one = position_at (is_key 0 q) 0 keys a h in
        let two = position_at (is_key 0 r) 0 keys a k in
        let same : one.0 ≡ two.0 = same_Some one.0 two.0 (sym one.1 ∙ two.1) in
        sym ((bytes_eq-Decides one.0.1 q).0 (and_right (one.0.0 == 0) (bytes_eq one.0.1 q) one.2)) ∙ ap (λ k. k.1) same ∙ (bytes_eq-Decides two.0.1 r).0 (and_right (two.0.0 == 0) (bytes_eq two.0.1 r) two.2)
      where
        and_right : (a b : Bool) → (a && b) ≡ true → b ≡ true
        and_right true b h = h
        and_right false b h = absurd (false-true h)

    alias_tells : (file : List Entry) (a : ℕ) (q : List ℕ) → place_of 0 p.holder (holders_in file) ≡ Some a → (alias_of (holders_in file) q == a) ≡ bytes_eq q p.holder
    alias_tells file a q h =
        same_tests (alias_of (holders_in file) q == a) (bytes_eq q p.holder)
        (λ e. (bytes_eq-Decides q p.holder).1 (there (place_of 0 q (holders_in file)) refl (eqb-true (alias_of (holders_in file) q) a e)))
        (λ e. eq-eqb (alias_of (holders_in file) q) a (ap (alias_of (holders_in file)) ((bytes_eq-Decides q p.holder).0 e) ∙ ap (λ o. option_map_or (λ place. place) o 0) h))
      where
        above : 1 ≤ a
        above = position_past (is_key 0 p.holder) 1 (holders_from file) a (sym (behind file) ∙ h)

        there : (o : Option ℕ) → place_of 0 q (holders_in file) ≡ o → option_map_or (λ place. place) (place_of 0 q (holders_in file)) 0 ≡ a → q ≡ p.holder
        there None e s =
            let none : 0 ≡ a = sym (ap (λ o. option_map_or (λ place. place) o 0) e) ∙ s in
            absurd (omega (arith, none, above))
        there (Some b) e s =
            let it : b ≡ a = sym (ap (λ o. option_map_or (λ place. place) o 0) e) ∙ s in
            text_at (holders_in file) q p.holder a (e ∙ ap Some it) h

    pub holder_is : (file : List Entry) (t : Targets) → AreTargets file t → (a : ℕ) → place_of 0 p.holder (holders_in file) ≡ Some a
        → has_place t.aliases a p.name ≡ position_from (is_of_holder p) 0 (classifiers_in file)
    holder_is file t h a k =
        h.aliases a p.name
        ∙ position_map (is_key a p.name) aliased 0 (rows_in file)
        ∙ position_map (λ r. is_key a p.name (aliased r)) (row_in (holders_in file)) 0 (classifiers_in file)
        ∙ position_same (λ c. is_key a p.name (alias_of (holders_in file) c.holder, c.name)) (is_of_holder p) same 0 (classifiers_in file)
      where
        same : (c : Classifier) → is_key a p.name (alias_of (holders_in file) c.holder, c.name) ≡ is_of_holder p c
        same c =
            ap (λ b. b && bytes_eq c.name p.name) (alias_tells file a c.holder k ∙ either_way c.holder p.holder)
            ∙ ap (λ b. bytes_eq p.holder c.holder && b) (either_way c.name p.name)

-- ## One entry more

row_append : (keys : List Key) (k : Bool) (c : Classifier) (rest : List Classifier) (old : List Row)
    → (old ++ map (row_in keys) (if k then c ∷ [] else [])) ++ map (row_in keys) rest ≡ old ++ map (row_in keys) (if k then c ∷ rest else rest)
row_append keys true c rest old = append_assoc old (row_in keys c ∷ []) (map (row_in keys) rest)
row_append keys false c rest old = ap (λ l. l ++ map (row_in keys) rest) (append-nil old)

pub row_step : (keys : List Key) (s : Stand) (e : Entry) (es : List Entry) (old new : List Row) (next : Stand)
    → new ≡ old ++ map (row_in keys) (if is_classifier_role e.role then classifier_here s e ∷ [] else []) → next ≡ past s e
    → new ++ map (row_in keys) (classifiers_from next es) ≡ old ++ map (row_in keys) (classifiers_from s (e ∷ es))
row_step keys s e es old new next h k =
    ap (λ l. l ++ map (row_in keys) (classifiers_from next es)) h
    ∙ ap (λ t. (old ++ map (row_in keys) (if is_classifier_role e.role then classifier_here s e ∷ [] else [])) ++ map (row_in keys) (classifiers_from t es)) k
    ∙ row_append keys (is_classifier_role e.role) (classifier_here s e) (classifiers_from (past s e) es) old

pub alias_step : (keys : List Key) (s : Stand) (e : Entry) (a : ℕ) → a ≡ alias_of keys s.holder → (if is_package_role e.role then alias_of keys (name_of e) else a) ≡ alias_of keys (past s e).holder
alias_step keys s e a h = by (is_package_role e.role)
  where
    by : (b : Bool) → (if b then alias_of keys (name_of e) else a) ≡ alias_of keys (if b then name_of e else s.holder)
    by true = refl
    by false = h

pub one_more : (b : Bool) (n : ℕ) → (if b then suc n else n) ≤ n + 1
one_more true n = omega arith
one_more false n = omega arith
