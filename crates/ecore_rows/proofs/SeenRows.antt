-- The first name that is seen twice, found by going through the classes that are reached, in rising order, and the features of each.
use Rattle.std.proofs.Common.{◌≡◌, ℕ, zero, suc, ◌+◌, ◌<◌, ◌≤◌, ◌⊎◌, inl, inr, List, [], ◌∷◌, ◌++◌, length, get_or, map, drop, refl, sym, ap, ◌∙◌, subst, ⊎_elim, eqb, Bor, arith}
use Rattle.std.specs.Prelude.{Bool, true, false, cond, not, ◌==◌, ◌&&◌, ◌||◌, max, nat_le, bytes_eq, filter, Option, Some, None, is_some, if◌then◌else◌}
use Rattle.std.specs.List.{list_any}
use Rattle.std.specs.List.Sorted.{IsNonDecreasing}
use Rattle.std.specs.Option.{option_or, option_copied}
use Rattle.std.proofs.lemmas.Bool.{eqb-true, eq-eqb, ne_eqb, leb-true, le-leb, lt-leb, cases_lt, or_cases}
use Rattle.std.proofs.lemmas.List.{drop_more, get_or-drop, get_or_default, length-drop}
use Rattle.ecore_outline.specs.Outline.{name_of}
use Rattle.xmi_text.specs.Inheriting.{conforms}
use Rattle.ecore_rows.specs.Rows.{FeatureRow, is_unnamed, twice_from}
use Rattle.ecore_rows.specs.Runs.{IsRising, past_run}
use Rattle.ecore_rows.proofs.Reaching.{contains}
use Rattle.ecore_rows.specs.declared.rows.FeatureRow.{FeatureRow as CodeFeatureRow}
use Rattle.ecore_rows.specs.CodeRows.{feature_row_of, feature_rows_of}
use Rattle.ecore_rows.proofs.SeenNames.{passed_over, step_again, step_new}
use Rattle.xmi_text.proofs.Tests.{true-false, false-true}

-- the features of this class and of later ones
abbrev pub from : ℕ → List FeatureRow → List FeatureRow
from n = filter (λ row. nat_le n row.owner)

module _ (supers : List (List ℕ)) (class : ℕ) where
  same_step : (seen : List (List ℕ)) (row : FeatureRow) (xs ys : List FeatureRow) → ((s : List (List ℕ)) → twice_from supers class s xs ≡ twice_from supers class s ys)
      → twice_from supers class seen (row ∷ xs) ≡ twice_from supers class seen (row ∷ ys)
  same_step seen row xs ys h =
      ap (λ t. if conforms supers class row.owner && not (is_unnamed (name_of row.entry)) then (if list_any (bytes_eq (name_of row.entry)) seen then Some (name_of row.entry) else t) else twice_from supers class seen xs) (h (name_of row.entry ∷ seen))
      ∙ ap (λ t. if conforms supers class row.owner && not (is_unnamed (name_of row.entry)) then (if list_any (bytes_eq (name_of row.entry)) seen then Some (name_of row.entry) else twice_from supers class (name_of row.entry ∷ seen) ys) else t) (h seen)

  -- features that are not seen may be left out
  left_out : (p q : FeatureRow → Bool) (rows : List FeatureRow) → ((row : FeatureRow) → q row ≡ true → p row ≡ true) → ((row : FeatureRow) → p row ≡ true → q row ≡ false → conforms supers class row.owner ≡ false)
      → (seen : List (List ℕ)) → twice_from supers class seen (filter p rows) ≡ twice_from supers class seen (filter q rows)
  left_out p q [] f g seen = refl
  left_out p q (row ∷ rows) f g seen = by (p row) (q row) (f row) (g row) (left_out p q rows f g)
    where
      by : (a b : Bool) → (b ≡ true → a ≡ true) → (a ≡ true → b ≡ false → conforms supers class row.owner ≡ false) → ((s : List (List ℕ)) → twice_from supers class s (filter p rows) ≡ twice_from supers class s (filter q rows))
          → twice_from supers class seen (cond a (row ∷ filter p rows) (filter p rows)) ≡ twice_from supers class seen (cond b (row ∷ filter q rows) (filter q rows))
      by true true m n h = same_step seen row (filter p rows) (filter q rows) h
      by true false m n h = passed_over supers class seen row (filter p rows) (ap (λ b. b && not (is_unnamed (name_of row.entry))) (n refl refl)) ∙ h seen
      by false true m n h = absurd (false-true (m refl))
      by false false m n h = h seen

  nothing : (rows : List FeatureRow) → filter (λ row. false) rows ≡ []
  nothing [] = refl
  nothing (row ∷ rows) = nothing rows

  -- no class at or past `n` is reached
  pub none_left : (rows : List FeatureRow) (n : ℕ) (seen : List (List ℕ)) → ((d : ℕ) → conforms supers class d ≡ true → d < n) → twice_from supers class seen (from n rows) ≡ None
  none_left rows n seen h =
      left_out (λ row. nat_le n row.owner) (λ row. false) rows (λ row e. absurd (false-true e)) (λ row e g. fails row.owner (leb-true n row.owner e) (conforms supers class row.owner) refl) seen
      ∙ ap (twice_from supers class seen) (nothing rows)
    where
      fails : (d : ℕ) → n ≤ d → (b : Bool) → conforms supers class d ≡ b → b ≡ false
      fails d l true e = absurd (omega (arith, l, h d e))
      fails d l false e = refl

  -- no class from `n` up to `m` is reached
  pub further_on : (rows : List FeatureRow) (n m : ℕ) (seen : List (List ℕ)) → n ≤ m → ((d : ℕ) → conforms supers class d ≡ true → d < n ⊎ m ≤ d)
      → twice_from supers class seen (from n rows) ≡ twice_from supers class seen (from m rows)
  further_on rows n m seen l h =
      left_out (λ row. nat_le n row.owner) (λ row. nat_le m row.owner) rows
      (λ row e. le-leb n row.owner (omega (arith, l, leb-true m row.owner e)))
      (λ row e g. fails row.owner (leb-true n row.owner e) g (conforms supers class row.owner) refl) seen
    where
      fails : (d : ℕ) → n ≤ d → nat_le m d ≡ false → (b : Bool) → conforms supers class d ≡ b → b ≡ false
      fails d a g true e = absurd (⊎_elim (λ (s : d < n). omega (arith, s, a)) (λ (s : m ≤ d). true-false (sym (le-leb m d s) ∙ g)) (h d e))
      fails d a g false e = refl

-- ## The features of later classes

all_from : (n k : ℕ) (rows : List FeatureRow) → n ≤ k → IsRising k rows → from n rows ≡ rows
all_from n k [] l h = refl
all_from n k (row ∷ rows) l h =
    ap (λ b. cond b (row ∷ from n rows) (from n rows)) (le-leb n row.owner (omega (arith, l, h.0)))
    ∙ ap (λ r. row ∷ r) (all_from n row.owner rows (omega (arith, l, h.0)) h.1)

pub from_zero : (rows : List FeatureRow) → from 0 rows ≡ rows
from_zero [] = refl
from_zero (row ∷ rows) = ap (λ b. cond b (row ∷ from 0 rows) (from 0 rows)) (le-leb 0 row.owner (omega arith)) ∙ ap (λ r. row ∷ r) (from_zero rows)

kept : (n : ℕ) (row : FeatureRow) (rows : List FeatureRow) → n ≤ row.owner → from n (row ∷ rows) ≡ row ∷ from n rows
kept n row rows l = ap (λ b. cond b (row ∷ from n rows) (from n rows)) (le-leb n row.owner l)

not_kept : (n : ℕ) (row : FeatureRow) (rows : List FeatureRow) → row.owner < n → from n (row ∷ rows) ≡ from n rows
not_kept n row rows l = ap (λ b. cond b (row ∷ from n rows) (from n rows)) (lt-leb n row.owner l)

other : (owner : ℕ) (row : FeatureRow) (rows : List FeatureRow) → owner < row.owner → past_run owner (row ∷ rows) ≡ row ∷ rows
other owner row rows l = ap (λ b. if b then past_run owner rows else row ∷ rows) (ne_eqb row.owner owner (λ s. omega (arith, s, l)))

-- behind the features of a class stand those of later ones
past_own : (owner k : ℕ) (rows : List FeatureRow) → IsRising k rows → past_run owner (from owner rows) ≡ from (suc owner) rows
past_own owner k [] h = refl
past_own owner k (row ∷ rows) h = ⊎_elim
    (λ (low : row.owner < owner).
    ap (past_run owner) (not_kept owner row rows low) ∙ past_own owner row.owner rows h.1 ∙ sym (not_kept (suc owner) row rows (omega (arith, low))))
    (λ (high : owner ≤ row.owner). ap (past_run owner) (kept owner row rows high) ∙ by high (past_own owner row.owner rows h.1))
    (cases_lt row.owner owner)
  where
    by : owner ≤ row.owner → past_run owner (from owner rows) ≡ from (suc owner) rows → past_run owner (row ∷ from owner rows) ≡ from (suc owner) (row ∷ rows)
    by high later = ⊎_elim
        (λ (above : owner < row.owner).
        other owner row (from owner rows) above
        ∙ ap (λ r. row ∷ r) (all_from owner row.owner rows high h.1 ∙ sym (all_from (suc owner) row.owner rows (omega (arith, above)) h.1))
        ∙ sym (kept (suc owner) row rows (omega (arith, above))))
        (λ (below : row.owner ≤ owner).
        ap (λ b. if b then past_run owner (from owner rows) else row ∷ from owner rows) (eq-eqb row.owner owner (omega (arith, high, below)))
        ∙ later
        ∙ sym (not_kept (suc owner) row rows (omega (arith, below))))
        (cases_lt owner row.owner)

past_none : (owner n : ℕ) (rows : List FeatureRow) → owner < n → past_run owner (from n rows) ≡ from n rows
past_none owner n [] l = refl
past_none owner n (row ∷ rows) l = ⊎_elim
    (λ (low : row.owner < n). ap (past_run owner) (not_kept n row rows low) ∙ past_none owner n rows l ∙ sym (not_kept n row rows low))
    (λ (high : n ≤ row.owner). ap (past_run owner) (kept n row rows high) ∙ other owner row (from n rows) (omega (arith, high, l)) ∙ sym (kept n row rows high))
    (cases_lt row.owner n)

pub past_next : (next owner : ℕ) (rows : List FeatureRow) → IsRising 0 rows → past_run owner (from (max next owner) rows) ≡ from (max next (owner + 1)) rows
past_next next owner rows h = ⊎_elim
    (λ (low : owner < next).
    let one : max next owner ≡ next = omega (arith, low) in
    let two : next ≡ max next (owner + 1) = omega (arith, low) in
    ap (λ n. past_run owner (from n rows)) one ∙ past_none owner next rows low ∙ ap (λ n. from n rows) two)
    (λ (high : next ≤ owner).
    let one : max next owner ≡ owner = omega (arith, high) in
    let two : suc owner ≡ max next (owner + 1) = omega (arith, high) in
    ap (λ n. past_run owner (from n rows)) one ∙ past_own owner 0 rows h ∙ ap (λ n. from n rows) two)
    (cases_lt owner next)

-- ## Where they begin

pub owners_rise : (k : ℕ) (rows : List CodeFeatureRow) → IsRising k (feature_rows_of rows) → (i : ℕ) (d : CodeFeatureRow) → i + 1 < length rows → (get_or rows i d).owner ≤ (get_or rows (i + 1) d).owner
owners_rise k [] h i d l = absurd (omega (arith, l))
owners_rise k (row ∷ []) h i d l = absurd (omega (arith, l))
owners_rise k (row ∷ next ∷ rows) h zero d l = h.1.0
owners_rise k (row ∷ next ∷ rows) h (suc i) d l =
    let same : suc (i + 1) ≡ suc i + 1 = omega arith in
    subst (λ n. (get_or (next ∷ rows) i d).owner ≤ (get_or (row ∷ next ∷ rows) n d).owner) same (owners_rise row.owner (next ∷ rows) h.1 i d (omega (arith, l)))

pub cut_is : (n : ℕ) (rows : List CodeFeatureRow) (i : ℕ) → i ≤ length rows → ((j : ℕ) (d : CodeFeatureRow) → j < i → (get_or rows j d).owner < n) → ((j : ℕ) (d : CodeFeatureRow) → i ≤ j → j < length rows → n ≤ (get_or rows j d).owner)
    → feature_rows_of (drop i rows) ≡ from n (feature_rows_of rows)
cut_is n [] zero l f g = refl
cut_is n [] (suc i) l f g = absurd (omega (arith, l))
cut_is n (row ∷ rows) zero l f g =
    ap (λ r. feature_row_of row ∷ r) (cut_is n rows zero (omega arith) (λ j d a. absurd (omega (arith, a))) (λ j d a b. g (suc j) d (omega arith) (omega (arith, b))))
    ∙ sym (kept n (feature_row_of row) (feature_rows_of rows) (g zero row (omega arith) (omega arith)))
cut_is n (row ∷ rows) (suc i) l f g =
    cut_is n rows i (omega (arith, l)) (λ j d a. f (suc j) d (omega (arith, a))) (λ j d a b. g (suc j) d (omega (arith, a)) (omega (arith, b)))
    ∙ sym (not_kept n (feature_row_of row) (feature_rows_of rows) (f zero row (omega arith)))

-- ## Class by class

-- which classes are reached: those before `next`, and those from the k-th on
abbrev pub AreLeft : List (List ℕ) → ℕ → List ℕ → ℕ → ℕ → Type 0
AreLeft supers class classes next k = (d : ℕ) → conforms supers class d ≡ true → d < next ⊎ (list_any (eqb d) (drop k classes) ≡ true)

module _ (supers : List (List ℕ)) (class : ℕ) (classes : List ℕ) (rising : IsNonDecreasing classes) where
  at_or_past : (k d : ℕ) → list_any (eqb d) (drop k classes) ≡ true → k < length classes → get_or classes k 0 ≤ d
  at_or_past k d h l =
      let m = contains (drop k classes) d h in
      let inside : k + m.0 < length classes = omega (arith, m.1, length-drop k classes) in
      let there : get_or classes (k + m.0) d ≡ d = sym (get_or-drop k classes m.0 d) ∙ m.2 in
      let low : get_or classes k d ≤ get_or classes (k + m.0) d = rising k (k + m.0) d (omega arith) inside in
      let same : get_or classes k 0 ≡ get_or classes k d = get_or_default classes k 0 d l in
      omega (arith, low, there, same)

  pub up_to : (rows : List FeatureRow) (seen : List (List ℕ)) (next k owner : ℕ) → k < length classes → owner ≡ get_or classes k 0 → AreLeft supers class classes next k
      → twice_from supers class seen (from next rows) ≡ twice_from supers class seen (from (max next owner) rows)
  up_to rows seen next k owner l e h = further_on supers class rows next (max next owner) seen (omega arith) there
    where
      there : (d : ℕ) → conforms supers class d ≡ true → d < next ⊎ max next owner ≤ d
      there d c = ⊎_elim
          (λ (low : d < next). inl low)
          (λ (m : list_any (eqb d) (drop k classes) ≡ true). ⊎_elim (λ (low : d < next). inl low) (λ (high : next ≤ d). inr (omega (arith, high, e, at_or_past k d m l))) (cases_lt d next))
          (h d c)

  pub left_next : (next k owner : ℕ) → k < length classes → owner ≡ get_or classes k 0 → AreLeft supers class classes next k → AreLeft supers class classes (max next (owner + 1)) (k + 1)
  left_next next k owner l e h d c = ⊎_elim
      (λ (low : d < next). inl (omega (arith, low)))
      (λ (m : list_any (eqb d) (drop k classes) ≡ true). ⊎_elim
      (λ (here : eqb d (get_or classes k 0) ≡ true). inl (omega (arith, eqb-true d (get_or classes k 0) here, e)))
      (λ (later : list_any (eqb d) (drop (k + 1) classes) ≡ true). inr later)
      (or_cases (eqb d (get_or classes k 0)) (list_any (eqb d) (drop (k + 1) classes)) (sym (ap (list_any (eqb d)) (drop_more classes k 0 l)) ∙ m)))
      (h d c)

  pub none_next : (next k : ℕ) → length classes ≤ k → AreLeft supers class classes next k → (d : ℕ) → conforms supers class d ≡ true → d < next
  none_next next k l h d c = ⊎_elim
      (λ (low : d < next). low)
      (λ (m : list_any (eqb d) (drop k classes) ≡ true). absurd (omega (arith, l, (contains (drop k classes) d m).1, length-drop k classes)))
      (h d c)

  -- the features of one class
  pub class_step : (rows cut : List FeatureRow) (old new : List (List ℕ)) (found : Option (List ℕ)) (next k owner : ℕ) → IsRising 0 rows → k < length classes → owner ≡ get_or classes k 0 → AreLeft supers class classes next k → cut ≡ from (max next owner) rows
      → twice_from supers class old cut ≡ option_or found (twice_from supers class new (past_run owner cut))
      → twice_from supers class old (from next rows) ≡ option_or found (twice_from supers class new (from (max next (owner + 1)) rows))
  class_step rows cut old new found next k owner r l e h s t =
      up_to rows old next k owner l e h
      ∙ ap (twice_from supers class old) (sym s)
      ∙ t
      ∙ ap (λ x. option_or found (twice_from supers class new x)) (ap (past_run owner) s ∙ past_next next owner rows r)

pub some_or : (o : Option (Bor (List ℕ))) (r : Option (List ℕ)) → is_some o ≡ true → option_copied o ≡ option_or (option_copied o) r
some_or (Some x) r h = refl
some_or None r h = absurd (false-true h)

pub none_or : (o : Option (Bor (List ℕ))) (r : Option (List ℕ)) → is_some o ≡ false → r ≡ option_or (option_copied o) r
none_or (Some x) r h = absurd (true-false h)
none_or None r h = refl

pub or_false : (a : Bool) → a ≡ (a || false)
or_false true = refl
or_false false = refl

-- ## Feature by feature

-- a feature with a name, which is added where it is not there
pub step_named : (supers : List (List ℕ)) (class : ℕ) (keys more : List (Bor (List ℕ))) (row : FeatureRow) (rows : List FeatureRow) (name : Bor (List ℕ)) → conforms supers class row.owner ≡ true → bytes_eq (name_of row.entry) [] ≡ false
    → name.now ≡ name_of row.entry → (new : Bool) → new ≡ not (list_any (λ k. bytes_eq name.now k.now) keys)
    → more ≡ (if list_any (λ k. bytes_eq name.now k.now) keys then keys else keys ++ (name ∷ []))
    → twice_from supers class (map (λ k. k.now) keys) (row ∷ rows) ≡ (if not new then Some (name_of row.entry) else twice_from supers class (map (λ k. k.now) more) rows)
step_named supers class keys more row rows name c e n new a m = by (list_any (λ k. bytes_eq name.now k.now) keys) refl
  where
    told : Bool → Option (List ℕ)
    told b = if b then Some (name_of row.entry) else twice_from supers class (map (λ k. k.now) more) rows

    passes : (true && not false) ≡ true
    passes = refl

    by : (b : Bool) → list_any (λ k. bytes_eq name.now k.now) keys ≡ b → twice_from supers class (map (λ k. k.now) keys) (row ∷ rows) ≡ told (not new)
    by true h =
        step_again supers class keys row rows name true false (sym c) (sym e) passes n h
        ∙ ap Some n
        ∙ ap (λ b. told (not b)) (sym (a ∙ ap not h))
    by false h =
        step_new supers class keys more row rows name true false (sym c) (sym e) passes n h m
        ∙ ap (λ b. told (not b)) (sym (a ∙ ap not h))

-- a feature of another class, or of this one
pub run_ends : (owner : ℕ) (row : FeatureRow) (rows : List FeatureRow) → (row.owner == owner) ≡ false → past_run owner (row ∷ rows) ≡ row ∷ rows
run_ends owner row rows h = ap (λ b. if b then past_run owner rows else row ∷ rows) h

pub run_goes_on : (owner : ℕ) (row : FeatureRow) (rows : List FeatureRow) → (row.owner == owner) ≡ true → past_run owner (row ∷ rows) ≡ past_run owner rows
run_goes_on owner row rows h = ap (λ b. if b then past_run owner rows else row ∷ rows) h
