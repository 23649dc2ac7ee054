-- Walks over supertypes: all that was reached was reached by steps, and where the supertypes of all that was reached are reached
-- too, nothing is left.
use Rattle.std.proofs.Common.{◌≡◌, ℕ, zero, suc, ◌+◌, ◌<◌, ◌≤◌, ◌⊎◌, inl, inr, List, [], ◌∷◌, ◌++◌, length, get_or, refl, sym, ap, ◌∙◌, subst, ⊎_elim, eqb, arith}
use Rattle.std.specs.Prelude.{Bool, true, false, ◌==◌, ◌||◌, Contains, if◌then◌else◌}
use Rattle.std.specs.List.{list_any, IsDistinct}
use Rattle.std.proofs.lemmas.Bool.{eq-eqb, eqb-true, or_left, or_right, or_cases, cases_lt}
use Rattle.std.proofs.lemmas.List.{get_or_append_left, get_or_default, append-nil, append_assoc}
use Rattle.std.proofs.lemmas.List.Folds.{list_any_at, list_any-append, Any-from_list_any}
use Rattle.std.proofs.lemmas.Map.Steps.{length-le_from_distinct_below}
use Rattle.std.proofs.lemmas.Map.Keys.{IsDistinct-push, IsDistinct-from_apart}
use Rattle.std.proofs.lemmas.Cmp.{nat_eq_equiv}
use Rattle.indexmap.specs.IndexSet.{insert_key, insert_all}
use Rattle.xmi_text.specs.Inheriting.{inherits, conforms}
use Rattle.ecore_rows.specs.Walks.{AreWithin, LeadWithin}
use Rattle.xmi_text.proofs.Paths.{Simple, one, further, passes, conforms_from}
use Rattle.xmi_text.proofs.Tests.{same_tests}

pub contains : (xs : List ℕ) (x : ℕ) → list_any (eqb x) xs ≡ true → Contains xs x
contains xs x h =
    let found = Any-from_list_any (eqb x) xs h in
    let same : x ≡ found.1 = eqb-true x found.1 found.4 in
    (found.0, found.2, subst (λ y. get_or xs found.0 y ≡ y) (sym same) found.3)

pub contained : (xs : List ℕ) (x : ℕ) → Contains xs x → list_any (eqb x) xs ≡ true
contained xs x m = list_any_at (eqb x) xs m.0 x m.1 (eq-eqb x (get_or xs m.0 x) (sym m.2))

-- ## Sets that grow at their ends

in_key : (ks : List ℕ) (x d : ℕ) → list_any (eqb d) (insert_key eqb ks x) ≡ (list_any (eqb d) ks || eqb d x)
in_key ks x d = by (list_any (eqb x) ks) refl
  where
    or_false : (a : Bool) → (a || false) ≡ a
    or_false true = refl
    or_false false = refl

    by : (b : Bool) → list_any (eqb x) ks ≡ b → list_any (eqb d) (if b then ks else ks ++ (x ∷ [])) ≡ (list_any (eqb d) ks || eqb d x)
    by true h = same_tests (list_any (eqb d) ks) (list_any (eqb d) ks || eqb d x)
        (λ k. or_left (list_any (eqb d) ks) (eqb d x) k)
        (λ k. ⊎_elim (λ (a : list_any (eqb d) ks ≡ true). a) (λ (e : eqb d x ≡ true). subst (λ y. list_any (eqb y) ks ≡ true) (sym (eqb-true d x e)) h) (or_cases (list_any (eqb d) ks) (eqb d x) k))
    by false h = list_any-append (eqb d) ks (x ∷ []) ∙ ap (λ b. list_any (eqb d) ks || b) (or_false (eqb d x))

pub in_all : (ks xs : List ℕ) (d : ℕ) → list_any (eqb d) (insert_all eqb ks xs) ≡ (list_any (eqb d) ks || list_any (eqb d) xs)
in_all ks [] d = or_false (list_any (eqb d) ks)
  where
    or_false : (a : Bool) → a ≡ (a || false)
    or_false true = refl
    or_false false = refl
in_all ks (x ∷ xs) d =
    in_all (insert_key eqb ks x) xs d ∙ ap (λ b. b || list_any (eqb d) xs) (in_key ks x d) ∙ regroup (list_any (eqb d) ks) (eqb d x) (list_any (eqb d) xs)
  where
    regroup : (a b c : Bool) → ((a || b) || c) ≡ (a || (b || c))
    regroup true b c = refl
    regroup false b c = refl

-- what is there keeps its place
record Grows (ks ls : List ℕ) : Type 0 where
  more : List ℕ
  grown : ls ≡ ks ++ more

grows_key : (ks : List ℕ) (x : ℕ) → Grows ks (insert_key eqb ks x)
grows_key ks x = by (list_any (eqb x) ks)
  where
    by : (b : Bool) → Grows ks (if b then ks else ks ++ (x ∷ []))
    by true = record { more = []; grown = sym (append-nil ks) }
    by false = record { more = x ∷ []; grown = refl }

grows_all : (ks xs : List ℕ) → Grows ks (insert_all eqb ks xs)
grows_all ks [] = record { more = []; grown = sym (append-nil ks) }
grows_all ks (x ∷ xs) =
    let a = grows_key ks x in
    let b = grows_all (insert_key eqb ks x) xs in
    record { more = a.more ++ b.more; grown = b.grown ∙ ap (λ l. l ++ b.more) a.grown ∙ append_assoc ks a.more b.more }

kept_place : (ks xs : List ℕ) (k d : ℕ) → k < length ks → get_or (insert_all eqb ks xs) k d ≡ get_or ks k d
kept_place ks xs k d h =
    let g = grows_all ks xs in
    ap (λ l. get_or l k d) g.grown ∙ get_or_append_left ks g.more d k h

-- each once
distinct_key : (ks : List ℕ) (x : ℕ) → IsDistinct eqb ks → IsDistinct eqb (insert_key eqb ks x)
distinct_key ks x u = by (list_any (eqb x) ks) refl
  where
    by : (b : Bool) → list_any (eqb x) ks ≡ b → IsDistinct eqb (if b then ks else ks ++ (x ∷ []))
    by true h = u
    by false h = IsDistinct-push nat_eq_equiv ks x u h

distinct_all : (ks xs : List ℕ) → IsDistinct eqb ks → IsDistinct eqb (insert_all eqb ks xs)
distinct_all ks [] u = u
distinct_all ks (x ∷ xs) u = distinct_all (insert_key eqb ks x) xs (distinct_key ks x u)

none_apart : IsDistinct eqb []
none_apart = IsDistinct-from_apart eqb [] (λ i j d h k. absurd (omega (arith, h, k)))

-- ## Steps

module _ (supers : List (List ℕ)) where
  -- some of these is the class or inherits from it
  abbrev pub From : List ℕ → ℕ → Type 0
  From starts d = (s : ℕ) × Contains starts s × (n : ℕ) × (inherits n supers s d ≡ true)

  -- one step more at the end
  pub inherits_up : (n : ℕ) (c d e : ℕ) → inherits n supers c d ≡ true → Contains (get_or supers d []) e → inherits (suc n) supers c e ≡ true
  inherits_up zero c d e h m =
      let same : c ≡ d = eqb-true c d h in
      or_right (c == e) (list_any (λ s. inherits zero supers s e) (get_or supers c []))
      (passes supers c e zero e (subst (λ x. Contains (get_or supers x []) e) (sym same) m) (eq-eqb e e refl))
  inherits_up (suc n) c d e h m = ⊎_elim
      (λ (k : (c == d) ≡ true).
      let same : c ≡ d = eqb-true c d k in
      or_right (c == e) (list_any (λ s. inherits (suc n) supers s e) (get_or supers c []))
      (passes supers c e (suc n) e (subst (λ x. Contains (get_or supers x []) e) (sym same) m) (itself (suc n) e)))
      (λ (k : list_any (λ s. inherits n supers s d) (get_or supers c []) ≡ true).
      let found = Any-from_list_any (λ s. inherits n supers s d) (get_or supers c []) k in
      or_right (c == e) (list_any (λ s. inherits (suc n) supers s e) (get_or supers c []))
      (passes supers c e (suc n) found.1 (found.0, found.2, found.3) (inherits_up n found.1 d e found.4 m)))
      (or_cases (c == d) (list_any (λ s. inherits n supers s d) (get_or supers c [])) h)
    where
      itself : (n : ℕ) (e : ℕ) → inherits n supers e e ≡ true
      itself zero e = eq-eqb e e refl
      itself (suc n) e = or_left (e == e) (list_any (λ s. inherits n supers s e) (get_or supers e [])) (eq-eqb e e refl)

  simple_from : (n : ℕ) (c d : ℕ) → inherits n supers c d ≡ true → Simple supers c d
  simple_from zero c d h = subst (Simple supers c) (eqb-true c d h) (one supers c)
  simple_from (suc n) c d h = ⊎_elim
      (λ (k : (c == d) ≡ true). subst (Simple supers c) (eqb-true c d k) (one supers c))
      (λ (k : list_any (λ s. inherits n supers s d) (get_or supers c []) ≡ true).
      let found = Any-from_list_any (λ s. inherits n supers s d) (get_or supers c []) k in
      further supers c found.1 d (found.0, found.2, found.3) (simple_from n found.1 d found.4))
      (or_cases (c == d) (list_any (λ s. inherits n supers s d) (get_or supers c [])) h)

  -- ## Walks

  -- these were reached, and those before the place were looked at
  pub record Walk (starts keys : List ℕ) (at : ℕ) : Type 0 where
    pub distinct : IsDistinct eqb keys
    pub within : (d : ℕ) → list_any (eqb d) keys ≡ true → d < length supers
    pub sound : (d : ℕ) → list_any (eqb d) keys ≡ true → From starts d
    pub begun : (d : ℕ) → list_any (eqb d) starts ≡ true → list_any (eqb d) keys ≡ true
    pub closed : (k : ℕ) → k < at → k < length keys → (s : ℕ) → list_any (eqb s) (get_or supers (get_or keys k 0) []) ≡ true → list_any (eqb s) keys ≡ true

  pub walk_begin : (starts keys : List ℕ) → AreWithin supers starts → keys ≡ insert_all eqb [] starts → Walk starts keys 0
  walk_begin starts keys w e = record {
    distinct = subst (IsDistinct eqb) (sym e) (distinct_all [] starts none_apart);
    within = λ d h. w d (contains starts d (sym (there d) ∙ h));
    sound = λ d h. (d, contains starts d (sym (there d) ∙ h), zero, eq-eqb d d refl);
    begun = λ d h. there d ∙ h;
    closed = λ k l m s h. absurd (omega (arith, l));
  }
    where
      there : (d : ℕ) → list_any (eqb d) keys ≡ list_any (eqb d) starts
      there d = ap (list_any (eqb d)) e ∙ in_all [] starts d

  pub walk_step : LeadWithin supers → (starts keys more : List ℕ) (at class : ℕ) → at < length keys → class ≡ get_or keys at 0 → more ≡ insert_all eqb keys (get_or supers class []) → Walk starts keys at → Walk starts more (at + 1)
  walk_step leads starts keys more at class l is e w = record {
    distinct = subst (IsDistinct eqb) (sym e) (distinct_all keys row w.distinct);
    within = λ d h. ⊎_elim
        (λ (k : list_any (eqb d) keys ≡ true). w.within d k)
        (λ (k : list_any (eqb d) row ≡ true). leads class d (contains row d k))
        (or_cases (list_any (eqb d) keys) (list_any (eqb d) row) (sym (there d) ∙ h));
    sound = λ d h. ⊎_elim
        (λ (k : list_any (eqb d) keys ≡ true). w.sound d k)
        (λ (k : list_any (eqb d) row ≡ true).
        let f : From starts class = w.sound class here in
        (f.0, f.1, suc f.2, inherits_up f.2 f.0 class d f.3 (contains row d k)))
        (or_cases (list_any (eqb d) keys) (list_any (eqb d) row) (sym (there d) ∙ h));
    begun = λ d h. there d ∙ or_left (list_any (eqb d) keys) (list_any (eqb d) row) (w.begun d h);
    closed = λ k lt m s h. ⊎_elim
        (λ (b : k < at).
        let old : get_or more k 0 ≡ get_or keys k 0 = ap (λ ks. get_or ks k 0) e ∙ kept_place keys row k 0 (omega arith) in
        there s ∙ or_left (list_any (eqb s) keys) (list_any (eqb s) row) (w.closed k b (omega arith) s (subst (λ x. list_any (eqb s) (get_or supers x []) ≡ true) old h)))
        (λ (b : k ≡ at).
        let old : get_or more k 0 ≡ class = ap (λ ks. get_or ks k 0) e ∙ kept_place keys row k 0 (omega arith) ∙ ap (λ n. get_or keys n 0) b ∙ sym is in
        there s ∙ or_right (list_any (eqb s) keys) (list_any (eqb s) row) (subst (λ x. list_any (eqb s) (get_or supers x []) ≡ true) old h))
        (last k at lt);
  }
    where
      row : List ℕ
      row = get_or supers class []

      there : (d : ℕ) → list_any (eqb d) more ≡ (list_any (eqb d) keys || list_any (eqb d) row)
      there d = ap (list_any (eqb d)) e ∙ in_all keys row d

      here : list_any (eqb class) keys ≡ true
      here = list_any_at (eqb class) keys at 0 l (eq-eqb class (get_or keys at 0) is)

      last : (k at : ℕ) → k < at + 1 → (k < at) ⊎ (k ≡ at)
      last k at h = ⊎_elim (λ (b : k < at). inl b) (λ (b : at ≤ k). inr (omega (arith, h, b))) (cases_lt k at)

  -- nothing is left
  complete : (keys : List ℕ) (at : ℕ) → ((k : ℕ) → k < length keys → (s : ℕ) → list_any (eqb s) (get_or supers (get_or keys k 0) []) ≡ true → list_any (eqb s) keys ≡ true)
      → (n : ℕ) (c d : ℕ) → list_any (eqb c) keys ≡ true → inherits n supers c d ≡ true → list_any (eqb d) keys ≡ true
  complete keys at closed zero c d m h = subst (λ x. list_any (eqb x) keys ≡ true) (eqb-true c d h) m
  complete keys at closed (suc n) c d m h = ⊎_elim
      (λ (k : (c == d) ≡ true). subst (λ x. list_any (eqb x) keys ≡ true) (eqb-true c d k) m)
      (λ (k : list_any (λ s. inherits n supers s d) (get_or supers c []) ≡ true).
      let found = Any-from_list_any (λ s. inherits n supers s d) (get_or supers c []) k in
      let at_c = contains keys c m in
      let place : get_or keys at_c.0 0 ≡ c = get_or_default keys at_c.0 0 c at_c.1 ∙ at_c.2 in
      complete keys at closed n found.1 d
      (closed at_c.0 at_c.1 found.1 (subst (λ x. list_any (eqb found.1) (get_or supers x []) ≡ true) (sym place) (contained (get_or supers c []) found.1 (found.0, found.2, found.3))))
      found.4)
      (or_cases (c == d) (list_any (λ s. inherits n supers s d) (get_or supers c [])) h)

  pub walk_end : LeadWithin supers → (starts keys : List ℕ) (at : ℕ) → AreWithin supers starts → length keys ≤ at → Walk starts keys at
      → (d : ℕ) → list_any (eqb d) keys ≡ list_any (λ s. conforms supers s d) starts
  walk_end leads starts keys at ws l w d = same_tests (list_any (eqb d) keys) (list_any (λ s. conforms supers s d) starts)
      (λ h.
      let f : From starts d = w.sound d h in
      list_any_at (λ s. conforms supers s d) starts f.1.0 f.0 f.1.1 (ap (λ s. conforms supers s d) f.1.2 ∙ conforms_from supers leads f.0 d (ws f.0 f.1) (simple_from f.2 f.0 d f.3)))
      (λ h.
      let found = Any-from_list_any (λ s. conforms supers s d) starts h in
      complete keys at (λ k m s q. w.closed k (omega arith) m s q) (length supers) found.1 d (w.begun found.1 (contained starts found.1 (found.0, found.2, found.3))) found.4)

  -- there are not more than classes
  pub walk_short : (starts keys : List ℕ) (at : ℕ) → Walk starts keys at → length keys ≤ length supers
  walk_short starts keys at w = length-le_from_distinct_below keys (length supers) w.distinct w.within

  pub walk_inside : (starts keys : List ℕ) (at k : ℕ) → k < length keys → Walk starts keys at → get_or keys k 0 < length supers
  walk_inside starts keys at k l w = w.within (get_or keys k 0) (list_any_at (eqb (get_or keys k 0)) keys k 0 l (eq-eqb (get_or keys k 0) (get_or keys k 0) refl))
