-- Inheritance by steps and as a closure: a path from class to supertype never has to pass one class twice, so as many steps
-- as there are classes reach all that any number of steps reaches.
use Rattle.std.proofs.Common.{◌≡◌, ◌≢◌, ℕ, zero, suc, ◌<◌, ◌≤◌, List, [], ◌∷◌, length, get_or, refl, sym, ap, ◌∙◌, subst, ⊎_elim, eqb, arith}
use Rattle.std.specs.Prelude.{Bool, true, false, ◌==◌, Contains}
use Rattle.std.specs.List.{list_any}
use Rattle.std.proofs.lemmas.Bool.{eq-eqb, eqb-true, ne_eqb, or_left, or_right, or_cases}
use Rattle.std.proofs.lemmas.List.Folds.{list_any_at, Any-from_list_any}
use Rattle.std.proofs.lemmas.Map.Keys.{IsDistinct-from_apart}
use Rattle.std.proofs.lemmas.Map.Steps.{length-le_from_distinct_below}
use Rattle.ecore_meta.specs.Valid.{AllDiffer}
use Rattle.xmi_text.specs.Inheriting.{inherits, conforms}
use Rattle.xmi_text.proofs.Lists.{pairs_cons, pairs_rest}
use Rattle.xmi_text.proofs.Tests.{true-false}

module _ (supers : List (List ℕ)) where
  -- from class to supertype through these
  abbrev pub IsPath : ℕ → List ℕ → ℕ → Type 0
  IsPath c [] d = c ≡ d
  IsPath c (s ∷ path) d = Contains (get_or supers c []) s × IsPath s path d

  pub passes : (c : ℕ) (d n : ℕ) (s : ℕ) → Contains (get_or supers c []) s → inherits n supers s d ≡ true → list_any (λ s. inherits n supers s d) (get_or supers c []) ≡ true
  passes c d n s m h = list_any_at (λ s. inherits n supers s d) (get_or supers c []) m.0 s m.1 (ap (λ s. inherits n supers s d) m.2 ∙ h)

  inherits_path : (n : ℕ) (c : ℕ) (path : List ℕ) (d : ℕ) → length path ≤ n → IsPath c path d → inherits n supers c d ≡ true
  inherits_path zero c [] d l p = eq-eqb c d p
  inherits_path zero c (s ∷ path) d l p = absurd (omega (arith, l))
  inherits_path (suc n) c [] d l p = or_left (c == d) (list_any (λ s. inherits n supers s d) (get_or supers c [])) (eq-eqb c d p)
  inherits_path (suc n) c (s ∷ path) d l p =
      or_right (c == d) (list_any (λ s. inherits n supers s d) (get_or supers c [])) (passes c d n s p.0 (inherits_path n s path d (omega arith) p.1))

  -- a path that passes each class once
  pub record Simple (c d : ℕ) : Type 0 where
    pub path : List ℕ
    pub leads : IsPath c path d
    pub once : AllDiffer (c ∷ path)

  -- from the class on that it has to begin with
  cut : (c s d : ℕ) (path : List ℕ) → IsPath s path d → AllDiffer (s ∷ path) → (k : ℕ) → k < length (s ∷ path) → get_or (s ∷ path) k c ≡ c → Simple c d
  cut c s d path p a zero l e = subst (λ x. Simple x d) e (record { path = path; leads = p; once = a })
  cut c s d [] p a (suc k) l e = absurd (omega (arith, l))
  cut c s d (t ∷ path) p a (suc k) l e = cut c t d path p.1 (pairs_rest (λ x y. x ≢ y) s (t ∷ path) a) k (omega arith) e

  pub one : (c : ℕ) → Simple c c
  one c = record { path = []; leads = refl; once = λ i j d l m same. omega (arith, l, m) }

  pub further : (c s d : ℕ) → Contains (get_or supers c []) s → Simple s d → Simple c d
  further c s d m p = by (list_any (eqb c) (s ∷ p.path)) refl
    where
      by : (b : Bool) → list_any (eqb c) (s ∷ p.path) ≡ b → Simple c d
      by true h =
          let found = Any-from_list_any (eqb c) (s ∷ p.path) h in
          let same : c ≡ found.1 = eqb-true c found.1 found.4 in
          cut c s d p.path p.leads p.once found.0 found.2 (subst (λ x. get_or (s ∷ p.path) found.0 x ≡ x) (sym same) found.3)
      by false h = record {
        path = s ∷ p.path;
        leads = (m, p.leads);
        once = pairs_cons (λ x y. x ≢ y) c (s ∷ p.path) (λ k d l e. true-false (sym (list_any_at (eqb c) (s ∷ p.path) k d l (eq-eqb c (get_or (s ∷ p.path) k d) e)) ∙ h)) p.once;
      }

  module _ (within : (c s : ℕ) → Contains (get_or supers c []) s → s < length supers) where
    all_within : (c d : ℕ) (path : List ℕ) → c < length supers → IsPath c path d → (q : ℕ) → list_any (eqb q) (c ∷ path) ≡ true → q < length supers
    all_within c d [] l p q h = ⊎_elim
        (λ (e : eqb q c ≡ true). subst (λ n. n < length supers) (sym (eqb-true q c e)) l)
        (λ (k : list_any (eqb q) [] ≡ true). absurd (true-false (sym k)))
        (or_cases (eqb q c) (list_any (eqb q) []) h)
    all_within c d (s ∷ path) l p q h = ⊎_elim
        (λ (e : eqb q c ≡ true). subst (λ n. n < length supers) (sym (eqb-true q c e)) l)
        (λ (k : list_any (eqb q) (s ∷ path) ≡ true). all_within s d path (within c s p.0) p.1 q k)
        (or_cases (eqb q c) (list_any (eqb q) (s ∷ path)) h)

    -- all that is inherited is inherited by so many steps
    pub conforms_from : (c d : ℕ) → c < length supers → Simple c d → conforms supers c d ≡ true
    conforms_from c d l p =
        let short : length (c ∷ p.path) ≤ length supers =
        length-le_from_distinct_below (c ∷ p.path) (length supers)
        (IsDistinct-from_apart eqb (c ∷ p.path) (λ i j e h k. ne_eqb (get_or (c ∷ p.path) i e) (get_or (c ∷ p.path) j e) (p.once i j e h k)))
        (all_within c d p.path l p.leads) in
        inherits_path (length supers) c p.path d (omega arith) p.leads
