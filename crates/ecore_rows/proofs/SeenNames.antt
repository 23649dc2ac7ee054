-- The first name that is seen twice, step by step: of the names that were seen it matters only which there are.
use Rattle.std.proofs.Common.{◌≡◌, ℕ, List, [], ◌∷◌, ◌++◌, length, map, refl, sym, ap, ◌∙◌, Bor}
use Rattle.std.specs.Prelude.{Bool, true, false, not, ◌==◌, ◌&&◌, ◌||◌, bytes_eq, Option, Some, if◌then◌else◌}
use Rattle.std.specs.List.{list_any}
use Rattle.std.proofs.Math.Dec.{eqb-suc-zero}
use Rattle.std.proofs.lemmas.List.{map_push}
use Rattle.std.proofs.lemmas.List.Folds.{list_any-append}
use Rattle.ecore_outline.specs.Outline.{name_of}
use Rattle.xmi_text.specs.Inheriting.{conforms}
use Rattle.ecore_rows.specs.Rows.{FeatureRow, is_unnamed, twice_from}

or_swap : (a b : Bool) → (a || (b || false)) ≡ (b || a)
or_swap true true = refl
or_swap true false = refl
or_swap false true = refl
or_swap false false = refl

pub empty_test : (name : List ℕ) → (length name == 0) ≡ bytes_eq name []
empty_test [] = refl
empty_test (c ∷ name) = eqb-suc-zero (length name)

module _ (supers : List (List ℕ)) (class : ℕ) where
  abbrev is_seen : FeatureRow → Bool
  is_seen row = conforms supers class row.owner && not (is_unnamed (name_of row.entry))

  abbrev after : List (List ℕ) → FeatureRow → List FeatureRow → Bool → Option (List ℕ)
  after seen row rows b = if b then Some (name_of row.entry) else twice_from supers class (name_of row.entry ∷ seen) rows

  twice_same : (seen other : List (List ℕ)) (rows : List FeatureRow) → ((n : List ℕ) → list_any (bytes_eq n) seen ≡ list_any (bytes_eq n) other) → twice_from supers class seen rows ≡ twice_from supers class other rows
  twice_same seen other [] h = refl
  twice_same seen other (row ∷ rows) h =
      by (is_seen row)
      (ap (after seen row rows) (h (name_of row.entry))
      ∙ ap (λ t. if list_any (bytes_eq (name_of row.entry)) other then Some (name_of row.entry) else t) (twice_same (name_of row.entry ∷ seen) (name_of row.entry ∷ other) rows (λ n. ap (λ b. bytes_eq n (name_of row.entry) || b) (h n))))
      (twice_same seen other rows h)
    where
      by : (b : Bool) → after seen row rows (list_any (bytes_eq (name_of row.entry)) seen) ≡ after other row rows (list_any (bytes_eq (name_of row.entry)) other)
          → twice_from supers class seen rows ≡ twice_from supers class other rows
          → (if b then after seen row rows (list_any (bytes_eq (name_of row.entry)) seen) else twice_from supers class seen rows)
          ≡ (if b then after other row rows (list_any (bytes_eq (name_of row.entry)) other) else twice_from supers class other rows)
      by true k m = k
      by false k m = m

  pub passed_over : (seen : List (List ℕ)) (row : FeatureRow) (rows : List FeatureRow) → is_seen row ≡ false → twice_from supers class seen (row ∷ rows) ≡ twice_from supers class seen rows
  passed_over seen row rows h = ap (λ b. if b then after seen row rows (list_any (bytes_eq (name_of row.entry)) seen) else twice_from supers class seen rows) h

  seen_here : (seen : List (List ℕ)) (row : FeatureRow) (rows : List FeatureRow) → is_seen row ≡ true → twice_from supers class seen (row ∷ rows) ≡ after seen row rows (list_any (bytes_eq (name_of row.entry)) seen)
  seen_here seen row rows h = ap (λ b. if b then after seen row rows (list_any (bytes_eq (name_of row.entry)) seen) else twice_from supers class seen rows) h

  pub seen_again : (seen : List (List ℕ)) (row : FeatureRow) (rows : List FeatureRow) → is_seen row ≡ true → list_any (bytes_eq (name_of row.entry)) seen ≡ true → twice_from supers class seen (row ∷ rows) ≡ Some (name_of row.entry)
  seen_again seen row rows h k = seen_here seen row rows h ∙ ap (after seen row rows) k

  pub seen_first : (seen : List (List ℕ)) (row : FeatureRow) (rows : List FeatureRow) → is_seen row ≡ true → list_any (bytes_eq (name_of row.entry)) seen ≡ false → twice_from supers class seen (row ∷ rows) ≡ twice_from supers class (seen ++ (name_of row.entry ∷ [])) rows
  seen_first seen row rows h k =
      seen_here seen row rows h ∙ ap (after seen row rows) k
      ∙ twice_same (name_of row.entry ∷ seen) (seen ++ (name_of row.entry ∷ [])) rows (λ n. sym (list_any-append (bytes_eq n) seen (name_of row.entry ∷ []) ∙ or_swap (list_any (bytes_eq n) seen) (bytes_eq n (name_of row.entry))))

  -- ## Names as they are kept

  kept_names : (keys : List (Bor (List ℕ))) (n : List ℕ) → list_any (bytes_eq n) (map (λ k. k.now) keys) ≡ list_any (λ k. bytes_eq n k.now) keys
  kept_names [] n = refl
  kept_names (k ∷ keys) n = ap (λ b. bytes_eq n k.now || b) (kept_names keys n)

  told_seen : (row : FeatureRow) (c e : Bool) → c ≡ conforms supers class row.owner → e ≡ bytes_eq (name_of row.entry) [] → is_seen row ≡ (c && not e)
  told_seen row c e h k = ap (λ b. b && not (is_unnamed (name_of row.entry))) (sym h) ∙ ap (λ b. c && not b) (sym k)

  -- one that is not seen, or bears no name
  pub step_over : (keys : List (Bor (List ℕ))) (row : FeatureRow) (rows : List FeatureRow) (c e : Bool) → c ≡ conforms supers class row.owner → e ≡ bytes_eq (name_of row.entry) [] → (c && not e) ≡ false
      → twice_from supers class (map (λ k. k.now) keys) (row ∷ rows) ≡ twice_from supers class (map (λ k. k.now) keys) rows
  step_over keys row rows c e h k l = passed_over (map (λ k. k.now) keys) row rows (told_seen row c e h k ∙ l)

  -- a name that was seen
  pub step_again : (keys : List (Bor (List ℕ))) (row : FeatureRow) (rows : List FeatureRow) (name : Bor (List ℕ)) (c e : Bool) → c ≡ conforms supers class row.owner → e ≡ bytes_eq (name_of row.entry) [] → (c && not e) ≡ true
      → name.now ≡ name_of row.entry → list_any (λ k. bytes_eq name.now k.now) keys ≡ true
      → twice_from supers class (map (λ k. k.now) keys) (row ∷ rows) ≡ Some name.now
  step_again keys row rows name c e h k l n m =
      seen_again (map (λ k. k.now) keys) row rows (told_seen row c e h k ∙ l) (kept_names keys (name_of row.entry) ∙ ap (λ t. list_any (λ k. bytes_eq t k.now) keys) (sym n) ∙ m)
      ∙ ap Some (sym n)

  -- a name that was not
  pub step_new : (keys more : List (Bor (List ℕ))) (row : FeatureRow) (rows : List FeatureRow) (name : Bor (List ℕ)) (c e : Bool) → c ≡ conforms supers class row.owner → e ≡ bytes_eq (name_of row.entry) [] → (c && not e) ≡ true
      → name.now ≡ name_of row.entry → list_any (λ k. bytes_eq name.now k.now) keys ≡ false
      → more ≡ (if list_any (λ k. bytes_eq name.now k.now) keys then keys else keys ++ (name ∷ []))
      → twice_from supers class (map (λ k. k.now) keys) (row ∷ rows) ≡ twice_from supers class (map (λ k. k.now) more) rows
  step_new keys more row rows name c e h k l n m a =
      seen_first (map (λ k. k.now) keys) row rows (told_seen row c e h k ∙ l) (kept_names keys (name_of row.entry) ∙ ap (λ t. list_any (λ k. bytes_eq t k.now) keys) (sym n) ∙ m)
      ∙ ap (λ t. twice_from supers class (map (λ k. k.now) keys ++ (t ∷ [])) rows) (sym n)
      ∙ ap (λ l. twice_from supers class l rows) (sym (map_push (λ k. k.now) keys name))
      ∙ ap (λ l. twice_from supers class (map (λ k. k.now) l) rows) (sym (a ∙ ap (λ b. if b then keys else keys ++ (name ∷ [])) m))
