-- The tables of names, grown by one feature.
use Rattle.std.proofs.Common.{◌≡◌, ◌≢◌, ℕ, ◌+◌, ◌<◌, ◌⊎◌, Bool, true, false, cond, List, [], ◌∷◌, ◌++◌, length, get_or, take, map, refl, sym, ap, subst, ◌∙◌, inl, inr, ⊎_elim, arith, Option, Some, None}
use Rattle.std.specs.Prelude.{nat_eq, slice_index}
use Rattle.std.proofs.lemmas.Bool.{cases_eq, eq-eqb, ne_eqb}
use Rattle.std.proofs.lemmas.List.{take_more, get_or-take, length-take-le, get_or-map, length-map}
use Rattle.std.proofs.lemmas.List.Elements.{Contains-push, Contains-append_left, Contains-push_cases}
use Rattle.std.proofs.lemmas.Option.{none-some, same_Some, slice_get-get_or}
use Rattle.std.proofs.lemmas.Slice.Eq.{bytes_eq-Decides}
use Rattle.std.specs.HashMap.{get, Updates}
use Rattle.std.specs.List.{Contains}
use Rattle.std.specs.Map.{update}
use Rattle.std.specs.Option.{option_map_or}
use Rattle.std.specs.Str.{bytes_eq}
use Rattle.atl_base.specs.declared.numbers.FeatId.{FeatId}
use Rattle.ecore_meta.specs.declared.parts.Feature.{Feature}
use Rattle.ecore_meta.specs.Inheritance.{name_of}
use Rattle.ecore_meta.specs.Tables.{IsRow, Row}
use Rattle.ecore_meta.specs.Valid.{AllDiffer}

-- what the code reads at a feature
pub name_at : (all : List Feature) (i : ℕ) (d : Feature) → i < length all → name_of all (record { 0 = i }) ≡ (get_or all i d).name
name_at all i d h = ap (λ o. option_map_or (λ f. f.name) o []) (slice_get-get_or all i d h)

-- ---- a map from texts, with one text more
module _ (old new : List ℕ → Option ℕ) (bs : List ℕ) (v : ℕ) (more : (q : List ℕ) → new q ≡ update bytes_eq old bs (Some v) q) (fresh : old bs ≡ None) where
  pub text_kept : (q : List ℕ) (i : ℕ) → old q ≡ Some i → new q ≡ Some i
  text_kept q i h = by (bytes_eq bs q) refl
    where
      by : (b : Bool) → bytes_eq bs q ≡ b → new q ≡ Some i
      by true e = absurd (none-some i (sym fresh ∙ ap old ((bytes_eq-Decides bs q).0 e) ∙ h))
      by false e = more q ∙ ap (λ b. cond b (Some v) (old q)) e ∙ h

  pub text_added : (q : List ℕ) (i : ℕ) → new q ≡ Some i → (old q ≡ Some i) ⊎ ((q ≡ bs) × (i ≡ v))
  text_added q i h = by (bytes_eq bs q) refl
    where
      by : (b : Bool) → bytes_eq bs q ≡ b → (old q ≡ Some i) ⊎ ((q ≡ bs) × (i ≡ v))
      by true e = inr (sym ((bytes_eq-Decides bs q).0 e), same_Some i v (sym h ∙ more q ∙ ap (λ b. cond b (Some v) (old q)) e))
      by false e = inl (sym (ap (λ b. cond b (Some v) (old q)) e) ∙ sym (more q) ∙ h)

-- ---- a row of features, with one feature more
module _ (places : List ℕ) (seen : List FeatId) (i : ℕ) (d : FeatId) (inside : i < length seen) (differ : AllDiffer (map (λ f. slice_index places f.0) seen)) where
  -- a feature before the i-th has another place
  place_apart : (f : FeatId) → Contains (take i seen) f → slice_index places (get_or seen i d).0 ≢ slice_index places f.0
  place_apart f m e =
      let k : ℕ = m.0 in
      let below : k < i = omega (arith, m.1, length-take-le i seen (omega arith)) in
      let at_k : get_or (map (λ f. slice_index places f.0) seen) k 0 ≡ slice_index places f.0 =
      get_or-map (λ f. slice_index places f.0) seen k f 0 (omega arith) ∙ ap (λ f. slice_index places f.0) (sym (get_or-take i seen k f below) ∙ m.2) in
      let at_i : get_or (map (λ f. slice_index places f.0) seen) i 0 ≡ slice_index places (get_or seen i d).0 = get_or-map (λ f. slice_index places f.0) seen i d 0 inside in
      differ k i 0 below (omega (arith, length-map seen (λ f. slice_index places f.0))) (at_k ∙ sym e ∙ sym at_i)

  pub IsRow-more : (old new : Row) → Updates nat_eq old new (slice_index places (get_or seen i d).0) (Some (get_or seen i d)) → IsRow places (take i seen) old → IsRow places (take (i + 1) seen) new
  IsRow-more old new u r = record {
    found = λ n f h. ⊎_elim
        (λ (same : slice_index places here.0 ≡ n).
        let it : here ≡ f = same_Some here f (sym (ap (λ b. cond b (Some here) (get nat_eq old n)) (eq-eqb (slice_index places here.0) n same)) ∙ sym (u.0 n) ∙ h) in
        (subst (Contains (take (i + 1) seen)) it (subst (λ l. Contains l here) (sym longer) (Contains-push (take i seen) here)), subst (λ g. slice_index places g.0 ≡ n) it same))
        (λ (other : slice_index places here.0 ≢ n).
        let was = r.found n f (sym (ap (λ b. cond b (Some here) (get nat_eq old n)) (ne_eqb (slice_index places here.0) n other)) ∙ sym (u.0 n) ∙ h) in
        (subst (λ l. Contains l f) (sym longer) (Contains-append_left (take i seen) (here ∷ []) f was.0), was.1))
        (cases_eq (slice_index places here.0) n);
    each = λ f m. ⊎_elim
        (λ (before : Contains (take i seen) f).
        u.0 (slice_index places f.0) ∙ ap (λ b. cond b (Some here) (get nat_eq old (slice_index places f.0))) (ne_eqb (slice_index places here.0) (slice_index places f.0) (place_apart f before)) ∙ r.each f before)
        (λ (it : here ≡ f). subst (λ g. get nat_eq new (slice_index places g.0) ≡ Some g) it
        (u.0 (slice_index places here.0) ∙ ap (λ b. cond b (Some here) (get nat_eq old (slice_index places here.0))) (eq-eqb (slice_index places here.0) (slice_index places here.0) refl)))
        (Contains-push_cases (take i seen) here f (subst (λ l. Contains l f) longer m));
  }
    where
      here : FeatId
      here = get_or seen i d

      longer : take (i + 1) seen ≡ take i seen ++ get_or seen i d ∷ []
      longer = take_more seen i d inside
