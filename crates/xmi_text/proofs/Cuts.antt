-- The parts of a text before and behind a character, by the place where the first of it stands.
use Rattle.std.proofs.Common.{◌≡◌, ℕ, suc, ◌<◌, ◌≤◌, List, [], ◌∷◌, length, take, drop, ◌+◌, ◌-◌, add-one, refl, sym, ap, subst, ◌∙◌, arith}
use Rattle.std.proofs.lemmas.List.{take_rest, drop_all}
use Rattle.std.specs.Prelude.{true, false, ◌==◌, Some, None, option_map, if◌then◌else◌}
use Rattle.std.specs.Option.{option_map_or}
use Rattle.doc_text.specs.declared.tree.Prefix.{Prefix}
use Rattle.xmi_text.specs.Markup.{before_colon, behind_colon, names, names_local}
use Rattle.xmi_text.specs.Fragments.{file_of, behind_hash}
use Rattle.xmi_text.specs.Cuts.{place_of}

pub before_some : (t : List ℕ) → place_of 58 t < length t → before_colon t ≡ Some (take (place_of 58 t) t)
before_some [] h = absurd (omega (arith, h))
before_some (c ∷ cs) h =
    (elim (c == 58) as (λ b. (if b then 0 else suc (place_of 58 cs)) < suc (length cs) → (if b then Some [] else option_map (λ r. c ∷ r) (before_colon cs)) ≡ Some (take (if b then 0 else suc (place_of 58 cs)) (c ∷ cs))) [
      | true ↦ λ h. refl
      | false ↦ λ h. ap (option_map (λ r. c ∷ r)) (before_some cs (omega (arith, h)))
    ]) h

pub before_none : (t : List ℕ) → length t ≤ place_of 58 t → before_colon t ≡ None
before_none [] h = refl
before_none (c ∷ cs) h =
    (elim (c == 58) as (λ b. suc (length cs) ≤ (if b then 0 else suc (place_of 58 cs)) → (if b then Some [] else option_map (λ r. c ∷ r) (before_colon cs)) ≡ None) [
      | true ↦ λ h. absurd (omega (arith, h))
      | false ↦ λ h. ap (option_map (λ r. c ∷ r)) (before_none cs (omega (arith, h)))
    ]) h

pub behind : (t : List ℕ) → behind_colon t ≡ drop (suc (place_of 58 t)) t
behind [] = refl
behind (c ∷ cs) = elim (c == 58) as (λ b. (if b then cs else behind_colon cs) ≡ drop (if b then 0 else suc (place_of 58 cs)) cs) [ true ↦ refl | false ↦ behind cs ]

-- what is behind a place, as code cuts it
pub rest_cut : (n : ℕ) (text : List ℕ) → drop (suc n) text ≡ take (length text - (n + 1)) (drop (n + 1) text)
rest_cut n text = ap (λ k. drop k text) (sym (add-one n)) ∙ sym (take_rest text (n + 1))

pub names_cut : (scope : List Prefix) (text name : List ℕ) (n : ℕ) → n ≡ place_of 58 text → n < length text
    → names scope text name ≡ names_local scope (take n text) (take (length text - (n + 1)) (drop (n + 1) text)) name
names_cut scope text name n e h =
    ap (λ o. option_map_or (λ prefix. names_local scope prefix (behind_colon text) name) o (names_local scope [] text name)) (before text n e h)
    ∙ ap (λ local. names_local scope (take n text) local name) (behind text ∙ ap (λ k. drop (suc k) text) (sym e) ∙ rest_cut n text)
  where
    before : (text : List ℕ) (n : ℕ) → n ≡ place_of 58 text → n < length text → before_colon text ≡ Some (take n text)
    before text n e h = before_some text (subst (λ k. k < length text) e h) ∙ ap (λ k. Some (take k text)) (sym e)

pub names_whole : (scope : List Prefix) (text name : List ℕ) (n : ℕ) → n ≡ place_of 58 text → length text ≤ n → names scope text name ≡ names_local scope [] text name
names_whole scope text name n e h =
    ap (λ o. option_map_or (λ prefix. names_local scope prefix (behind_colon text) name) o (names_local scope [] text name)) (before_none text (subst (λ k. length text ≤ k) e h))

-- ## Before and behind a `#`

pub file_cut : (t : List ℕ) → file_of t ≡ take (place_of 35 t) t
file_cut [] = refl
file_cut (c ∷ cs) = elim (c == 35) as (λ b. (if b then [] else c ∷ file_of cs) ≡ take (if b then 0 else suc (place_of 35 cs)) (c ∷ cs)) [ true ↦ refl | false ↦ ap (λ r. c ∷ r) (file_cut cs) ]

hash_drop : (t : List ℕ) → behind_hash t ≡ drop (suc (place_of 35 t)) t
hash_drop [] = refl
hash_drop (c ∷ cs) = elim (c == 35) as (λ b. (if b then cs else behind_hash cs) ≡ drop (if b then 0 else suc (place_of 35 cs)) cs) [ true ↦ refl | false ↦ hash_drop cs ]

pub hash_cut : (t : List ℕ) (n : ℕ) → n ≡ place_of 35 t → behind_hash t ≡ take (length t - (n + 1)) (drop (n + 1) t)
hash_cut t n e = hash_drop t ∙ ap (λ k. drop (suc k) t) (sym e) ∙ rest_cut n t

pub hash_none : (t : List ℕ) (n : ℕ) → n ≡ place_of 35 t → length t ≤ n → behind_hash t ≡ []
hash_none t n e h = hash_drop t ∙ ap (λ k. drop (suc k) t) (sym e) ∙ drop_all (suc n) t (omega (arith, h))
