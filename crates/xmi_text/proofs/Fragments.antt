-- The parts of a fragment between slashes, by the places where slashes stand.
use Rattle.std.proofs.Common.{◌≡◌, ℕ, suc, ◌+◌, ◌-◌, ◌<◌, ◌≤◌, List, [], ◌∷◌, length, take, drop, refl, sym, ap, subst, ◌∙◌, arith}
use Rattle.std.specs.Prelude.{true, false, ◌==◌, None, if◌then◌else◌}
use Rattle.xmi_text.specs.Fragments.{parts_of, with_first, named_path, path_of, named_feature, feature_path_of}
use Rattle.xmi_text.specs.Cuts.{place_of}
use Rattle.xmi_text.proofs.Cuts.{rest_cut}

parts_at : (t : List ℕ) → place_of 47 t < length t → parts_of t ≡ take (place_of 47 t) t ∷ parts_of (drop (suc (place_of 47 t)) t)
parts_at [] h = absurd (omega (arith, h))
parts_at (c ∷ cs) h =
    (elim (c == 47) as (λ b. (if b then 0 else suc (place_of 47 cs)) < suc (length cs) → (if b then [] ∷ parts_of cs else with_first c (parts_of cs)) ≡ take (if b then 0 else suc (place_of 47 cs)) (c ∷ cs) ∷ parts_of (drop (if b then 0 else suc (place_of 47 cs)) cs)) [
      | true ↦ λ h. refl
      | false ↦ λ h. ap (with_first c) (parts_at cs (omega (arith, h)))
    ]) h

parts_end : (t : List ℕ) → length t ≤ place_of 47 t → parts_of t ≡ t ∷ []
parts_end [] h = refl
parts_end (c ∷ cs) h =
    (elim (c == 47) as (λ b. suc (length cs) ≤ (if b then 0 else suc (place_of 47 cs)) → (if b then [] ∷ parts_of cs else with_first c (parts_of cs)) ≡ (c ∷ cs) ∷ []) [
      | true ↦ λ h. absurd (omega (arith, h))
      | false ↦ λ h. ap (with_first c) (parts_end cs (omega (arith, h)))
    ]) h

pub parts_cut : (t : List ℕ) (n : ℕ) → n ≡ place_of 47 t → n < length t → parts_of t ≡ take n t ∷ parts_of (take (length t - (n + 1)) (drop (n + 1) t))
parts_cut t n e h =
    parts_at t (subst (λ k. k < length t) e h)
    ∙ ap (λ k. take k t ∷ parts_of (drop (suc k) t)) (sym e)
    ∙ ap (λ rest. take n t ∷ parts_of rest) (rest_cut n t)

pub parts_whole : (t : List ℕ) (n : ℕ) → n ≡ place_of 47 t → length t ≤ n → parts_of t ≡ t ∷ []
parts_whole t n e h = parts_end t (subst (λ k. length t ≤ k) e h)

-- a path without a second slash
pub short : (t : List ℕ) (n : ℕ) → n ≡ place_of 47 t → length t ≤ n → path_of ([] ∷ parts_of t) ≡ None
short t n e h = ap (λ parts. path_of ([] ∷ parts)) (parts_whole t n e h)

at_least_one : (t first name : List ℕ) → path_of ([] ∷ first ∷ (name ∷ parts_of t)) ≡ None
at_least_one [] first name = refl
at_least_one (c ∷ cs) first name = elim (c == 47) as (λ b. path_of ([] ∷ first ∷ (name ∷ (if b then [] ∷ parts_of cs else with_first c (parts_of cs)))) ≡ None) [ true ↦ refl | false ↦ first_of (parts_of cs) ]
  where
    first_of : (parts : List (List ℕ)) → path_of ([] ∷ first ∷ (name ∷ with_first c parts)) ≡ None
    first_of [] = refl
    first_of (p ∷ ps) = refl

-- a third slash
pub long : (t : List ℕ) (n m : ℕ) → n ≡ place_of 47 t → n < length t
    → m ≡ place_of 47 (take (length t - (n + 1)) (drop (n + 1) t)) → m < length (take (length t - (n + 1)) (drop (n + 1) t))
    → path_of ([] ∷ parts_of t) ≡ None
long t n m e h f g =
    let name = take (length t - (n + 1)) (drop (n + 1) t) in
    ap (λ parts. path_of ([] ∷ parts)) (parts_cut t n e h ∙ ap (λ parts. take n t ∷ parts) (parts_cut name m f g))
    ∙ at_least_one (take (length name - (m + 1)) (drop (m + 1) name)) (take n t) (take m name)

pub fits : (t : List ℕ) (n m : ℕ) → n ≡ place_of 47 t → n < length t
    → m ≡ place_of 47 (take (length t - (n + 1)) (drop (n + 1) t)) → length (take (length t - (n + 1)) (drop (n + 1) t)) ≤ m
    → path_of ([] ∷ parts_of t) ≡ named_path (take n t) (take (length t - (n + 1)) (drop (n + 1) t))
fits t n m e h f g =
    let name = take (length t - (n + 1)) (drop (n + 1) t) in
    ap (λ parts. path_of ([] ∷ parts)) (parts_cut t n e h ∙ ap (λ parts. take n t ∷ parts) (parts_whole name m f g))

-- a text that doesn't begin with a slash
pub unrooted : (c : ℕ) (cs : List ℕ) → (c == 47) ≡ false → path_of (parts_of (c ∷ cs)) ≡ None
unrooted c cs e = ap (λ b. path_of (if b then [] ∷ parts_of cs else with_first c (parts_of cs))) e ∙ by (parts_of cs)
  where
    by : (parts : List (List ℕ)) → path_of (with_first c parts) ≡ None
    by [] = refl
    by (p ∷ ps) = refl

-- ## Paths to features

-- what is behind a place
abbrev pub rest : List ℕ → ℕ → List ℕ
rest t n = take (length t - (n + 1)) (drop (n + 1) t)

pub one_part : (t : List ℕ) (n : ℕ) → n ≡ place_of 47 t → length t ≤ n → feature_path_of ([] ∷ parts_of t) ≡ None
one_part t n e h = ap (λ parts. feature_path_of ([] ∷ parts)) (parts_whole t n e h)

pub two_parts : (t : List ℕ) (n m : ℕ) → n ≡ place_of 47 t → n < length t → m ≡ place_of 47 (rest t n) → length (rest t n) ≤ m → feature_path_of ([] ∷ parts_of t) ≡ None
two_parts t n m e h f g = ap (λ parts. feature_path_of ([] ∷ parts)) (parts_cut t n e h ∙ ap (λ parts. take n t ∷ parts) (parts_whole (rest t n) m f g))

pub three_parts : (t : List ℕ) (n m k : ℕ) → n ≡ place_of 47 t → n < length t → m ≡ place_of 47 (rest t n) → m < length (rest t n)
    → k ≡ place_of 47 (rest (rest t n) m) → length (rest (rest t n) m) ≤ k
    → feature_path_of ([] ∷ parts_of t) ≡ named_feature (take n t) (take m (rest t n)) (rest (rest t n) m)
three_parts t n m k e h f g i j =
    ap (λ parts. feature_path_of ([] ∷ parts))
    (parts_cut t n e h ∙ ap (λ parts. take n t ∷ parts) (parts_cut (rest t n) m f g ∙ ap (λ parts. take m (rest t n) ∷ parts) (parts_whole (rest (rest t n) m) k i j)))

more_parts : (t first name feature : List ℕ) → feature_path_of ([] ∷ first ∷ (name ∷ (feature ∷ parts_of t))) ≡ None
more_parts [] first name feature = refl
more_parts (c ∷ cs) first name feature = elim (c == 47) as (λ b. feature_path_of ([] ∷ first ∷ (name ∷ (feature ∷ (if b then [] ∷ parts_of cs else with_first c (parts_of cs))))) ≡ None) [ true ↦ refl | false ↦ by (parts_of cs) ]
  where
    by : (parts : List (List ℕ)) → feature_path_of ([] ∷ first ∷ (name ∷ (feature ∷ with_first c parts))) ≡ None
    by [] = refl
    by (p ∷ ps) = refl

pub four_parts : (t : List ℕ) (n m k : ℕ) → n ≡ place_of 47 t → n < length t → m ≡ place_of 47 (rest t n) → m < length (rest t n)
    → k ≡ place_of 47 (rest (rest t n) m) → k < length (rest (rest t n) m) → feature_path_of ([] ∷ parts_of t) ≡ None
four_parts t n m k e h f g i j =
    ap (λ parts. feature_path_of ([] ∷ parts))
    (parts_cut t n e h ∙ ap (λ parts. take n t ∷ parts) (parts_cut (rest t n) m f g ∙ ap (λ parts. take m (rest t n) ∷ parts) (parts_cut (rest (rest t n) m) k i j)))
    ∙ more_parts (rest (rest (rest t n) m) k) (take n t) (take m (rest t n)) (take k (rest (rest t n) m))
