-- Lists made place by place from what a function gives there.
use Rattle.std.proofs.Common.{◌≡◌, ℕ, ◌+◌, ◌<◌, ◌≤◌, List, [], ◌∷◌, ◌++◌, length, refl, sym, ap, subst, ◌∙◌, ⊎_elim, arith}
use Rattle.std.specs.Prelude.{slice_index_or}
use Rattle.std.proofs.lemmas.Bool.{cases_lt}
use Rattle.std.proofs.lemmas.List.{get_or_append_left, get_or_push, length_push}

pub record IsTable {X : Type 0} (d : X) (count : ℕ) (says : ℕ → X) (list : List X) : Type 0 where
  pub size : length list ≡ count
  pub each : (k : ℕ) → k < count → slice_index_or list k d ≡ says k

module _ {X : Type 0} (d : X) (says : ℕ → X) where
  pub table_none : (list : List X) → list ≡ [] → IsTable d 0 says list
  table_none list e = record { size = ap length e; each = λ k l. absurd (omega (arith, l)) }

  pub table_more : (n : ℕ) (list longer : List X) (y : X) → IsTable d n says list → longer ≡ list ++ y ∷ [] → y ≡ says n → IsTable d (n + 1) says longer
  table_more n list longer y t same e = subst (IsTable d (n + 1) says) (sym same) (record {
    size = omega (arith, t.size, length_push list y);
    each = λ k l. ⊎_elim
        (λ (low : k < n). get_or_append_left list (y ∷ []) d k (omega (arith, low, t.size)) ∙ t.each k low)
        (λ (high : n ≤ k). let last : k ≡ n = omega (arith, l, high) in get_or_push list y d k (t.size ∙ sym last) ∙ e ∙ ap says (sym last))
        (cases_lt k n);
  })
