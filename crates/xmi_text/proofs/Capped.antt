-- Numbers that are cut off above all that they are compared with.
use Rattle.std.proofs.Common.{◌≡◌, ℕ, ◌+◌, ◌*◌, ◌-◌, ◌<◌, min, List, [], ◌∷◌, length, get_or, drop, sym, ap, ◌∙◌, add-one, arith}
use Rattle.std.specs.Prelude.{fold}
use Rattle.std.proofs.Math.Seq.{drop-cons}

step : (c m n k : ℕ) → min m c ≡ min n c → min (10 * m + k) c ≡ min (10 * n + k) c
step c m n k h = omega (arith, h)

pub capped : (c : ℕ) (ds : List ℕ) (m n : ℕ) → min m c ≡ min n c → min (fold (λ n digit. 10 * n + (digit - 48)) m ds) c ≡ min (fold (λ n digit. 10 * n + (digit - 48)) n ds) c
capped c [] m n h = h
capped c (d ∷ ds) m n h = capped c ds (10 * m + (d - 48)) (10 * n + (d - 48)) (step c m n (d - 48) h)

cut : (text : List ℕ) (i : ℕ) → i < length text → drop i text ≡ get_or text i 0 ∷ drop (i + 1) text
cut text i h = drop-cons text i 0 h ∙ ap (λ k. get_or text i 0 ∷ drop k text) (sym (add-one i))

pub next : (c : ℕ) (text : List ℕ) (i n r x : ℕ) → i < length text → r ≡ min (10 * n + (get_or text i 0 - 48)) c
    → min (fold (λ n digit. 10 * n + (digit - 48)) n (drop i text)) c ≡ x → min (fold (λ n digit. 10 * n + (digit - 48)) r (drop (i + 1) text)) c ≡ x
next c text i n r x h e t =
    capped c (drop (i + 1) text) r (10 * n + (get_or text i 0 - 48)) (omega (arith, e))
    ∙ sym (ap (λ l. min (fold (λ n digit. 10 * n + (digit - 48)) n l) c) (cut text i h))
    ∙ t
