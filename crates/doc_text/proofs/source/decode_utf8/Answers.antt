use Rattle.std.proofs.Common.{◌≡◌, ℕ, List, ◌++◌, length, take, ◌⊎◌, inl, inr, nat_eq, sym, ap, ◌∙◌, subst}
use Rattle.std.proofs.lemmas.Str.{utf8_valid_len-IsUtf8, utf8_valid_len-IsValidUpTo}
use Rattle.std.proofs.Math.Seq.{take-length}
use Rattle.std.specs.Str.{chars, IsValidUpTo, IsUtf8}
use Rattle.std.specs.Str.Lossy.{utf8_valid_len}
use Rattle.doc_text.specs.Characters.{tail}
use Rattle.doc_text.proofs.source.decode_utf8.Goals as goal

-- the longest front that is UTF-8 is as long as that
long : (bs front : List ℕ) → IsUtf8 front → (front ≡ bs) ⊎ (IsValidUpTo bs (length front) × (front ≡ take (length front) bs)) → length front ≡ utf8_valid_len bs
long bs front u (inl h) = ap length h ∙ sym (utf8_valid_len-IsUtf8 bs (subst IsUtf8 h u))
long bs front u (inr h) = sym (utf8_valid_len-IsValidUpTo bs (length front) h.0)

front_is : (bs front : List ℕ) → (front ≡ bs) ⊎ (IsValidUpTo bs (length front) × (front ≡ take (length front) bs)) → front ≡ take (length front) bs
front_is bs front (inl h) = h ∙ sym (take-length bs) ∙ ap (λ n. take n bs) (sym (ap length h))
front_is bs front (inr h) = h.1

pub returns : goal.returns
returns c =
    let bs = c.args.bytes.now in
    let front = c.utf8_front-front.result.now in
    let n : length front ≡ utf8_valid_len bs = long bs front c.utf8_front-front.utf8 c.utf8_front-front.ensures in
    let f : front ≡ take (utf8_valid_len bs) bs = front_is bs front c.utf8_front-front.ensures ∙ ap (λ m. take m bs) n in
    ap (λ x. chars x ++ tail (nat_eq (length front) (length bs))) f
    ∙ ap (λ m. chars (take (utf8_valid_len bs) bs) ++ tail (nat_eq m (length bs))) n
