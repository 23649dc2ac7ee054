-- The place behind a front part of a text.
use Rattle.std.proofs.Common.{◌≡◌, ◌∙◌, ◌++◌, ◌≤◌, ◌<◌, ◌+◌, ◌==◌, ℕ, List, [], ◌∷◌, length, take, drop, Some, None, Bool, true, false, cond, sym, ap, refl, arith}
use Rattle.std.specs.Char.{encode_utf8}
use Rattle.std.specs.Option.{unwrap_or}
use Rattle.std.specs.Str.{IsUtf8, chars, bytes_eq}
use Rattle.std.proofs.lemmas.List.{take-append-drop, length-append, length-drop}
use Rattle.std.proofs.lemmas.Slice.Eq.{bytes_eq-Decides}
use Rattle.std.proofs.lemmas.Str.{IsUtf8-past_char, chars_past_char, length-encode, len_utf8_bounds}
use Rattle.atl_base.specs.declared.place.Place.{Place}
use Rattle.atl_tree.specs.Tokens.{place, past, after}
use Rattle.atl_cli.specs.Format.{without_mark}
use Rattle.atl_cli.specs.Source.{behind}

abbrev mark : List ℕ
mark = 239 ∷ 187 ∷ 191 ∷ []

mark_is : encode_utf8 0xFEFF ≡ mark
unfolding encode_utf8
mark_is = refl

-- what stands behind the mark is a text too, and no longer
pub behind_mark : (bytes : List ℕ) → IsUtf8 bytes → IsUtf8 (without_mark bytes)
unfolding behind
behind_mark bytes u = go (bytes_eq (take 3 bytes) mark) refl
  where
    go : (b : Bool) → bytes_eq (take 3 bytes) mark ≡ b → IsUtf8 (unwrap_or (cond b (Some (drop 3 bytes)) None) bytes)
    go true e =
        IsUtf8-past_char bytes (drop 3 bytes) 0xFEFF u
        (sym (take-append-drop 3 bytes) ∙ ap (λ l. l ++ drop 3 bytes) ((bytes_eq-Decides (take 3 bytes) mark).0 e ∙ sym mark_is))
    go false e = u

pub behind_shorter : (bytes : List ℕ) → length (without_mark bytes) ≤ length bytes
unfolding behind
behind_shorter bytes = go (bytes_eq (take 3 bytes) mark)
  where
    go : (b : Bool) → length (unwrap_or (cond b (Some (drop 3 bytes)) None) bytes) ≤ length bytes
    go true = omega (arith, length-drop 3 bytes)
    go false = omega arith

-- a character's step keeps the place within the text
pub within : (p : Place) (c old new size : ℕ) → new < old → 1 ≤ p.line → p.line + old ≤ size + 1 → p.column + old ≤ size + 1 →
    (1 ≤ (past p c).line) × ((past p c).line + new ≤ size + 1) × ((past p c).column + new ≤ size + 1)
within p c old new size less begun line column = go (c == 10)
  where
    go : (b : Bool) → (1 ≤ (cond b (place (p.line + 1) 1) (place p.line (p.column + 1))).line) × ((cond b (place (p.line + 1) 1) (place p.line (p.column + 1))).line + new ≤ size + 1)
        × ((cond b (place (p.line + 1) 1) (place p.line (p.column + 1))).column + new ≤ size + 1)
    go true = (omega arith, omega arith, omega arith)
    go false = (omega arith, omega arith, omega arith)

-- what is left of a text is shorter behind a character
pub shorter : (c : ℕ) (old new : List ℕ) → old ≡ encode_utf8 c ++ new → length new < length old
shorter c old new e = omega (arith, ap length e, length-append (encode_utf8 c) new, length-encode c, len_utf8_bounds c)

-- the place after what is left is that after a character and then the rest
pub after_step : (p : Place) (c : ℕ) (old new : List ℕ) → IsUtf8 old → old ≡ encode_utf8 c ++ new → after p (chars old) ≡ after (past p c) (chars new)
after_step p c old new u e = ap (after p) (chars_past_char old new c u e)
