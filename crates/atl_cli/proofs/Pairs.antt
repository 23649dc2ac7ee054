-- A word is split at its first equals sign in one way.
use Rattle.std.proofs.Common.{◌≡◌, ◌==◌, ℕ, ◌+◌, true, false, List, [], ◌∷◌, ◌++◌, length, take, drop, get_or, refl, sym, ap, ◌∙◌, arith}
use Rattle.std.proofs.lemmas.List.{drop_all, length-take-le}
use Rattle.std.proofs.Math.Seq.{get_or-append_seam}
use Rattle.std.proofs.lemmas.Bool.{or_parts}
use Rattle.std.specs.Str.{IsCharBoundary}
use Rattle.std.proofs.lemmas.Str.{IsCharBoundary-start, IsCharBoundary-after_ascii}
use Rattle.atl_base.specs.XmlText.{IsXmlText}
use Rattle.atl_base.proofs.XmlTexts.{IsUtf8-from_text}
use Rattle.atl_cli.specs.declared.words.Pair.{Pair}
use Rattle.atl_cli.specs.Words.{has_equals, SplitsAt, IsPair, pair_word}

pub one_split : (xs ys zs ws : List ℕ) → has_equals xs ≡ false → has_equals zs ≡ false → xs ++ (61 ∷ ys) ≡ zs ++ (61 ∷ ws) → (xs ≡ zs) × (ys ≡ ws)
one_split [] ys [] ws h g e = (refl, cc)
one_split [] ys (a ∷ zs) ws h g e = let same : 61 ≡ a = cc in let both : true ≡ false = ap (λ x. has_equals (x ∷ zs)) same ∙ g in cc
one_split (x ∷ xs) ys [] ws h g e = let same : 61 ≡ x = cc in let both : true ≡ false = ap (λ y. has_equals (y ∷ xs)) same ∙ h in cc
one_split (x ∷ xs) ys (a ∷ zs) ws h g e =
    let heads : x ≡ a = cc in
    let tails : xs ++ (61 ∷ ys) ≡ zs ++ (61 ∷ ws) = cc in
    let rest = one_split xs ys zs ws (later x xs h) (later a zs g) tails in
    (ap (λ y. y ∷ xs) heads ∙ ap (λ l. a ∷ l) rest.0, rest.1)
  where
    later : (y : ℕ) (l : List ℕ) → has_equals (y ∷ l) ≡ false → has_equals l ≡ false
    later y l h = (or_parts (y == 61) (has_equals l) h).1

pub ascii_there : (bs : List ℕ) (at : ℕ) → SplitsAt bs at → get_or bs at 0 ≡ 61
ascii_there bs at s =
    ap (λ l. get_or l at 0) s.parts ∙ ap (λ n. get_or (take at bs ++ (61 ∷ drop (at + 1) bs)) n 0) (sym (length-take-le at bs (omega (arith, s.within)))) ∙ get_or-append_seam (take at bs) 61 (drop (at + 1) bs) 0

pub cut_after : (bs : List ℕ) (at : ℕ) → IsXmlText bs → SplitsAt bs at → IsCharBoundary bs (at + 1)
cut_after bs at x s = IsCharBoundary-after_ascii bs at (IsUtf8-from_text bs x) s.within (omega (arith, ascii_there bs at s))

pub cut_start : (bs : List ℕ) → IsXmlText bs → IsCharBoundary bs 0
cut_start bs x = IsCharBoundary-start bs (IsUtf8-from_text bs x)

-- behind the last character there is no path
pub no_path : (bs : List ℕ) (at : ℕ) (p : Pair) → SplitsAt bs at → at + 1 ≡ length bs → IsPair p → bs ≡ pair_word p → ⊥
no_path bs at p s end ok e =
    let parts = one_split (take at bs) (drop (at + 1) bs) p.name p.path s.first ok.first (sym s.parts ∙ e) in
    ok.path (sym parts.1 ∙ drop_all (at + 1) bs (omega arith))
