-- The first declaration in a scope that has a property, level by level.
use Rattle.std.proofs.Common.{◌≡◌, List, ◌++◌, refl, ap, ◌∙◌, append_assoc}
use Rattle.std.specs.Prelude.{Bool, find}
use Rattle.std.specs.Option.{option_or}
use Rattle.std.proofs.lemmas.List.Folds.{find-append}

module _ {X : Type 0} (p : X → Bool) where
  or_first : (xs ys : List X) → find p (xs ++ ys) ≡ option_or (find p xs) (find p ys)
  or_first = find-append p

  pub levels : (a b c d e f : List X) →
      find p (a ++ (b ++ (c ++ (d ++ (e ++ f))))) ≡ option_or (option_or (option_or (option_or (option_or (find p a) (find p b)) (find p c)) (find p d)) (find p e)) (find p f)
  levels a b c d e f =
      ap (find p) (regroup a b c d e f) ∙ joined a b c d e f
    where
      regroup : (a b c d e f : List X) → a ++ (b ++ (c ++ (d ++ (e ++ f)))) ≡ ((((a ++ b) ++ c) ++ d) ++ e) ++ f
      regroup a b c d e f = simp append_assoc

      joined : (a b c d e f : List X) → find p (((((a ++ b) ++ c) ++ d) ++ e) ++ f) ≡ option_or (option_or (option_or (option_or (option_or (find p a) (find p b)) (find p c)) (find p d)) (find p e)) (find p f)
      joined a b c d e f = rw (or_first ((((a ++ b) ++ c) ++ d) ++ e) f, or_first (((a ++ b) ++ c) ++ d) e, or_first ((a ++ b) ++ c) d, or_first (a ++ b) c, or_first a b) refl
