-- The innermost declaration of a prefix: an element's own, or else one around it.
use Rattle.std.proofs.Common.{◌≡◌, List, ◌++◌, ap, ◌∙◌}
use Rattle.std.specs.Prelude.{Bool, find, Some, None}
use Rattle.std.specs.Option.{option_or}
use Rattle.std.proofs.lemmas.List.Folds.{find-append}

module _ {X : Type 0} (p : X → Bool) (own outer : List X) where
  pub own_found : (x : X) → find p own ≡ Some x → find p (own ++ outer) ≡ Some x
  own_found x e = find-append p own outer ∙ ap (λ o. option_or o (find p outer)) e

  pub outer_found : find p own ≡ None → find p (own ++ outer) ≡ find p outer
  outer_found e = find-append p own outer ∙ ap (λ o. option_or o (find p outer)) e
