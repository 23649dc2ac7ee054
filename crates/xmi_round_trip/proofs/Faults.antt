-- The first of several faults.
use Rattle.std.proofs.Common.{◌≡◌, List, ◌∷◌, ap, ◌∙◌, Option, None}
use Rattle.xmi_models.specs.Faults.{Fault, first_of}

-- where one is none, it is that of the others
pub one_past : (a : Option Fault) (rest : List (Option Fault)) → a ≡ None → first_of rest ≡ None → first_of (a ∷ rest) ≡ None
one_past a rest h k = ap (λ o. first_of (o ∷ rest)) h ∙ k
