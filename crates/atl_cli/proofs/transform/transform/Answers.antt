use Rattle.std.proofs.Common.{MatchOption, Option, List, ℕ, subst, refl}
use Rattle.atl_cli.specs.Transform.{OtherWords}
use Rattle.atl_cli.specs.Words.{IsRequest}
use Rattle.atl_cli.specs.declared.words.Request.{Request}
use Rattle.atl_cli.proofs.Endings.{IfSome-always}
use Rattle.atl_cli.proofs.transform.transform.Goals as goal

abbrev Read : List (List ℕ) → Option Request → Type 0
Read words read = MatchOption read ((r : Request) → IsRequest words r → ⊥) (λ r. IsRequest words r)

pub returns-in_default-clause-ended : goal.returns-in_default-clause-ended
returns-in_default-clause-ended g c =
    (refl, IfSome-always _ (λ held. OtherWords (subst (Read c.args.words.now) c.in_default.is c.in_ok-request.ensures)))
