-- Whether the token before a place leads a name.
use Rattle.std.proofs.Common.{◌≡◌, ℕ, zero, suc, ◌<◌, List, [], ◌∷◌, length, get_or, refl, arith}
use Rattle.atl_tree.specs.declared.token.Token.{Token}
use Rattle.atl_tree.specs.Tokens.{leads_name}
use Rattle.ocl_parse.specs.Reading.{led_at}

pub led_at-index : (k : ℕ) (ts : List Token) (d : Token) → k < length ts → led_at (suc k) ts ≡ leads_name (get_or ts k d)
led_at-index k [] d h = absurd (omega (arith, h))
led_at-index zero (t ∷ ts) d h = refl
led_at-index (suc k) (t ∷ ts) d h = led_at-index k ts d (omega (arith, h))
