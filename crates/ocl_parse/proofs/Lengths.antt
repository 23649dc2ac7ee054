-- There are as many symbols as tokens.
use Rattle.std.proofs.Common.{◌≡◌, suc, List, [], ◌∷◌, Bool, length, refl, ap}
use Rattle.atl_tree.specs.declared.token.Token.{Token}
use Rattle.atl_tree.specs.Tokens.{leads_name}
use Rattle.ocl_parse.specs.Symbols.{lexemes}

pub length_lexemes : (led : Bool) (ts : List Token) → length (lexemes led ts) ≡ length ts
length_lexemes led [] = refl
length_lexemes led (t ∷ ts) = ap suc (length_lexemes (leads_name t) ts)
