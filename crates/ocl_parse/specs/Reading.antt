-- What reading from a token on gives: the longest expression there and the token after it, or the first refusal.
use Rattle.std.specs.Prelude.{◌≡◌, ℕ, zero, suc, ◌-◌, Bool, true, false, List, [], ◌∷◌, drop, length, Option, None, Some, Result, Ok, Err}
use Rattle.atl_base.specs.declared.place.Place.{Place}
use Rattle.atl_tree.specs.declared.token.Token.{Token}
use Rattle.atl_tree.specs.declared.token.Tokens.{Tokens}
use Rattle.atl_tree.specs.declared.expr.Expr.{Expr}
use Rattle.atl_tree.specs.Tokens.{leads_name}
use Rattle.ocl_parse.specs.declared.refusal.ParseRefusal.{ParseRefusal}
use Rattle.ocl_parse.specs.declared.refusal.ParseRefusal.TheVariants as R
use Rattle.ocl_parse.specs.Symbols.{Lexeme, lexemes}
use Rattle.ocl_parse.specs.Variables.{refused_at}
use Rattle.ocl_parse.specs.Machine.{End, Read, Expected, Deep, read}

-- whether the token before place k leads a name
abbrev pub led_at : ℕ → List Token → Bool
led_at zero ts = false
led_at (suc k) [] = false
led_at (suc zero) (t ∷ ts) = leads_name t
led_at (suc (suc k)) (t ∷ ts) = led_at (suc k) ts

-- the symbols from a token on
abbrev pub lexemes_at : ℕ → List Token → List Lexeme
lexemes_at from ts = lexemes (led_at from ts) (drop from ts)

-- where reading from a token of a list on is refused, before the first of the rest or before the end of the text: there, or at
-- the keyword that stands before it in the place of an iterator's variable
abbrev pub place_of : List Token → Place → ℕ → List Lexeme → Place
place_of ts end from [] = end
place_of ts end from (t ∷ rest) = refused_at ts from (length ts - length (t ∷ rest)) t.place

-- with the number of the token after the expression
abbrev pub told : List Token → Place → ℕ → End → Result (Expr × ℕ) ParseRefusal
told ts end from (Read e rest) = Ok (e, length ts - length rest)
told ts end from (Expected rest) = Err (R.Expected (place_of ts end from rest))
told ts end from (Deep p) = Err (R.TooDeep p)

-- reading from a token of a list on, before the end of the text
abbrev pub expr_in : List Token → Place → ℕ → Result (Expr × ℕ) ParseRefusal
expr_in ts end from = told ts end from (read true (lexemes_at from ts))

abbrev pub expr_at : Tokens → ℕ → Result (Expr × ℕ) ParseRefusal
expr_at ts from = expr_in ts.list ts.end from

-- a refusal that was answered is the one; want of memory says nothing of the text
abbrev pub Fails : ParseRefusal → Result (Expr × ℕ) ParseRefusal → Type 0
Fails R.Memory r = Unit {0}
Fails (R.Lex e) r = r ≡ Err (R.Lex e)
Fails (R.OtherUnit p) r = r ≡ Err (R.OtherUnit p)
Fails (R.Expected p) r = r ≡ Err (R.Expected p)
Fails (R.TooDeep p) r = r ≡ Err (R.TooDeep p)

-- the refusal of the token at the place
abbrev pub IsRefused : ParseRefusal → Place → Type 0
IsRefused R.Memory p = Unit {0}
IsRefused (R.Lex e) p = ⊥
IsRefused (R.OtherUnit q) p = ⊥
IsRefused (R.Expected q) p = q ≡ p
IsRefused (R.TooDeep q) p = ⊥

abbrev pub Gives : Expr → ℕ → Result (Expr × ℕ) ParseRefusal → Type 0
Gives e after r = r ≡ Ok (e, after)

-- what the end of an expression gives
abbrev pub Ends : Option Expr → List Lexeme → End → Type 0
Ends (Some e) rest end = end ≡ Read e rest
Ends None rest end = end ≡ Expected rest
