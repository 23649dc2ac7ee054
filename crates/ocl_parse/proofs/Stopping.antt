-- Where the expression ends before a token, or is refused there.
use Rattle.std.proofs.Common.{◌≡◌, ℕ, ◌+◌, ◌-◌, ◌<◌, ◌||◌, List, ◌∷◌, Bool, true, Ok, length, drop, get_or, sym, ap, ◌∙◌, arith, length-drop}
use Rattle.std.specs.Prelude.{Result, Err}
use Rattle.std.proofs.lemmas.List.{drop_more}
use Rattle.atl_base.specs.declared.place.Place.{Place}
use Rattle.atl_tree.specs.declared.token.Token.{Token}
use Rattle.atl_tree.specs.declared.expr.Expr.{Expr}
use Rattle.atl_tree.specs.Tokens.{leads_name, begins_arrow}
use Rattle.ocl_parse.specs.declared.symbol.Symbol.{Symbol}
use Rattle.ocl_parse.specs.declared.frame.Frame.{Frame}
use Rattle.ocl_parse.specs.declared.frame.Next.{Next}
use Rattle.ocl_parse.specs.Symbols.{Lexeme, lexemes, symbol_of}
use Rattle.ocl_parse.specs.Variables.{refused_at}
use Rattle.ocl_parse.specs.Machine.{Step, Stops, End, Read, Expected, step, over, after, run, read}
use Rattle.ocl_parse.specs.declared.refusal.ParseRefusal.{ParseRefusal}
use Rattle.ocl_parse.specs.declared.refusal.ParseRefusal.TheVariants as R
use Rattle.ocl_parse.specs.Reading.{lexemes_at, place_of, told, expr_in, Fails, IsRefused}
use Rattle.ocl_parse.proofs.Lengths.{length_lexemes}

left_over : (ts : List Token) (i : ℕ) (led : Bool) → i < length ts → length ts - length (lexemes led (drop i ts)) ≡ i
left_over ts i led h = omega (arith, h, length_lexemes led (drop i ts), length-drop i ts)

pub stops_here : (ts : List Token) (end : Place) (from i : ℕ) (led named : Bool) (fs gs : List Frame) (m : Next) (t : Token) (s : Symbol) (e whole : Expr)
    → i < length ts → t ≡ get_or ts i t → run true fs m (lexemes led (drop i ts)) ≡ read true (lexemes_at from ts)
    → s ≡ symbol_of t.sort t.text named → named ≡ (led || begins_arrow (drop (i + 1) ts)) → step true fs m s t.place ≡ Stops gs e
    → ((rest : List Lexeme) → over gs e rest ≡ Read whole rest) → expr_in ts end from ≡ Ok (whole, i)
stops_here ts end from i led named fs gs m t s e whole h is inv si ni st ov =
    let parts : drop i ts ≡ t ∷ drop (i + 1) ts = drop_more ts i t h ∙ ap (λ u. u ∷ drop (i + 1) ts) (sym is) in
    let spelled : symbol_of t.sort t.text (led || begins_arrow (drop (i + 1) ts)) ≡ s = ap (symbol_of t.sort t.text) (sym ni) ∙ sym si in
    let rest : List Lexeme = lexemes led (t ∷ drop (i + 1) ts) in
    let reads : read true (lexemes_at from ts) ≡ Read whole (lexemes led (drop i ts)) =
    sym inv ∙ ap (λ l. run true fs m (lexemes led l)) parts
    ∙ ap (λ v. after v rest (λ hs n. run true hs n (lexemes (leads_name t) (drop (i + 1) ts)))) (ap (λ v. step true fs m v t.place) spelled ∙ st)
    ∙ ov rest ∙ ap (λ l. Read whole (lexemes led l)) (sym parts) in
    ap (told ts end from) reads ∙ ap (λ n. Ok (whole, n)) (left_over ts i led h)

-- and where none goes on with it, and it is refused there or at a keyword before it
pub refused_here : (ts : List Token) (end : Place) (from i : ℕ) (led named : Bool) (fs : List Frame) (m : Next) (t : Token) (s : Symbol) (u : Step) (e : ParseRefusal)
    → i < length ts → t ≡ get_or ts i t → run true fs m (lexemes led (drop i ts)) ≡ read true (lexemes_at from ts)
    → s ≡ symbol_of t.sort t.text named → named ≡ (led || begins_arrow (drop (i + 1) ts)) → step true fs m s t.place ≡ u
    → ((rest : List Lexeme) (k : List Frame → Next → End) → after u rest k ≡ Expected rest)
    → IsRefused e (refused_at ts from i t.place) → Fails e (expr_in ts end from)
refused_here ts end from i led named fs m t s u e h is inv si ni st refused f =
    let parts : drop i ts ≡ t ∷ drop (i + 1) ts = drop_more ts i t h ∙ ap (λ u. u ∷ drop (i + 1) ts) (sym is) in
    let spelled : symbol_of t.sort t.text (led || begins_arrow (drop (i + 1) ts)) ≡ s = ap (symbol_of t.sort t.text) (sym ni) ∙ sym si in
    let rest : List Lexeme = lexemes led (t ∷ drop (i + 1) ts) in
    let goes = λ (hs : List Frame) (n : Next). run true hs n (lexemes (leads_name t) (drop (i + 1) ts)) in
    let reads : read true (lexemes_at from ts) ≡ Expected rest =
    sym inv ∙ ap (λ l. run true fs m (lexemes led l)) parts
    ∙ ap (λ v. after v rest goes) (ap (λ v. step true fs m v t.place) spelled ∙ st) ∙ refused rest goes in
    let count : length ts - length rest ≡ i = ap (λ l. length ts - length (lexemes led l)) (sym parts) ∙ left_over ts i led h in
    fails_so e (refused_at ts from i t.place) (expr_in ts end from) f (ap (told ts end from) reads ∙ ap (λ n. Err (R.Expected (refused_at ts from n t.place))) count)
  where
    fails_so : (x : ParseRefusal) (p : Place) (r : Result (Expr × ℕ) ParseRefusal) → IsRefused x p → r ≡ Err (R.Expected p) → Fails x r
    fails_so R.Memory p r g k = tt
    fails_so (R.Lex x) p r g k = absurd g
    fails_so (R.OtherUnit q) p r g k = absurd g
    fails_so (R.Expected q) p r g k = k ∙ ap (λ y. Err (R.Expected y)) (sym g)
    fails_so (R.TooDeep q) p r g k = absurd g
