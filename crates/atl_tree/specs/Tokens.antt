-- The tokens of a text: its pieces but for the gaps, each with its slice and its place, where none is a token that is
-- refused. A number above 9223372036854775807, a number with a fraction, / and the type Real are refused.
use Rattle.std.specs.Prelude.{◌≡◌, ℕ, ◌+◌, ◌-◌, ◌*◌, ◌||◌, ◌&&◌, ◌==◌, Bool, true, false, not, List, [], ◌∷◌, ◌++◌, length, Option, None, Some, Result, Ok, Err, if◌then◌else◌, nat_lt, codes, encode_utf8_all}
use Rattle.std.specs.List.{list_any}
use Rattle.std.specs.Str.{bytes_eq}
use Rattle.atl_base.specs.declared.place.Place.{Place}
use Rattle.atl_tree.specs.declared.token.Token.{Token}
use Rattle.atl_tree.specs.declared.token.Tokens.{Tokens}
use Rattle.atl_tree.specs.declared.token.TokenSort.{TokenSort}
use Rattle.atl_tree.specs.declared.token.TokenSort.TheVariants as T
use Rattle.atl_tree.specs.declared.token.LexRefusal.{LexRefusal}
use Rattle.atl_tree.specs.declared.token.LexRefusal.TheVariants as R
use Rattle.atl_tree.specs.declared.state.Stop.{Stop}
use Rattle.atl_tree.specs.declared.state.Stop.TheVariants as H
use Rattle.atl_tree.specs.Pieces.{Piece, is_digit}
use Rattle.atl_tree.specs.Cutting.{chars_of, IsCut}
use Rattle.atl_tree.specs.Machine.{Cut, cut_of}

abbrev pub place : ℕ → ℕ → Place
place line column = record { line = line; column = column }

-- the place after a character: a line ends with its line feed alone
abbrev pub past : Place → ℕ → Place
past p c = if c == 10 then place (p.line + 1) 1 else place p.line (p.column + 1)

abbrev pub after : Place → List ℕ → Place
after p [] = p
after p (c ∷ cs) = after (past p c) cs

abbrev pub token : TokenSort → List ℕ → ℕ → ℕ → Place → Token
token s text begin end p = record { sort = s; text = text; begin = begin; end = end; place = p }

-- the token that a piece is, and none for a gap
abbrev pub token_of : Option TokenSort → List ℕ → ℕ → Place → List Token
token_of None text at p = []
token_of (Some s) text at p = token s text at (at + length text) p ∷ []

-- the tokens of pieces that begin at a byte and a place
abbrev pub tokens_from : ℕ → Place → List Piece → List Token
tokens_from at p [] = []
tokens_from at p (q ∷ qs) = token_of q.sort (encode_utf8_all q.chars) at p ++ tokens_from (at + length (encode_utf8_all q.chars)) (after p q.chars) qs

-- the value of the digits that a text begins with, n being that of the ones before
unfoldable pub value_from : ℕ → List ℕ → ℕ
value_from n [] = n
value_from n (c ∷ cs) = if is_digit c then value_from (n * 10 + (c - 48)) cs else n

abbrev pub is_wide : List ℕ → Bool
is_wide text = nat_lt 9223372036854775807 (value_from 0 text)

-- a number has a point only before a fraction
abbrev pub has_fraction : List ℕ → Bool
has_fraction text = list_any (λ c. c == 46) text

-- why a token is refused; a plain word may stand where it is read as a name
abbrev pub fault_of : TokenSort → List ℕ → Bool → Place → Option LexRefusal
fault_of T.Plain text named p = if bytes_eq text (codes "Real") && not named then Some (R.RealNumber p) else None
fault_of T.Quoted text named p = None
fault_of T.Words text named p = None
fault_of T.Number text named p = if is_wide text then Some (R.WideNumber p) else if has_fraction text then Some (R.RealNumber p) else None
fault_of T.Mark text named p = if bytes_eq text (codes "/") then Some (R.RealNumber p) else None

abbrev pub is_mark : TokenSort → Bool
is_mark T.Plain = false
is_mark T.Quoted = false
is_mark T.Words = false
is_mark T.Number = false
is_mark T.Mark = true

-- a word after . or -> or ! is read as a name
abbrev pub leads_name : Token → Bool
leads_name t = is_mark t.sort && (bytes_eq t.text (codes ".") || bytes_eq t.text (codes "->") || bytes_eq t.text (codes "!"))

-- and so is one before <-
abbrev pub begins_arrow : List Token → Bool
begins_arrow [] = false
begins_arrow (t ∷ ts) = is_mark t.sort && bytes_eq t.text (codes "<-")

abbrev pub or_else : Option LexRefusal → Option LexRefusal → Option LexRefusal
or_else (Some e) o = Some e
or_else None o = o

-- the first token that is refused, where `led` says that the one before the list leads a name
abbrev pub first_fault : Bool → List Token → Option LexRefusal
first_fault led [] = None
first_fault led (t ∷ ts) = or_else (fault_of t.sort t.text (led || begins_arrow ts) t.place) (first_fault (leads_name t) ts)

-- a byte order mark at the start is skipped
abbrev pub body_of : List ℕ → List ℕ
body_of [] = []
body_of (c ∷ cs) = if c == 0xFEFF then cs else c ∷ cs

abbrev pub begin_byte : List ℕ → ℕ
begin_byte [] = 0
begin_byte (c ∷ cs) = if c == 0xFEFF then 3 else 0

-- A text has these tokens: it is cut into pieces, and they are the pieces that are tokens, and none is refused.
abbrev pub HasTokens : List ℕ → Tokens → Type 0
HasTokens text ts = (ps : List Piece) × IsCut (body_of text) ps × (ts.list ≡ tokens_from (begin_byte text) (place 1 1) ps)
    × (first_fault false ts.list ≡ None) × (ts.end ≡ after (place 1 1) (body_of text))

-- The tokens of a text as a function, or the first refusal.
abbrev pub verdict : Option LexRefusal → Stop → List Token → Place → Result Tokens LexRefusal
verdict (Some e) stop ts end = Err e
verdict None H.Over ts end = Ok (record { list = ts; end = end })
verdict None H.Bad ts end = Err (R.BadByte end)
verdict None H.Open ts end = Err (R.OpenText end)

abbrev pub lexed : ℕ → Cut → Result Tokens LexRefusal
lexed at c = verdict (first_fault false (tokens_from at (place 1 1) c.pieces)) c.stop (tokens_from at (place 1 1) c.pieces) (after (place 1 1) (chars_of c.pieces))

unfoldable pub tokens_of : List ℕ → Result Tokens LexRefusal
tokens_of text = lexed (begin_byte text) (cut_of (body_of text))

-- a refusal that was answered is the one; want of memory says nothing of the text
abbrev pub Fails : LexRefusal → Result Tokens LexRefusal → Type 0
Fails R.Memory r = Unit {0}
Fails (R.BadByte p) r = r ≡ Err (R.BadByte p)
Fails (R.OpenText p) r = r ≡ Err (R.OpenText p)
Fails (R.WideNumber p) r = r ≡ Err (R.WideNumber p)
Fails (R.RealNumber p) r = r ≡ Err (R.RealNumber p)

abbrev pub Gives : Result Tokens LexRefusal → Result Tokens LexRefusal → Type 0
Gives (Ok ts) r = r ≡ Ok ts
Gives (Err e) r = Fails e r
