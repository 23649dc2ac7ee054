-- What the reading of a text gives: its module, or the first refusal.
use Rattle.std.specs.Prelude.{◌≡◌, ℕ, ◌-◌, ◌==◌, ◌&&◌, Bool, true, false, List, [], ◌∷◌, length, Result, Ok, Err, if◌then◌else◌}
use Rattle.atl_base.specs.declared.place.Place.{Place}
use Rattle.atl_tree.specs.declared.token.Token.{Token}
use Rattle.atl_tree.specs.declared.token.Tokens.{Tokens}
use Rattle.atl_tree.specs.declared.token.LexRefusal.{LexRefusal}
use Rattle.atl_tree.specs.declared.token.LexRefusal.TheVariants as L
use Rattle.atl_tree.specs.declared.module.Module.{Module}
use Rattle.atl_tree.specs.Front.{front_of}
use Rattle.atl_tree.specs.Tokens.{tokens_of}
use Rattle.ocl_parse.specs.declared.refusal.ParseRefusal.{ParseRefusal}
use Rattle.ocl_parse.specs.declared.refusal.ParseRefusal.TheVariants as R
use Rattle.ocl_parse.specs.Variables.{refused_at}
use Rattle.module_grammar.specs.declared.keyword.Keyword.TheVariants as W
use Rattle.module_grammar.specs.Marks.{Content, Word, Mark, marks}
use Rattle.module_states.specs.Machine.{End, Read, Expected, Deep, read}

-- whether a mark belongs to a unit of another sort: `query` and `library` where the text begins, `uses` and `refining`
-- everywhere
abbrev pub is_other : Bool → Content → Bool
is_other first (Word W.Query) = first
is_other first (Word W.Library) = first
is_other first (Word W.Uses) = true
is_other first (Word W.Refining) = true
is_other first t = false

-- the refusal of tokens where the module can't go on with the first of the rest: there, or at the keyword that stands before it in
-- the place of an iterator's variable
abbrev pub refusal : List Token → Place → List Mark → ParseRefusal
refusal ts end [] = R.Expected end
refusal ts end (t ∷ rest) =
    if is_other (length (t ∷ rest) == length ts) t.content then R.OtherUnit t.place
    else R.Expected (refused_at ts 0 (length ts - length (t ∷ rest)) t.place)

abbrev pub told : List Token → Place → End → Result Module ParseRefusal
told ts end (Read m) = Ok m
told ts end (Expected rest) = Err (refusal ts end rest)
told ts end (Deep p) = Err (R.TooDeep p)

abbrev pub module_in : List Token → Place → Result Module ParseRefusal
module_in ts end = told ts end (read true (marks false ts))

abbrev pub is_at : Place → Place → Bool
is_at p q = p.line == q.line && p.column == q.column

-- a refusal at a place, unless what stands before the place is refused
abbrev pub unless_before : ParseRefusal → Place → Result Module ParseRefusal → ParseRefusal
unless_before e p (Ok m) = e
unless_before e p (Err (R.Lex f)) = e
unless_before e p (Err (R.OtherUnit q)) = R.OtherUnit q
unless_before e p (Err (R.Expected q)) = if is_at q p then e else R.Expected q
unless_before e p (Err (R.TooDeep q)) = R.TooDeep q
unless_before e p (Err R.Memory) = e

-- the first refusal of a text that has no tokens, where these stand before the token that is refused
abbrev pub first_refusal : List Token → LexRefusal → ParseRefusal
first_refusal ts (L.BadByte p) = unless_before (R.Lex (L.BadByte p)) p (module_in ts p)
first_refusal ts (L.OpenText p) = unless_before (R.Lex (L.OpenText p)) p (module_in ts p)
first_refusal ts (L.WideNumber p) = unless_before (R.Lex (L.WideNumber p)) p (module_in ts p)
first_refusal ts (L.RealNumber p) = unless_before (R.Lex (L.RealNumber p)) p (module_in ts p)
first_refusal ts L.Memory = R.Memory

abbrev pub parsed : List Token → Result Tokens LexRefusal → Result Module ParseRefusal
parsed front (Ok ts) = module_in ts.list ts.end
parsed front (Err e) = Err (first_refusal front e)

-- the module of a text's characters
abbrev pub module_of_text : List ℕ → Result Module ParseRefusal
module_of_text text = parsed (front_of text) (tokens_of text)

-- a refusal that was answered is the one; want of memory says nothing of the text
abbrev pub Fails : ParseRefusal → Result Module ParseRefusal → Type 0
Fails R.Memory r = Unit {0}
Fails (R.Lex e) r = r ≡ Err (R.Lex e)
Fails (R.OtherUnit p) r = r ≡ Err (R.OtherUnit p)
Fails (R.Expected p) r = r ≡ Err (R.Expected p)
Fails (R.TooDeep p) r = r ≡ Err (R.TooDeep p)

-- the refusal of a token that stands at p, or of a keyword before it at q; `other` says that it belongs to a unit of another sort
abbrev pub IsRefused : Bool → Place → Place → ParseRefusal → Type 0
IsRefused other p q R.Memory = Unit {0}
IsRefused other p q (R.Lex e) = ⊥
IsRefused other p q (R.OtherUnit r) = (other ≡ true) × (r ≡ p)
IsRefused other p q (R.Expected r) = (other ≡ false) × (r ≡ q)
IsRefused other p q (R.TooDeep r) = ⊥

abbrev pub Gives : Module → Result Module ParseRefusal → Type 0
Gives m r = r ≡ Ok m
