-- What the functions of the scanner give, over bytes and places: the machine's steps with the tokens written out.
use Rattle.std.specs.Prelude.{◌≡◌, ℕ, ◌+◌, ◌-◌, ◌<◌, ◌≤◌, Bool, true, false, List, [], ◌∷◌, ◌++◌, Option, None, Some, slice_range}
use Rattle.std.specs.Str.{IsCharBoundary}
use Rattle.std.specs.Char.{len_utf8}
use Rattle.atl_base.specs.declared.place.Place.{Place}
use Rattle.atl_tree.specs.declared.token.Token.{Token}
use Rattle.atl_tree.specs.declared.token.TokenSort.{TokenSort}
use Rattle.atl_tree.specs.declared.token.TokenSort.TheVariants as T
use Rattle.atl_tree.specs.declared.state.State.{State}
use Rattle.atl_tree.specs.declared.state.State.TheVariants as S
use Rattle.atl_tree.specs.declared.state.Stop.{Stop}
use Rattle.atl_tree.specs.declared.state.Stop.TheVariants.{Bad, Open}
use Rattle.atl_tree.specs.declared.cursor.Cursor.{Cursor}
use Rattle.atl_tree.specs.declared.cursor.Scanned.{Scanned}
use Rattle.atl_tree.specs.declared.cursor.Move.{Move}
use Rattle.atl_tree.specs.declared.cursor.Move.TheVariants.{Goes, Stops}
use Rattle.atl_tree.specs.Machine.{Cut, begin_of, next_of}
use Rattle.atl_tree.specs.Cutting.{chars_of}
use Rattle.atl_tree.specs.Tokens.{place, past, after, token, tokens_from}

-- the token of a slice of the text
abbrev pub slice_token : TokenSort → List ℕ → ℕ → ℕ → Place → Token
slice_token s text begin end p = token s (slice_range text begin end) begin end p

-- the tokens of the open piece where it ends at the cursor; none where it has no end
abbrev pub ended_at : List ℕ → Cursor → State → Option (List Token)
ended_at text k S.Start = Some []
ended_at text k S.Plain = Some (slice_token T.Plain text k.begin k.at k.start ∷ [])
ended_at text k S.Number = Some (slice_token T.Number text k.begin k.at k.start ∷ [])
ended_at text k S.Point = Some (slice_token T.Number text k.begin (k.at - 1) k.start ∷ (slice_token T.Mark text (k.at - 1) k.at (place k.place.line (k.place.column - 1)) ∷ []))
ended_at text k S.Fraction = Some (slice_token T.Number text k.begin k.at k.start ∷ [])
ended_at text k S.Quoted = None
ended_at text k S.Words = None
ended_at text k S.Escape = None
ended_at text k S.Minus = Some (slice_token T.Mark text k.begin k.at k.start ∷ [])
ended_at text k S.Less = Some (slice_token T.Mark text k.begin k.at k.start ∷ [])
ended_at text k S.Greater = Some (slice_token T.Mark text k.begin k.at k.start ∷ [])
ended_at text k S.Comment = Some []
ended_at text k S.Gap = Some []
ended_at text k (S.Done s) = Some (slice_token s text k.begin k.at k.start ∷ [])
ended_at text k S.Dead = None

-- what adding the tokens of the open piece to a list gives
abbrev pub Closes : List Token → List Token → Bool → Option (List Token) → Type 0
Closes old new true o = (ts : List Token) × (o ≡ Some ts) × (new ≡ old ++ ts)
Closes old new false o = (o ≡ None) × (new ≡ old)

-- the slices can be cut out
pub record IsReady (text : List ℕ) (k : Cursor) : Type 0 where
  pub order : k.begin ≤ k.at
  pub begins : IsCharBoundary text k.begin
  pub ends : IsCharBoundary text k.at
  pub point : k.state ≡ S.Point → (k.begin < k.at) × IsCharBoundary text (k.at - 1) × (0 < k.place.column)

abbrev pub cursor : State → ℕ → Place → ℕ → Place → Cursor
cursor s begin start at p = record { state = s; begin = begin; start = start; at = at; place = p }

-- a list of tokens, and what comes next
pub record Moved : Type 0 where
  pub list : List Token
  pub to : Move

abbrev pub moved : List Token → Move → Moved
moved ts m = record { list = ts; to = m }

abbrev pub fresh_at : Cursor → ℕ → State → Move
fresh_at k c S.Dead = Stops Bad k.place
fresh_at k c s = Goes (cursor s k.at k.place (k.at + len_utf8 c) (past k.place c))

abbrev pub closed_at : List Token → Cursor → ℕ → Option (List Token) → Moved
closed_at old k c None = moved old (Stops Open k.start)
closed_at old k c (Some ts) = moved (old ++ ts) (fresh_at k c (begin_of c))

abbrev pub going_at : List ℕ → List Token → Cursor → ℕ → State → Moved
going_at text old k c S.Dead = closed_at old k c (ended_at text k k.state)
going_at text old k c s = moved old (Goes (cursor s k.begin k.start (k.at + len_utf8 c) (past k.place c)))

abbrev pub step_at : List ℕ → List Token → Cursor → ℕ → Moved
step_at text old k c = going_at text old k c (next_of k.state c)

abbrev pub scanned : List Token → Stop → Place → Scanned
scanned ts s p = record { list = ts; stop = s; place = p }

-- the tokens of the text from a byte on, and where and why it is cut no further
abbrev pub scan_of : ℕ → Cut → Scanned
scan_of from c = scanned (tokens_from from (place 1 1) c.pieces) c.stop (after (place 1 1) (chars_of c.pieces))
