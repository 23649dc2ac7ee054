-- The cutting as a function: a machine that takes one character a step, and closes the open piece where the next
-- character does not go on with it.
use Rattle.std.specs.Prelude.{ℕ, ◌||◌, ◌==◌, ◌-◌, List, [], ◌∷◌, ◌++◌, length, take, Option, None, Some, if◌then◌else◌}
use Rattle.atl_tree.specs.declared.token.TokenSort.{TokenSort}
use Rattle.atl_tree.specs.declared.token.TokenSort.TheVariants as T
use Rattle.atl_tree.specs.declared.state.State.{State}
use Rattle.atl_tree.specs.declared.state.State.TheVariants as S
use Rattle.atl_tree.specs.declared.state.Stop.{Stop}
use Rattle.atl_tree.specs.declared.state.Stop.TheVariants.{Over, Bad, Open}
use Rattle.atl_tree.specs.Pieces.{Piece, is_letter, is_digit, is_gap, is_single, is_escape, is_in_line, is_in_quotes, is_in_words}

-- the state after the first character of a piece
unfoldable pub begin_of : ℕ → State
begin_of c = if is_letter c then S.Plain else if is_digit c then S.Number else if is_gap c then S.Gap else if is_single c then S.Done T.Mark
    else if c == 34 then S.Quoted else if c == 39 then S.Words else if c == 45 then S.Minus else if c == 60 then S.Less else if c == 62 then S.Greater else S.Dead

-- the state after one more character
abbrev pub next_of : State → ℕ → State
next_of S.Start c = begin_of c
next_of S.Plain c = if is_letter c || is_digit c then S.Plain else S.Dead
next_of S.Number c = if is_digit c then S.Number else if c == 46 then S.Point else S.Dead
next_of S.Point c = if is_digit c then S.Fraction else S.Dead
next_of S.Fraction c = if is_digit c then S.Fraction else S.Dead
next_of S.Quoted c = if is_in_quotes c then S.Quoted else if c == 34 then S.Done T.Quoted else S.Dead
next_of S.Words c = if is_in_words c then S.Words else if c == 39 then S.Done T.Words else if c == 92 then S.Escape else S.Dead
next_of S.Escape c = if is_escape c then S.Words else S.Dead
next_of S.Minus c = if c == 45 then S.Comment else if c == 62 then S.Done T.Mark else S.Dead
next_of S.Less c = if c == 45 || c == 61 || c == 62 then S.Done T.Mark else S.Dead
next_of S.Greater c = if c == 61 then S.Done T.Mark else S.Dead
next_of S.Comment c = if is_in_line c then S.Comment else S.Dead
next_of S.Gap c = S.Dead
next_of (S.Done s) c = S.Dead
next_of S.Dead c = S.Dead

abbrev pub piece : Option TokenSort → List ℕ → Piece
piece s w = record { sort = s; chars = w }

-- the pieces that the characters of the open one are where it ends so; none where it has no end
abbrev pub ended : State → List ℕ → Option (List Piece)
ended S.Start w = Some []
ended S.Plain w = Some (piece (Some T.Plain) w ∷ [])
ended S.Number w = Some (piece (Some T.Number) w ∷ [])
ended S.Point w = Some (piece (Some T.Number) (take (length w - 1) w) ∷ (piece (Some T.Mark) (46 ∷ []) ∷ []))
ended S.Fraction w = Some (piece (Some T.Number) w ∷ [])
ended S.Quoted w = None
ended S.Words w = None
ended S.Escape w = None
ended S.Minus w = Some (piece (Some T.Mark) w ∷ [])
ended S.Less w = Some (piece (Some T.Mark) w ∷ [])
ended S.Greater w = Some (piece (Some T.Mark) w ∷ [])
ended S.Comment w = Some (piece None w ∷ [])
ended S.Gap w = Some (piece None w ∷ [])
ended (S.Done s) w = Some (piece (Some s) w ∷ [])
ended S.Dead w = None

-- the pieces of a text, and why it is cut no further
pub record Cut : Type 0 where
  pub pieces : List Piece
  pub stop : Stop

-- the pieces so far, and the state and the characters of the open one
pub record Machine : Type 0 where
  pub done : List Piece
  pub state : State
  pub seen : List ℕ

pub data Step : Type 0 where
  Goes : Machine → Step
  Stops : Cut → Step

abbrev pub cut : List Piece → Stop → Cut
cut ps s = record { pieces = ps; stop = s }

abbrev pub machine : List Piece → State → List ℕ → Machine
machine ps s w = record { done = ps; state = s; seen = w }

-- the character begins the next piece
abbrev pub fresh : List Piece → ℕ → State → Step
fresh ps c S.Dead = Stops (cut ps Bad)
fresh ps c s = Goes (machine ps s (c ∷ []))

abbrev pub closed : List Piece → ℕ → Option (List Piece) → Step
closed ps c None = Stops (cut ps Open)
closed ps c (Some qs) = fresh (ps ++ qs) c (begin_of c)

abbrev pub step_to : Machine → ℕ → State → Step
step_to m c S.Dead = closed m.done c (ended m.state m.seen)
step_to m c s = Goes (machine m.done s (m.seen ++ (c ∷ [])))

abbrev pub step : Machine → ℕ → Step
step m c = step_to m c (next_of m.state c)

abbrev pub finished : List Piece → Option (List Piece) → Cut
finished ps None = cut ps Open
finished ps (Some qs) = cut (ps ++ qs) Over

abbrev pub after : Step → List ℕ → (Machine → Cut) → Cut
after (Goes m) cs on = on m
after (Stops c) cs on = c

abbrev pub run : Machine → List ℕ → Cut
run m [] = finished m.done (ended m.state m.seen)
run m (c ∷ cs) = after (step m c) cs (λ u. run u cs)

abbrev pub start : Machine
start = machine [] S.Start []

abbrev pub cut_of : List ℕ → Cut
cut_of cs = run start cs
