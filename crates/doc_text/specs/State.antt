-- Where reading stands: what is open, the innermost element first, and what may come next.
use Rattle.std.specs.Prelude.{ℕ, List, [], ◌∷◌, Bool, Option}
use Rattle.atl_base.specs.declared.place.Place.{Place}
pub use Rattle.doc_text.specs.declared.state.Stage.{Stage}
pub use Rattle.doc_text.specs.declared.state.Stage.TheVariants.{Untold, ToldVersion, ToldEncoding, ToldStanding}
pub use Rattle.doc_text.specs.declared.state.Clause.{Clause}
pub use Rattle.doc_text.specs.declared.state.Clause.TheVariants.{OfVersion, OfEncoding, OfStanding}
pub use Rattle.doc_text.specs.declared.state.Cited.{Cited}
pub use Rattle.doc_text.specs.declared.state.Cited.TheVariants.{Nameless, ByEntity, Hashed, Decimal, Hexed, Hexadecimal}
use Rattle.doc_text.specs.Raw.{Name, Start, Tree, Trees, add_text}
use Rattle.doc_text.specs.Faults.{Fault}

-- an open element, with what has been read in it
pub record Open : Type 0 where
  pub tag : Start
  pub children : Trees

abbrev pub opened : Start → Trees → Open
opened t ts = record { tag = t; children = ts }

abbrev pub tags : List Open → List Start
tags [] = []
tags (f ∷ fs) = f.tag ∷ tags fs

abbrev pub grow : Open → List ℕ → Open
grow f bytes = opened f.tag (add_text bytes f.children)

-- where markup stands: at the text's start, before the root, in an element, after the root
pub data Around : Type 0 where
  First : Around
  Before : Around
  Within : Open → List Open → Around
  After : Tree → Around

-- whose name is read: a start tag's, in these open elements, with the place of its <; an attribute's; an end tag's
pub data Bearer : Type 0 where
  OfStart : List Open → Place → Bearer
  OfAttribute : List Open → Start → Bearer
  OfEnd : Open → List Open → Bearer

-- where a reference stands: in text, or in a value
pub data Citing : Type 0 where
  InText : Open → List Open → Citing
  InValue : Bool → List Open → Start → Name → List ℕ → Citing

pub data State : Type 0 where
  Beginning : State
  Declaring : Stage → State  -- blanks in the declaration
  Wording : Clause → List ℕ → State  -- that much of the word is left
  Equating : Clause → State  -- = is wanted
  Quoting : Clause → State  -- a quote is wanted
  Numbering : Bool → List ℕ → State  -- that much of 1. is left
  Numbered : Bool → State
  Encoding : Bool → Option Place → List ℕ → State
  Answer : Bool → State
  Answering : Bool → List ℕ → State  -- that much of the answer is left
  Stated : Stage → State  -- a value's end
  DeclEnd : State  -- ? of the declaration
  InProlog : State
  Inside : ℕ → Open → List Open → State  -- after that many brackets
  Epilog : Tree → State
  Begun : Around → Place → State  -- <
  Banged : Around → Place → State  -- <!
  BangDash : Around → Place → State  -- <!-
  Remarking : Around → State  -- in a comment
  RemarkDash : Around → State  -- - in a comment
  RemarkEnd : Around → State  -- -- in a comment
  Asked : Around → State  -- <?
  Targeting : Around → List ℕ → State
  TargetEnd : Around → State  -- ? after a target
  Telling : Bool → Around → State  -- in an instruction, after a ? or not
  Naming : Bearer → Place → List ℕ → State  -- the first part of a name
  Coloned : Bearer → Place → List ℕ → State
  Localing : Bearer → Place → List ℕ → List ℕ → State
  Spaced : List Open → Start → State  -- blanks in a start tag
  Valued : List Open → Start → State  -- a value's end
  Shutting : List Open → Start → State  -- / in a start tag
  Equalling : List Open → Start → Name → State  -- = is wanted
  Opening : List Open → Start → Name → State  -- a quote is wanted
  Valuing : Bool → List Open → Start → Name → List ℕ → State
  Ending : Open → List Open → State  -- </
  Closing : Open → List Open → State  -- > is wanted
  Citation : Citing → Place → Cited → State

pub data Step : Type 0 where
  Goes : State → Step
  Stops : Step
  Breaks : Fault → Place → Step
