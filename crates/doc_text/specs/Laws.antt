-- What is said of reading: it gives the tree of each document, and each refusal is the right one at its place.
use Rattle.std.specs.Prelude.{◌≡◌, ◌⊎◌, List, [], ◌∷◌, ◌++◌, Bool, true, false}
use Rattle.atl_base.specs.declared.place.Place.{Place}
use Rattle.doc_text.specs.Symbols.{Symbol, mark, Less, Bang, Dash, is_good, Greater}
use Rattle.doc_text.specs.Raw.{Tree}
use Rattle.doc_text.specs.Faults.{Fault, BadByte, Expected, MismatchedEnd, Trailing, Unsupported}
use Rattle.doc_text.specs.Form.{Document, document_spelt}
use Rattle.doc_text.specs.Conditions.{IsDocument, DocumentFits, DocumentFails}
use Rattle.doc_text.specs.Machine.{End, Read, Refused, read, declares}

-- the form goes on
abbrev pub GoesOn : List Symbol → Type 0
GoesOn front = (more : List Symbol) × (t : Tree) × IsDocument false (front ++ more) t

-- no document agrees up to and with the first of the rest; with no rest, none ends there
abbrev pub StopsAt : Bool → List Symbol → List Symbol → Type 0
StopsAt strict front [] = (t : Tree) → IsDocument strict front t → ⊥
StopsAt strict front (s ∷ rest) = (more : List Symbol) (t : Tree) → IsDocument strict (front ++ (s ∷ more)) t → ⊥

-- the first condition that fails in each text of the form that agrees so far is of this kind and at this place
abbrev pub FailsAt : Fault → Place → List Symbol → List Symbol → Type 0
FailsAt e p front [] = (d : Document) → DocumentFits false d → document_spelt d ≡ front → DocumentFails true e p d
FailsAt e p front (s ∷ rest) = (more : List Symbol) (d : Document) → DocumentFits false d → document_spelt d ≡ front ++ (s ∷ more) → DocumentFails true e p d

-- the place of the first character, or the text's end
abbrev pub place_of : Place → List Symbol → Place
place_of end [] = end
place_of end (s ∷ rest) = s.at

abbrev pub IsGood : List Symbol → Type 0
IsGood [] = Unit {0}
IsGood (s ∷ rest) = is_good s.kind ≡ true

abbrev pub IsThere : List Symbol → Type 0
IsThere [] = ⊥
IsThere (s ∷ rest) = is_good s.kind ≡ true

abbrev pub IsBad : List Symbol → Type 0
IsBad [] = ⊥
IsBad (s ∷ rest) = is_good s.kind ≡ false

-- a comment's first characters, but not all four
pub data Lead : Type 0 where
  Lead0 : Lead
  Lead1 : Place → Lead
  Lead2 : Place → Place → Lead
  Lead3 : Place → Place → Place → Lead

abbrev pub lead_spelt : Lead → List Symbol
lead_spelt Lead0 = []
lead_spelt (Lead1 p) = mark p Less ∷ []
lead_spelt (Lead2 p q) = mark p Less ∷ mark q Bang ∷ []
lead_spelt (Lead3 p q r) = mark p Less ∷ mark q Bang ∷ mark r Dash ∷ []

abbrev pub has_begun : Lead → Bool
has_begun Lead0 = false
has_begun l = true

-- the root has ended, and then no more has begun than a comment may begin with
pub record AfterRoot (begun : Bool) (front : List Symbol) : Type 0 where
  pub document : List Symbol
  pub lead : Lead
  pub tree : Tree
  pub whole : front ≡ document ++ lead_spelt lead
  pub is_document : IsDocument true document tree
  pub is_begun : has_begun lead ≡ begun

-- <! stands last
pub record AfterBang (front : List Symbol) : Type 0 where
  pub before : List Symbol
  pub less : Place
  pub bang : Place
  pub whole : front ≡ before ++ (mark less Less ∷ mark bang Bang ∷ [])

-- the form goes on with the first of the rest too, or ends there
abbrev pub GoesWith : List Symbol → List Symbol → Type 0
GoesWith front [] = (t : Tree) × IsDocument false front t
GoesWith front (s ∷ rest) = GoesOn (front ++ (s ∷ []))

-- an end tag's name stands last, and its end breaks: with > here, each text of the form fails so
abbrev pub EndsWrong : Place → List Symbol → Place → Type 0
EndsWrong end front p = GoesWith front (mark end Greater ∷ []) × FailsAt MismatchedEnd p front (mark end Greater ∷ [])

-- Where the form stops at the first of the rest: the kind that is answered, and its place. After the root everything
-- but blanks, comments and instructions is Trailing, from its first character on; <!DOCTYPE and <![CDATA[ before and in
-- the root are Unsupported; a bad character is BadByte; an end
-- tag's name that is over is MismatchedEnd; the rest is Expected.
abbrev pub Because : Place → List Symbol → List Symbol → Fault → Place → Type 0
Because end front rest Expected p = IsGood rest × (p ≡ place_of end rest) × ((begun : Bool) → AfterRoot begun front → ⊥) × (AfterBang front → declares rest ≡ true → ⊥)
Because end front rest BadByte p = IsBad rest × (p ≡ place_of end rest) × (AfterRoot true front → ⊥)
Because end front rest Trailing p = (begun : Bool) × (x : AfterRoot begun front) × (p ≡ place_of end (lead_spelt x.lead ++ rest)) × (begun ≡ false → IsThere rest)
Because end front rest Unsupported p = (x : AfterBang front) × (p ≡ x.less) × (declares rest ≡ true) × ((begun : Bool) → AfterRoot begun front → ⊥)
Because end front rest MismatchedEnd p = EndsWrong end front p
Because end front rest e p = ⊥

abbrev pub Tells : Place → List Symbol → End → Type 0
Tells end ss (Read t) = IsDocument true ss t
Tells end ss (Refused f) = (front : List Symbol) × (rest : List Symbol) × (ss ≡ front ++ rest) × GoesOn front × StopsAt true front rest × ((GoesWith front rest × FailsAt f.0 f.1 front rest) ⊎ (StopsAt false front rest × Because end front rest f.0 f.1))

pub record Exact (end : Place) (ss : List Symbol) : Type 0 where
  pub tells : Tells end ss (read true end ss)
  pub reads : (t : Tree) → IsDocument true ss t → read true end ss ≡ Read t
