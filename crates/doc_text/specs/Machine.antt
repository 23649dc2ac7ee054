-- Reading, one character a step: why it stops, and what all of a text gives.
use Rattle.std.specs.Prelude.{ℕ, ◌==◌, ◌&&◌, List, [], ◌∷◌, Bool, true, false, if◌then◌else◌, codes}
use Rattle.atl_base.specs.declared.place.Place.{Place}
use Rattle.doc_text.specs.Symbols.{Symbol, code_of, is_good}
use Rattle.doc_text.specs.Raw.{called, Tree}
use Rattle.doc_text.specs.Faults.{Fault, BadByte, Expected, Trailing, Unsupported}
use Rattle.doc_text.specs.State.{After, BangDash, Banged, Beginning, Begun, Breaks, Epilog, Goes, Localing, Naming, OfEnd, State, Step, Stops}
use Rattle.doc_text.specs.Steps.{matched, step}

-- the first character that is not taken refuses, for it is none, or the form needs something else
abbrev pub unwanted : Place → List Symbol → Fault × Place
unwanted end [] = (Expected, end)
unwanted end (s ∷ rest) = (if is_good s.kind then Expected else BadByte, s.at)

abbrev pub begins : List ℕ → List Symbol → Bool
begins [] ss = true
begins (c ∷ cs) [] = false
begins (c ∷ cs) (s ∷ ss) = code_of s.kind == c && begins cs ss

-- after <!, what is not read
abbrev pub declares : List Symbol → Bool
declares ss = if begins (codes "DOCTYPE") ss then true else begins (codes "[CDATA[") ss

abbrev pub declared : Place → Place → List Symbol → Fault × Place
declared end p ss = if declares ss then (Unsupported, p) else unwanted end ss

abbrev pub after_root : Place → List Symbol → Fault × Place
after_root end [] = (Expected, end)
after_root end (s ∷ rest) = (if is_good s.kind then Trailing else BadByte, s.at)

-- why reading stops at the first of these characters, or at the text's end
abbrev pub reason : Place → State → List Symbol → Fault × Place
reason end (Begun (After t) p) ss = (Trailing, p)
reason end (Banged (After t) p) ss = (Trailing, p)
reason end (BangDash (After t) p) ss = (Trailing, p)
reason end (Epilog t) ss = after_root end ss
reason end (Banged a p) ss = declared end p ss
reason end s ss = unwanted end ss

pub data End : Type 0 where
  Read : Tree → End
  Refused : Fault × Place → End

abbrev pub after : Step → Fault × Place → (State → End) → End
after Stops why k = Refused why
after (Breaks e p) why k = Refused (e, p)
after (Goes s) why k = k s

module _ (strict : Bool) (end : Place) where
  -- a name may be over at the text's end
  abbrev pub finish : State → End
  finish (Epilog t) = Read t
  finish (Naming (OfEnd f fs) p n) = after (matched strict f (called p [] n) Stops) (Expected, end) (λ s. Refused (Expected, end))
  finish (Localing (OfEnd f fs) p n m) = after (matched strict f (called p n m) Stops) (Expected, end) (λ s. Refused (Expected, end))
  finish s = Refused (reason end s [])

  abbrev pub run : State → List Symbol → End
  run s [] = finish s
  run s (t ∷ ts) = after (step strict s t.kind t.at) (reason end s (t ∷ ts)) (λ u. run u ts)

  -- the characters of a document
  abbrev pub read : List Symbol → End
  read ss = run Beginning ss
