-- One step of reading: a character is taken, or it stops reading, or breaks it where a condition fails.
use Rattle.std.specs.Prelude.{ℕ, List, [], ◌∷◌, ◌++◌, Bool, true, false, if◌then◌else◌, nat_eq, codes, encode_utf8, Option, Some, None}
use Rattle.atl_base.specs.declared.place.Place.{Place}
use Rattle.doc_text.specs.Symbols.{Kind, Less, Greater, Slash, And, Semicolon, Quote, Apostrophe, Equals, Bang, Question, Hash, Colon, Dash, Blank, Letter, Bad, utf8, is_good, is_name, is_value, is_decimal, is_ex, is_hexadecimal, is_code, is_quote}
use Rattle.doc_text.specs.Raw.{Name, called, pair, Start, start, Tree, Node, Nil, Also, same_name}
use Rattle.doc_text.specs.Faults.{Fault, BadEncoding, MismatchedEnd, TooDeep}
use Rattle.doc_text.specs.Namespaces.{tag_fault}
use Rattle.doc_text.specs.Markup.{Target, ByName, ByNumber, character_of, one_more, value_bytes, is_xml, is_reserved}
use Rattle.doc_text.specs.Form.{bracketed, place_or}
use Rattle.doc_text.specs.Conditions.{passes, is_known, unknown, is_shallow, is_encoding}
use Rattle.doc_text.specs.State.{After, Answer, Answering, Around, Asked, BangDash, Banged, Bearer, Before, Beginning, Begun, Breaks, ByEntity, Citation, Cited, Citing, Clause, Closing, Coloned, Decimal, DeclEnd, Declaring, Encoding, Ending, Epilog, Equalling, Equating, First, Goes, Hashed, Hexadecimal, Hexed, InProlog, InText, InValue, Inside, Localing, Nameless, Naming, Numbered, Numbering, OfAttribute, OfEncoding, OfEnd, OfStanding, OfStart, OfVersion, Open, Opening, Quoting, RemarkDash, RemarkEnd, Remarking, Shutting, Spaced, Stage, State, Stated, Step, Stops, TargetEnd, Targeting, Telling, ToldEncoding, ToldStanding, ToldVersion, Untold, Valued, Valuing, Within, Wording, grow, opened, tags}

-- where markup ends
abbrev pub back : Around → State
back First = InProlog
back Before = InProlog
back (Within f fs) = Inside 0 f fs
back (After t) = Epilog t

-- an element ends
abbrev pub ended : List Open → Tree → State
ended [] t = Epilog t
ended (f ∷ fs) t = Inside 0 (opened f.tag (Also f.children t)) fs

abbrev pub cited : Citing → List ℕ → State
cited (InText f fs) bytes = Inside 0 (grow f bytes) fs
cited (InValue d fs t n v) bytes = Valuing d fs t n (v ++ bytes)

-- an attribute is read
abbrev pub further : Start → Name → List ℕ → Start
further t n v = start t.at t.name (t.pairs ++ (pair n v ∷ []))

abbrev pub weighed : Bool → Option (Fault × Place) → Step → Step
weighed false fault next = next
weighed true None next = next
weighed true (Some f) next = Breaks f.0 f.1

abbrev pub end_begins : Around → Step
end_begins First = Stops
end_begins Before = Stops
end_begins (Within f fs) = Goes (Ending f fs)
end_begins (After t) = Stops

abbrev pub opening_quote : List Open → Start → Name → Kind → Step
opening_quote fs t n Quote = Goes (Valuing true fs t n [])
opening_quote fs t n Apostrophe = Goes (Valuing false fs t n [])
opening_quote fs t n (Blank c) = Goes (Opening fs t n)
opening_quote fs t n k = Stops

abbrev pub attribute_goes : List Open → Start → Name → Kind → Step
attribute_goes fs t n (Blank c) = Goes (Equalling fs t n)
attribute_goes fs t n Equals = Goes (Opening fs t n)
attribute_goes fs t n k = Stops

abbrev pub end_goes : Open → List Open → Kind → Step
end_goes f fs (Blank c) = Goes (Closing f fs)
end_goes f fs Greater = Goes (ended fs (Node f.tag f.children))
end_goes f fs k = Stops

abbrev pub target_goes : Around → Kind → Step
target_goes a (Blank c) = Goes (Telling false a)
target_goes a Question = Goes (TargetEnd a)
target_goes a k = Stops

-- <?xml and a blank begin the declaration
abbrev pub titled : Kind → Step
titled (Blank c) = Goes (Declaring Untold)
titled k = Stops

abbrev pub targeted : Around → List ℕ → Kind → Step
targeted First n k = if is_reserved n then (if is_xml n then titled k else Stops) else target_goes First k
targeted a n k = if is_reserved n then Stops else target_goes a k

-- the declaration
abbrev pub word_of : Clause → List ℕ
word_of OfVersion = codes "version"
word_of OfEncoding = codes "encoding"
word_of OfStanding = codes "standalone"

abbrev pub worded : Clause → List ℕ → Kind → Step → Step
worded c [] k other = other
worded c (d ∷ rest) k other = if is_code d k then Goes (Wording c rest) else other

abbrev pub clause_begins : Stage → Kind → Step
clause_begins Untold k = worded OfVersion (word_of OfVersion) k Stops
clause_begins ToldVersion k = worded OfEncoding (word_of OfEncoding) k (worded OfStanding (word_of OfStanding) k Stops)
clause_begins ToldEncoding k = worded OfStanding (word_of OfStanding) k Stops
clause_begins ToldStanding k = Stops

abbrev pub declaration_ends : Stage → Step
declaration_ends Untold = Stops
declaration_ends s = Goes DeclEnd

abbrev pub clause_goes : Clause → Kind → Step
clause_goes c (Blank x) = Goes (Equating c)
clause_goes c Equals = Goes (Quoting c)
clause_goes c k = Stops

abbrev pub clause_value : Clause → Bool → State
clause_value OfVersion d = Numbering d (codes "1.")
clause_value OfEncoding d = Encoding d None []
clause_value OfStanding d = Answer d

abbrev pub clause_quote : Clause → Kind → Step
clause_quote c Quote = Goes (clause_value c true)
clause_quote c Apostrophe = Goes (clause_value c false)
clause_quote c (Blank x) = Goes (Quoting c)
clause_quote c k = Stops

abbrev pub spelling : List ℕ → Kind → (List ℕ → State) → Step → Step
spelling [] k s over = over
spelling (d ∷ rest) k s over = if is_code d k then Goes (s rest) else Stops

abbrev pub telling : Around → Bool → Kind → Step
telling a asked Bad = Stops
telling a asked Question = Goes (Telling true a)
telling a asked Greater = if asked then Goes (back a) else Goes (Telling false a)
telling a asked k = Goes (Telling false a)

abbrev pub in_value : Bool → List Open → Start → Name → List ℕ → Kind → Place → Step
in_value d fs t n v And p = Goes (Citation (InValue d fs t n v) p Nameless)
in_value true fs t n v Quote p = Goes (Valued fs (further t n v))
in_value false fs t n v Apostrophe p = Goes (Valued fs (further t n v))
in_value d fs t n v k p = if is_value d k then Goes (Valuing d fs t n (v ++ value_bytes k)) else Stops

module _ (strict : Bool) where
  -- a start tag is judged where it has been read to its end
  abbrev pub judged : List Open → Start → Step → Step
  judged fs t next = weighed strict (tag_fault (tags fs) t) next

  abbrev pub tag_goes : List Open → Start → Kind → Step
  tag_goes fs t (Blank c) = Goes (Spaced fs t)
  tag_goes fs t Slash = Goes (Shutting fs t)
  tag_goes fs t Greater = judged fs t (Goes (Inside 0 (opened t Nil) fs))
  tag_goes fs t k = Stops

  abbrev pub matched : Open → Name → Step → Step
  matched f n next = if passes strict (same_name n f.tag.name) then next else Breaks MismatchedEnd n.at

  -- a name is over at this character
  abbrev pub named : Bearer → Name → Kind → Step
  named (OfStart fs p) n k = tag_goes fs (start p n []) k
  named (OfAttribute fs t) n k = attribute_goes fs t n k
  named (OfEnd f fs) n k = matched f n (end_goes f fs k)

  -- an element begins there
  abbrev pub shallow : List Open → Place → Step → Step
  shallow fs p next = if passes strict (is_shallow (tags fs)) then next else Breaks TooDeep p

  abbrev pub begins_in : List Open → Place → Kind → Place → Step
  begins_in fs p k q = shallow fs p (Goes (Naming (OfStart fs p) q (utf8 k)))

  abbrev pub element_begins : Around → Place → Kind → Place → Step
  element_begins First p k q = begins_in [] p k q
  element_begins Before p k q = begins_in [] p k q
  element_begins (Within f fs) p k q = begins_in (f ∷ fs) p k q
  element_begins (After t) p k q = Stops

  abbrev pub known : Citing → Place → Target → Step
  known c p t = if passes strict (is_known t) then Goes (cited c (encode_utf8 (character_of t))) else Breaks (unknown t) p

  abbrev pub cite : Citing → Place → Cited → Kind → Step
  cite c p Nameless (Letter x) = Goes (Citation c p (ByEntity (utf8 (Letter x))))
  cite c p Nameless Hash = Goes (Citation c p Hashed)
  cite c p Nameless k = Stops
  cite c p (ByEntity n) Semicolon = known c p (ByName n)
  cite c p (ByEntity n) k = if is_name k then Goes (Citation c p (ByEntity (n ++ utf8 k))) else Stops
  cite c p Hashed k = if is_decimal k then Goes (Citation c p (Decimal (one_more 10 0 k))) else (if is_ex k then Goes (Citation c p Hexed) else Stops)
  cite c p (Decimal n) Semicolon = known c p (ByNumber n)
  cite c p (Decimal n) k = if is_decimal k then Goes (Citation c p (Decimal (one_more 10 n k))) else Stops
  cite c p Hexed k = if is_hexadecimal k then Goes (Citation c p (Hexadecimal (one_more 16 0 k))) else Stops
  cite c p (Hexadecimal n) Semicolon = known c p (ByNumber n)
  cite c p (Hexadecimal n) k = if is_hexadecimal k then Goes (Citation c p (Hexadecimal (one_more 16 n k))) else Stops

  -- an encoding is judged at its closing quote
  abbrev pub encoded : Bool → Option Place → List ℕ → Kind → Place → Step
  encoded d o v k q =
      if is_quote d k then (if passes strict (is_encoding v) then Goes (Stated ToldEncoding) else Breaks BadEncoding (place_or o q))
      else if is_good k then Goes (Encoding d (Some (place_or o q)) (v ++ utf8 k)) else Stops

  abbrev pub step : State → Kind → Place → Step
  step Beginning Less p = Goes (Begun First p)
  step Beginning (Blank c) p = Goes InProlog
  step Beginning k p = Stops
  step (Declaring s) (Blank c) p = Goes (Declaring s)
  step (Declaring s) Question p = declaration_ends s
  step (Declaring s) k p = clause_begins s k
  step (Wording c rest) k p = spelling rest k (Wording c) (clause_goes c k)
  step (Equating c) k p = clause_goes c k
  step (Quoting c) k p = clause_quote c k
  step (Numbering d rest) k p = spelling rest k (Numbering d) (if is_decimal k then Goes (Numbered d) else Stops)
  step (Numbered d) k p = if is_decimal k then Goes (Numbered d) else if is_quote d k then Goes (Stated ToldVersion) else Stops
  step (Encoding d o v) k p = encoded d o v k p
  step (Answer d) k p = if is_code 121 k then Goes (Answering d (codes "es")) else if is_code 110 k then Goes (Answering d (codes "o")) else Stops
  step (Answering d rest) k p = spelling rest k (Answering d) (if is_quote d k then Goes (Stated ToldStanding) else Stops)
  step (Stated s) (Blank c) p = Goes (Declaring s)
  step (Stated s) Question p = declaration_ends s
  step (Stated s) k p = Stops
  step DeclEnd Greater p = Goes InProlog
  step DeclEnd k p = Stops
  step InProlog Less p = Goes (Begun Before p)
  step InProlog (Blank c) p = Goes InProlog
  step InProlog k p = Stops
  step (Epilog t) Less p = Goes (Begun (After t) p)
  step (Epilog t) (Blank c) p = Goes (Epilog t)
  step (Epilog t) k p = Stops
  step (Inside n f fs) Less p = Goes (Begun (Within f fs) p)
  step (Inside n f fs) And p = Goes (Citation (InText f fs) p Nameless)
  step (Inside n f fs) Bad p = Stops
  step (Inside n f fs) Greater p = if nat_eq n 2 then Stops else Goes (Inside 0 (grow f (utf8 Greater)) fs)
  step (Inside n f fs) k p = Goes (Inside (bracketed n k) (grow f (utf8 k)) fs)
  step (Begun a p) Bang q = Goes (Banged a p)
  step (Begun a p) Question q = Goes (Asked a)
  step (Begun a p) Slash q = end_begins a
  step (Begun a p) (Letter c) q = element_begins a p (Letter c) q
  step (Begun a p) k q = Stops
  step (Banged a p) Dash q = Goes (BangDash a p)
  step (Banged a p) k q = Stops
  step (BangDash a p) Dash q = Goes (Remarking a)
  step (BangDash a p) k q = Stops
  step (Remarking a) Dash q = Goes (RemarkDash a)
  step (Remarking a) Bad q = Stops
  step (Remarking a) k q = Goes (Remarking a)
  step (RemarkDash a) Dash q = Goes (RemarkEnd a)
  step (RemarkDash a) Bad q = Stops
  step (RemarkDash a) k q = Goes (Remarking a)
  step (RemarkEnd a) Greater q = Goes (back a)
  step (RemarkEnd a) k q = Stops
  step (Asked a) (Letter c) q = Goes (Targeting a (utf8 (Letter c)))
  step (Asked a) k q = Stops
  step (Targeting a n) k q = if is_name k then Goes (Targeting a (n ++ utf8 k)) else targeted a n k
  step (TargetEnd a) Greater q = Goes (back a)
  step (TargetEnd a) k q = Stops
  step (Telling asked a) k q = telling a asked k
  step (Naming b p n) Colon q = Goes (Coloned b p n)
  step (Naming b p n) k q = if is_name k then Goes (Naming b p (n ++ utf8 k)) else named b (called p [] n) k
  step (Coloned b p n) (Letter c) q = Goes (Localing b p n (utf8 (Letter c)))
  step (Coloned b p n) k q = Stops
  step (Localing b p n m) k q = if is_name k then Goes (Localing b p n (m ++ utf8 k)) else named b (called p n m) k
  step (Spaced fs t) (Letter c) q = Goes (Naming (OfAttribute fs t) q (utf8 (Letter c)))
  step (Spaced fs t) k q = tag_goes fs t k
  step (Valued fs t) k q = tag_goes fs t k
  step (Shutting fs t) Greater q = judged fs t (Goes (ended fs (Node t Nil)))
  step (Shutting fs t) k q = Stops
  step (Equalling fs t n) k q = attribute_goes fs t n k
  step (Opening fs t n) k q = opening_quote fs t n k
  step (Valuing d fs t n v) k q = in_value d fs t n v k q
  step (Ending f fs) (Letter c) q = Goes (Naming (OfEnd f fs) q (utf8 (Letter c)))
  step (Ending f fs) k q = Stops
  step (Closing f fs) k q = end_goes f fs k
  step (Citation c p x) k q = cite c p x k
