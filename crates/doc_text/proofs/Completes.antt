-- What can be read on from each state, by the form alone.
use Rattle.std.proofs.Common.{◌≡◌, ℕ, List, [], ◌∷◌, ◌++◌, refl, sym, ◌∙◌, subst, arith}
use Rattle.std.proofs.lemmas.Str.{encode_ascii}
use Rattle.std.proofs.lemmas.Bool.{eq-eqb}
use Rattle.std.specs.Prelude.{Bool, true, false, codes, Option, None, ◌==◌}
use Rattle.atl_base.specs.declared.place.Place.{Place}
use Rattle.doc_text.specs.Symbols.{Kind, Less, Greater, Slash, Semicolon, Quote, Equals, Question, Dash, Letter, Joint, Symbol, mark, utf8, quote, Blank, Apostrophe}
use Rattle.doc_text.specs.Raw.{Name, called, Start, start, Tree, Node, Nil, Also}
use Rattle.doc_text.specs.Markup.{is_reserved}
use Rattle.doc_text.specs.State.{Open, Around, Before, Within, After, Bearer, OfStart, OfAttribute, OfEnd, Citing, InText, InValue, Cited, Nameless, ByEntity, Hashed, Decimal, Hexed, Hexadecimal, State, InProlog, Inside, Epilog, Begun, Banged, BangDash, Remarking, RemarkDash, RemarkEnd, Asked, Targeting, TargetEnd, Telling, Naming, Coloned, Localing, Spaced, Valued, Shutting, Equalling, Opening, Valuing, Ending, Closing, Citation, First, Stage, Untold, ToldVersion, ToldEncoding, ToldStanding, Clause, OfVersion, OfEncoding, OfStanding, Beginning, Declaring, Wording, Equating, Quoting, Numbering, Numbered, Encoding, Answer, Answering, Stated, DeclEnd}
use Rattle.doc_text.specs.Steps.{back, ended, cited, further, clause_value}
use Rattle.doc_text.specs.Machine.{run, Read}

module _ (end : Place) where
  abbrev pub Ends : State → Type 0
  Ends s = (more : List Symbol) × (t : Tree) × (run false end s more ≡ Read t)

  abbrev put : Kind → Symbol
  put k = mark end k

  abbrev closing : List Open → List Symbol
  closing [] = []
  closing (f ∷ fs) = put Less ∷ put Slash ∷ put (Letter 97) ∷ put Greater ∷ closing fs

  closes : (fs : List Open) (t : Tree) → (u : Tree) × (run false end (ended fs t) (closing fs) ≡ Read u)
  closes [] t = (t, refl)
  closes (f ∷ fs) t = closes fs (Node f.tag (Also f.children t))

  ended_ends : (fs : List Open) (t : Tree) → Ends (ended fs t)
  ended_ends fs t = let c = closes fs t in (closing fs, c.0, c.1)

  abbrev by : (s u : State) (k : Kind) → ((more : List Symbol) → run false end s (put k ∷ more) ≡ run false end u more) → Ends u → Ends s
  by s u k h e = (put k ∷ e.0, e.1, h e.0 ∙ e.2)

  inside_ends : (n : ℕ) (f : Open) (fs : List Open) → Ends (Inside n f fs)
  inside_ends n f fs = let c = closes fs (Node f.tag f.children) in (closing (f ∷ fs), c.0, c.1)

  back_ends : (a : Around) → Ends (back a)
  back_ends First = (put Less ∷ put (Letter 97) ∷ put Slash ∷ put Greater ∷ [], Node (start end (called end [] (utf8 (Letter 97))) []) Nil, refl)
  back_ends Before = (put Less ∷ put (Letter 97) ∷ put Slash ∷ put Greater ∷ [], Node (start end (called end [] (utf8 (Letter 97))) []) Nil, refl)
  back_ends (Within f fs) = inside_ends 0 f fs
  back_ends (After t) = ([], t, refl)

  shutting_ends : (fs : List Open) (t : Start) → Ends (Shutting fs t)
  shutting_ends fs t = by (Shutting fs t) (ended fs (Node t Nil)) Greater (λ m. refl) (ended_ends fs (Node t Nil))

  valued_ends : (fs : List Open) (t : Start) → Ends (Valued fs t)
  valued_ends fs t = by (Valued fs t) (Shutting fs t) Slash (λ m. refl) (shutting_ends fs t)

  valuing_ends : (d : Bool) (fs : List Open) (t : Start) (n : Name) (v : List ℕ) → Ends (Valuing d fs t n v)
  valuing_ends true fs t n v = by (Valuing true fs t n v) (Valued fs (further t n v)) (quote true) (λ m. refl) (valued_ends fs (further t n v))
  valuing_ends false fs t n v = by (Valuing false fs t n v) (Valued fs (further t n v)) (quote false) (λ m. refl) (valued_ends fs (further t n v))

  opening_ends : (fs : List Open) (t : Start) (n : Name) → Ends (Opening fs t n)
  opening_ends fs t n = by (Opening fs t n) (Valuing true fs t n []) Quote (λ m. refl) (valuing_ends true fs t n [])

  closing_ends : (f : Open) (fs : List Open) → Ends (Closing f fs)
  closing_ends f fs = by (Closing f fs) (ended fs (Node f.tag f.children)) Greater (λ m. refl) (ended_ends fs (Node f.tag f.children))

  naming_ends : (b : Bearer) (p : Place) (n : List ℕ) → Ends (Naming b p n)
  naming_ends (OfStart fs o) p n = by (Naming (OfStart fs o) p n) (Shutting fs (start o (called p [] n) [])) Slash (λ m. refl) (shutting_ends fs (start o (called p [] n) []))
  naming_ends (OfAttribute fs t) p n = by (Naming (OfAttribute fs t) p n) (Opening fs t (called p [] n)) Equals (λ m. refl) (opening_ends fs t (called p [] n))
  naming_ends (OfEnd f fs) p n = by (Naming (OfEnd f fs) p n) (ended fs (Node f.tag f.children)) Greater (λ m. refl) (ended_ends fs (Node f.tag f.children))

  localing_ends : (b : Bearer) (p : Place) (n m : List ℕ) → Ends (Localing b p n m)
  localing_ends (OfStart fs o) p n m = by (Localing (OfStart fs o) p n m) (Shutting fs (start o (called p n m) [])) Slash (λ x. refl) (shutting_ends fs (start o (called p n m) []))
  localing_ends (OfAttribute fs t) p n m = by (Localing (OfAttribute fs t) p n m) (Opening fs t (called p n m)) Equals (λ x. refl) (opening_ends fs t (called p n m))
  localing_ends (OfEnd f fs) p n m = by (Localing (OfEnd f fs) p n m) (ended fs (Node f.tag f.children)) Greater (λ x. refl) (ended_ends fs (Node f.tag f.children))

  remark_end_ends : (a : Around) → Ends (RemarkEnd a)
  remark_end_ends a = by (RemarkEnd a) (back a) Greater (λ m. refl) (back_ends a)

  remark_dash_ends : (a : Around) → Ends (RemarkDash a)
  remark_dash_ends a = by (RemarkDash a) (RemarkEnd a) Dash (λ m. refl) (remark_end_ends a)

  remarking_ends : (a : Around) → Ends (Remarking a)
  remarking_ends a = by (Remarking a) (RemarkDash a) Dash (λ m. refl) (remark_dash_ends a)

  bang_dash_ends : (a : Around) (p : Place) → Ends (BangDash a p)
  bang_dash_ends a p = by (BangDash a p) (Remarking a) Dash (λ m. refl) (remarking_ends a)

  target_end_ends : (a : Around) → Ends (TargetEnd a)
  target_end_ends a = by (TargetEnd a) (back a) Greater (λ m. refl) (back_ends a)

  telling_ends : (asked : Bool) (a : Around) → Ends (Telling asked a)
  telling_ends true a = by (Telling true a) (back a) Greater (λ m. refl) (back_ends a)
  telling_ends false a = by (Telling false a) (Telling true a) Question (λ m. refl) (by (Telling true a) (back a) Greater (λ m. refl) (back_ends a))

  abbrev Is : Bool → Type 0
  Is true = ⊥
  Is false = Unit {0}

  false-true : false ≡ true → ⊥
  false-true h = subst Is h tt

  -- a longer name is not `xml`
  longer : (n : List ℕ) → is_reserved n ≡ true → is_reserved (n ++ (97 ∷ [])) ≡ false
  longer [] h = refl
  longer (x ∷ []) h = refl
  longer (x ∷ m ∷ []) h = absurd (false-true h)
  longer (x ∷ m ∷ l ∷ []) h = refl
  longer (x ∷ m ∷ l ∷ k ∷ n) h = refl

  free_ends : (a : Around) (n : List ℕ) → is_reserved n ≡ false → Ends (Targeting a n)
  free_ends First n h = by (Targeting First n) (TargetEnd First) Question (λ m. rw h refl) (target_end_ends First)
  free_ends Before n h = by (Targeting Before n) (TargetEnd Before) Question (λ m. rw h refl) (target_end_ends Before)
  free_ends (Within f fs) n h = by (Targeting (Within f fs) n) (TargetEnd (Within f fs)) Question (λ m. rw h refl) (target_end_ends (Within f fs))
  free_ends (After t) n h = by (Targeting (After t) n) (TargetEnd (After t)) Question (λ m. rw h refl) (target_end_ends (After t))

  targeting_ends : (a : Around) (n : List ℕ) → Ends (Targeting a n)
  targeting_ends a n = on (is_reserved n) refl
    where
      on : (b : Bool) → is_reserved n ≡ b → Ends (Targeting a n)
      on false h = free_ends a n h
      on true h = by (Targeting a n) (Targeting a (n ++ utf8 (Letter 97))) (Letter 97) (λ m. refl) (free_ends a (n ++ utf8 (Letter 97)) (subst (λ u. is_reserved (n ++ u) ≡ false) (sym (encode_ascii 97 (omega arith))) (longer n h)))

  cited_ends : (c : Citing) (bytes : List ℕ) → Ends (cited c bytes)
  cited_ends (InText f fs) bytes = inside_ends 0 _ fs
  cited_ends (InValue d fs t n v) bytes = valuing_ends d fs t n (v ++ bytes)

  citation_ends : (c : Citing) (p : Place) (x : Cited) → Ends (Citation c p x)
  citation_ends c p Nameless = by (Citation c p Nameless) (Citation c p (ByEntity (utf8 (Letter 97)))) (Letter 97) (λ m. refl) (by (Citation c p (ByEntity (utf8 (Letter 97)))) (cited c _) Semicolon (λ m. refl) (cited_ends c _))
  citation_ends c p (ByEntity n) = by (Citation c p (ByEntity n)) (cited c _) Semicolon (λ m. refl) (cited_ends c _)
  citation_ends c p Hashed = by (Citation c p Hashed) (Citation c p (Decimal 0)) (Joint 48) (λ m. refl) (by (Citation c p (Decimal 0)) (cited c _) Semicolon (λ m. refl) (cited_ends c _))
  citation_ends c p (Decimal n) = by (Citation c p (Decimal n)) (cited c _) Semicolon (λ m. refl) (cited_ends c _)
  citation_ends c p Hexed = by (Citation c p Hexed) (Citation c p (Hexadecimal 0)) (Joint 48) (λ m. refl) (by (Citation c p (Hexadecimal 0)) (cited c _) Semicolon (λ m. refl) (cited_ends c _))
  citation_ends c p (Hexadecimal n) = by (Citation c p (Hexadecimal n)) (cited c _) Semicolon (λ m. refl) (cited_ends c _)

  begun_ends : (a : Around) (p : Place) → Ends (Begun a p)
  begun_ends a p = by (Begun a p) (Asked a) Question (λ m. refl) (by (Asked a) (Targeting a (utf8 (Letter 97))) (Letter 97) (λ m. refl) (targeting_ends a (utf8 (Letter 97))))

  -- the declaration
  decl_end_ends : Ends DeclEnd
  decl_end_ends = by DeclEnd InProlog Greater (λ m. refl) (back_ends Before)

  standing_ends : Ends (Stated ToldStanding)
  standing_ends = by (Stated ToldStanding) DeclEnd Question (λ m. refl) decl_end_ends

  encoding_ends : (d : Bool) (o : Option Place) (v : List ℕ) → Ends (Encoding d o v)
  encoding_ends true o v = by (Encoding true o v) (Stated ToldEncoding) Quote (λ m. refl) (by (Stated ToldEncoding) DeclEnd Question (λ m. refl) decl_end_ends)
  encoding_ends false o v = by (Encoding false o v) (Stated ToldEncoding) Apostrophe (λ m. refl) (by (Stated ToldEncoding) DeclEnd Question (λ m. refl) decl_end_ends)

  numbered_ends : (d : Bool) → Ends (Numbered d)
  numbered_ends true = by (Numbered true) (Stated ToldVersion) Quote (λ m. refl) (by (Stated ToldVersion) DeclEnd Question (λ m. refl) decl_end_ends)
  numbered_ends false = by (Numbered false) (Stated ToldVersion) Apostrophe (λ m. refl) (by (Stated ToldVersion) DeclEnd Question (λ m. refl) decl_end_ends)

  spells : (d : ℕ) → (d == d) ≡ true
  spells d = eq-eqb d d refl

  numbering_ends : (d : Bool) (left : List ℕ) → Ends (Numbering d left)
  numbering_ends d [] = by (Numbering d []) (Numbered d) (Joint 48) (λ m. refl) (numbered_ends d)
  numbering_ends d (c ∷ left) = by (Numbering d (c ∷ left)) (Numbering d left) (Letter c) (λ m. rw (spells c) refl) (numbering_ends d left)

  answering_ends : (d : Bool) (left : List ℕ) → Ends (Answering d left)
  answering_ends true [] = by (Answering true []) (Stated ToldStanding) Quote (λ m. refl) standing_ends
  answering_ends false [] = by (Answering false []) (Stated ToldStanding) Apostrophe (λ m. refl) standing_ends
  answering_ends d (c ∷ left) = by (Answering d (c ∷ left)) (Answering d left) (Letter c) (λ m. rw (spells c) refl) (answering_ends d left)

  answer_ends : (d : Bool) → Ends (Answer d)
  answer_ends d = by (Answer d) (Answering d (codes "o")) (Letter 110) (λ m. refl) (answering_ends d (codes "o"))

  clause_value_ends : (c : Clause) → Ends (clause_value c true)
  clause_value_ends OfVersion = numbering_ends true (codes "1.")
  clause_value_ends OfEncoding = encoding_ends true None []
  clause_value_ends OfStanding = answer_ends true

  quoting_ends : (c : Clause) → Ends (Quoting c)
  quoting_ends c = by (Quoting c) (clause_value c true) Quote (λ m. refl) (clause_value_ends c)

  wording_ends : (c : Clause) (left : List ℕ) → Ends (Wording c left)
  wording_ends c [] = by (Wording c []) (Quoting c) Equals (λ m. refl) (quoting_ends c)
  wording_ends c (d ∷ left) = by (Wording c (d ∷ left)) (Wording c left) (Letter d) (λ m. rw (spells d) refl) (wording_ends c left)

  declaring_ends : (s : Stage) → Ends (Declaring s)
  declaring_ends Untold = by (Declaring Untold) (Wording OfVersion (codes "ersion")) (Letter 118) (λ m. refl) (wording_ends OfVersion (codes "ersion"))
  declaring_ends ToldVersion = by (Declaring ToldVersion) DeclEnd Question (λ m. refl) decl_end_ends
  declaring_ends ToldEncoding = by (Declaring ToldEncoding) DeclEnd Question (λ m. refl) decl_end_ends
  declaring_ends ToldStanding = by (Declaring ToldStanding) DeclEnd Question (λ m. refl) decl_end_ends

  stated_ends : (s : Stage) → Ends (Stated s)
  stated_ends s = by (Stated s) (Declaring s) (Blank 32) (λ m. refl) (declaring_ends s)

  pub completes : (s : State) → Ends s
  completes Beginning = by Beginning InProlog (Blank 32) (λ m. refl) (back_ends Before)
  completes (Declaring s) = declaring_ends s
  completes (Wording c left) = wording_ends c left
  completes (Equating c) = by (Equating c) (Quoting c) Equals (λ m. refl) (quoting_ends c)
  completes (Quoting c) = quoting_ends c
  completes (Numbering d left) = numbering_ends d left
  completes (Numbered d) = numbered_ends d
  completes (Encoding d o v) = encoding_ends d o v
  completes (Answer d) = answer_ends d
  completes (Answering d left) = answering_ends d left
  completes (Stated s) = stated_ends s
  completes DeclEnd = decl_end_ends
  completes InProlog = back_ends Before
  completes (Inside n f fs) = inside_ends n f fs
  completes (Epilog t) = back_ends (After t)
  completes (Begun a p) = begun_ends a p
  completes (Banged a p) = by (Banged a p) (BangDash a p) Dash (λ m. refl) (bang_dash_ends a p)
  completes (BangDash a p) = bang_dash_ends a p
  completes (Remarking a) = remarking_ends a
  completes (RemarkDash a) = remark_dash_ends a
  completes (RemarkEnd a) = remark_end_ends a
  completes (Asked a) = by (Asked a) (Targeting a (utf8 (Letter 97))) (Letter 97) (λ m. refl) (targeting_ends a (utf8 (Letter 97)))
  completes (Targeting a n) = targeting_ends a n
  completes (TargetEnd a) = target_end_ends a
  completes (Telling asked a) = telling_ends asked a
  completes (Naming b p n) = naming_ends b p n
  completes (Coloned b p n) = by (Coloned b p n) (Localing b p n (utf8 (Letter 97))) (Letter 97) (λ m. refl) (localing_ends b p n (utf8 (Letter 97)))
  completes (Localing b p n m) = localing_ends b p n m
  completes (Spaced fs t) = by (Spaced fs t) (Shutting fs t) Slash (λ m. refl) (shutting_ends fs t)
  completes (Valued fs t) = valued_ends fs t
  completes (Shutting fs t) = shutting_ends fs t
  completes (Equalling fs t n) = by (Equalling fs t n) (Opening fs t n) Equals (λ m. refl) (opening_ends fs t n)
  completes (Opening fs t n) = opening_ends fs t n
  completes (Valuing d fs t n v) = valuing_ends d fs t n v
  completes (Ending f fs) = by (Ending f fs) (Naming (OfEnd f fs) end (utf8 (Letter 97))) (Letter 97) (λ m. refl) (naming_ends (OfEnd f fs) end (utf8 (Letter 97)))
  completes (Closing f fs) = closing_ends f fs
  completes (Citation c p x) = citation_ends c p x
