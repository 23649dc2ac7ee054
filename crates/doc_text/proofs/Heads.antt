-- A declaration that is written is read, or breaks where its encoding is none that is read.
use Rattle.std.proofs.lemmas.List.{append-nil}
use Rattle.std.proofs.Common.{◌≡◌, ℕ, List, [], ◌∷◌, ◌++◌, refl, sym, ap, ◌∙◌, subst, append_assoc}
use Rattle.std.proofs.lemmas.Bool.{eqb-true, eq-eqb}
use Rattle.std.specs.Prelude.{Bool, true, false, if◌then◌else◌, ◌==◌, codes, None}
use Rattle.atl_base.specs.declared.place.Place.{Place}
use Rattle.doc_text.specs.Symbols.{Kind, Greater, Equals, Question, Blank, Letter, Joint, Symbol, mark, code_of, quote, is_good, is_blank, is_code, is_quote, is_quoted, is_decimal, is_word}
use Rattle.doc_text.specs.Faults.{BadEncoding}
use Rattle.doc_text.specs.Markup.{Run, No, More, spelt, joined, plain_bytes, is_xml, is_reserved, Aside, aside_spelt}
use Rattle.doc_text.specs.Form.{codes_of, Word, Title, title_spelt, Heading, heading_spelt, VersionInfo, version_spelt, encoding_at, first_place, answer, SDDecl, standalone_spelt, Told, Versioned, Encoded, told_spelt, Clauses, Only, Standing, clauses_spelt, Prolog, Undeclared, Declared, Following, Helped, prolog_spelt}
use Rattle.doc_text.specs.Conditions.{is_encoding, ToldFits, ClausesFit, PrologFits, ToldFails, ClausesFail, PrologFails}
use Rattle.doc_text.specs.State.{State, First, Before, Stage, Untold, ToldVersion, ToldEncoding, ToldStanding, Clause, OfVersion, OfEncoding, OfStanding, Beginning, InProlog, Targeting, Declaring, Wording, Equating, Quoting, Numbering, Numbered, Encoding, Answer, Answering, Stated, Goes, Stops}
use Rattle.doc_text.specs.Steps.{word_of, worded, clause_value, step}
use Rattle.doc_text.specs.Machine.{run}
use Rattle.doc_text.proofs.Runs.{false-true, blanks, goes_if, goes_else, Leads, steps, gaps, optional, target_reads, aside_reads}
use Rattle.doc_text.proofs.Outcomes.{Outcome, Passes, led, onward, decide}

-- a name's character has its own code
code_self : (k : Kind) → is_word k ≡ true → is_code (code_of k) k ≡ true
code_self (Letter x) h = eq-eqb x x refl
code_self (Joint x) h = eq-eqb x x refl
code_self k h = absurd (false-true h)

-- a character with a code is a letter, digit or point
coded : (P : Kind → Type 0) (d : ℕ) → ((x : ℕ) → is_code d (Letter x) ≡ true → P (Letter x)) → ((x : ℕ) → is_code d (Joint x) ≡ true → P (Joint x)) → (k : Kind) → is_code d k ≡ true → P k
coded P d f g (Letter x) h = f x h
coded P d f g (Joint x) h = g x h
coded P d f g k h = absurd (false-true h)

-- e and s differ, and y and n
not_also : (c d : ℕ) → (c == d) ≡ false → (k : Kind) → is_code c k ≡ true → is_code d k ≡ false
not_also c d n (Letter x) h = ap (λ u. u == d) (eqb-true x c h) ∙ n
not_also c d n (Joint x) h = ap (λ u. u == d) (eqb-true x c h) ∙ n
not_also c d n k h = absurd (false-true h)

quoted_parts : (d : Bool) (k : Kind) → is_quoted d k ≡ true → (is_quote d k ≡ false) × (is_good k ≡ true)
quoted_parts d k h = on (is_quote d k) refl h
  where
    on : (b : Bool) → is_quote d k ≡ b → (if b then false else is_good k) ≡ true → (is_quote d k ≡ false) × (is_good k ≡ true)
    on true i j = absurd (false-true j)
    on false i j = (i, j)

quote_is : (d : Bool) → is_quote d (quote d) ≡ true
quote_is true = refl
quote_is false = refl

undecimal : (d : Bool) → is_decimal (quote d) ≡ false
undecimal true = refl
undecimal false = refl

abbrev told_stage : Told → Stage
told_stage (Versioned t v) = ToldVersion
told_stage (Encoded t v e) = ToldEncoding

module _ (strict : Bool) (end : Place) where
  -- a word, letter by letter
  spells : (s : List ℕ → State) → ((d : ℕ) (left : List ℕ) (k : Kind) (p : Place) → is_code d k ≡ true → step strict (s (d ∷ left)) k p ≡ Goes (s left)) → (x : Run is_word) (left w : List ℕ) → codes_of x ++ left ≡ w → (r : List Symbol) → Leads strict end (s w) (spelt x r) (s left) r
  spells s f No left w h r = ap (λ u. run strict end (s u) r) (sym h)
  spells s f (More x c g) left w h r =
      spells s f x (code_of c.kind ∷ left) w (sym (append_assoc (codes_of x) (code_of c.kind ∷ []) left) ∙ h) (c ∷ r)
      ∙ steps strict end (s (code_of c.kind ∷ left)) c r (s left) (f (code_of c.kind) left c.kind c.at (code_self c.kind g))

  -- from a state that takes its first letter alike
  enters : (t : State) (s : List ℕ → State) (w : List ℕ) → ((d : ℕ) (left : List ℕ) → d ∷ left ≡ w → (k : Kind) (p : Place) → is_code d k ≡ true → step strict t k p ≡ Goes (s left)) → ((d : ℕ) (left : List ℕ) (k : Kind) (p : Place) → is_code d k ≡ true → step strict (s (d ∷ left)) k p ≡ Goes (s left))
      → (x : Run is_word) (c : Symbol) → is_word c.kind ≡ true → (left : List ℕ) → codes_of x ++ (code_of c.kind ∷ left) ≡ w → (r : List Symbol) → Leads strict end t (spelt x (c ∷ r)) (s left) r
  enters t s w f g No c i left h r = steps strict end t c r (s left) (f (code_of c.kind) left h c.kind c.at (code_self c.kind i))
  enters t s w f g (More x d e) c i left h r =
      enters t s w f g x d e (code_of c.kind ∷ left) (sym (append_assoc (codes_of x) (code_of d.kind ∷ []) (code_of c.kind ∷ left)) ∙ h) (c ∷ r)
      ∙ steps strict end (s (code_of c.kind ∷ left)) c r (s left) (g (code_of c.kind) left c.kind c.at (code_self c.kind i))

  abbrev IsEmpty : List ℕ → Type 0
  IsEmpty [] = Unit {0}
  IsEmpty (c ∷ cs) = ⊥

  -- a whole word that is not empty
  word_reads : (t : State) (s : List ℕ → State) (d : ℕ) (w : List ℕ) → ((e : ℕ) (left : List ℕ) → e ∷ left ≡ d ∷ w → (k : Kind) (p : Place) → is_code e k ≡ true → step strict t k p ≡ Goes (s left)) → ((e : ℕ) (left : List ℕ) (k : Kind) (p : Place) → is_code e k ≡ true → step strict (s (e ∷ left)) k p ≡ Goes (s left))
      → (x : Word (d ∷ w)) (r : List Symbol) → Leads strict end t (spelt x.run r) (s []) r
  word_reads t s d w f g x r = on x.run x.is
    where
      on : (run : Run is_word) → codes_of run ≡ d ∷ w → Leads strict end t (spelt run r) (s []) r
      on No h = absurd (subst IsEmpty h tt)
      on (More y c i) h = enters t s (d ∷ w) f g y c i [] h r

  wording : (c : Clause) (d : ℕ) (left : List ℕ) (k : Kind) (p : Place) → is_code d k ≡ true → step strict (Wording c (d ∷ left)) k p ≡ Goes (Wording c left)
  wording c d left k p h = goes_if (is_code d k) _ _ h

  clause_equals : (c : Clause) (b : Run is_blank) (e : Place) (r : List Symbol) → Leads strict end (Wording c []) (spelt b (mark e Equals ∷ r)) (Quoting c) r
  clause_equals c b e r = optional strict end (Wording c []) (Equating c) (λ x p. refl) (λ x p. refl) b (mark e Equals ∷ r) _ refl refl

  clause_opens : (c : Clause) (d : Bool) (p : Place) (r : List Symbol) → Leads strict end (Quoting c) (mark p (quote d) ∷ r) (clause_value c d) r
  clause_opens c true p r = refl
  clause_opens c false p r = refl

  -- S, a word, Eq and a quote
  heading_reads : (s : State) (t : Stage) (c : Clause) (d : ℕ) (w : List ℕ) → ((x : ℕ) (p : Place) → step strict s (Blank x) p ≡ Goes (Declaring t)) → ((e : ℕ) (left : List ℕ) → e ∷ left ≡ d ∷ w → (k : Kind) (p : Place) → is_code e k ≡ true → step strict (Declaring t) k p ≡ Goes (Wording c left))
      → (h : Heading (d ∷ w)) (r : List Symbol) → Leads strict end s (heading_spelt h r) (clause_value c h.double) r
  heading_reads s t c d w f g h r =
      gaps strict end s (Declaring t) f (λ x p. refl) h.gap.blanks h.gap.last h.gap.ends _
      ∙ word_reads (Declaring t) (Wording c) d w g (wording c) h.word _
      ∙ clause_equals c h.before h.equals _
      ∙ optional strict end (Quoting c) (Quoting c) (λ x p. refl) (λ x p. refl) h.after (mark h.opens (quote h.double) ∷ r) _ (clause_opens c h.double h.opens r) (clause_opens c h.double h.opens r)

  -- the first letter of each word
  begins_version : (e : ℕ) (left : List ℕ) → e ∷ left ≡ word_of OfVersion → (k : Kind) (p : Place) → is_code e k ≡ true → step strict (Declaring Untold) k p ≡ Goes (Wording OfVersion left)
  begins_version e left h k p i = coded (λ k. step strict (Declaring Untold) k p ≡ Goes (Wording OfVersion left)) e (λ x j. subst (λ u. worded OfVersion u (Letter x) Stops ≡ Goes (Wording OfVersion left)) h (goes_if (x == e) _ _ j)) (λ x j. subst (λ u. worded OfVersion u (Joint x) Stops ≡ Goes (Wording OfVersion left)) h (goes_if (x == e) _ _ j)) k i

  begins_encoding : (e : ℕ) (left : List ℕ) → e ∷ left ≡ word_of OfEncoding → (k : Kind) (p : Place) → is_code e k ≡ true → step strict (Declaring ToldVersion) k p ≡ Goes (Wording OfEncoding left)
  begins_encoding e left h k p i = coded (λ k. step strict (Declaring ToldVersion) k p ≡ Goes (Wording OfEncoding left)) e (λ x j. subst (λ u. worded OfEncoding u (Letter x) (worded OfStanding (word_of OfStanding) (Letter x) Stops) ≡ Goes (Wording OfEncoding left)) h (goes_if (x == e) _ _ j)) (λ x j. subst (λ u. worded OfEncoding u (Joint x) (worded OfStanding (word_of OfStanding) (Joint x) Stops) ≡ Goes (Wording OfEncoding left)) h (goes_if (x == e) _ _ j)) k i

  abbrev head : List ℕ → ℕ
  head [] = 0
  head (c ∷ cs) = c

  begins_standing : (t : Told) (e : ℕ) (left : List ℕ) → e ∷ left ≡ word_of OfStanding → (k : Kind) (p : Place) → is_code e k ≡ true → step strict (Declaring (told_stage t)) k p ≡ Goes (Wording OfStanding left)
  begins_standing (Versioned t v) e left h k p i = coded (λ k. step strict (Declaring ToldVersion) k p ≡ Goes (Wording OfStanding left)) e
      (λ x j. goes_else (x == 101) _ _ (not_also e 101 (ap (λ u. head u == 101) h) (Letter x) j) ∙ subst (λ u. worded OfStanding u (Letter x) Stops ≡ Goes (Wording OfStanding left)) h (goes_if (x == e) _ _ j))
      (λ x j. goes_else (x == 101) _ _ (not_also e 101 (ap (λ u. head u == 101) h) (Joint x) j) ∙ subst (λ u. worded OfStanding u (Joint x) Stops ≡ Goes (Wording OfStanding left)) h (goes_if (x == e) _ _ j)) k i
  begins_standing (Encoded t v n) e left h k p i = coded (λ k. step strict (Declaring ToldEncoding) k p ≡ Goes (Wording OfStanding left)) e (λ x j. subst (λ u. worded OfStanding u (Letter x) Stops ≡ Goes (Wording OfStanding left)) h (goes_if (x == e) _ _ j)) (λ x j. subst (λ u. worded OfStanding u (Joint x) Stops ≡ Goes (Wording OfStanding left)) h (goes_if (x == e) _ _ j)) k i

  -- <?xml and VersionInfo
  titled : (t : Title) (c : ℕ) (p : Place) → step strict (Targeting First (plain_bytes t.target)) (Blank c) p ≡ Goes (Declaring Untold)
  titled t c p = goes_if (is_reserved (plain_bytes t.target)) _ _ (reserved (plain_bytes t.target) t.is) ∙ goes_if (is_xml (plain_bytes t.target)) _ _ t.is
    where
      reserved : (n : List ℕ) → is_xml n ≡ true → is_reserved n ≡ true
      reserved n h = rw h refl

  numbering : (d : Bool) (e : ℕ) (left : List ℕ) (k : Kind) (p : Place) → is_code e k ≡ true → step strict (Numbering d (e ∷ left)) k p ≡ Goes (Numbering d left)
  numbering d e left k p h = goes_if (is_code e k) _ _ h

  digits_read : (d : Bool) (x : Run is_decimal) (r : List Symbol) → Leads strict end (Numbered d) (spelt x r) (Numbered d) r
  digits_read d No r = refl
  digits_read d (More x c h) r = digits_read d x (c ∷ r) ∙ steps strict end (Numbered d) c r (Numbered d) (goes_if (is_decimal c.kind) _ _ h)

  version_reads : (t : Title) (v : VersionInfo) (r : List Symbol) → Leads strict end Beginning (title_spelt t (version_spelt v r)) (Stated ToldVersion) r
  version_reads t v r =
      let d = v.heading.double in
      target_reads strict end First t.target _
      ∙ heading_reads (Targeting First (plain_bytes t.target)) Untold OfVersion 118 (codes "ersion") (titled t) begins_version v.heading _
      ∙ spells (Numbering d) (numbering d) v.one.run [] (codes "1.") (append-nil (codes_of v.one.run) ∙ v.one.is) _
      ∙ steps strict end (Numbering d []) v.digit _ (Numbered d) (goes_if (is_decimal v.digit.kind) _ _ v.is_digit)
      ∙ digits_read d v.digits (mark v.closes (quote d) ∷ r)
      ∙ steps strict end (Numbered d) (mark v.closes (quote d)) r (Stated ToldVersion) (goes_else (is_decimal (quote d)) _ _ (undecimal d) ∙ goes_if (is_quote d (quote d)) _ _ (quote_is d))

  -- EncodingDecl
  names_encoding : (d : Bool) (x : Run (is_quoted d)) (r : List Symbol) → Leads strict end (Encoding d None []) (spelt x r) (Encoding d (first_place x) (joined [] x)) r
  names_encoding d No r = refl
  names_encoding d (More x c h) r =
      let q = quoted_parts d c.kind h in
      names_encoding d x (c ∷ r) ∙ steps strict end (Encoding d (first_place x) (joined [] x)) c r _ (goes_else (is_quote d c.kind) _ _ q.0 ∙ goes_if (is_good c.kind) _ _ q.1)

  pub told_read : (t : Told) → Outcome strict end (ToldFits strict t) (λ e p. ToldFails e p t) Beginning (told_spelt t) (Stated (told_stage t))
  told_read (Versioned t v) = Passes tt (version_reads t v)
  told_read (Encoded t v e) =
      let d = e.heading.double in
      led strict end (λ r. title_spelt t (version_spelt v (heading_spelt e.heading (spelt e.name r)))) (λ r.
      version_reads t v _
      ∙ heading_reads (Stated ToldVersion) ToldVersion OfEncoding 101 (codes "ncoding") (λ c p. refl) begins_encoding e.heading _
      ∙ names_encoding d e.name r)
      (decide strict end (is_encoding (joined [] e.name)) (Encoding d (first_place e.name) (joined [] e.name)) (mark e.closes (quote d)) (Stated ToldEncoding) BadEncoding (encoding_at e) (goes_if (is_quote d (quote d)) _ _ (quote_is d)))

  -- SDDecl
  answering : (d : Bool) (e : ℕ) (left : List ℕ) (k : Kind) (p : Place) → is_code e k ≡ true → step strict (Answering d (e ∷ left)) k p ≡ Goes (Answering d left)
  answering d e left k p h = goes_if (is_code e k) _ _ h

  abbrev tail : List ℕ → List ℕ
  tail [] = []
  tail (c ∷ cs) = cs

  says_yes : (d : Bool) (e : ℕ) (left : List ℕ) → e ∷ left ≡ answer true → (k : Kind) (p : Place) → is_code e k ≡ true → step strict (Answer d) k p ≡ Goes (Answering d left)
  says_yes d e left h k p i = goes_if (is_code 121 k) _ _ (subst (λ u. is_code u k ≡ true) (ap head h) i) ∙ ap (λ u. Goes (Answering d u)) (sym (ap tail h))

  says_no : (d : Bool) (e : ℕ) (left : List ℕ) → e ∷ left ≡ answer false → (k : Kind) (p : Place) → is_code e k ≡ true → step strict (Answer d) k p ≡ Goes (Answering d left)
  says_no d e left h k p i =
      let j = subst (λ u. is_code u k ≡ true) (ap head h) i in
      goes_else (is_code 121 k) _ _ (not_also 110 121 refl k j) ∙ goes_if (is_code 110 k) _ _ j ∙ ap (λ u. Goes (Answering d u)) (sym (ap tail h))

  answer_reads : (d y : Bool) (x : Word (answer y)) (r : List Symbol) → Leads strict end (Answer d) (spelt x.run r) (Answering d []) r
  answer_reads d true x r = word_reads (Answer d) (Answering d) 121 (codes "es") (says_yes d) (answering d) x r
  answer_reads d false x r = word_reads (Answer d) (Answering d) 110 (codes "o") (says_no d) (answering d) x r

  standalone_reads : (t : Told) (x : SDDecl) (r : List Symbol) → Leads strict end (Stated (told_stage t)) (standalone_spelt x r) (Stated ToldStanding) r
  standalone_reads t x r =
      let d = x.heading.double in
      heading_reads (Stated (told_stage t)) (told_stage t) OfStanding 115 (codes "tandalone") (λ c p. refl) (begins_standing t) x.heading _
      ∙ answer_reads d x.yes x.word _
      ∙ steps strict end (Answering d []) (mark x.closes (quote d)) r (Stated ToldStanding) (goes_if (is_quote d (quote d)) _ _ (quote_is d))

  abbrev clauses_stage : Clauses → Stage
  clauses_stage (Only t) = told_stage t
  clauses_stage (Standing t d) = ToldStanding

  clauses_read : (c : Clauses) → Outcome strict end (ClausesFit strict c) (λ e p. ClausesFail e p c) Beginning (clauses_spelt c) (Stated (clauses_stage c))
  clauses_read (Only t) = told_read t
  clauses_read (Standing t d) = onward strict end (standalone_spelt d) (told_read t) (standalone_reads t d)

  declared : (c : Clauses) (b : Run is_blank) (p q : Place) (r : List Symbol) → Leads strict end (Stated (clauses_stage c)) (spelt b (mark p Question ∷ mark q Greater ∷ r)) InProlog r
  declared (Only (Versioned t v)) b p q r = optional strict end (Stated ToldVersion) (Declaring ToldVersion) (λ c p. refl) (λ c p. refl) b (mark p Question ∷ mark q Greater ∷ r) _ refl refl
  declared (Only (Encoded t v e)) b p q r = optional strict end (Stated ToldEncoding) (Declaring ToldEncoding) (λ c p. refl) (λ c p. refl) b (mark p Question ∷ mark q Greater ∷ r) _ refl refl
  declared (Standing t d) b p q r = optional strict end (Stated ToldStanding) (Declaring ToldStanding) (λ c p. refl) (λ c p. refl) b (mark p Question ∷ mark q Greater ∷ r) _ refl refl

  -- prolog
  abbrev pub prolog_state : Prolog → State
  prolog_state Undeclared = Beginning
  prolog_state (Declared d) = InProlog
  prolog_state (Following m s h) = InProlog
  prolog_state (Helped m a) = InProlog

  blank_follows : (m : Prolog) (c : ℕ) (p : Place) → step strict (prolog_state m) (Blank c) p ≡ Goes InProlog
  blank_follows Undeclared c p = refl
  blank_follows (Declared d) c p = refl
  blank_follows (Following m s h) c p = refl
  blank_follows (Helped m a) c p = refl

  helps : (m : Prolog) (a : Aside) (r : List Symbol) → Leads strict end (prolog_state m) (aside_spelt a r) InProlog r
  helps Undeclared a r = aside_reads strict end a First Beginning (λ p. refl) r
  helps (Declared d) a r = aside_reads strict end a Before InProlog (λ p. refl) r
  helps (Following m s h) a r = aside_reads strict end a Before InProlog (λ p. refl) r
  helps (Helped m b) a r = aside_reads strict end a Before InProlog (λ p. refl) r

  pub prolog_read : (m : Prolog) → Outcome strict end (PrologFits strict m) (λ e p. PrologFails e p m) Beginning (prolog_spelt m) (prolog_state m)
  prolog_read Undeclared = Passes tt (λ r. refl)
  prolog_read (Declared d) = onward strict end (λ r. spelt d.blanks (mark d.asks Question ∷ mark d.greater Greater ∷ r)) (clauses_read d.clauses) (declared d.clauses d.blanks d.asks d.greater)
  prolog_read (Following m s h) = onward strict end (λ r. s ∷ r) (prolog_read m) (λ r. steps strict end (prolog_state m) s r InProlog (blanks (λ k. step strict (prolog_state m) k s.at ≡ Goes InProlog) (λ c. blank_follows m c s.at) s.kind h))
  prolog_read (Helped m a) = onward strict end (aside_spelt a) (prolog_read m) (helps m a)
