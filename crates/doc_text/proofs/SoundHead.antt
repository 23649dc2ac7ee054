-- What is read of a declaration was written.
use Rattle.std.proofs.Common.{◌≡◌, ℕ, List, [], ◌∷◌, ◌++◌, refl, sym, ap, ◌∙◌, subst, append_assoc}
use Rattle.std.proofs.lemmas.List.{append-nil}
use Rattle.std.proofs.lemmas.Bool.{eqb-true}
use Rattle.std.specs.Prelude.{Bool, true, false, codes, Some}
use Rattle.atl_base.specs.declared.place.Place.{Place}
use Rattle.doc_text.specs.Symbols.{Kind, Less, Quote, Apostrophe, Equals, Question, Blank, Letter, Joint, Symbol, mark, code_of, utf8, quote, is_good, is_blank, is_code, is_quote, is_quoted, is_decimal, is_word}
use Rattle.doc_text.specs.Markup.{Run, No, More, spelt, joined, Gap, gap_spelt}
use Rattle.doc_text.specs.Form.{codes_of, Word, Title, title_spelt, Heading, heading_spelt, VersionInfo, version_spelt, place_or, first_place, answer, Told, Versioned, Encoded, told_spelt, Clauses, Only, Standing, clauses_spelt}
use Rattle.doc_text.specs.Conditions.{passes, is_encoding, ToldFits, ClausesFit}
use Rattle.doc_text.specs.State.{ToldVersion, ToldEncoding, ToldStanding, OfVersion, OfEncoding, OfStanding, Declaring, Wording, Numbering, Numbered, Encoding, Answer, Answering, Stated, Step, Goes, Stops}
use Rattle.doc_text.specs.Steps.{word_of, worded, clause_begins, declaration_ends, clause_goes, clause_value, clause_quote, spelling, titled, encoded, step}
use Rattle.doc_text.proofs.Zipper.{Sofar, Titled, Claused, sofar_spelt, stage_of, Prior, AtVersion, AtEncoding, AtStanding, prior_spelt, prior_clause, ZDeclaring, ZWording, ZEquating, ZQuoting, ZNumbering, ZNumbered, ZEncoding, ZAnswer, ZAnswering, ZStated, ZDeclEnd}
use Rattle.doc_text.proofs.Before.{SofarFits, PriorFits, before}
use Rattle.doc_text.proofs.Stands.{chooses, gap, Stands, StepStands, to, tests}

abbrev Is : Bool → Type 0
Is true = Unit {0}
Is false = ⊥

pub code_good : (c : ℕ) (k : Kind) → is_code c k ≡ true → is_word k ≡ true
code_good c (Letter x) h = refl
code_good c (Joint x) h = refl
code_good c k h = absurd (subst Is (sym h) tt)

pub code_is : (c : ℕ) (k : Kind) → is_code c k ≡ true → code_of k ≡ c
code_is c (Letter x) h = eqb-true x c h
code_is c (Joint x) h = eqb-true x c h
code_is c k h = absurd (subst Is (sym h) tt)

longer : (xs rest w : List ℕ) (c d : ℕ) → c ≡ d → xs ++ (d ∷ rest) ≡ w → (xs ++ (c ∷ [])) ++ rest ≡ w
longer xs rest w c d e h = append_assoc xs (c ∷ []) rest ∙ ap (λ u. xs ++ (u ∷ rest)) e ∙ h

whole : (xs w : List ℕ) → xs ++ [] ≡ w → xs ≡ w
whole xs w h = sym (append-nil xs) ∙ h

abbrev add : Run is_word → (k : Kind) (p : Place) (d : ℕ) → is_code d k ≡ true → Run is_word
add run k p d h = More run (mark p k) (code_good d k h)

pub unquoted : (d : Bool) (k : Kind) → is_quote d k ≡ false → is_good k ≡ true → is_quoted d k ≡ true
unquoted d k h g = rw h g

module _ (strict : Bool) (all : List Symbol → List Symbol) where
  pub title_stands : (t : Title) (k : Kind) (p : Place) → ((rest : List Symbol) → title_spelt t (mark p k ∷ rest) ≡ all rest) → StepStands strict all (titled k)
  title_stands t (Blank c) p h = to strict all (ZDeclaring (Titled t) (gap No c p)) tt h
  title_stands t k p h = tt

  word_begins : (q : Prior) (g : Gap) (w : List ℕ) (k : Kind) (p : Place) (other : Step) → w ≡ word_of (prior_clause q) → PriorFits strict q → ((rest : List Symbol) → prior_spelt q (gap_spelt g (mark p k ∷ rest)) ≡ all rest) → StepStands strict all other → StepStands strict all (worded (prior_clause q) w k other)
  word_begins q g [] k p other e f h o = o
  word_begins q g (d ∷ rest) k p other e f h o = chooses (StepStands strict all) (is_code d k) (Goes (Wording (prior_clause q) rest)) other (λ i. to strict all (ZWording q g (add No k p d i) rest (longer [] rest (word_of (prior_clause q)) (code_of k) d (code_is d k i) e)) f h) (λ i. o)

  ends_stands : (s : Sofar) (run : Run is_blank) (p : Place) → SofarFits strict s → ((rest : List Symbol) → sofar_spelt s (spelt run (mark p Question ∷ rest)) ≡ all rest) → StepStands strict all (declaration_ends (stage_of s))
  ends_stands (Titled t) run p f h = tt
  ends_stands (Claused (Only (Versioned t v))) run p f h = to strict all (ZDeclEnd (Only (Versioned t v)) run p) f h
  ends_stands (Claused (Only (Encoded t v e))) run p f h = to strict all (ZDeclEnd (Only (Encoded t v e)) run p) f h
  ends_stands (Claused (Standing t d)) run p f h = to strict all (ZDeclEnd (Standing t d) run p) f h

  clause_stands : (s : Sofar) (g : Gap) (k : Kind) (p : Place) → SofarFits strict s → ((rest : List Symbol) → sofar_spelt s (gap_spelt g (mark p k ∷ rest)) ≡ all rest) → StepStands strict all (clause_begins (stage_of s) k)
  clause_stands (Titled t) g k p f h = word_begins (AtVersion t) g (word_of OfVersion) k p Stops refl tt h tt
  clause_stands (Claused (Only (Versioned t v))) g k p f h = word_begins (AtEncoding t v) g (word_of OfEncoding) k p (worded OfStanding (word_of OfStanding) k Stops) refl tt h (word_begins (AtStanding (Versioned t v)) g (word_of OfStanding) k p Stops refl f h tt)
  clause_stands (Claused (Only (Encoded t v e))) g k p f h = word_begins (AtStanding (Encoded t v e)) g (word_of OfStanding) k p Stops refl f h tt
  clause_stands (Claused (Standing t d)) g k p f h = tt

  pub declaring_stands : (s : Sofar) (g : Gap) (k : Kind) (p : Place) → SofarFits strict s → ((rest : List Symbol) → sofar_spelt s (gap_spelt g (mark p k ∷ rest)) ≡ all rest) → StepStands strict all (step strict (Declaring (stage_of s)) k p)
  declaring_stands s g (Blank c) p f h = to strict all (ZDeclaring s (gap (More g.blanks g.last g.ends) c p)) f h
  declaring_stands s g Question p f h = ends_stands s (More g.blanks g.last g.ends) p f h
  declaring_stands s g k p f h = clause_stands s g k p f h

  pub stated_stands : (c : Clauses) (k : Kind) (p : Place) → ClausesFit strict c → ((rest : List Symbol) → clauses_spelt c (mark p k ∷ rest) ≡ all rest) → StepStands strict all (step strict (Stated (stage_of (Claused c))) k p)
  stated_stands c (Blank x) p f h = to strict all (ZDeclaring (Claused c) (gap No x p)) f h
  stated_stands c Question p f h = ends_stands (Claused c) No p f h
  stated_stands c k p f h = tt

  pub equating_stands : (q : Prior) (g : Gap) (w : Word (word_of (prior_clause q))) (b : Run is_blank) (k : Kind) (p : Place) → PriorFits strict q → ((rest : List Symbol) → before (ZEquating q g w b) (mark p k ∷ rest) ≡ all rest) → StepStands strict all (clause_goes (prior_clause q) k)
  equating_stands q g w b (Blank c) p f h = to strict all (ZEquating q g w (More b (mark p (Blank c)) refl)) f h
  equating_stands q g w b Equals p f h = to strict all (ZQuoting q g w b p No) f h
  equating_stands q g w b k p f h = tt

  pub wording_stands : (q : Prior) (g : Gap) (run : Run is_word) (left : List ℕ) (i : codes_of run ++ left ≡ word_of (prior_clause q)) (k : Kind) (p : Place) → PriorFits strict q → ((rest : List Symbol) → before (ZWording q g run left i) (mark p k ∷ rest) ≡ all rest) → StepStands strict all (spelling left k (Wording (prior_clause q)) (clause_goes (prior_clause q) k))
  wording_stands q g run [] i k p f h = equating_stands q g (record { run = run; is = whole (codes_of run) (word_of (prior_clause q)) i }) No k p f h
  wording_stands q g run (d ∷ left) i k p f h = tests strict all (is_code d k) (Wording (prior_clause q) left) (λ e. to strict all (ZWording q g (add run k p d e) left (longer (codes_of run) left (word_of (prior_clause q)) (code_of k) d (code_is d k e) i)) f h)

  abbrev headed : (w : List ℕ) → Gap → Word w → Run is_blank → Place → Run is_blank → Bool → Place → Heading w
  headed w g x b e c d p = record { gap = g; word = x; before = b; equals = e; after = c; double = d; opens = p }

  value_begins : (q : Prior) (g : Gap) (w : Word (word_of (prior_clause q))) (b : Run is_blank) (e : Place) (c : Run is_blank) (d : Bool) (p : Place) → PriorFits strict q → ((rest : List Symbol) → before (ZQuoting q g w b e c) (mark p (quote d) ∷ rest) ≡ all rest) → Stands strict all (clause_value (prior_clause q) d)
  value_begins (AtVersion t) g w b e c d p f h = to strict all (ZNumbering t (headed (codes "version") g w b e c d p) No (codes "1.") refl) tt h
  value_begins (AtEncoding t v) g w b e c d p f h = to strict all (ZEncoding t v (headed (codes "encoding") g w b e c d p) No) tt h
  value_begins (AtStanding t) g w b e c d p f h = to strict all (ZAnswer t (headed (codes "standalone") g w b e c d p)) f h

  pub quoting_stands : (q : Prior) (g : Gap) (w : Word (word_of (prior_clause q))) (b : Run is_blank) (e : Place) (c : Run is_blank) (k : Kind) (p : Place) → PriorFits strict q → ((rest : List Symbol) → before (ZQuoting q g w b e c) (mark p k ∷ rest) ≡ all rest) → StepStands strict all (clause_quote (prior_clause q) k)
  quoting_stands q g w b e c Quote p f h = value_begins q g w b e c true p f h
  quoting_stands q g w b e c Apostrophe p f h = value_begins q g w b e c false p f h
  quoting_stands q g w b e c (Blank x) p f h = to strict all (ZQuoting q g w b e (More c (mark p (Blank x)) refl)) f h
  quoting_stands q g w b e c k p f h = tt

  pub numbering_stands : (t : Title) (a : Heading (codes "version")) (run : Run is_word) (left : List ℕ) (i : codes_of run ++ left ≡ codes "1.") (k : Kind) (p : Place) → Unit {0} → ((rest : List Symbol) → before (ZNumbering t a run left i) (mark p k ∷ rest) ≡ all rest) → StepStands strict all (step strict (Numbering a.double left) k p)
  numbering_stands t a run [] i k p f h = tests strict all (is_decimal k) (Numbered a.double) (λ e. to strict all (ZNumbered t a (record { run = run; is = whole (codes_of run) (codes "1.") i }) (mark p k) e No) tt h)
  numbering_stands t a run (d ∷ left) i k p f h = tests strict all (is_code d k) (Numbering a.double left) (λ e. to strict all (ZNumbering t a (add run k p d e) left (longer (codes_of run) left (codes "1.") (code_of k) d (code_is d k e) i)) tt h)

  -- the closing quote is the opening one
  closing : (d : Bool) (k : Kind) → is_quote d k ≡ true → quote d ≡ k
  closing true Quote h = refl
  closing false Apostrophe h = refl
  closing true Less h = absurd (subst Is (sym h) tt)
  closing d k h = absurd (subst Is (sym h) tt)

  pub numbered_stands : (t : Title) (a : Heading (codes "version")) (w : Word (codes "1.")) (s : Symbol) (i : is_decimal s.kind ≡ true) (run : Run is_decimal) (k : Kind) (p : Place) → Unit {0} → ((rest : List Symbol) → before (ZNumbered t a w s i run) (mark p k ∷ rest) ≡ all rest) → StepStands strict all (step strict (Numbered a.double) k p)
  numbered_stands t a w s i run k p f h = chooses (StepStands strict all) (is_decimal k) (Goes (Numbered a.double)) _ (λ e. to strict all (ZNumbered t a w s i (More run (mark p k) e)) tt h)
      (λ e. tests strict all (is_quote a.double k) (Stated ToldVersion) (λ c. to strict all (ZStated (Only (Versioned t (record { heading = a; one = w; digit = s; is_digit = i; digits = run; closes = p })))) tt (λ rest. ap (λ u. title_spelt t (heading_spelt a (spelt w.run (s ∷ spelt run (mark p u ∷ rest))))) (closing a.double k c) ∙ h rest)))

  pub encoding_stands : (t : Title) (v : VersionInfo) (a : Heading (codes "encoding")) (run : Run (is_quoted a.double)) (k : Kind) (p : Place) → Unit {0} → ((rest : List Symbol) → before (ZEncoding t v a run) (mark p k ∷ rest) ≡ all rest) → StepStands strict all (encoded strict a.double (first_place run) (joined [] run) k p)
  encoding_stands t v a run k p f h = chooses (StepStands strict all) (is_quote a.double k) _ _
      (λ c. chooses (StepStands strict all) (passes strict (is_encoding (joined [] run))) (Goes (Stated ToldEncoding)) _ (λ e. to strict all (ZStated (Only (Encoded t v (record { heading = a; name = run; closes = p })))) e (λ rest. ap (λ u. title_spelt t (version_spelt v (heading_spelt a (spelt run (mark p u ∷ rest))))) (closing a.double k c) ∙ h rest)) (λ e. tt))
      (λ c. tests strict all (is_good k) (Encoding a.double (Some (place_or (first_place run) p)) (joined [] run ++ utf8 k)) (λ e. to strict all (ZEncoding t v a (More run (mark p k) (unquoted a.double k c e))) tt h))

  pub answering_stands : (t : Told) (a : Heading (codes "standalone")) (y : Bool) (run : Run is_word) (left : List ℕ) (i : codes_of run ++ left ≡ answer y) (k : Kind) (p : Place) → ToldFits strict t → ((rest : List Symbol) → before (ZAnswering t a y run left i) (mark p k ∷ rest) ≡ all rest) → StepStands strict all (step strict (Answering a.double left) k p)
  answering_stands t a y run [] i k p f h = tests strict all (is_quote a.double k) (Stated ToldStanding) (λ c. to strict all (ZStated (Standing t (record { heading = a; yes = y; word = record { run = run; is = whole (codes_of run) (answer y) i }; closes = p }))) f (λ rest. ap (λ u. told_spelt t (heading_spelt a (spelt run (mark p u ∷ rest)))) (closing a.double k c) ∙ h rest))
  answering_stands t a y run (d ∷ left) i k p f h = tests strict all (is_code d k) (Answering a.double left) (λ e. to strict all (ZAnswering t a y (add run k p d e) left (longer (codes_of run) left (answer y) (code_of k) d (code_is d k e) i)) f h)

  pub answer_stands : (t : Told) (a : Heading (codes "standalone")) (k : Kind) (p : Place) → ToldFits strict t → ((rest : List Symbol) → before (ZAnswer t a) (mark p k ∷ rest) ≡ all rest) → StepStands strict all (step strict (Answer a.double) k p)
  answer_stands t a k p f h = chooses (StepStands strict all) (is_code 121 k) (Goes (Answering a.double (codes "es"))) _ (λ e. to strict all (ZAnswering t a true (add No k p 121 e) (codes "es") (longer [] (codes "es") (answer true) (code_of k) 121 (code_is 121 k e) refl)) f h)
      (λ e. tests strict all (is_code 110 k) (Answering a.double (codes "o")) (λ c. to strict all (ZAnswering t a false (add No k p 110 c) (codes "o") (longer [] (codes "o") (answer false) (code_of k) 110 (code_is 110 k c) refl)) f h))
