-- What is written is read: runs of characters, and what has no conditions.
use Rattle.std.proofs.Common.{◌≡◌, ℕ, List, ◌∷◌, ◌++◌, refl, sym, ap, ◌∙◌, subst}
use Rattle.std.specs.Prelude.{Bool, true, false, if◌then◌else◌, ◌&&◌}
use Rattle.atl_base.specs.declared.place.Place.{Place}
use Rattle.doc_text.specs.Symbols.{Kind, Less, Greater, Slash, Equals, Question, Colon, Dash, Blank, Letter, Joint, Bad, Symbol, mark, utf8, is_good, is_blank, is_start, is_name, is_undashed, is_greater, is_question, is_decimal, is_hexadecimal}
use Rattle.doc_text.specs.Raw.{Tree}
use Rattle.doc_text.specs.Faults.{Fault}
use Rattle.doc_text.specs.Markup.{Run, No, More, spelt, joined, Plain, plain_spelt, plain_bytes, QName, Unprefixed, Prefixed, name_spelt, name_of, Remarks, Silent, Undashed, Dashed, remarks_spelt, ends_asking, IsUnclosed, is_reserved, Aside, Comment, PI, PISaying, aside_spelt}
use Rattle.doc_text.specs.Form.{Miscs, Bare, Blanked, Aided, miscs_spelt}
use Rattle.doc_text.specs.State.{Around, Before, After, Bearer, State, Epilog, Begun, Asked, Targeting, TargetEnd, Telling, Naming, Coloned, Localing, Remarking, RemarkDash, Step, Goes, Breaks, First, Within}
use Rattle.doc_text.specs.Steps.{back, telling, named, step, targeted, target_goes}
use Rattle.doc_text.specs.Machine.{End, Refused, after, reason, run}

abbrev IsNot : Bool → Type 0
IsNot true = ⊥
IsNot false = Unit {0}

pub false-true : false ≡ true → ⊥
false-true h = subst IsNot h tt

pub true-false : true ≡ false → ⊥
true-false h = subst IsNot (sym h) tt

-- a character of a class is of one of its kinds
pub blanks : (P : Kind → Type 0) → ((c : ℕ) → P (Blank c)) → (k : Kind) → is_blank k ≡ true → P k
blanks P f (Blank c) h = f c
blanks P f k h = absurd (false-true h)

pub letters : (P : Kind → Type 0) → ((c : ℕ) → P (Letter c)) → (k : Kind) → is_start k ≡ true → P k
letters P f (Letter c) h = f c
letters P f k h = absurd (false-true h)

pub names : (P : Kind → Type 0) → ((c : ℕ) → P (Letter c)) → ((c : ℕ) → P (Joint c)) → P Dash → (k : Kind) → is_name k ≡ true → P k
names P f g d (Letter c) h = f c
names P f g d (Joint c) h = g c
names P f g d Dash h = d
names P f g d k h = absurd (false-true h)

pub decimals : (P : Kind → Type 0) → ((c : ℕ) → is_decimal (Joint c) ≡ true → P (Joint c)) → (k : Kind) → is_decimal k ≡ true → P k
decimals P f (Joint c) h = f c h
decimals P f k h = absurd (false-true h)

pub hexadecimals : (P : Kind → Type 0) → ((c : ℕ) → is_hexadecimal (Joint c) ≡ true → P (Joint c)) → ((c : ℕ) → is_hexadecimal (Letter c) ≡ true → P (Letter c)) → (k : Kind) → is_hexadecimal k ≡ true → P k
hexadecimals P f g (Joint c) h = f c h
hexadecimals P f g (Letter c) h = g c h
hexadecimals P f g k h = absurd (false-true h)

pub goes_if : (t : Bool) (x y : Step) → t ≡ true → (if t then x else y) ≡ x
goes_if true x y h = refl
goes_if false x y h = absurd (false-true h)

pub goes_else : (t : Bool) (x y : Step) → t ≡ false → (if t then x else y) ≡ y
goes_else true x y h = absurd (true-false h)
goes_else false x y h = refl

module _ (strict : Bool) (end : Place) where
  abbrev pub Leads : State → List Symbol → State → List Symbol → Type 0
  Leads s text u rest = run strict end s text ≡ run strict end u rest

  pub steps : (s : State) (c : Symbol) (r : List Symbol) (u : State) → step strict s c.kind c.at ≡ Goes u → Leads s (c ∷ r) u r
  steps s c r u h = ap (λ x. after x (reason end s (c ∷ r)) (λ v. run strict end v r)) h

  pub breaks : (s : State) (c : Symbol) (r : List Symbol) (e : Fault) (p : Place) → step strict s c.kind c.at ≡ Breaks e p → run strict end s (c ∷ r) ≡ Refused (e, p)
  breaks s c r e p h = ap (λ x. after x (reason end s (c ∷ r)) (λ v. run strict end v r)) h

  -- a run of characters, in any state that gathers them
  pub gathers : {of : Kind → Bool} (s : List ℕ → State) → ((n : List ℕ) (c : Symbol) → of c.kind ≡ true → step strict (s n) c.kind c.at ≡ Goes (s (n ++ utf8 c.kind))) → (x : Run of) (n : List ℕ) (r : List Symbol) → Leads (s n) (spelt x r) (s (joined n x)) r
  gathers s f No n r = refl
  gathers s f (More x c h) n r = gathers s f x n (c ∷ r) ∙ steps (s (joined n x)) c r _ (f (joined n x) c h)

  -- S: into a state that stays so
  pub gaps : (s u : State) → ((c : ℕ) (p : Place) → step strict s (Blank c) p ≡ Goes u) → ((c : ℕ) (p : Place) → step strict u (Blank c) p ≡ Goes u) → (x : Run is_blank) (c : Symbol) → is_blank c.kind ≡ true → (r : List Symbol) → Leads s (spelt x (c ∷ r)) u r
  gaps s u f g No c h r = steps s c r u (blanks (λ k. step strict s k c.at ≡ Goes u) (λ b. f b c.at) c.kind h)
  gaps s u f g (More x d i) c h r = gaps s u f g x d i (c ∷ r) ∙ steps u c r u (blanks (λ k. step strict u k c.at ≡ Goes u) (λ b. g b c.at) c.kind h)

  -- S?: with blanks or without, what follows comes to the same
  pub optional : (s u : State) → ((c : ℕ) (p : Place) → step strict s (Blank c) p ≡ Goes u) → ((c : ℕ) (p : Place) → step strict u (Blank c) p ≡ Goes u) → (x : Run is_blank) (r : List Symbol) (e : End) → run strict end s r ≡ e → run strict end u r ≡ e → run strict end s (spelt x r) ≡ e
  optional s u f g No r e h k = h
  optional s u f g (More x c i) r e h k = gaps s u f g x c i r ∙ k

  -- what breaks at blanks, and else behind them
  pub breaks_first : (s : State) (e : Fault) (p : Place) → ((c : ℕ) (q : Place) → step strict s (Blank c) q ≡ Breaks e p) → (x : Run is_blank) (r : List Symbol) → run strict end s r ≡ Refused (e, p) → run strict end s (spelt x r) ≡ Refused (e, p)
  breaks_first s e p f No r h = h
  breaks_first s e p f (More x c i) r h = breaks_first s e p f x (c ∷ r) (breaks s c r e p (blanks (λ k. step strict s k c.at ≡ Breaks e p) (λ b. f b c.at) c.kind i))

  -- names
  abbrev pub name_state : Bearer → QName → State
  name_state b (Unprefixed n) = Naming b n.first.at (plain_bytes n)
  name_state b (Prefixed q p n) = Localing b q.first.at (plain_bytes q) (plain_bytes n)

  naming : (b : Bearer) (p : Place) (n : List ℕ) (c : Symbol) → is_name c.kind ≡ true → step strict (Naming b p n) c.kind c.at ≡ Goes (Naming b p (n ++ utf8 c.kind))
  naming b p n c h = names (λ k. step strict (Naming b p n) k c.at ≡ Goes (Naming b p (n ++ utf8 k))) (λ x. refl) (λ x. refl) refl c.kind h

  localing : (b : Bearer) (p : Place) (q n : List ℕ) (c : Symbol) → is_name c.kind ≡ true → step strict (Localing b p q n) c.kind c.at ≡ Goes (Localing b p q (n ++ utf8 c.kind))
  localing b p q n c h = names (λ k. step strict (Localing b p q n) k c.at ≡ Goes (Localing b p q (n ++ utf8 k))) (λ x. refl) (λ x. refl) refl c.kind h

  begins : (s : State) (b : Bearer) → ((c : ℕ) (p : Place) → step strict s (Letter c) p ≡ Goes (Naming b p (utf8 (Letter c)))) → (n : Plain) (r : List Symbol) → Leads s (n.first ∷ r) (Naming b n.first.at (utf8 n.first.kind)) r
  begins s b f n r = steps s n.first r _ (letters (λ k. step strict s k n.first.at ≡ Goes (Naming b n.first.at (utf8 k))) (λ c. f c n.first.at) n.first.kind n.starts)

  -- a name behind its first character
  abbrev first_of : QName → Symbol
  first_of (Unprefixed n) = n.first
  first_of (Prefixed q p n) = q.first

  abbrev tail_spelt : QName → List Symbol → List Symbol
  tail_spelt (Unprefixed n) r = spelt n.others r
  tail_spelt (Prefixed q p n) r = spelt q.others (mark p Colon ∷ plain_spelt n r)

  pub name_goes : (b : Bearer) (n : QName) (r : List Symbol) → Leads (Naming b (first_of n).at (utf8 (first_of n).kind)) (tail_spelt n r) (name_state b n) r
  name_goes b (Unprefixed n) r = gathers (Naming b n.first.at) (naming b n.first.at) n.others (utf8 n.first.kind) r
  name_goes b (Prefixed q p n) r =
      gathers (Naming b q.first.at) (naming b q.first.at) q.others (utf8 q.first.kind) (mark p Colon ∷ plain_spelt n r)
      ∙ steps (Coloned b q.first.at (plain_bytes q)) n.first (spelt n.others r) _ (letters (λ k. step strict (Coloned b q.first.at (plain_bytes q)) k n.first.at ≡ Goes (Localing b q.first.at (plain_bytes q) (utf8 k))) (λ c. refl) n.first.kind n.starts)
      ∙ gathers (Localing b q.first.at (plain_bytes q)) (localing b q.first.at (plain_bytes q)) n.others (utf8 n.first.kind) r

  pub name_reads : (s : State) (b : Bearer) → ((c : ℕ) (p : Place) → step strict s (Letter c) p ≡ Goes (Naming b p (utf8 (Letter c)))) → (n : QName) (r : List Symbol) → Leads s (name_spelt n r) (name_state b n) r
  name_reads s b f (Unprefixed n) r = begins s b f n (spelt n.others r) ∙ name_goes b (Unprefixed n) r
  name_reads s b f (Prefixed q p n) r = begins s b f q (spelt q.others (mark p Colon ∷ plain_spelt n r)) ∙ name_goes b (Prefixed q p n) r

  -- a name is over
  abbrev pub IsOver : Kind → Type 0
  IsOver (Blank c) = Unit {0}
  IsOver Slash = Unit {0}
  IsOver Greater = Unit {0}
  IsOver Equals = Unit {0}
  IsOver k = ⊥

  pub over : (b : Bearer) (n : QName) (k : Kind) (p : Place) → IsOver k → step strict (name_state b n) k p ≡ named strict b (name_of n) k
  over b (Unprefixed n) (Blank c) p h = refl
  over b (Unprefixed n) Slash p h = refl
  over b (Unprefixed n) Greater p h = refl
  over b (Unprefixed n) Equals p h = refl
  over b (Prefixed q o n) (Blank c) p h = refl
  over b (Prefixed q o n) Slash p h = refl
  over b (Prefixed q o n) Greater p h = refl
  over b (Prefixed q o n) Equals p h = refl
  over b n k p h = absurd h

  -- comments and instructions
  undashed : (a : Around) (k : Kind) (p : Place) → is_undashed k ≡ true → (step strict (Remarking a) k p ≡ Goes (Remarking a)) × (step strict (RemarkDash a) k p ≡ Goes (Remarking a))
  undashed a Dash p h = absurd (false-true h)
  undashed a Bad p h = absurd (false-true h)
  undashed a k p h = (refl, refl)

  remarks_read : (a : Around) (c : Remarks) (r : List Symbol) → Leads (Remarking a) (remarks_spelt c r) (Remarking a) r
  remarks_read a Silent r = refl
  remarks_read a (Undashed c s h) r = remarks_read a c (s ∷ r) ∙ steps (Remarking a) s r _ (undashed a s.kind s.at h).0
  remarks_read a (Dashed c p s h) r = remarks_read a c (mark p Dash ∷ s ∷ r) ∙ steps (RemarkDash a) s r _ (undashed a s.kind s.at h).1

  tells : (a : Around) (asked : Bool) (k : Kind) → is_good k ≡ true → is_greater k && asked ≡ false → telling a asked k ≡ Goes (Telling (is_question k) a)
  tells a asked Bad h u = absurd (false-true h)
  tells a asked Question h u = refl
  tells a true Greater h u = absurd (true-false u)
  tells a false Greater h u = refl
  tells a asked k h u = refl

  saying_reads : (a : Around) (x : Run is_good) (r : List Symbol) → IsUnclosed x → Leads (Telling false a) (spelt x r) (Telling (ends_asking x) a) r
  saying_reads a No r u = refl
  saying_reads a (More x c h) r u = saying_reads a x (c ∷ r) u.0 ∙ steps (Telling (ends_asking x) a) c r _ (tells a (ends_asking x) c.kind h u.1)

  targeting : (a : Around) (n : List ℕ) (c : Symbol) → is_name c.kind ≡ true → step strict (Targeting a n) c.kind c.at ≡ Goes (Targeting a (n ++ utf8 c.kind))
  targeting a n c h = goes_if (is_name c.kind) _ _ h

  pub target_reads : (a : Around) (n : Plain) (r : List Symbol) → Leads (Asked a) (plain_spelt n r) (Targeting a (plain_bytes n)) r
  target_reads a n r =
      steps (Asked a) n.first (spelt n.others r) _ (letters (λ k. step strict (Asked a) k n.first.at ≡ Goes (Targeting a (utf8 k))) (λ c. refl) n.first.kind n.starts)
      ∙ gathers (Targeting a) (targeting a) n.others (utf8 n.first.kind) r

  targets : (a : Around) (n : List ℕ) (k : Kind) → is_reserved n ≡ false → targeted a n k ≡ target_goes a k
  targets First n k h = goes_else (is_reserved n) _ _ h
  targets Before n k h = goes_else (is_reserved n) _ _ h
  targets (Within f fs) n k h = goes_else (is_reserved n) _ _ h
  targets (After t) n k h = goes_else (is_reserved n) _ _ h

  told : (a : Around) (n : List ℕ) (c : Symbol) → is_reserved n ≡ false → is_blank c.kind ≡ true → step strict (Targeting a n) c.kind c.at ≡ Goes (Telling false a)
  told a n c h b = blanks (λ k. step strict (Targeting a n) k c.at ≡ Goes (Telling false a)) (λ x. targets a n (Blank x) h) c.kind b

  pub aside_reads : (x : Aside) (a : Around) (s : State) → ((p : Place) → step strict s Less p ≡ Goes (Begun a p)) → (r : List Symbol) → Leads s (aside_spelt x r) (back a) r
  aside_reads (Comment p q o s c t u v) a z f r =
      steps z (mark p Less) _ (Begun a p) (f p)
      ∙ remarks_read a c (mark t Dash ∷ mark u Dash ∷ mark v Greater ∷ r)
  aside_reads (PI p q n h t u) a z f r =
      steps z (mark p Less) _ (Begun a p) (f p)
      ∙ target_reads a n (mark t Question ∷ mark u Greater ∷ r)
      ∙ steps (Targeting a (plain_bytes n)) (mark t Question) (mark u Greater ∷ r) (TargetEnd a) (targets a (plain_bytes n) Question h)
  aside_reads (PISaying p q n h s b x u t v) a z f r =
      steps z (mark p Less) _ (Begun a p) (f p)
      ∙ target_reads a n (s ∷ spelt x (mark t Question ∷ mark v Greater ∷ r))
      ∙ steps (Targeting a (plain_bytes n)) s _ (Telling false a) (told a (plain_bytes n) s h b)
      ∙ saying_reads a x (mark t Question ∷ mark v Greater ∷ r) u

  pub epilog_reads : (t : Tree) (m : Miscs) (r : List Symbol) → Leads (Epilog t) (miscs_spelt m r) (Epilog t) r
  epilog_reads t Bare r = refl
  epilog_reads t (Blanked m s h) r = epilog_reads t m (s ∷ r) ∙ steps (Epilog t) s r (Epilog t) (blanks (λ k. step strict (Epilog t) k s.at ≡ Goes (Epilog t)) (λ c. refl) s.kind h)
  epilog_reads t (Aided m x) r = epilog_reads t m (aside_spelt x r) ∙ aside_reads x (After t) (Epilog t) (λ p. refl) r
