-- The states that the form goes through, what ends a document, and what may come after <!.
use Rattle.std.proofs.Common.{◌≡◌, ℕ, List, [], ◌∷◌, ◌++◌, refl, sym, ap, ◌∙◌, subst}
use Rattle.std.specs.Prelude.{Bool, true, false, if◌then◌else◌, ◌&&◌, ◌==◌, codes, Option, Some}
use Rattle.atl_base.specs.declared.place.Place.{Place}
use Rattle.doc_text.specs.Symbols.{Kind, Less, Greater, Quote, Apostrophe, Bang, Question, Dash, Bad, Symbol, mark, code_of, utf8}
use Rattle.doc_text.specs.Raw.{Tree, called, same_name}
use Rattle.doc_text.specs.Faults.{Expected, MismatchedEnd}
use Rattle.doc_text.specs.Markup.{is_reserved, is_xml}
use Rattle.doc_text.specs.Form.{place_or}
use Rattle.doc_text.specs.State.{Declaring, Untold, ToldVersion, ToldEncoding, ToldStanding, Around, First, Before, Within, After, OfStart, OfAttribute, OfEnd, Nameless, ByEntity, Hashed, Decimal, Hexed, Hexadecimal, State, Wording, Numbering, Numbered, Encoding, Answering, Epilog, Banged, Remarking, Targeting, Telling, Naming, Localing, Citation, Step, Goes, Stops, Breaks}
use Rattle.doc_text.specs.Steps.{step}
use Rattle.doc_text.specs.Machine.{after, reason, begins, declares, finish, run, End, Read, Refused}
use Rattle.doc_text.proofs.Runs.{false-true, true-false}
use Rattle.doc_text.proofs.Completes.{completes}

abbrev pub Path : State → List Symbol → State → Type 0
Path s [] u = s ≡ u
Path s (t ∷ ts) u = (v : State) × (step false s t.kind t.at ≡ Goes v) × Path v ts u

path_split : (a b : List Symbol) (s u : State) → Path s (a ++ b) u → (m : State) × Path s a m × Path m b u
path_split [] b s u h = (s, refl, h)
path_split (t ∷ a) b s u h = let r = path_split a b h.0 u h.2 in (r.0, (h.0, h.1, r.1), r.2)

-- the states that come after <!, in markup or in what is passed over
abbrev pub Special : State → Type 0
Special (Banged a p) = Unit {0}
Special (Remarking a) = Unit {0}
Special (Telling q a) = Unit {0}
Special (Encoding d o v) = Unit {0}
Special s = ⊥

abbrev AfterBang : Step → Type 0
AfterBang (Goes w) = Special w
AfterBang s = Unit {0}

abbrev AfterLess : Step → Place → Type 0
AfterLess (Goes v) q = AfterBang (step false v Bang q)
AfterLess s q = Unit {0}

after_if : (t : Bool) (q : Place) → AfterLess (if t then Stops else Stops) q
after_if true q = tt
after_if false q = tt

after_ifs : (t u : Bool) (q : Place) → AfterLess (if t then (if u then Stops else Stops) else Stops) q
after_ifs true true q = tt
after_ifs true false q = tt
after_ifs false u q = tt

two : (s : State) (p q : Place) → AfterLess (step false s Less p) q
two (Declaring Untold) p q = tt
two (Declaring ToldVersion) p q = tt
two (Declaring ToldEncoding) p q = tt
two (Declaring ToldStanding) p q = tt
two (Wording c []) p q = tt
two (Wording c (d ∷ left)) p q = tt
two (Numbering d []) p q = tt
two (Numbering d (c ∷ left)) p q = tt
two (Numbered true) p q = tt
two (Numbered false) p q = tt
two (Encoding true o v) p q = tt
two (Encoding false o v) p q = tt
two (Answering true []) p q = tt
two (Answering false []) p q = tt
two (Answering d (c ∷ left)) p q = tt
two (Targeting First n) p q = after_ifs (is_reserved n) (is_xml n) q
two (Targeting Before n) p q = after_if (is_reserved n) q
two (Targeting (Within f fs) n) p q = after_if (is_reserved n) q
two (Targeting (After t) n) p q = after_if (is_reserved n) q
two (Naming (OfStart fs o) r n) p q = tt
two (Naming (OfAttribute fs t) r n) p q = tt
two (Naming (OfEnd f fs) r n) p q = tt
two (Localing (OfStart fs o) r n m) p q = tt
two (Localing (OfAttribute fs t) r n m) p q = tt
two (Localing (OfEnd f fs) r n m) p q = tt
two (Citation c r Nameless) p q = tt
two (Citation c r (ByEntity n)) p q = tt
two (Citation c r Hashed) p q = tt
two (Citation c r (Decimal n)) p q = tt
two (Citation c r Hexed) p q = tt
two (Citation c r (Hexadecimal n)) p q = tt
two s p q = tt

pub special : (s u : State) (before : List Symbol) (p q : Place) → Path s (before ++ (mark p Less ∷ mark q Bang ∷ [])) u → Special u
special s u before p q h =
    let r = path_split before (mark p Less ∷ mark q Bang ∷ []) s u h in
    let x = r.2 in
    let y = x.2 in
    subst Special y.2 (subst AfterBang y.1 (subst (λ z. AfterLess z q) x.1 (two r.0 p q)))

-- a document's characters lead behind its root
abbrev Refuses : End → Type 0
Refuses (Read t) = ⊥
Refuses (Refused f) = Unit {0}

abbrev Same : Tree → End → Type 0
Same t (Read u) = u ≡ t
Same t (Refused f) = ⊥

module _ (end : Place) where
  mismatched : (b : Bool) (p : Place) (t : Tree) → after (if b then Stops else Breaks MismatchedEnd p) (Expected, end) (λ s. Refused (Expected, end)) ≡ Read t → ⊥
  mismatched true p t h = subst Refuses h tt
  mismatched false p t h = subst Refuses h tt

  at_end : (s : State) (t : Tree) (more : List Symbol) → finish true end s ≡ Read t → run true end s more ≡ run true end (Epilog t) more
  at_end (Epilog u) t more h = ap (λ v. run true end (Epilog v) more) (subst (Same t) (sym h) refl)
  at_end (Naming (OfEnd f fs) p n) t more h = absurd (mismatched (same_name (called p [] n) f.tag.name) p t h)
  at_end (Naming (OfStart fs o) p n) t more h = absurd (subst Refuses h tt)
  at_end (Naming (OfAttribute fs o) p n) t more h = absurd (subst Refuses h tt)
  at_end (Localing (OfEnd f fs) p n m) t more h = absurd (mismatched (same_name (called p n m) f.tag.name) p t h)
  at_end (Localing (OfStart fs o) p n m) t more h = absurd (subst Refuses h tt)
  at_end (Localing (OfAttribute fs o) p n m) t more h = absurd (subst Refuses h tt)
  at_end s t more h = absurd (subst Refuses h tt)

  pub passes_on : (ss : List Symbol) (s : State) (t : Tree) (more : List Symbol) → run true end s ss ≡ Read t → run true end s (ss ++ more) ≡ run true end (Epilog t) more
  passes_on [] s t more h = at_end s t more h
  passes_on (c ∷ ss) s t more h = on (λ v. passes_on ss v t more) (step true s c.kind c.at) h
    where
      on : ((v : State) → run true end v ss ≡ Read t → run true end v (ss ++ more) ≡ run true end (Epilog t) more) → (u : Step) → after u (reason end s (c ∷ ss)) (λ v. run true end v ss) ≡ Read t → after u (reason end s (c ∷ (ss ++ more))) (λ v. run true end v (ss ++ more)) ≡ run true end (Epilog t) more
      on again (Goes v) k = again v k
      on again Stops k = absurd (subst Refuses k tt)
      on again (Breaks e p) k = absurd (subst Refuses k tt)

  -- what may begin DOCTYPE or [CDATA[ is passed over in a comment, an instruction and an encoding's name
  abbrev pub Passed : State → Kind → Place → Type 0
  Passed s k p = (v : State) × (step false s k p ≡ Goes v)

  coded : (c : ℕ) (s : Symbol) (rest : List Symbol) (w : List ℕ) → begins (c ∷ w) (s ∷ rest) ≡ true → (code_of s.kind == c) ≡ true
  coded c s rest w h = on (code_of s.kind == c) h
    where
      on : (b : Bool) → b && begins w rest ≡ true → b ≡ true
      on true k = refl
      on false k = absurd (false-true k)

  abbrev pub Opens : Kind → Type 0
  Opens k = (code_of k == 68) ≡ true

  abbrev pub Opens2 : Kind → Type 0
  Opens2 k = (code_of k == 91) ≡ true

  pub opens : (s : Symbol) (rest : List Symbol) (P : Kind → Type 0) → ((k : Kind) → Opens k → P k) → ((k : Kind) → Opens2 k → P k) → declares (s ∷ rest) ≡ true → P s.kind
  opens s rest P f g h = on (begins (codes "DOCTYPE") (s ∷ rest)) refl h
    where
      on : (b : Bool) → begins (codes "DOCTYPE") (s ∷ rest) ≡ b → (if b then true else begins (codes "[CDATA[") (s ∷ rest)) ≡ true → P s.kind
      on true i j = f s.kind (coded 68 s rest (codes "OCTYPE") i)
      on false i j = g s.kind (coded 91 s rest (codes "CDATA[") j)

  pub remarking_passes : (a : Around) (k : Kind) (p : Place) → (c : ℕ) → (45 == c) ≡ false → (0 == c) ≡ false → (code_of k == c) ≡ true → Passed (Remarking a) k p
  remarking_passes a Dash p c n m h = absurd (true-false (sym h ∙ n))
  remarking_passes a Bad p c n m h = absurd (true-false (sym h ∙ m))
  remarking_passes a k p c n m h = (Remarking a, refl)

  pub telling_passes : (q : Bool) (a : Around) (k : Kind) (p : Place) → (c : ℕ) → (63 == c) ≡ false → (62 == c) ≡ false → (0 == c) ≡ false → (code_of k == c) ≡ true → Passed (Telling q a) k p
  telling_passes q a Question p c n m o h = absurd (true-false (sym h ∙ n))
  telling_passes q a Greater p c n m o h = absurd (true-false (sym h ∙ m))
  telling_passes q a Bad p c n m o h = absurd (true-false (sym h ∙ o))
  telling_passes q a k p c n m o h = (Telling false a, refl)

  pub encoding_passes : (d : Bool) (o : Option Place) (v : List ℕ) (k : Kind) (p : Place) → (c : ℕ) → (34 == c) ≡ false → (39 == c) ≡ false → (0 == c) ≡ false → (code_of k == c) ≡ true → Passed (Encoding d o v) k p
  encoding_passes d o v Quote p c n m i h = absurd (true-false (sym h ∙ n))
  encoding_passes d o v Apostrophe p c n m i h = absurd (true-false (sym h ∙ m))
  encoding_passes d o v Bad p c n m i h = absurd (true-false (sym h ∙ i))
  encoding_passes true o v k p c n m i h = (Encoding true (Some (place_or o p)) (v ++ utf8 k), refl)
  encoding_passes false o v k p c n m i h = (Encoding false (Some (place_or o p)) (v ++ utf8 k), refl)

  -- a state that goes on does not stop
  pub goes_not : (u : State) (s : Symbol) → Passed u s.kind s.at → ((more : List Symbol) → Refuses (run false end u (s ∷ more))) → ⊥
  goes_not u s g k =
      let c = completes end g.0 in
      subst Refuses (ap (λ x. after x (reason end u (s ∷ c.0)) (λ v. run false end v c.0)) g.1 ∙ c.2) (k c.0)

  abbrev pub IsUnbanged : State → Type 0
  IsUnbanged (Banged a p) = ⊥
  IsUnbanged s = Unit {0}

  abbrev Ahead : State → List Symbol → Type 0
  Ahead u [] = Unit {0}
  Ahead u (s ∷ rest) = (more : List Symbol) → Refuses (run false end u (s ∷ more))

  pub no_declaration : (u : State) (rest : List Symbol) → IsUnbanged u → Special u → Ahead u rest → declares rest ≡ true → ⊥
  no_declaration u [] i x k h = false-true h
  no_declaration (Banged a p) (s ∷ rest) i x k h = i
  no_declaration (Remarking a) (s ∷ rest) i x k h = goes_not (Remarking a) s (opens s rest (λ c. Passed (Remarking a) c s.at) (λ c e. remarking_passes a c s.at 68 refl refl e) (λ c e. remarking_passes a c s.at 91 refl refl e) h) k
  no_declaration (Telling q a) (s ∷ rest) i x k h = goes_not (Telling q a) s (opens s rest (λ c. Passed (Telling q a) c s.at) (λ c e. telling_passes q a c s.at 68 refl refl refl e) (λ c e. telling_passes q a c s.at 91 refl refl refl e) h) k
  no_declaration (Encoding d o v) (s ∷ rest) i x k h = goes_not (Encoding d o v) s (opens s rest (λ c. Passed (Encoding d o v) c s.at) (λ c e. encoding_passes d o v c s.at 68 refl refl refl e) (λ c e. encoding_passes d o v c s.at 91 refl refl refl e) h) k
  no_declaration u (s ∷ rest) i x k h = x
