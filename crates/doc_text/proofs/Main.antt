-- Reading is exact.
use Rattle.doc_text.proofs.Cuts.{Cuts, cuts, IsGoing}
use Rattle.doc_text.proofs.Unbroken.{Unbroken, unbroken}
use Rattle.std.proofs.Common.{◌≡◌, List, [], ◌∷◌, ◌++◌, refl, sym, ap, ◌∙◌, subst, inl, inr, append_assoc}
use Rattle.std.proofs.lemmas.List.{append-nil}
use Rattle.std.specs.Prelude.{Bool, true, false, if◌then◌else◌}
use Rattle.atl_base.specs.declared.place.Place.{Place}
use Rattle.doc_text.specs.Symbols.{Symbol, Greater, mark}
use Rattle.doc_text.specs.Raw.{called, same_name, Node}
use Rattle.doc_text.specs.Faults.{Fault, Expected, MismatchedEnd}
use Rattle.doc_text.specs.State.{OfStart, OfAttribute, OfEnd, State, Beginning, Epilog, Naming, Localing, Step, Goes, Stops, Breaks}
use Rattle.doc_text.specs.Steps.{step, ended}
use Rattle.doc_text.specs.Machine.{after, reason, run, read, End, Read, Refused}
use Rattle.doc_text.specs.Laws.{GoesOn, StopsAt, FailsAt, Because, Tells, Exact, GoesWith}
use Rattle.doc_text.proofs.Zipper.{ZBeginning}
use Rattle.doc_text.proofs.Stands.{Stands, StepStands}
use Rattle.doc_text.proofs.Sound.{steps_on, ReadOf, sound}
use Rattle.doc_text.proofs.Completes.{completes}
use Rattle.doc_text.proofs.Agrees.{Agrees, agrees}
use Rattle.doc_text.proofs.Paths.{Path}
use Rattle.doc_text.proofs.Accepts.{accepts, violated, Refuses}
use Rattle.doc_text.proofs.Reasons.{Reached, because}

module _ (end : Place) where
  -- what happens at the first character that is not read, or at the end
  abbrev NoStep : Bool → State → List Symbol → Type 0
  NoStep b u [] = (Refuses end) (run b end u [])
  NoStep b u (t ∷ r) = (more : List Symbol) → (Refuses end) (run b end u (t ∷ more))

  abbrev BreaksAt : State → List Symbol → Fault × Place → Type 0
  BreaksAt u [] f = run true end u [] ≡ Refused f
  BreaksAt u (t ∷ r) f = (more : List Symbol) → run true end u (t ∷ more) ≡ Refused f

  abbrev GoesTo : State → List Symbol → Type 0
  GoesTo u [] = ⊥
  GoesTo u (t ∷ r) = (v : State) × (step false u t.kind t.at ≡ Goes v)

  data Blocked (u : State) (rest : List Symbol) (f : Fault × Place) : Type 0 where
    Stopping : ((b : Bool) → NoStep b u rest) → reason end u rest ≡ f → Blocked u rest f
    Breaking : BreaksAt u rest f → GoesTo u rest → Blocked u rest f
    Cutting : BreaksAt u rest f → ((b : Bool) → NoStep b u rest) → f.0 ≡ MismatchedEnd → BreaksAt u (mark end Greater ∷ []) f → GoesTo u (mark end Greater ∷ []) → Blocked u rest f

  record Comes (s : State) (ss rest : List Symbol) (all : List Symbol → List Symbol) (f : Fault × Place) : Type 0 where
    pub front : List Symbol
    pub whole : ss ≡ front ++ rest
    pub state : State
    pub leads : (b : Bool) (more : List Symbol) → run b end s (front ++ more) ≡ run b end state more
    pub stands : (b : Bool) → Stands b (λ r. all (front ++ r)) state
    pub blocked : Blocked state rest f
    pub path : Path s front state

  abbrev Stopped : State → List Symbol → (List Symbol → List Symbol) → End → Type 0
  Stopped s ss all (Read t) = Unit {0}
  Stopped s ss all (Refused f) = (rest : List Symbol) × Comes s ss rest all f

  abbrev here : (s : State) (rest : List Symbol) (all : List Symbol → List Symbol) (f : Fault × Place) → ((b : Bool) → Stands b all s) → Blocked s rest f → Stopped s rest all (Refused f)
  here s rest all f st h = (rest, record { front = []; whole = refl; state = s; leads = λ b more. refl; stands = st; blocked = h; path = refl })

  stopped_name : (s : State) (m : Bool) (p : Place) (all : List Symbol → List Symbol) → ((b : Bool) → Stands b all s) → (NoStep false s []) → run true end s [] ≡ after (if m then Stops else Breaks MismatchedEnd p) (Expected, end) (λ u. Refused (Expected, end)) → reason end s [] ≡ (Expected, end) → (v : State) → ((more : List Symbol) → run true end s (mark end Greater ∷ more) ≡ after (if m then Goes v else Breaks MismatchedEnd p) (reason end s (mark end Greater ∷ more)) (λ u. run true end u more)) → step false s Greater end ≡ Goes v → Stopped s [] all (after (if m then Stops else Breaks MismatchedEnd p) (Expected, end) (λ u. Refused (Expected, end)))
  stopped_name s true p all st l h w v g c = here s [] all (Expected, end) st (Stopping on w)
    where
      on : (b : Bool) → NoStep b s []
      on true = subst (Refuses end) (sym h) tt
      on false = l
  stopped_name s false p all st l h w v g c = here s [] all (MismatchedEnd, p) st (Cutting h on refl g (v, c))
    where
      on : (b : Bool) → NoStep b s []
      on true = subst (Refuses end) (sym h) tt
      on false = l

  at_end : (s : State) (all : List Symbol → List Symbol) → ((b : Bool) → Stands b all s) → Stopped s [] all (run true end s [])
  at_end (Epilog t) all st = tt
  at_end (Naming (OfEnd f fs) p n) all st = stopped_name (Naming (OfEnd f fs) p n) (same_name (called p [] n) f.tag.name) p all st tt refl refl (ended fs (Node f.tag f.children)) (λ more. refl) refl
  at_end (Naming (OfStart fs o) p n) all st = here (Naming (OfStart fs o) p n) [] all (Expected, end) st (Stopping (λ b. tt) refl)
  at_end (Naming (OfAttribute fs t) p n) all st = here (Naming (OfAttribute fs t) p n) [] all (Expected, end) st (Stopping (λ b. tt) refl)
  at_end (Localing (OfEnd f fs) p n m) all st = stopped_name (Localing (OfEnd f fs) p n m) (same_name (called p n m) f.tag.name) p all st tt refl refl (ended fs (Node f.tag f.children)) (λ more. refl) refl
  at_end (Localing (OfStart fs o) p n m) all st = here (Localing (OfStart fs o) p n m) [] all (Expected, end) st (Stopping (λ b. tt) refl)
  at_end (Localing (OfAttribute fs t) p n m) all st = here (Localing (OfAttribute fs t) p n m) [] all (Expected, end) st (Stopping (λ b. tt) refl)
  at_end s all st = here s [] all (reason end s []) st (Stopping (λ b. tt) refl)

  stopped : (ss : List Symbol) (s : State) (all : List Symbol → List Symbol) → ((b : Bool) → Stands b all s) → Stopped s ss all (run true end s ss)
  stopped [] s all st = at_end s all st
  stopped (t ∷ ss) s all st = on (λ v. stopped ss v (λ r. all (t ∷ r))) (step true s t.kind t.at) refl (agrees s t.kind t.at)
    where
      each : (v : Step) → step true s t.kind t.at ≡ v → step false s t.kind t.at ≡ v → (b : Bool) → step b s t.kind t.at ≡ v
      each v h l true = h
      each v h l false = l

      stands : (v : State) → ((b : Bool) → step b s t.kind t.at ≡ Goes v) → (b : Bool) → Stands b (λ r. all (t ∷ r)) v
      stands v h b = subst (StepStands b (λ r. all (t ∷ r))) (h b) (steps_on b all s t (st b))

      further : (v : State) → ((b : Bool) → step b s t.kind t.at ≡ Goes v) → (r : End) → Stopped v ss (λ r. all (t ∷ r)) r → Stopped s (t ∷ ss) all r
      further v h (Read u) x = tt
      further v h (Refused f) x = (
        x.0,
        record {
          front = t ∷ x.1.front;
          whole = ap (λ u. t ∷ u) x.1.whole;
          state = x.1.state;
          leads = λ b more. ap (λ u. after u (reason end s (t ∷ (x.1.front ++ more))) (λ w. run b end w (x.1.front ++ more))) (h b) ∙ x.1.leads b more;
          stands = x.1.stands;
          blocked = x.1.blocked;
          path = (v, h false, x.1.path);
        },
      )

      goes_to : (w : Step) → step false s Greater end ≡ w → IsGoing w → GoesTo s (mark end Greater ∷ [])
      goes_to (Goes v) h x = (v, h)
      goes_to Stops h x = absurd x
      goes_to (Breaks e p) h x = absurd x

      broke : (e : Fault) (p : Place) → step true s t.kind t.at ≡ Breaks e p → (w : Step) → step false s t.kind t.at ≡ w → Unbroken w → Cuts (Breaks e p) w (step true s Greater end) (step false s Greater end) → Stopped s (t ∷ ss) all (Refused (e, p))
      broke e p h (Goes v) l x c = here s (t ∷ ss) all (e, p) st (Breaking (λ more. ap (λ u. after u (reason end s (t ∷ more)) (λ w. run true end w more)) h) (v, l))
      broke e p h (Breaks f q) l x c = absurd x
      broke e p h Stops l x c = here s (t ∷ ss) all (e, p) st (Cutting
          (λ more. ap (λ u. after u (reason end s (t ∷ more)) (λ w. run true end w more)) h)
          nowhere
          c.0
          (λ more. ap (λ u. after u (reason end s (mark end Greater ∷ more)) (λ w. run true end w more)) c.1)
          (goes_to (step false s Greater end) refl c.2))
        where
          nowhere : (b : Bool) → NoStep b s (t ∷ ss)
          nowhere true = λ more. subst (λ u. Refuses end (after u (reason end s (t ∷ more)) (λ w. run true end w more))) (sym h) tt
          nowhere false = λ more. subst (λ u. Refuses end (after u (reason end s (t ∷ more)) (λ w. run false end w more))) (sym l) tt

      on : ((v : State) → ((b : Bool) → Stands b (λ r. all (t ∷ r)) v) → Stopped v ss (λ r. all (t ∷ r)) (run true end v ss)) → (u : Step) → step true s t.kind t.at ≡ u → Agrees u (step false s t.kind t.at) → Stopped s (t ∷ ss) all (after u (reason end s (t ∷ ss)) (λ w. run true end w ss))
      on again Stops h l = here s (t ∷ ss) all (reason end s (t ∷ ss)) st (Stopping (λ b more. subst (λ u. (Refuses end) (after u (reason end s (t ∷ more)) (λ w. run b end w more))) (sym (each Stops h l b)) tt) refl)
      on again (Breaks e p) h l = broke e p h (step false s t.kind t.at) refl (unbroken s t.kind t.at) (subst (λ u. Cuts u (step false s t.kind t.at) (step true s Greater end) (step false s Greater end)) h (cuts s t.kind t.at end))
      on again (Goes v) h l = further v (each (Goes v) h l) (run true end v ss) (again v (stands v (each (Goes v) h l)))

  goes_on : (front : List Symbol) (u : State) → ((more : List Symbol) → read false end (front ++ more) ≡ run false end u more) → GoesOn front
  goes_on front u h =
      let c = completes end u in
      (c.0, c.1, subst (ReadOf false end (front ++ c.0)) (h c.0 ∙ c.2) (sound false end (front ++ c.0) Beginning (λ r. r) (begins false)))
    where
      begins : (b : Bool) → Stands b (λ r. r) Beginning
      begins b = record { zip = ZBeginning; is = refl; fits = tt; text = λ r. refl }

  goes_with : (front rest : List Symbol) (u : State) → ((more : List Symbol) → read false end (front ++ more) ≡ run false end u more) → GoesTo u rest → GoesWith front rest
  goes_with front [] u h g = absurd g
  goes_with front (s ∷ r) u h g = goes_on (front ++ (s ∷ [])) g.0 (λ more. ap (read false end) (append_assoc front (s ∷ []) more) ∙ h (s ∷ more) ∙ ap (λ x. after x (reason end u (s ∷ more)) (λ w. run false end w more)) g.1)

  stops_at : (b : Bool) (front rest : List Symbol) (u : State) → ((more : List Symbol) → read b end (front ++ more) ≡ run b end u more) → NoStep b u rest → StopsAt b front rest
  stops_at b front [] u h k = λ t x. subst (Refuses end) (sym (h []) ∙ ap (read b end) (append-nil front) ∙ accepts end b front t x) k
  stops_at b front (s ∷ r) u h k = λ more t x. subst (Refuses end) (sym (h (s ∷ more)) ∙ accepts end b (front ++ (s ∷ more)) t x) (k more)

  refused : (u : State) (rest : List Symbol) (f : Fault × Place) → BreaksAt u rest f → NoStep true u rest
  refused u [] f k = subst (Refuses end) (sym k) tt
  refused u (t ∷ r) f k = λ more. subst (Refuses end) (sym (k more)) tt

  fails_at : (f : Fault × Place) (front rest : List Symbol) (u : State) → ((more : List Symbol) → read true end (front ++ more) ≡ run true end u more) → BreaksAt u rest f → FailsAt f.0 f.1 front rest
  fails_at f front [] u h k = λ d x w. violated end f.0 f.1 d x (ap (read true end) w ∙ ap (read true end) (sym (append-nil front)) ∙ h [] ∙ k)
  fails_at f front (s ∷ r) u h k = λ more d x w. violated end f.0 f.1 d x (ap (read true end) w ∙ h (s ∷ more) ∙ k more)

  pub exact : (ss : List Symbol) → Exact end ss
  exact ss = record { tells = on (read true end ss) (stopped ss Beginning (λ r. r) begins) (sound true end ss Beginning (λ r. r) (begins true)); reads = accepts end true ss }
    where
      begins : (b : Bool) → Stands b (λ r. r) Beginning
      begins b = record { zip = ZBeginning; is = refl; fits = tt; text = λ r. refl }

      why : (f : Fault × Place) (front rest : List Symbol) (u : State) (st : Stands true (λ r. front ++ r) u) → Reached end front rest u → reason end u rest ≡ f → Because end front rest f.0 f.1
      why f front rest u st r h = subst (λ g. Because end front rest g.0 g.1) (ap (λ v. reason end v rest) st.is ∙ h) (because end st.zip front rest st.fits (st.text []) (subst (Reached end front rest) (sym st.is) r))

      tell : (f : Fault × Place) (rest : List Symbol) (c : Comes Beginning ss rest (λ r. r) f) → Blocked c.state rest f → Tells end ss (Refused f)
      tell f rest c (Stopping k w) = (c.front, rest, c.whole, goes_on c.front c.state (c.leads false), stops_at true c.front rest c.state (c.leads true) (k true), inr (stops_at false c.front rest c.state (c.leads false) (k false), why f c.front rest c.state (c.stands true) (record { leads = c.leads true; path = c.path; ahead = k }) w))
      tell f rest c (Breaking k g) = (c.front, rest, c.whole, goes_on c.front c.state (c.leads false), stops_at true c.front rest c.state (c.leads true) (refused c.state rest f k), inl (goes_with c.front rest c.state (c.leads false) g, fails_at f c.front rest c.state (c.leads true) k))
      tell f rest c (Cutting k n e w g) = (c.front, rest, c.whole, goes_on c.front c.state (c.leads false), stops_at true c.front rest c.state (c.leads true) (n true), inr (stops_at false c.front rest c.state (c.leads false) (n false), subst (λ x. Because end c.front rest x f.1) (sym e) (goes_with c.front (mark end Greater ∷ []) c.state (c.leads false) g, subst (λ x. FailsAt x f.1 c.front (mark end Greater ∷ [])) e (fails_at f c.front (mark end Greater ∷ []) c.state (c.leads true) w))))

      on : (r : End) → Stopped Beginning ss (λ r. r) r → ReadOf true end ss r → Tells end ss r
      on (Read t) c x = x
      on (Refused f) c x = tell f c.0 c.1 c.1.blocked
