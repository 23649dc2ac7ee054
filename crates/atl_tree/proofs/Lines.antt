-- A line feed ends each piece that is open: what follows it can't close a text or a quoted name that is open there.
use Rattle.std.proofs.Common.{◌≡◌, ℕ, ◌<◌, ◌≤◌, ◌⊎◌, List, [], ◌∷◌, ◌++◌, length, refl, inl, inr, sym, ap, subst, ◌∙◌, append_assoc, arith, Option, None, Some}
use Rattle.std.proofs.lemmas.List.{length-append}
use Rattle.atl_tree.specs.declared.state.State.{State}
use Rattle.atl_tree.specs.declared.state.State.TheVariants as S
use Rattle.atl_tree.specs.declared.state.Stop.TheVariants.{Over, Open}
use Rattle.atl_tree.specs.Pieces.{Piece, is_letter, is_digit, is_escape, is_in_line, is_in_quotes, is_in_words}
use Rattle.atl_tree.specs.Cutting.{chars_of}
use Rattle.atl_tree.specs.Machine.{Machine, machine, cut_of, run, step, step_to, closed, fresh, finished, after as after_step, Step, Goes, Stops, begin_of, next_of, ended}
use Rattle.atl_tree.specs.Tokens.{body_of}
use Rattle.atl_tree.specs.Refusals.{IsOpenFront}
use Rattle.atl_tree.proofs.Simulation.{Fits, ended-chars, chars_of-append}
use Rattle.atl_tree.proofs.Cuts.{Tells, Why, tells, unique, stuck-end, Begins-chars}
use Rattle.atl_tree.proofs.Exact.{stopped-open, over-at-end}
use Rattle.atl_tree.proofs.Fronts.{read, StepReads, step-reads}

-- ---- the pieces grow

more-pieces : (ps qs : List Piece) → length (chars_of ps) ≤ length (chars_of (ps ++ qs))
more-pieces ps qs = omega (arith, ap length (chars_of-append ps qs), length-append (chars_of ps) (chars_of qs))

abbrev Grows : Machine → Step → Type 0
Grows m (Goes u) = length (chars_of m.done) ≤ length (chars_of u.done)
Grows m (Stops k) = length (chars_of m.done) ≤ length (chars_of k.pieces)

grows-fresh : (m : Machine) (c : ℕ) (qs : List Piece) (n : State) → Grows m (fresh (m.done ++ qs) c n)
grows-fresh m c qs S.Dead = more-pieces m.done qs
grows-fresh m c qs n = more-pieces m.done qs

grows-closed : (m : Machine) (c : ℕ) (o : Option (List Piece)) → Grows m (closed m.done c o)
grows-closed m c None = omega arith
grows-closed m c (Some qs) = grows-fresh m c qs (begin_of c)

grows-to : (m : Machine) (c : ℕ) (n : State) → Grows m (step_to m c n)
grows-to m c S.Dead = grows-closed m c (ended m.state m.seen)
grows-to m c n = omega arith

grows-end : (ps : List Piece) (o : Option (List Piece)) → length (chars_of ps) ≤ length (chars_of (finished ps o).pieces)
grows-end ps None = omega arith
grows-end ps (Some qs) = more-pieces ps qs

grows : (m : Machine) (cs : List ℕ) → length (chars_of m.done) ≤ length (chars_of (run m cs).pieces)
grows m [] = grows-end m.done (ended m.state m.seen)
grows m (c ∷ cs) = on (step_to m c (next_of m.state c)) (grows-to m c (next_of m.state c)) (λ u. grows u cs)
  where
    on : (w : Step) → Grows m w → ((u : Machine) → length (chars_of u.done) ≤ length (chars_of (run u cs).pieces)) → length (chars_of m.done) ≤ length (chars_of (after_step w cs (λ u. run u cs)).pieces)
    on (Goes u) g rec = omega (arith, g, rec u)
    on (Stops k) g rec = g

-- ---- a line feed

line-feed : (s : State) → (s ≡ S.Start) ⊎ (next_of s 10 ≡ S.Dead)
unfolding is_letter is_digit is_escape is_in_line is_in_quotes is_in_words
line-feed S.Start = inl refl
line-feed S.Plain = inr refl
line-feed S.Number = inr refl
line-feed S.Point = inr refl
line-feed S.Fraction = inr refl
line-feed S.Quoted = inr refl
line-feed S.Words = inr refl
line-feed S.Escape = inr refl
line-feed S.Minus = inr refl
line-feed S.Less = inr refl
line-feed S.Greater = inr refl
line-feed S.Comment = inr refl
line-feed S.Gap = inr refl
line-feed (S.Done s) = inr refl
line-feed S.Dead = inr refl

-- where the machine goes on, all that was read before is in pieces
abbrev Ended : Machine → Step → Type 0
Ended m (Goes u) = length (read m) ≤ length (chars_of u.done)
Ended m (Stops k) = Unit {0}

ended-fresh : (m : Machine) (qs : List Piece) (n : State) → chars_of qs ≡ m.seen → Ended m (fresh (m.done ++ qs) 10 n)
ended-fresh m qs S.Dead h = tt
ended-fresh m qs n h = omega (arith, ap length (chars_of-append m.done qs ∙ ap (λ l. chars_of m.done ++ l) h))

ended-closed : (m : Machine) (o : Option (List Piece)) → Fits m.state m.seen → ended m.state m.seen ≡ o → Ended m (closed m.done 10 o)
ended-closed m None f q = tt
ended-closed m (Some qs) f q = ended-fresh m qs (begin_of 10) (ended-chars m.state m.seen qs f q)

at-start : (m : Machine) → Fits m.state m.seen → m.state ≡ S.Start → (n : State) → Ended m (step_to m 10 n)
at-start m f e S.Dead = ended-closed m (ended m.state m.seen) f refl
at-start m f e n =
    let none : m.seen ≡ [] = subst (λ s. Fits s m.seen) e f in
    omega (arith, ap length none, length-append (chars_of m.done) m.seen)

ended-line : (m : Machine) → Fits m.state m.seen → Ended m (step m 10)
ended-line m f = elim (line-feed m.state) [
  | inl e ↦ at-start m f e (next_of m.state 10)
  | inr e ↦ subst (λ n. Ended m (step_to m 10 n)) (sym e) (ended-closed m (ended m.state m.seen) f refl)
]

-- where not all before the line feed comes into pieces, what follows it is not looked at
open-run : (m : Machine) (xs rest more : List ℕ) → Fits m.state m.seen → length (chars_of (run m (xs ++ (10 ∷ rest))).pieces) < length (read m ++ xs)
    → run m (xs ++ (10 ∷ more)) ≡ run m (xs ++ (10 ∷ rest))
open-run m [] rest more f h = on (step m 10) refl (ended-line m f)
  where
    on : (w : Step) → step m 10 ≡ w → Ended m w → run m (10 ∷ more) ≡ run m (10 ∷ rest)
    on (Stops k) e g = ap (λ z. after_step z more (λ u. run u more)) e ∙ sym (ap (λ z. after_step z rest (λ u. run u rest)) e)
    on (Goes u) e g =
        let same = ap (λ z. after_step z rest (λ u. run u rest)) e in
        absurd (omega (arith, h, g, grows u rest, ap (λ z. length (chars_of z.pieces)) same, length-append (read m) []))
open-run m (c ∷ xs) rest more f h = on (step m c) refl (step-reads m c f) (λ u g k. open-run u xs rest more g k)
  where
    on : (w : Step) → step m c ≡ w → StepReads m c w
        → ((u : Machine) → Fits u.state u.seen → length (chars_of (run u (xs ++ (10 ∷ rest))).pieces) < length (read u ++ xs) → run u (xs ++ (10 ∷ more)) ≡ run u (xs ++ (10 ∷ rest)))
        → run m (c ∷ (xs ++ (10 ∷ more))) ≡ run m (c ∷ (xs ++ (10 ∷ rest)))
    on (Stops k) e r rec = ap (λ z. after_step z (xs ++ (10 ∷ more)) (λ u. run u (xs ++ (10 ∷ more)))) e ∙ sym (ap (λ z. after_step z (xs ++ (10 ∷ rest)) (λ u. run u (xs ++ (10 ∷ rest)))) e)
    on (Goes u) e r rec =
        let same = ap (λ z. after_step z (xs ++ (10 ∷ rest)) (λ u. run u (xs ++ (10 ∷ rest)))) e in
        ap (λ z. after_step z (xs ++ (10 ∷ more)) (λ u. run u (xs ++ (10 ∷ more)))) e
        ∙ rec u r.0 (omega (arith, h, ap (λ z. length (chars_of z.pieces)) same, ap length (ap (λ l. l ++ xs) r.1 ∙ append_assoc (read m) (c ∷ []) xs)))
        ∙ sym same

pub open-front : (text : List ℕ) → IsOpenFront text
open-front text p h =
    let s = stopped-open text p h in
    let t : Tells (body_of text) (cut_of (body_of text)) = tells (body_of text) in
    let w : Why Open t.rest = subst (λ z. Why z t.rest) s.0 t.why in
    let front : List ℕ = chars_of (cut_of (body_of text)).pieces in
    let whole : body_of text ≡ front ++ (w.0 ∷ w.1) = Begins-chars (body_of text) (cut_of (body_of text)).pieces t.rest t.begins ∙ ap (λ l. front ++ l) w.2 in (
      front,
      w.0,
      w.1,
      whole,
      s.1,
      λ line rest e more ps k.
          let xs : List ℕ = front ++ (w.0 ∷ line) in
          let spelt : body_of text ≡ xs ++ (10 ∷ rest) = whole ∙ ap (λ l. front ++ (w.0 ∷ l)) e ∙ sym (append_assoc front (w.0 ∷ line) (10 ∷ rest)) in
          let short : length (chars_of (run (machine [] S.Start []) (xs ++ (10 ∷ rest))).pieces) < length xs =
          omega (arith, ap (λ l. length (chars_of (run (machine [] S.Start []) l).pieces)) spelt, length-append front (w.0 ∷ line)) in
          let other : List ℕ = front ++ (w.0 ∷ (line ++ (10 ∷ more))) in
          let alike : cut_of other ≡ cut_of (body_of text) =
          ap cut_of (sym (append_assoc front (w.0 ∷ line) (10 ∷ more))) ∙ open-run (machine [] S.Start []) xs rest more refl short ∙ ap cut_of (sym spelt) in
          let o : Tells other (cut_of other) = tells other in
          let u = unique other (cut_of other).pieces ps o.rest [] o.begins k o.stuck stuck-end in
          let over : (cut_of other).stop ≡ Over = over-at-end (cut_of other).stop o.rest o.why u.1 in
          let both : Over ≡ Open = sym over ∙ ap (λ z. z.stop) alike ∙ s.0 in
          cc,
    )
