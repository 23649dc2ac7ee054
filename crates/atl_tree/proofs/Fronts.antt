-- What the machine has read decides: a bad character is bad whatever follows it, and the pieces are slices in their order.
use Rattle.std.proofs.Common.{◌≡◌, ℕ, ◌+◌, cond, ◌≤◌, ◌==◌, Bool, true, false, List, [], ◌∷◌, ◌++◌, length, refl, sym, ap, subst, ◌∙◌, append_assoc, arith, Option, None, Some}
use Rattle.std.specs.Str.{IsUtf8, encode_utf8_all, chars}
use Rattle.std.specs.Char.{encode_utf8, len_utf8}
use Rattle.std.proofs.lemmas.List.{append-nil, length-append}
use Rattle.std.proofs.lemmas.Str.{encodes-append, encodes-chars, length-encode}
use Rattle.std.proofs.lemmas.Bool.{eqb-true}
use Rattle.atl_base.specs.declared.place.Place.{Place}
use Rattle.atl_tree.specs.declared.token.Tokens.{Tokens}
use Rattle.atl_tree.specs.declared.token.TokenSort.{TokenSort}
use Rattle.atl_tree.specs.declared.state.State.{State}
use Rattle.atl_tree.specs.declared.state.State.TheVariants as S
use Rattle.atl_tree.specs.declared.state.Stop.TheVariants.{Over, Bad}
use Rattle.atl_tree.specs.Pieces.{Piece}
use Rattle.atl_tree.specs.Cutting.{chars_of}
use Rattle.atl_tree.specs.Machine.{Machine, machine, cut_of, run, step, step_to, closed, fresh, finished, after as after_step, Step, Goes, Stops, begin_of, next_of, ended}
use Rattle.atl_tree.specs.Tokens.{place, after, tokens_from, token_of, body_of, begin_byte, HasTokens}
use Rattle.atl_tree.specs.Refusals.{IsBadFront}
use Rattle.atl_tree.specs.Slices.{AreSlices}
use Rattle.atl_tree.proofs.Simulation.{Fits, Fits-next, begin-point, begin-start, next-point, next-start, ended-chars, chars_of-append, slice_is}
use Rattle.atl_tree.proofs.Cuts.{Tells, tells, unique, stuck-end, Begins-chars}
use Rattle.atl_tree.proofs.Exact.{stopped-bad, over-at-end}

-- ---- a bad character

abbrev pub read : Machine → List ℕ
read m = chars_of m.done ++ m.seen

-- a step reads its character, and where it finds it bad the pieces are what was read
abbrev pub StepReads : Machine → ℕ → Step → Type 0
StepReads m c (Goes u) = Fits u.state u.seen × (read u ≡ read m ++ (c ∷ []))
StepReads m c (Stops k) = k.stop ≡ Bad → chars_of k.pieces ≡ read m

step-fresh : (m : Machine) (c : ℕ) (qs : List Piece) → chars_of qs ≡ m.seen → (n : State) → begin_of c ≡ n → StepReads m c (fresh (m.done ++ qs) c n)
step-fresh m c qs h S.Dead e = λ _. chars_of-append m.done qs ∙ ap (λ l. chars_of m.done ++ l) h
step-fresh m c qs h n e = (
  Fits-next n [] c (λ k. begin-start c (e ∙ k)) (λ k. absurd (begin-point c (e ∙ k))),
  ap (λ l. l ++ (c ∷ [])) (chars_of-append m.done qs ∙ ap (λ l. chars_of m.done ++ l) h),
)

step-closed : (m : Machine) (c : ℕ) → Fits m.state m.seen → (o : Option (List Piece)) → ended m.state m.seen ≡ o → StepReads m c (closed m.done c o)
step-closed m c f None q = λ h. absurd cc
step-closed m c f (Some qs) q = step-fresh m c qs (ended-chars m.state m.seen qs f q) (begin_of c) refl

step-to : (m : Machine) (c : ℕ) → Fits m.state m.seen → (n : State) → next_of m.state c ≡ n → StepReads m c (step_to m c n)
step-to m c f S.Dead e = step-closed m c f (ended m.state m.seen) refl
step-to m c f n e =
    (Fits-next n m.seen c (λ k. next-start m.state c (e ∙ k)) (λ k. next-point m.state c (e ∙ k)), sym (append_assoc (chars_of m.done) m.seen (c ∷ [])))

pub step-reads : (m : Machine) (c : ℕ) → Fits m.state m.seen → StepReads m c (step m c)
step-reads m c f = step-to m c f (next_of m.state c) refl

no-bad-end : (ps : List Piece) (o : Option (List Piece)) → (finished ps o).stop ≡ Bad → ⊥
no-bad-end ps None h = cc
no-bad-end ps (Some qs) h = cc

-- the characters before the bad one, and that no more of the text is looked at
pub record BadAt (m : Machine) (cs : List ℕ) : Type 0 where
  pub front : List ℕ
  pub bad : ℕ
  pub rest : List ℕ
  pub text : cs ≡ front ++ (bad ∷ rest)
  pub pieces : chars_of (run m cs).pieces ≡ read m ++ front
  pub others : (more : List ℕ) → run m (front ++ (bad ∷ more)) ≡ run m cs

pub bad-run : (m : Machine) (cs : List ℕ) → Fits m.state m.seen → (run m cs).stop ≡ Bad → BadAt m cs
bad-run m [] f h = absurd (no-bad-end m.done (ended m.state m.seen) h)
bad-run m (c ∷ cs) f h = on (step m c) refl (step-reads m c f) (λ u g k. bad-run u cs g k)
  where
    goes : (w : Step) → step m c ≡ w → (xs : List ℕ) → run m (c ∷ xs) ≡ after_step w xs (λ u. run u xs)
    goes w e xs = ap (λ z. after_step z xs (λ u. run u xs)) e

    on : (w : Step) → step m c ≡ w → StepReads m c w → ((u : Machine) → Fits u.state u.seen → (run u cs).stop ≡ Bad → BadAt u cs) → BadAt m (c ∷ cs)
    on (Stops k) e r rec = record {
      front = [];
      bad = c;
      rest = cs;
      text = refl;
      pieces = ap (λ z. chars_of z.pieces) (goes (Stops k) e cs) ∙ r (ap (λ z. z.stop) (sym (goes (Stops k) e cs)) ∙ h) ∙ sym (append-nil (read m));
      others = λ more. goes (Stops k) e more ∙ sym (goes (Stops k) e cs);
    }
    on (Goes u) e r rec =
        let b = rec u r.0 (ap (λ z. z.stop) (sym (goes (Goes u) e cs)) ∙ h) in
        record {
          front = c ∷ b.front;
          bad = b.bad;
          rest = b.rest;
          text = ap (λ l. c ∷ l) b.text;
          pieces = ap (λ z. chars_of z.pieces) (goes (Goes u) e cs) ∙ b.pieces ∙ ap (λ l. l ++ b.front) r.1 ∙ append_assoc (read m) (c ∷ []) b.front;
          others = λ more. goes (Goes u) e (b.front ++ (b.bad ∷ more)) ∙ b.others more ∙ sym (goes (Goes u) e cs);
        }

pub bad-front : (text : List ℕ) → IsBadFront text
bad-front text p h =
    let s = stopped-bad text p h in
    let b = bad-run (machine [] S.Start []) (body_of text) refl s.0 in (
      b.front,
      b.bad,
      b.rest,
      b.text,
      s.1 ∙ ap (after (place 1 1)) b.pieces,
      λ more ps k.
          let other : Tells (b.front ++ (b.bad ∷ more)) (cut_of (b.front ++ (b.bad ∷ more))) = tells (b.front ++ (b.bad ∷ more)) in
          let u = unique (b.front ++ (b.bad ∷ more)) (cut_of (b.front ++ (b.bad ∷ more))).pieces ps other.rest [] other.begins k other.stuck stuck-end in
          let over : (cut_of (b.front ++ (b.bad ∷ more))).stop ≡ Over = over-at-end (cut_of (b.front ++ (b.bad ∷ more))).stop other.rest other.why u.1 in
          let bad : (cut_of (b.front ++ (b.bad ∷ more))).stop ≡ Bad = ap (λ z. z.stop) (b.others more) ∙ s.0 in
          let both : Over ≡ Bad = sym over ∙ bad in
          cc,
    )

-- ---- slices

slices-from : (text : List ℕ) (at low : ℕ) (p : Place) (ps : List Piece) (head : List ℕ) → text ≡ head ++ encode_utf8_all (chars_of ps) → length head ≡ at → low ≤ at → AreSlices text low (tokens_from at p ps)
slices-from text at low p [] head e h l = tt
slices-from text at low p (q ∷ ps) head e h l =
    on q.sort (λ m k. slices-from text (at + length (encode_utf8_all q.chars)) m (after p q.chars) ps (head ++ encode_utf8_all q.chars)
    (bytes ∙ sym (append_assoc head (encode_utf8_all q.chars) (encode_utf8_all (chars_of ps)))) next k)
  where
    bytes : text ≡ head ++ (encode_utf8_all q.chars ++ encode_utf8_all (chars_of ps))
    bytes = e ∙ ap (λ t. head ++ t) (encodes-append q.chars (chars_of ps))

    next : length (head ++ encode_utf8_all q.chars) ≡ at + length (encode_utf8_all q.chars)
    next = length-append head (encode_utf8_all q.chars) ∙ ap (λ n. n + length (encode_utf8_all q.chars)) h

    within : at + length (encode_utf8_all q.chars) ≤ length text
    within = omega (arith, next, ap length (bytes ∙ sym (append_assoc head (encode_utf8_all q.chars) (encode_utf8_all (chars_of ps)))), length-append (head ++ encode_utf8_all q.chars) (encode_utf8_all (chars_of ps)))

    on : (s : Option TokenSort) → ((m : ℕ) → m ≤ at + length (encode_utf8_all q.chars) → AreSlices text m (tokens_from (at + length (encode_utf8_all q.chars)) (after p q.chars) ps))
        → AreSlices text low (token_of s (encode_utf8_all q.chars) at p ++ tokens_from (at + length (encode_utf8_all q.chars)) (after p q.chars) ps)
    on None rec = rec low (omega arith)
    on (Some s) rec = (
      l,
      omega arith,
      within,
      sym (slice_is text head (encode_utf8_all q.chars) (encode_utf8_all (chars_of ps)) at (at + length (encode_utf8_all q.chars)) bytes h refl),
      rec (at + length (encode_utf8_all q.chars)) (omega arith),
    )

-- the bytes of the byte order mark, where there is one
mark-bytes : (cs : List ℕ) → (head : List ℕ) × (encode_utf8_all cs ≡ head ++ encode_utf8_all (body_of cs)) × (length head ≡ begin_byte cs)
mark-bytes [] = ([], refl, refl)
mark-bytes (c ∷ cs) = on (c == 0xFEFF) refl
  where
    on : (b : Bool) → (c == 0xFEFF) ≡ b → (head : List ℕ) × (encode_utf8_all (c ∷ cs) ≡ head ++ encode_utf8_all (cond b cs (c ∷ cs))) × (length head ≡ cond b 3 0)
    on true e = (encode_utf8 c, refl, length-encode c ∙ ap len_utf8 (eqb-true c 0xFEFF e))
    on false e = ([], refl, refl)

pub slices : (text : List ℕ) (ts : Tokens) → IsUtf8 text → HasTokens (chars text) ts → AreSlices text 0 ts.list
slices text ts u h =
    let m = mark-bytes (chars text) in
    let body : body_of (chars text) ≡ chars_of h.0 = Begins-chars (body_of (chars text)) h.0 [] h.1 ∙ append-nil (chars_of h.0) in
    let bytes : text ≡ m.0 ++ encode_utf8_all (chars_of h.0) = sym (encodes-chars text u) ∙ m.1 ∙ ap (λ l. m.0 ++ encode_utf8_all l) body in
    subst (AreSlices text 0) (sym h.2) (slices-from text (begin_byte (chars text)) 0 (place 1 1) h.0 m.0 bytes m.2 (omega arith))
