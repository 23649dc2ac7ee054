-- The machine cuts a text as the relation says, and the relation leaves no choice.
use Rattle.std.proofs.Common.{◌≡◌, ℕ, ◌-◌, ◌<◌, ◌≤◌, ◌⊎◌, List, [], ◌∷◌, ◌++◌, length, take, refl, inl, inr, sym, ap, subst, ◌∙◌, append_assoc, arith, Option, None, Some}
use Rattle.std.proofs.lemmas.Bool.{cases_lt}
use Rattle.std.proofs.lemmas.List.{append-nil, length-append}
use Rattle.atl_tree.specs.declared.token.TokenSort.{TokenSort}
use Rattle.atl_tree.specs.declared.token.TokenSort.TheVariants as T
use Rattle.atl_tree.specs.declared.state.State.{State}
use Rattle.atl_tree.specs.declared.state.State.TheVariants as S
use Rattle.atl_tree.specs.declared.state.Stop.{Stop}
use Rattle.atl_tree.specs.declared.state.Stop.TheVariants.{Over, Bad, Open}
use Rattle.atl_tree.specs.Pieces.{Piece, IsPiece, IsPieceOf, IsDigits, IsMark}
use Rattle.atl_tree.specs.Cutting.{chars_of, IsLongest, Begins, IsStuck}
use Rattle.atl_tree.specs.Machine.{Cut, Machine, cut, machine, piece, cut_of, run, step_to, closed, fresh, finished, after as after_step, begin_of, next_of, ended}
use Rattle.atl_tree.proofs.Simulation.{take-front}
use Rattle.atl_tree.proofs.Walks.{walk, kind_of, walk-append, walk-dead, accepts, Shape, shaped, leads-digits, begin-dot, dot-mark, minus-mark, less-mark, greater-mark, number-point, IsClosed, closed-walk, closed-kind}

-- ---- lists

-- of two fronts of a list the shorter is a front of the longer
split : (xs ys a b : List ℕ) → xs ++ a ≡ ys ++ b → length ys ≤ length xs → (d : List ℕ) × (xs ≡ ys ++ d) × (d ++ a ≡ b)
split xs [] a b e h = (xs, refl, e)
split [] (y ∷ ys) a b e h = absurd (omega arith)
split (x ∷ xs) (y ∷ ys) a b e h =
    let head : x ≡ y = cc in
    let tail : xs ++ a ≡ ys ++ b = cc in
    let r = split xs ys a b tail (omega arith) in
    (r.0, ap (λ l. x ∷ l) r.1 ∙ ap (λ c. c ∷ (ys ++ r.0)) head, r.2)

-- ---- the longest piece

-- no more characters make a piece
abbrev pub Blocked : State → List ℕ → Type 0
Blocked s rest = (c : ℕ) (u more : List ℕ) → (c ∷ u) ++ more ≡ rest → kind_of (walk s (c ∷ u)) ≡ None

-- the next character does not go on with the open piece
abbrev pub Ends : State → List ℕ → Type 0
Ends s [] = Unit {0}
Ends s (c ∷ cs) = next_of s c ≡ S.Dead

pub blocked : (s : State) (rest : List ℕ) → Ends s rest → Blocked s rest
blocked s [] h c u more e = absurd (let f : c ∷ (u ++ more) ≡ [] = e in cc)
blocked s (d ∷ ds) h c u more e =
    let same : c ≡ d = cc in
    ap (λ t. kind_of (walk t u)) (ap (next_of s) same ∙ h) ∙ ap kind_of (walk-dead u)

pub longest : (w rest : List ℕ) → Blocked (walk S.Start w) rest → IsLongest w rest
longest w rest b q more p e = elim (cases_lt (length w) (length q.chars)) [ inr h ↦ h | inl h ↦ absurd (longer (split q.chars w more rest e (omega arith)) h) ]
  where
    longer : (d : List ℕ) × (q.chars ≡ w ++ d) × (d ++ more ≡ rest) → length w < length q.chars → ⊥
    longer ([], same, r) h = omega (arith, ap length same, length-append w [])
    longer (c ∷ u, same, r) h =
        let none : kind_of (walk S.Start q.chars) ≡ None = ap (λ l. kind_of (walk S.Start l)) same ∙ ap kind_of (walk-append S.Start w (c ∷ u)) ∙ b c u more r in
        let some : kind_of (walk S.Start q.chars) ≡ Some q.sort = accepts q.sort q.chars p in
        cc

-- no piece is empty, so none begins at the end
pub stuck-end : IsStuck []
stuck-end q more p e =
    let none : q.chars ≡ [] = empty q.chars more e in
    let start : kind_of (walk S.Start q.chars) ≡ None = ap (λ l. kind_of (walk S.Start l)) none in
    let some : kind_of (walk S.Start q.chars) ≡ Some q.sort = accepts q.sort q.chars p in
    cc
  where
    empty : (xs ys : List ℕ) → xs ++ ys ≡ [] → xs ≡ []
    empty [] ys e = refl
    empty (x ∷ xs) ys e = absurd cc

-- ---- one cutting a text

same-piece : (p q : Piece) → IsPiece p → IsPiece q → p.chars ≡ q.chars → p ≡ q
same-piece p q a b e =
    let one : kind_of (walk S.Start p.chars) ≡ Some p.sort = accepts p.sort p.chars a in
    let two : kind_of (walk S.Start q.chars) ≡ Some q.sort = accepts q.sort q.chars b in
    let sorts : p.sort ≡ q.sort = cc in
    ap (λ s. piece s p.chars) sorts ∙ ap (λ w. piece q.sort w) e

pub unique : (text : List ℕ) (ps qs : List Piece) (rest left : List ℕ) → Begins text ps rest → Begins text qs left → IsStuck rest → IsStuck left → (ps ≡ qs) × (rest ≡ left)
unique text [] [] rest left a b s t = (refl, sym a ∙ b)
unique text [] (q ∷ qs) rest left a b s t = absurd (s q b.0 b.2 (sym b.1 ∙ a))
unique text (p ∷ ps) [] rest left a b s t = absurd (t p a.0 a.2 (sym a.1 ∙ b))
unique text (p ∷ ps) (q ∷ qs) rest left a b s t =
    let one : length q.chars ≤ length p.chars = a.3 q b.0 b.2 (sym b.1 ∙ a.1) in
    let two : length p.chars ≤ length q.chars = b.3 p a.0 a.2 (sym a.1 ∙ b.1) in
    let d = split p.chars q.chars a.0 b.0 (sym a.1 ∙ b.1) one in
    let none : d.0 ≡ [] = no-more d.0 (omega (arith, ap length d.1, length-append q.chars d.0)) in
    let chars : p.chars ≡ q.chars = d.1 ∙ ap (λ l. q.chars ++ l) none ∙ append-nil q.chars in
    let follows : a.0 ≡ b.0 = ap (λ l. l ++ a.0) (sym none) ∙ d.2 in
    let r = unique b.0 ps qs rest left (subst (λ l. Begins l ps rest) follows a.4) b.4 s t in
    (ap (λ z. z ∷ ps) (same-piece p q a.2 b.2 chars) ∙ ap (λ l. q ∷ l) r.0, r.1)
  where
    no-more : (d : List ℕ) → length d ≡ 0 → d ≡ []
    no-more [] e = refl
    no-more (c ∷ d) e = absurd (omega arith)

pub Begins-chars : (text : List ℕ) (ps : List Piece) (rest : List ℕ) → Begins text ps rest → text ≡ chars_of ps ++ rest
Begins-chars text [] rest b = b
Begins-chars text (p ∷ ps) rest b = b.1 ∙ ap (λ l. p.chars ++ l) (Begins-chars b.0 ps rest b.4) ∙ sym (append_assoc p.chars (chars_of ps) rest)

-- one more piece, before a rest
begins-more : (text : List ℕ) (ps : List Piece) (q : Piece) (rest : List ℕ) → Begins text ps (q.chars ++ rest) → IsPiece q → IsLongest q.chars rest → Begins text (ps ++ (q ∷ [])) rest
begins-more text [] q rest b p l = (rest, b, p, l, refl)
begins-more text (r ∷ ps) q rest b p l = (b.0, b.1, b.2, b.3, begins-more b.0 ps q rest b.4 p l)

-- ---- the machine cuts so

-- why it stops: at the end; where no piece begins with the character; where a text or a quoted name begins that has no end
abbrev pub Why : Stop → List ℕ → Type 0
Why Over rest = rest ≡ []
Why Bad rest = (c : ℕ) × (cs : List ℕ) × (rest ≡ c ∷ cs) × ((more : List ℕ) → IsStuck (c ∷ more))
Why Open rest = (c : ℕ) × (cs : List ℕ) × (rest ≡ c ∷ cs) × ((c ≡ 34) ⊎ (c ≡ 39))

pub record Tells (text : List ℕ) (c : Cut) : Type 0 where
  pub rest : List ℕ
  pub begins : Begins text c.pieces rest
  pub stuck : IsStuck rest
  pub why : Why c.stop rest

-- the pieces of the machine begin the text, before what is seen of the open one
pub record Sound (text : List ℕ) (m : Machine) (rest : List ℕ) : Type 0 where
  pub begins : Begins text m.done (m.seen ++ rest)
  pub state : walk S.Start m.seen ≡ m.state
  pub alive : m.state ≡ S.Dead → ⊥

one-piece : (text : List ℕ) (ps : List Piece) (w rest : List ℕ) (o : Option TokenSort) (s : State) → walk S.Start w ≡ s → Ends s rest → IsPieceOf o w → Begins text ps (w ++ rest) → Begins text (ps ++ (piece o w ∷ [])) rest
one-piece text ps w rest o s e h p b = begins-more text ps (piece o w) rest b p (longest w rest (subst (λ t. Blocked t rest) (sym e) (blocked s rest h)))

-- the point is a token of its own where no digit follows
done-ends : (rest : List ℕ) → Ends (S.Done T.Mark) rest
done-ends [] = tt
done-ends (c ∷ cs) = refl

-- a number, before a point that no digit follows, is not gone on with
blocked-number : (rest : List ℕ) → Ends S.Point rest → Blocked S.Number (46 ∷ rest)
blocked-number rest h c [] more e =
    let same : c ≡ 46 = cc in
    ap (λ d. kind_of (next_of S.Number d)) same ∙ ap kind_of number-point
blocked-number rest h c (d ∷ u) more e =
    let same : c ≡ 46 = cc in
    let tail : (d ∷ u) ++ more ≡ rest = cc in
    ap (λ k. kind_of (walk (next_of S.Number k) (d ∷ u))) same ∙ ap (λ s. kind_of (walk s (d ∷ u))) number-point ∙ blocked S.Point rest h d u more tail

point-pieces : (text : List ℕ) (ps : List Piece) (w rest front : List ℕ) → IsDigits front → w ≡ front ++ (46 ∷ []) → Ends S.Point rest → Begins text ps (w ++ rest)
    → Begins text (ps ++ (piece (Some T.Number) front ∷ (piece (Some T.Mark) (46 ∷ []) ∷ []))) rest
point-pieces text ps w rest front d e h b =
    let spelt : w ++ rest ≡ front ++ (46 ∷ rest) = ap (λ l. l ++ rest) e ∙ append_assoc front (46 ∷ []) rest in
    let number : Begins text (ps ++ (piece (Some T.Number) front ∷ [])) (46 ∷ rest) =
    begins-more text ps (piece (Some T.Number) front) (46 ∷ rest) (subst (Begins text ps) spelt b) (inl d)
    (longest front (46 ∷ rest) (subst (λ t. Blocked t (46 ∷ rest)) (sym (leads-digits front d)) (blocked-number rest h))) in
    let both = begins-more text (ps ++ (piece (Some T.Number) front ∷ [])) (piece (Some T.Mark) (46 ∷ [])) rest number dot-mark
    (longest (46 ∷ []) rest (subst (λ t. Blocked t rest) (sym begin-dot) (blocked (S.Done T.Mark) rest (done-ends rest)))) in
    subst (λ l. Begins text l rest) (append_assoc ps (piece (Some T.Number) front ∷ []) (piece (Some T.Mark) (46 ∷ []) ∷ [])) both

module _ (text : List ℕ) (ps : List Piece) (w rest : List ℕ) (b : Begins text ps (w ++ rest)) where
  one : (o : Option TokenSort) (s : State) (qs : List Piece) → walk S.Start w ≡ s → Ends s rest → IsPieceOf o w → Some (piece o w ∷ []) ≡ Some qs → Begins text (ps ++ qs) rest
  one o s qs e h p q =
      let same : piece o w ∷ [] ≡ qs = cc in
      subst (λ l. Begins text (ps ++ l) rest) same (one-piece text ps w rest o s e h p b)

  ends-so : (s : State) (qs : List Piece) → walk S.Start w ≡ s → Shape s w → Ends s rest → ended s w ≡ Some qs → Begins text (ps ++ qs) rest
  ends-so S.Start qs e f h q =
      let same : [] ≡ qs = cc in
      subst (λ l. Begins text l rest) (sym (append-nil ps) ∙ ap (λ l. ps ++ l) same) (subst (λ v. Begins text ps (v ++ rest)) f b)
  ends-so S.Plain qs e f h q = one (Some T.Plain) S.Plain qs e h f q
  ends-so S.Number qs e f h q = one (Some T.Number) S.Number qs e h (inl f) q
  ends-so S.Point qs e f h q =
      let taken : take (length w - 1) w ≡ f.0 = ap (λ v. take (length v - 1) v) f.2 ∙ take-front f.0 46 in
      let same : piece (Some T.Number) (take (length w - 1) w) ∷ (piece (Some T.Mark) (46 ∷ []) ∷ []) ≡ qs = cc in
      subst (λ l. Begins text (ps ++ l) rest) (ap (λ v. piece (Some T.Number) v ∷ (piece (Some T.Mark) (46 ∷ []) ∷ [])) (sym taken) ∙ same)
      (point-pieces text ps w rest f.0 f.1 f.2 h b)
  ends-so S.Fraction qs e f h q = one (Some T.Number) S.Fraction qs e h (inr f) q
  ends-so S.Quoted qs e f h q = absurd cc
  ends-so S.Words qs e f h q = absurd cc
  ends-so S.Escape qs e f h q = absurd cc
  ends-so S.Minus qs e f h q = one (Some T.Mark) S.Minus qs e h (subst IsMark (sym f) minus-mark) q
  ends-so S.Less qs e f h q = one (Some T.Mark) S.Less qs e h (subst IsMark (sym f) less-mark) q
  ends-so S.Greater qs e f h q = one (Some T.Mark) S.Greater qs e h (subst IsMark (sym f) greater-mark) q
  ends-so S.Comment qs e f h q = one None S.Comment qs e h (inr f) q
  ends-so S.Gap qs e f h q = one None S.Gap qs e h (inl f) q
  ends-so (S.Done s) qs e f h q = one (Some s) (S.Done s) qs e h f q
  ends-so S.Dead qs e f h q = absurd cc

-- ---- where the machine stops

-- an open piece that has no end: no piece begins where it does
open-stuck : (w rest : List ℕ) (s : State) → walk S.Start w ≡ s → Ends s rest → (IsClosed s → ⊥) → IsStuck (w ++ rest)
open-stuck w rest s e h n q more p k =
    let short : length q.chars ≤ length w = longest w rest (subst (λ t. Blocked t rest) (sym e) (blocked s rest h)) q more p k in
    let d = split w q.chars rest more (sym k) short in
    let goes : walk S.Start w ≡ walk (walk S.Start q.chars) d.0 = ap (walk S.Start) d.1 ∙ walk-append S.Start q.chars d.0 in
    n (subst IsClosed (sym goes ∙ e) (closed-walk (walk S.Start q.chars) d.0 (closed-kind (walk S.Start q.chars) q.sort (accepts q.sort q.chars p))))

opens : (w rest body : List ℕ) (c : ℕ) → ((c ≡ 34) ⊎ (c ≡ 39)) → w ≡ c ∷ body → Why Open (w ++ rest)
opens w rest body c h e = (c, body ++ rest, ap (λ l. l ++ rest) e, h)

open-why : (w rest : List ℕ) (s : State) → Shape s w → ended s w ≡ None → (s ≡ S.Dead → ⊥) → Why Open (w ++ rest) × (IsClosed s → ⊥)
open-why w rest S.Start f q a = absurd cc
open-why w rest S.Plain f q a = absurd cc
open-why w rest S.Number f q a = absurd cc
open-why w rest S.Point f q a = absurd cc
open-why w rest S.Fraction f q a = absurd cc
open-why w rest S.Quoted f q a = (opens w rest f.0 34 (inl refl) f.2, λ x. x)
open-why w rest S.Words f q a = (opens w rest _ 39 (inr refl) f.2, λ x. x)
open-why w rest S.Escape f q a = (opens w rest _ 39 (inr refl) f.2, λ x. x)
open-why w rest S.Minus f q a = absurd cc
open-why w rest S.Less f q a = absurd cc
open-why w rest S.Greater f q a = absurd cc
open-why w rest S.Comment f q a = absurd cc
open-why w rest S.Gap f q a = absurd cc
open-why w rest (S.Done s) f q a = absurd cc
open-why w rest S.Dead f q a = absurd (a refl)

-- no piece begins with a character that leads nowhere
pub bad-stuck : (c : ℕ) (more : List ℕ) → begin_of c ≡ S.Dead → IsStuck (c ∷ more)
bad-stuck c more h q after p e = stuck-from q.chars e (accepts q.sort q.chars p)
  where
    stuck-from : (w : List ℕ) → w ++ after ≡ c ∷ more → kind_of (walk S.Start w) ≡ Some q.sort → ⊥
    stuck-from [] e k = cc
    stuck-from (d ∷ u) e k = let none : kind_of (walk S.Start (d ∷ u)) ≡ None = blocked S.Start (c ∷ more) h d u after e in cc

-- ---- a run

module _ (text : List ℕ) where
  shape-of : (m : Machine) (rest : List ℕ) → Sound text m rest → Shape m.state m.seen
  shape-of m rest s = subst (λ t. Shape t m.seen) s.state (shaped m.seen)

  opened : (m : Machine) (rest : List ℕ) → Sound text m rest → Ends m.state rest → ended m.state m.seen ≡ None → Tells text (cut m.done Open)
  opened m rest s h q =
      let y = open-why m.seen rest m.state (shape-of m rest s) q s.alive in
      record { rest = m.seen ++ rest; begins = s.begins; stuck = open-stuck m.seen rest m.state s.state h y.1; why = y.0 }

  ended-all : (m : Machine) (rest : List ℕ) (qs : List Piece) → Sound text m rest → Ends m.state rest → ended m.state m.seen ≡ Some qs → Begins text (m.done ++ qs) rest
  ended-all m rest qs s h q = ends-so text m.done m.seen rest s.begins m.state qs s.state (shape-of m rest s) h q

  finishes : (m : Machine) → Sound text m [] → (o : Option (List Piece)) → ended m.state m.seen ≡ o → Tells text (finished m.done o)
  finishes m s None q = opened m [] s tt q
  finishes m s (Some qs) q = record { rest = []; begins = ended-all m [] qs s tt q; stuck = stuck-end; why = refl }

  module _ (c : ℕ) (cs : List ℕ) (on : (u : Machine) → Sound text u cs → Tells text (run u cs)) where
    freshly : (ps : List Piece) → Begins text ps (c ∷ cs) → (n : State) → begin_of c ≡ n → Tells text (after_step (fresh ps c n) cs (λ u. run u cs))
    freshly ps b S.Dead e = record { rest = c ∷ cs; begins = b; stuck = bad-stuck c cs e; why = (c, cs, refl, λ more. bad-stuck c more e) }
    freshly ps b n e = on (machine ps n (c ∷ [])) (record { begins = b; state = e; alive = λ h. cc })

    closes : (m : Machine) → Sound text m (c ∷ cs) → next_of m.state c ≡ S.Dead → (o : Option (List Piece)) → ended m.state m.seen ≡ o → Tells text (after_step (closed m.done c o) cs (λ u. run u cs))
    closes m s h None q = opened m (c ∷ cs) s h q
    closes m s h (Some qs) q = freshly (m.done ++ qs) (ended-all m (c ∷ cs) qs s h q) (begin_of c) refl

    steps-to : (m : Machine) → Sound text m (c ∷ cs) → (n : State) → next_of m.state c ≡ n → Tells text (after_step (step_to m c n) cs (λ u. run u cs))
    steps-to m s S.Dead e = closes m s e (ended m.state m.seen) refl
    steps-to m s n e = on (machine m.done n (m.seen ++ (c ∷ []))) (record {
      begins = subst (Begins text m.done) (sym (append_assoc m.seen (c ∷ []) cs)) s.begins;
      state = walk-append S.Start m.seen (c ∷ []) ∙ ap (λ t. next_of t c) s.state ∙ e;
      alive = λ h. cc;
    })

  runs : (m : Machine) (cs : List ℕ) → Sound text m cs → Tells text (run m cs)
  runs m [] s = finishes m s (ended m.state m.seen) refl
  runs m (c ∷ cs) s = steps-to c cs (λ u v. runs u cs v) m s (next_of m.state c) refl

  pub tells : Tells text (cut_of text)
  tells = runs (machine [] S.Start []) text (record { begins = refl; state = refl; alive = λ h. cc })
