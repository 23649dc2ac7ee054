-- The scanner, over bytes and places, does what the machine does over characters.
use Rattle.std.proofs.Common.{◌≡◌, ℕ, suc, ◌+◌, ◌-◌, cond, ◌<◌, ◌≤◌, ◌||◌, ◌==◌, Bool, true, false, List, [], ◌∷◌, ◌++◌, length, take, drop, get_or, refl, sym, ap, subst, ◌∙◌, append_assoc, arith, Option, None, Some, eqb-true, slice_range}
use Rattle.std.specs.Str.{IsUtf8, encode_utf8_all, IsCharBoundary, chars}
use Rattle.std.specs.Char.{encode_utf8, len_utf8}
use Rattle.std.proofs.lemmas.List.{append-nil, length-append, length-take-le, take-append-drop, take_at, drop_at, get_or_at}
use Rattle.std.proofs.lemmas.Str.{IsUtf8-past_char, IsUtf8-drop, encodes-append, length-encode, length-le-encodes, IsCharBoundary-past_char, IsCharBoundary-before_ascii, chars_from_encodes}
use Rattle.atl_base.specs.declared.place.Place.{Place}
use Rattle.atl_tree.specs.declared.token.Token.{Token}
use Rattle.atl_tree.specs.declared.token.TokenSort.{TokenSort}
use Rattle.atl_tree.specs.declared.token.TokenSort.TheVariants as T
use Rattle.atl_tree.specs.declared.state.State.{State}
use Rattle.atl_tree.specs.declared.state.State.TheVariants as S
use Rattle.atl_tree.specs.declared.state.Stop.TheVariants.{Over, Bad, Open}
use Rattle.atl_tree.specs.declared.cursor.Cursor.{Cursor}
use Rattle.atl_tree.specs.declared.cursor.Move.{Move}
use Rattle.atl_tree.specs.declared.cursor.Move.TheVariants.{Goes, Stops}
use Rattle.atl_tree.specs.Pieces.{Piece, is_letter, is_digit, is_gap, is_single, is_escape, is_in_line, is_in_quotes, is_in_words}
use Rattle.atl_tree.specs.Cutting.{chars_of}
use Rattle.atl_tree.specs.Machine.{Machine, machine, piece, cut_of, run, step_to, closed, fresh, finished, after as after_step, begin_of, next_of, ended}
use Rattle.atl_tree.specs.Tokens.{place, past, after, token, token_of, tokens_from}
use Rattle.atl_tree.specs.Scanner.{slice_token, ended_at, Closes, IsReady, cursor, Moved, fresh_at, closed_at, going_at, step_at, scanned, scan_of}

-- ---- lists

pub after-append : (p : Place) (xs ys : List ℕ) → after p (xs ++ ys) ≡ after (after p xs) ys
after-append p [] ys = refl
after-append p (x ∷ xs) ys = after-append (past p x) xs ys

pub chars_of-append : (ps qs : List Piece) → chars_of (ps ++ qs) ≡ chars_of ps ++ chars_of qs
chars_of-append [] qs = refl
chars_of-append (p ∷ ps) qs = ap (λ l. p.chars ++ l) (chars_of-append ps qs) ∙ sym (append_assoc p.chars (chars_of ps) (chars_of qs))

size-append : (xs ys : List ℕ) → length (encode_utf8_all (xs ++ ys)) ≡ length (encode_utf8_all xs) + length (encode_utf8_all ys)
size-append xs ys = ap length (encodes-append xs ys) ∙ length-append (encode_utf8_all xs) (encode_utf8_all ys)

pub tokens_from-append : (at : ℕ) (p : Place) (ps qs : List Piece)
    → tokens_from at p (ps ++ qs) ≡ tokens_from at p ps ++ tokens_from (at + length (encode_utf8_all (chars_of ps))) (after p (chars_of ps)) qs
tokens_from-append at p [] qs = ap (λ n. tokens_from n p qs) (omega arith)
tokens_from-append at p (q ∷ ps) qs =
    let here = token_of q.sort (encode_utf8_all q.chars) at p in
    let on : ℕ = at + length (encode_utf8_all q.chars) in
    let rest = tokens_from on (after p q.chars) ps in
    let e : on + length (encode_utf8_all (chars_of ps)) ≡ at + length (encode_utf8_all (q.chars ++ chars_of ps)) = omega (arith, size-append q.chars (chars_of ps)) in
    ap (λ l. here ++ l) (tokens_from-append on (after p q.chars) ps qs)
    ∙ sym (append_assoc here rest (tokens_from (on + length (encode_utf8_all (chars_of ps))) (after (after p q.chars) (chars_of ps)) qs))
    ∙ ap (λ n. (here ++ rest) ++ tokens_from n (after (after p q.chars) (chars_of ps)) qs) e
    ∙ ap (λ z. (here ++ rest) ++ tokens_from (at + length (encode_utf8_all (q.chars ++ chars_of ps))) z qs) (sym (after-append p q.chars (chars_of ps)))

-- ---- places stay small

pub after-line : (p : Place) (cs : List ℕ) → (after p cs).line ≤ p.line + length cs
after-line p [] = omega arith
after-line p (c ∷ cs) = elim (c == 10) as (λ b. (after (cond b (place (p.line + 1) 1) (place p.line (p.column + 1))) cs).line ≤ p.line + suc (length cs))
    [ true ↦ omega (arith, after-line (place (p.line + 1) 1) cs) | false ↦ omega (arith, after-line (place p.line (p.column + 1)) cs) ]

pub after-column : (p : Place) (cs : List ℕ) → 0 < p.column → (0 < (after p cs).column) × ((after p cs).column ≤ p.column + length cs)
after-column p [] h = (h, omega arith)
after-column p (c ∷ cs) h = elim (c == 10) as (λ b. (0 < (after (cond b (place (p.line + 1) 1) (place p.line (p.column + 1))) cs).column) × ((after (cond b (place (p.line + 1) 1) (place p.line (p.column + 1))) cs).column ≤ p.column + suc (length cs))) [
  | true ↦ (let r = after-column (place (p.line + 1) 1) cs (omega arith) in (r.0, omega (arith, r.1)))
  | false ↦ (let r = after-column (place p.line (p.column + 1)) cs (omega arith) in (r.0, omega (arith, r.1)))
]

-- ---- what has been read of the open piece, as far as the tokens want to know it

abbrev pub Fits : State → List ℕ → Type 0
Fits S.Start w = w ≡ []
Fits S.Point w = (front : List ℕ) × (w ≡ front ++ (46 ∷ []))
Fits s w = Unit {0}

neither : {A : Type 0} (b : Bool) (x y z : A) → (x ≡ z → ⊥) → (y ≡ z → ⊥) → cond b x y ≡ z → ⊥
neither true x y z f g e = f e
neither false x y z f g e = g e

pub begin-point : (c : ℕ) → begin_of c ≡ S.Point → ⊥
unfolding begin_of
begin-point c = neither (is_letter c) S.Plain _ S.Point (λ e. cc) (neither (is_digit c) S.Number _ S.Point (λ e. cc) (neither (is_gap c) S.Gap _ S.Point (λ e. cc)
    (neither (is_single c) (S.Done T.Mark) _ S.Point (λ e. cc) (neither (c == 34) S.Quoted _ S.Point (λ e. cc) (neither (c == 39) S.Words _ S.Point (λ e. cc)
    (neither (c == 45) S.Minus _ S.Point (λ e. cc) (neither (c == 60) S.Less _ S.Point (λ e. cc) (neither (c == 62) S.Greater S.Dead S.Point (λ e. cc) (λ e. cc)))))))))

pub begin-start : (c : ℕ) → begin_of c ≡ S.Start → ⊥
unfolding begin_of
begin-start c = neither (is_letter c) S.Plain _ S.Start (λ e. cc) (neither (is_digit c) S.Number _ S.Start (λ e. cc) (neither (is_gap c) S.Gap _ S.Start (λ e. cc)
    (neither (is_single c) (S.Done T.Mark) _ S.Start (λ e. cc) (neither (c == 34) S.Quoted _ S.Start (λ e. cc) (neither (c == 39) S.Words _ S.Start (λ e. cc)
    (neither (c == 45) S.Minus _ S.Start (λ e. cc) (neither (c == 60) S.Less _ S.Start (λ e. cc) (neither (c == 62) S.Greater S.Dead S.Start (λ e. cc) (λ e. cc)))))))))

-- the point is the only way into its state
number-point : (b d : Bool) → cond b S.Number (cond d S.Point S.Dead) ≡ S.Point → d ≡ true
number-point true d e = cc
number-point false true e = refl
number-point false false e = cc

pub next-point : (s : State) (c : ℕ) → next_of s c ≡ S.Point → c ≡ 46
next-point S.Start c e = absurd (begin-point c e)
next-point S.Plain c e = absurd (neither (is_letter c || is_digit c) S.Plain S.Dead S.Point (λ h. cc) (λ h. cc) e)
next-point S.Number c e = eqb-true c 46 (number-point (is_digit c) (c == 46) e)
next-point S.Point c e = absurd (neither (is_digit c) S.Fraction S.Dead S.Point (λ h. cc) (λ h. cc) e)
next-point S.Fraction c e = absurd (neither (is_digit c) S.Fraction S.Dead S.Point (λ h. cc) (λ h. cc) e)
next-point S.Quoted c e = absurd (neither (is_in_quotes c) S.Quoted _ S.Point (λ h. cc) (neither (c == 34) (S.Done T.Quoted) S.Dead S.Point (λ h. cc) (λ h. cc)) e)
next-point S.Words c e = absurd (neither (is_in_words c) S.Words _ S.Point (λ h. cc) (neither (c == 39) (S.Done T.Words) _ S.Point (λ h. cc) (neither (c == 92) S.Escape S.Dead S.Point (λ h. cc) (λ h. cc))) e)
next-point S.Escape c e = absurd (neither (is_escape c) S.Words S.Dead S.Point (λ h. cc) (λ h. cc) e)
next-point S.Minus c e = absurd (neither (c == 45) S.Comment _ S.Point (λ h. cc) (neither (c == 62) (S.Done T.Mark) S.Dead S.Point (λ h. cc) (λ h. cc)) e)
next-point S.Less c e = absurd (neither (c == 45 || c == 61 || c == 62) (S.Done T.Mark) S.Dead S.Point (λ h. cc) (λ h. cc) e)
next-point S.Greater c e = absurd (neither (c == 61) (S.Done T.Mark) S.Dead S.Point (λ h. cc) (λ h. cc) e)
next-point S.Comment c e = absurd (neither (is_in_line c) S.Comment S.Dead S.Point (λ h. cc) (λ h. cc) e)
next-point S.Gap c e = absurd cc
next-point (S.Done s) c e = absurd cc
next-point S.Dead c e = absurd cc

pub next-start : (s : State) (c : ℕ) → next_of s c ≡ S.Start → ⊥
next-start S.Start c = begin-start c
next-start S.Plain c = neither (is_letter c || is_digit c) S.Plain S.Dead S.Start (λ h. cc) (λ h. cc)
next-start S.Number c = neither (is_digit c) S.Number _ S.Start (λ h. cc) (neither (c == 46) S.Point S.Dead S.Start (λ h. cc) (λ h. cc))
next-start S.Point c = neither (is_digit c) S.Fraction S.Dead S.Start (λ h. cc) (λ h. cc)
next-start S.Fraction c = neither (is_digit c) S.Fraction S.Dead S.Start (λ h. cc) (λ h. cc)
next-start S.Quoted c = neither (is_in_quotes c) S.Quoted _ S.Start (λ h. cc) (neither (c == 34) (S.Done T.Quoted) S.Dead S.Start (λ h. cc) (λ h. cc))
next-start S.Words c = neither (is_in_words c) S.Words _ S.Start (λ h. cc) (neither (c == 39) (S.Done T.Words) _ S.Start (λ h. cc) (neither (c == 92) S.Escape S.Dead S.Start (λ h. cc) (λ h. cc)))
next-start S.Escape c = neither (is_escape c) S.Words S.Dead S.Start (λ h. cc) (λ h. cc)
next-start S.Minus c = neither (c == 45) S.Comment _ S.Start (λ h. cc) (neither (c == 62) (S.Done T.Mark) S.Dead S.Start (λ h. cc) (λ h. cc))
next-start S.Less c = neither (c == 45 || c == 61 || c == 62) (S.Done T.Mark) S.Dead S.Start (λ h. cc) (λ h. cc)
next-start S.Greater c = neither (c == 61) (S.Done T.Mark) S.Dead S.Start (λ h. cc) (λ h. cc)
next-start S.Comment c = neither (is_in_line c) S.Comment S.Dead S.Start (λ h. cc) (λ h. cc)
next-start S.Gap c = λ e. cc
next-start (S.Done s) c = λ e. cc
next-start S.Dead c = λ e. cc

-- what the next state wants of what has been read: the seen ones and one more
pub Fits-next : (t : State) (w : List ℕ) (c : ℕ) → (t ≡ S.Start → ⊥) → (t ≡ S.Point → c ≡ 46) → Fits t (w ++ (c ∷ []))
Fits-next S.Start w c f g = absurd (f refl)
Fits-next S.Point w c f g = (w, ap (λ d. w ++ (d ∷ [])) (g refl))
Fits-next s w c f g = tt

-- the pieces of what has been read are all of it
all-of : (w : List ℕ) (ps qs : List Piece) → chars_of ps ≡ w → Some ps ≡ Some qs → chars_of qs ≡ w
all-of w ps qs h e = let same : ps ≡ qs = cc in ap chars_of (sym same) ∙ h

one-of : (o : Option TokenSort) (w : List ℕ) (qs : List Piece) → Some (piece o w ∷ []) ≡ Some qs → chars_of qs ≡ w
one-of o w qs e = all-of w (piece o w ∷ []) qs (append-nil w) e

pub take-front : (front : List ℕ) (c : ℕ) → take (length (front ++ (c ∷ [])) - 1) (front ++ (c ∷ [])) ≡ front
take-front front c = take_at front (c ∷ []) (length (front ++ (c ∷ [])) - 1) (omega (arith, length-append front (c ∷ [])))

pub ended-chars : (s : State) (w : List ℕ) (qs : List Piece) → Fits s w → ended s w ≡ Some qs → chars_of qs ≡ w
ended-chars S.Start w qs f e = all-of w [] qs (sym f) e
ended-chars S.Plain w qs f e = one-of _ w qs e
ended-chars S.Number w qs f e = one-of _ w qs e
ended-chars S.Point w qs f e =
    all-of w (piece (Some T.Number) (take (length w - 1) w) ∷ (piece (Some T.Mark) (46 ∷ []) ∷ [])) qs
    (ap (λ v. take (length v - 1) v ++ (46 ∷ [])) f.1 ∙ ap (λ v. v ++ (46 ∷ [])) (take-front f.0 46) ∙ sym f.1) e
ended-chars S.Fraction w qs f e = one-of _ w qs e
ended-chars S.Quoted w qs f e = absurd cc
ended-chars S.Words w qs f e = absurd cc
ended-chars S.Escape w qs f e = absurd cc
ended-chars S.Minus w qs f e = one-of _ w qs e
ended-chars S.Less w qs f e = one-of _ w qs e
ended-chars S.Greater w qs f e = one-of _ w qs e
ended-chars S.Comment w qs f e = one-of _ w qs e
ended-chars S.Gap w qs f e = one-of _ w qs e
ended-chars (S.Done s) w qs f e = one-of _ w qs e
ended-chars S.Dead w qs f e = absurd cc

-- ---- the tokens of the open piece

abbrev pub mapped : {A B : Type 0} → (A → B) → Option A → Option B
mapped f None = None
mapped f (Some x) = Some (f x)

-- the slice that has been read, and its end
pub slice_is : (text head w rest : List ℕ) (begin at : ℕ) → text ≡ head ++ (w ++ rest) → length head ≡ begin → at ≡ begin + length w → slice_range text begin at ≡ w
slice_is text head w rest begin at e h k =
    let d : drop begin text ≡ w ++ rest = ap (drop begin) e ∙ drop_at head (w ++ rest) begin h in
    let n : length w ≡ at - begin = omega arith in
    ap (take (at - begin)) d ∙ take_at w rest (at - begin) n

-- what the cursor says of the characters of the open piece, which follow the bytes of head
pub record Reads (text : List ℕ) (k : Cursor) (seen : List ℕ) : Type 0 where
  pub head : List ℕ
  pub rest : List ℕ
  pub bytes : text ≡ head ++ (encode_utf8_all seen ++ rest)
  pub begin : length head ≡ k.begin
  pub at : k.at ≡ k.begin + length (encode_utf8_all seen)
  pub place : k.place ≡ after k.start seen

abbrev pub opened : Cursor → List Piece → List Token
opened k qs = tokens_from k.begin k.start qs

whole : (text : List ℕ) (k : Cursor) (seen : List ℕ) (s : TokenSort) → Reads text k seen → slice_token s text k.begin k.at k.start ≡ token s (encode_utf8_all seen) k.begin (k.begin + length (encode_utf8_all seen)) k.start
whole text k seen s r =
    ap (λ t. token s t k.begin k.at k.start) (slice_is text r.head (encode_utf8_all seen) r.rest k.begin k.at r.bytes r.begin r.at)
    ∙ ap (λ n. token s (encode_utf8_all seen) k.begin n k.start) r.at

single : (text : List ℕ) (k : Cursor) (seen : List ℕ) (s : TokenSort) → Reads text k seen
    → Some (slice_token s text k.begin k.at k.start ∷ []) ≡ mapped (opened k) (Some (piece (Some s) seen ∷ []))
single text k seen s r = ap (λ t. Some (t ∷ [])) (whole text k seen s r)

-- a number and the point after it
pointed : (text : List ℕ) (k : Cursor) (front : List ℕ) → Reads text k (front ++ (46 ∷ []))
    → ended_at text k S.Point ≡ Some (opened k (piece (Some T.Number) front ∷ (piece (Some T.Mark) (46 ∷ []) ∷ [])))
unfolding encode_utf8
pointed text k front r =
    let spelt : encode_utf8_all (front ++ (46 ∷ [])) ≡ encode_utf8_all front ++ (46 ∷ []) = encodes-append front (46 ∷ []) in
    let size : length (encode_utf8_all (front ++ (46 ∷ []))) ≡ length (encode_utf8_all front) + 1 = ap length spelt ∙ length-append (encode_utf8_all front) (46 ∷ []) in
    let middle : k.at - 1 ≡ k.begin + length (encode_utf8_all front) = omega (arith, r.at, size) in
    let bytes : text ≡ r.head ++ (encode_utf8_all front ++ (46 ∷ r.rest)) = r.bytes ∙ ap (λ l. r.head ++ (l ++ r.rest)) spelt ∙ ap (λ l. r.head ++ l) (append_assoc (encode_utf8_all front) (46 ∷ []) r.rest) in
    let first : slice_range text k.begin (k.at - 1) ≡ encode_utf8_all front = slice_is text r.head (encode_utf8_all front) (46 ∷ r.rest) k.begin (k.at - 1) bytes r.begin middle in
    let second : slice_range text (k.at - 1) k.at ≡ 46 ∷ [] =
    slice_is text (r.head ++ encode_utf8_all front) (46 ∷ []) r.rest (k.at - 1) k.at (bytes ∙ sym (append_assoc r.head (encode_utf8_all front) (46 ∷ r.rest)))
    (length-append r.head (encode_utf8_all front) ∙ ap (λ n. n + length (encode_utf8_all front)) r.begin ∙ sym middle) (omega (arith, r.at, size, middle)) in
    let there : k.place ≡ past (after k.start front) 46 = r.place ∙ after-append k.start front (46 ∷ []) in
    let back : place k.place.line (k.place.column - 1) ≡ after k.start front =
    ap (λ p. place p.line (p.column - 1)) there ∙ ap (λ n. place (after k.start front).line n) (omega arith) in
    let ends : k.at ≡ k.begin + length (encode_utf8_all front) + 1 = omega (arith, r.at, size) in
    ap (λ t. Some (token T.Number t k.begin (k.at - 1) k.start ∷ (slice_token T.Mark text (k.at - 1) k.at (place k.place.line (k.place.column - 1)) ∷ []))) first
    ∙ ap (λ t. Some (token T.Number (encode_utf8_all front) k.begin (k.at - 1) k.start ∷ (token T.Mark t (k.at - 1) k.at (place k.place.line (k.place.column - 1)) ∷ []))) second
    ∙ ap (λ p. Some (token T.Number (encode_utf8_all front) k.begin (k.at - 1) k.start ∷ (token T.Mark (46 ∷ []) (k.at - 1) k.at p ∷ []))) back
    ∙ ap (λ n. Some (token T.Number (encode_utf8_all front) k.begin n k.start ∷ (token T.Mark (46 ∷ []) n k.at (after k.start front) ∷ []))) middle
    ∙ ap (λ n. Some (token T.Number (encode_utf8_all front) k.begin (k.begin + length (encode_utf8_all front)) k.start ∷ (token T.Mark (46 ∷ []) (k.begin + length (encode_utf8_all front)) n (after k.start front) ∷ []))) ends

pub ended-agrees : (text : List ℕ) (k : Cursor) (s : State) (seen : List ℕ) → Fits s seen → Reads text k seen → ended_at text k s ≡ mapped (opened k) (ended s seen)
ended-agrees text k S.Start seen f r = refl
ended-agrees text k S.Plain seen f r = single text k seen T.Plain r
ended-agrees text k S.Number seen f r = single text k seen T.Number r
ended-agrees text k S.Point seen f r =
    pointed text k f.0 (subst (λ w. Reads text k w) f.1 r)
    ∙ ap (λ w. Some (opened k (piece (Some T.Number) w ∷ (piece (Some T.Mark) (46 ∷ []) ∷ [])))) (sym (take-front f.0 46))
    ∙ ap (λ w. Some (opened k (piece (Some T.Number) (take (length w - 1) w) ∷ (piece (Some T.Mark) (46 ∷ []) ∷ [])))) (sym f.1)
ended-agrees text k S.Fraction seen f r = single text k seen T.Number r
ended-agrees text k S.Quoted seen f r = refl
ended-agrees text k S.Words seen f r = refl
ended-agrees text k S.Escape seen f r = refl
ended-agrees text k S.Minus seen f r = single text k seen T.Mark r
ended-agrees text k S.Less seen f r = single text k seen T.Mark r
ended-agrees text k S.Greater seen f r = single text k seen T.Mark r
ended-agrees text k S.Comment seen f r = refl
ended-agrees text k S.Gap seen f r = refl
ended-agrees text k (S.Done s) seen f r = single text k seen s r
ended-agrees text k S.Dead seen f r = refl

-- ---- the scanner and the machine

-- what the scanner has, before the bytes that are left, is what the machine has
pub record Agrees (text : List ℕ) (from : ℕ) (list : List Token) (k : Cursor) (rest : List ℕ) : Type 0 where
  pub done : List Piece
  pub seen : List ℕ
  pub head : List ℕ
  pub bytes : text ≡ head ++ (encode_utf8_all seen ++ rest)
  pub begin : length head ≡ k.begin
  pub before : k.begin ≡ from + length (encode_utf8_all (chars_of done))
  pub at : k.at ≡ k.begin + length (encode_utf8_all seen)
  pub start : k.start ≡ after (place 1 1) (chars_of done)
  pub stands : k.place ≡ after k.start seen
  pub list_is : list ≡ tokens_from from (place 1 1) done
  pub fits : Fits k.state seen
  pub begins : IsCharBoundary text k.begin
  pub ends : IsCharBoundary text k.at
  pub utf8 : IsUtf8 rest
  pub runs : (cs : List ℕ) → encode_utf8_all cs ≡ rest → run (machine done k.state seen) cs ≡ cut_of (chars (drop from text))

abbrev pub SimTo : List ℕ → ℕ → List ℕ → List Token → Move → Type 0
SimTo text from rest list (Goes k) = Agrees text from list k rest
SimTo text from rest list (Stops s p) = scanned list s p ≡ scan_of from (cut_of (chars (drop from text)))

-- a step leads on, or to what scanning the whole gives
abbrev pub Sim : List ℕ → ℕ → List ℕ → Moved → Type 0
Sim text from rest m = SimTo text from rest m.list m.to

pub reads : (text : List ℕ) (from : ℕ) (list : List Token) (k : Cursor) (rest : List ℕ) → (a : Agrees text from list k rest) → Reads text k a.seen
reads text from list k rest a = record { head = a.head; rest = rest; bytes = a.bytes; begin = a.begin; at = a.at; place = a.stands }

-- where the bytes that are left begin
pub rest-at : (text : List ℕ) (from : ℕ) (list : List Token) (k : Cursor) (rest : List ℕ) → (a : Agrees text from list k rest) → (k.at ≤ length text) × (drop k.at text ≡ rest)
rest-at text from list k rest a =
    let read : List ℕ = a.head ++ encode_utf8_all a.seen in
    let e : text ≡ read ++ rest = a.bytes ∙ sym (append_assoc a.head (encode_utf8_all a.seen) rest) in
    let n : length read ≡ k.at = length-append a.head (encode_utf8_all a.seen) ∙ ap (λ m. m + length (encode_utf8_all a.seen)) a.begin ∙ sym a.at in
    (omega (arith, n, ap length e, length-append read rest), ap (drop k.at) e ∙ drop_at read rest k.at n)

module _ (text : List ℕ) (from : ℕ) (list : List Token) (k : Cursor) (c : ℕ) (rest : List ℕ) (a : Agrees text from list k (encode_utf8 c ++ rest)) where
  there : (k.at ≤ length text) × (drop k.at text ≡ encode_utf8 c ++ rest)
  there = rest-at text from list k (encode_utf8 c ++ rest) a

  utf8-rest : IsUtf8 rest
  utf8-rest = IsUtf8-past_char (encode_utf8 c ++ rest) rest c a.utf8 refl

  ends-next : IsCharBoundary text (k.at + len_utf8 c)
  ends-next = IsCharBoundary-past_char text rest k.at c there.0 (subst IsUtf8 (sym there.1) a.utf8) there.1

  one-more : encode_utf8_all (a.seen ++ (c ∷ [])) ≡ encode_utf8_all a.seen ++ encode_utf8 c
  one-more = encodes-append a.seen (c ∷ []) ∙ ap (λ l. encode_utf8_all a.seen ++ l) (append-nil (encode_utf8 c))

  now : Machine
  now = machine a.done k.state a.seen

  -- what the machine does next, by the state that it comes to
  runs-to : (n : State) → next_of k.state c ≡ n → (cs : List ℕ) → encode_utf8_all cs ≡ rest → after_step (step_to (machine a.done k.state a.seen) c n) cs (λ u. run u cs) ≡ cut_of (chars (drop from text))
  runs-to n e cs h = subst (λ t. after_step (step_to (machine a.done k.state a.seen) c t) cs (λ u. run u cs) ≡ cut_of (chars (drop from text))) e (a.runs (c ∷ cs) (ap (λ l. encode_utf8 c ++ l) h))

  go : (n : State) → next_of k.state c ≡ n → ((cs : List ℕ) → after_step (step_to (machine a.done k.state a.seen) c n) cs (λ u. run u cs) ≡ run (machine a.done n (a.seen ++ (c ∷ []))) cs)
      → Agrees text from list (cursor n k.begin k.start (k.at + len_utf8 c) (past k.place c)) rest
  go n e alive = record {
    done = a.done;
    seen = a.seen ++ (c ∷ []);
    head = a.head;
    bytes = a.bytes ∙ ap (λ l. a.head ++ l) (sym (append_assoc (encode_utf8_all a.seen) (encode_utf8 c) rest) ∙ ap (λ l. l ++ rest) (sym one-more));
    begin = a.begin;
    before = a.before;
    at = omega (arith, a.at, ap length one-more, length-append (encode_utf8_all a.seen) (encode_utf8 c), length-encode c);
    start = a.start;
    stands = ap (λ p. past p c) a.stands ∙ sym (after-append k.start a.seen (c ∷ []));
    list_is = a.list_is;
    fits = Fits-next n a.seen c (λ h. next-start k.state c (e ∙ h)) (λ h. next-point k.state c (e ∙ h));
    begins = a.begins;
    ends = ends-next;
    utf8 = utf8-rest;
    runs = λ cs h. sym (alive cs) ∙ runs-to n e cs h;
  }

  -- the pieces of the open one are added
  module _ (qs : List Piece) (d : next_of k.state c ≡ S.Dead) (q : ended k.state a.seen ≡ Some qs) where
    chars-all : chars_of (a.done ++ qs) ≡ chars_of a.done ++ a.seen
    chars-all = chars_of-append a.done qs ∙ ap (λ l. chars_of a.done ++ l) (ended-chars k.state a.seen qs a.fits q)

    list-all : list ++ tokens_from k.begin k.start qs ≡ tokens_from from (place 1 1) (a.done ++ qs)
    list-all =
        ap (λ l. l ++ tokens_from k.begin k.start qs) a.list_is
        ∙ ap (λ n. tokens_from from (place 1 1) a.done ++ tokens_from n k.start qs) a.before
        ∙ ap (λ p. tokens_from from (place 1 1) a.done ++ tokens_from (from + length (encode_utf8_all (chars_of a.done))) p qs) a.start
        ∙ sym (tokens_from-append from (place 1 1) a.done qs)

    place-all : k.place ≡ after (place 1 1) (chars_of (a.done ++ qs))
    place-all = a.stands ∙ ap (λ p. after p a.seen) a.start ∙ sym (after-append (place 1 1) (chars_of a.done) a.seen) ∙ ap (after (place 1 1)) (sym chars-all)

    at-all : k.at ≡ from + length (encode_utf8_all (chars_of (a.done ++ qs)))
    at-all = omega (arith, a.at, a.before, size-append (chars_of a.done) a.seen, ap (λ l. length (encode_utf8_all l)) chars-all)

    runs-fresh : (n : State) → begin_of c ≡ n → (cs : List ℕ) → encode_utf8_all cs ≡ rest → after_step (fresh (a.done ++ qs) c n) cs (λ u. run u cs) ≡ cut_of (chars (drop from text))
    runs-fresh n e cs h =
        subst (λ t. after_step (fresh (a.done ++ qs) c t) cs (λ u. run u cs) ≡ cut_of (chars (drop from text))) e
        (subst (λ o. after_step (closed a.done c o) cs (λ u. run u cs) ≡ cut_of (chars (drop from text))) q (runs-to S.Dead d cs h))

    begun : (n : State) → begin_of c ≡ n → ((cs : List ℕ) → after_step (fresh (a.done ++ qs) c n) cs (λ u. run u cs) ≡ run (machine (a.done ++ qs) n (c ∷ [])) cs)
        → Agrees text from (list ++ tokens_from k.begin k.start qs) (cursor n k.at k.place (k.at + len_utf8 c) (past k.place c)) rest
    begun n e alive = record {
      done = a.done ++ qs;
      seen = c ∷ [];
      head = a.head ++ encode_utf8_all a.seen;
      bytes = a.bytes ∙ sym (append_assoc a.head (encode_utf8_all a.seen) (encode_utf8 c ++ rest)) ∙ ap (λ l. (a.head ++ encode_utf8_all a.seen) ++ (l ++ rest)) (sym (append-nil (encode_utf8 c)));
      begin = length-append a.head (encode_utf8_all a.seen) ∙ ap (λ m. m + length (encode_utf8_all a.seen)) a.begin ∙ sym a.at;
      before = at-all;
      at = ap (λ l. k.at + l) (sym (length-encode c) ∙ ap length (sym (append-nil (encode_utf8 c))));
      start = place-all;
      stands = refl;
      list_is = list-all;
      fits = Fits-next n [] c (λ h. begin-start c (e ∙ h)) (λ h. absurd (begin-point c (e ∙ h)));
      begins = a.ends;
      ends = ends-next;
      utf8 = utf8-rest;
      runs = λ cs h. sym (alive cs) ∙ runs-fresh n e cs h;
    }

    sim-fresh : (n : State) → begin_of c ≡ n → SimTo text from rest (list ++ tokens_from k.begin k.start qs) (fresh_at k c n)
    sim-fresh S.Dead e =
        ap (λ l. scanned l Bad k.place) list-all ∙ ap (λ p. scanned (tokens_from from (place 1 1) (a.done ++ qs)) Bad p) place-all
        ∙ ap (scan_of from) (runs-fresh S.Dead e utf8-rest.0 utf8-rest.1.1)
    sim-fresh n e = begun n e (λ cs. refl)

  sim-closed : (o : Option (List Piece)) → next_of k.state c ≡ S.Dead → ended k.state a.seen ≡ o → Sim text from rest (closed_at list k c (mapped (opened k) o))
  sim-closed None d q =
      ap (λ l. scanned l Open k.start) a.list_is ∙ ap (λ p. scanned (tokens_from from (place 1 1) a.done) Open p) a.start
      ∙ ap (scan_of from) (subst (λ o. after_step (closed a.done c o) utf8-rest.0 (λ u. run u utf8-rest.0) ≡ cut_of (chars (drop from text))) q (runs-to S.Dead d utf8-rest.0 utf8-rest.1.1))
  sim-closed (Some qs) d q = sim-fresh qs d q (begin_of c) refl

  sim-to : (n : State) → next_of k.state c ≡ n → Sim text from rest (going_at text list k c n)
  sim-to S.Dead e =
      subst (λ o. Sim text from rest (closed_at list k c o)) (sym (ended-agrees text k k.state a.seen a.fits (reads text from list k (encode_utf8 c ++ rest) a)))
      (sim-closed (ended k.state a.seen) e refl)
  sim-to n e = go n e (λ cs. refl)

  pub simulates : Sim text from rest (step_at text list k c)
  simulates = sim-to (next_of k.state c) refl

-- ---- what the scanner's loop needs

pub ready : (text : List ℕ) (from : ℕ) (list : List Token) (k : Cursor) (rest : List ℕ) → Agrees text from list k rest → IsReady text k
unfolding encode_utf8
ready text from list k rest a = record {
  order = omega (arith, a.at);
  begins = a.begins;
  ends = a.ends;
  point = λ h. pointed-ready (subst (λ s. Fits s a.seen) h a.fits);
}
  where
    pointed-ready : (front : List ℕ) × (a.seen ≡ front ++ (46 ∷ [])) → (k.begin < k.at) × IsCharBoundary text (k.at - 1) × (0 < k.place.column)
    pointed-ready f =
        let spelt : encode_utf8_all a.seen ≡ encode_utf8_all f.0 ++ (46 ∷ []) = ap encode_utf8_all f.1 ∙ encodes-append f.0 (46 ∷ []) in
        let size : length (encode_utf8_all a.seen) ≡ length (encode_utf8_all f.0) + 1 = ap length spelt ∙ length-append (encode_utf8_all f.0) (46 ∷ []) in
        let front : List ℕ = a.head ++ encode_utf8_all f.0 in
        let bytes : text ≡ front ++ (46 ∷ rest) =
        a.bytes ∙ ap (λ l. a.head ++ (l ++ rest)) spelt ∙ ap (λ l. a.head ++ l) (append_assoc (encode_utf8_all f.0) (46 ∷ []) rest) ∙ sym (append_assoc a.head (encode_utf8_all f.0) (46 ∷ rest)) in
        let spot : length front ≡ k.at - 1 = omega (arith, length-append a.head (encode_utf8_all f.0), a.begin, a.at, size) in
        let within : k.at - 1 < length text = omega (arith, ap length bytes, length-append front (46 ∷ rest), spot) in
        let byte : get_or text (k.at - 1) 0 ≡ 46 = ap (λ t. get_or t (k.at - 1) 0) bytes ∙ get_or_at front 46 rest 0 (k.at - 1) spot in (
          omega (arith, a.at, size),
          IsCharBoundary-before_ascii text (k.at - 1) within (omega (arith, byte)),
          subst (λ p. 0 < p.column) (sym (a.stands ∙ ap (λ p. after p a.seen) a.start))
              (after-column (after (place 1 1) (chars_of a.done)) a.seen (after-column (place 1 1) (chars_of a.done) (omega arith)).0).0,
        )

pub begins-scan : (text : List ℕ) (from : ℕ) → IsUtf8 text → IsCharBoundary text from → Agrees text from [] (cursor S.Start from (place 1 1) from (place 1 1)) (drop from text)
begins-scan text from u b = record {
  done = [];
  seen = [];
  head = take from text;
  bytes = sym (take-append-drop from text);
  begin = length-take-le from text b.0;
  before = omega arith;
  at = omega arith;
  start = refl;
  stands = refl;
  list_is = refl;
  fits = refl;
  begins = b;
  ends = b;
  utf8 = IsUtf8-drop text from u b;
  runs = λ cs h. ap cut_of (chars_from_encodes cs (drop from text) (IsUtf8-drop text from u b) h);
}

pub ends-scan : (text : List ℕ) (from : ℕ) (list new : List Token) (k : Cursor) (ends : Bool) → Agrees text from list k [] → Closes list new ends (ended_at text k k.state)
    → scanned new (cond ends Over Open) (cond ends k.place k.start) ≡ scan_of from (cut_of (chars (drop from text)))
ends-scan text from list new k ends a h = ends-with ends (ended k.state a.seen) refl (subst (Closes list new ends) (ended-agrees text k k.state a.seen a.fits (reads text from list k [] a)) h)
  where
    whole-run : (o : Option (List Piece)) → ended k.state a.seen ≡ o → finished a.done o ≡ cut_of (chars (drop from text))
    whole-run o e = subst (λ t. finished a.done t ≡ cut_of (chars (drop from text))) e (a.runs [] refl)

    ends-with : (ends : Bool) (o : Option (List Piece)) → ended k.state a.seen ≡ o → Closes list new ends (mapped (opened k) o)
        → scanned new (cond ends Over Open) (cond ends k.place k.start) ≡ scan_of from (cut_of (chars (drop from text)))
    ends-with true None q h = absurd (let e : None ≡ Some h.0 = h.1 in cc)
    ends-with false None q h =
        ap (λ l. scanned l Open k.start) (h.1 ∙ a.list_is) ∙ ap (λ p. scanned (tokens_from from (place 1 1) a.done) Open p) a.start ∙ ap (scan_of from) (whole-run None q)
    ends-with true (Some qs) q h =
        let same : opened k qs ≡ h.0 = let e : Some (opened k qs) ≡ Some h.0 = h.1 in cc in
        let all : chars_of (a.done ++ qs) ≡ chars_of a.done ++ a.seen = chars_of-append a.done qs ∙ ap (λ l. chars_of a.done ++ l) (ended-chars k.state a.seen qs a.fits q) in
        let lists : new ≡ tokens_from from (place 1 1) (a.done ++ qs) =
        h.2 ∙ ap (λ l. list ++ l) (sym same) ∙ ap (λ l. l ++ tokens_from k.begin k.start qs) a.list_is
        ∙ ap (λ n. tokens_from from (place 1 1) a.done ++ tokens_from n k.start qs) a.before
        ∙ ap (λ p. tokens_from from (place 1 1) a.done ++ tokens_from (from + length (encode_utf8_all (chars_of a.done))) p qs) a.start
        ∙ sym (tokens_from-append from (place 1 1) a.done qs) in
        let end : k.place ≡ after (place 1 1) (chars_of (a.done ++ qs)) =
        a.stands ∙ ap (λ p. after p a.seen) a.start ∙ sym (after-append (place 1 1) (chars_of a.done) a.seen) ∙ ap (after (place 1 1)) (sym all) in
        ap (λ l. scanned l Over k.place) lists ∙ ap (λ p. scanned (tokens_from from (place 1 1) (a.done ++ qs)) Over p) end ∙ ap (scan_of from) (whole-run (Some qs) q)
    ends-with false (Some qs) q h = absurd (let e : Some (opened k qs) ≡ None = h.0 in cc)

-- the cursor stands within the text, and its place is no further than the characters before it
pub small : (text : List ℕ) (from : ℕ) (list : List Token) (k : Cursor) (rest : List ℕ) → Agrees text from list k rest
    → (k.at + length rest ≡ length text) × (k.place.line + length rest ≤ length text + 1) × (k.place.column + length rest ≤ length text + 1)
small text from list k rest a =
    let read : List ℕ = a.head ++ encode_utf8_all a.seen in
    let n : length read ≡ k.at = length-append a.head (encode_utf8_all a.seen) ∙ ap (λ m. m + length (encode_utf8_all a.seen)) a.begin ∙ sym a.at in
    let size : k.at + length rest ≡ length text = ap (λ m. m + length rest) (sym n) ∙ sym (length-append read rest) ∙ ap length (append_assoc a.head (encode_utf8_all a.seen) rest ∙ sym a.bytes) in
    let all : k.place ≡ after (after (place 1 1) (chars_of a.done)) a.seen = a.stands ∙ ap (λ p. after p a.seen) a.start in
    let l1 = after-line (place 1 1) (chars_of a.done) in
    let l2 = after-line (after (place 1 1) (chars_of a.done)) a.seen in
    let c1 = after-column (place 1 1) (chars_of a.done) (omega arith) in
    let c2 = after-column (after (place 1 1) (chars_of a.done)) a.seen c1.0 in (
      size,
      omega (arith, size, ap (λ p. p.line) all, l1, l2, length-le-encodes (chars_of a.done), length-le-encodes a.seen, a.at, a.before),
      omega (arith, size, ap (λ p. p.column) all, c1.1, c2.1, length-le-encodes (chars_of a.done), length-le-encodes a.seen, a.at, a.before),
    )
