-- The states that characters lead to, and the forms of the pieces: each form leads to its state, and each state tells its form.
use Rattle.std.proofs.Common.{◌≡◌, ℕ, cond, ◌||◌, ◌&&◌, ◌==◌, Bool, true, false, List, [], ◌∷◌, ◌++◌, refl, inl, inr, sym, ap, subst, ◌∙◌, append_assoc, arith, Option, None, Some, eqb-true}
use Rattle.std.specs.List.{list_all, flat_map}
use Rattle.std.proofs.lemmas.Bool.{and_parts, and_from, or_cases}
use Rattle.std.proofs.lemmas.Bool.Decides.{nat_tests}
use Rattle.std.proofs.lemmas.List.{append-nil}
use Rattle.std.proofs.lemmas.List.Folds.{list_all-append}
use Rattle.std.proofs.lemmas.Grind.{flat_map-append}
use Rattle.atl_tree.specs.declared.token.TokenSort.{TokenSort}
use Rattle.atl_tree.specs.declared.token.TokenSort.TheVariants as T
use Rattle.atl_tree.specs.declared.state.State.{State}
use Rattle.atl_tree.specs.declared.state.State.TheVariants as S
use Rattle.atl_tree.specs.Pieces.{is_letter, is_digit, is_gap, is_single, is_escape, is_in_line, is_in_quotes, is_in_words, IsPlain, IsDigits, IsNumber, IsQuoted, Sign, Itself, Escaped, is_sign, spelling, IsWords, IsMark, IsToken, IsGap, IsPieceOf}
use Rattle.atl_tree.specs.Machine.{begin_of, next_of}

abbrev pub walk : State → List ℕ → State
walk s [] = s
walk s (c ∷ cs) = walk (next_of s c) cs

-- the sort of the piece that has been read in a state, where it is one
abbrev pub kind_of : State → Option (Option TokenSort)
kind_of S.Start = None
kind_of S.Plain = Some (Some T.Plain)
kind_of S.Number = Some (Some T.Number)
kind_of S.Point = None
kind_of S.Fraction = Some (Some T.Number)
kind_of S.Quoted = None
kind_of S.Words = None
kind_of S.Escape = None
kind_of S.Minus = Some (Some T.Mark)
kind_of S.Less = Some (Some T.Mark)
kind_of S.Greater = Some (Some T.Mark)
kind_of S.Comment = Some None
kind_of S.Gap = Some None
kind_of (S.Done s) = Some (Some s)
kind_of S.Dead = None

pub walk-append : (s : State) (u v : List ℕ) → walk s (u ++ v) ≡ walk (walk s u) v
walk-append s [] v = refl
walk-append s (c ∷ u) v = walk-append (next_of s c) u v

pub walk-dead : (u : List ℕ) → walk S.Dead u ≡ S.Dead
walk-dead [] = refl
walk-dead (c ∷ u) = walk-dead u

-- ---- each form leads to its state

yes : {A : Type 0} (b : Bool) (x y : A) → b ≡ true → cond b x y ≡ x
yes b x y h = ap (λ d. cond d x y) h

no : {A : Type 0} (b : Bool) (x y : A) → b ≡ false → cond b x y ≡ y
no b x y h = ap (λ d. cond d x y) h

walk-all : (s : State) (test : ℕ → Bool) (cs : List ℕ) → ((c : ℕ) → test c ≡ true → next_of s c ≡ s) → list_all test cs ≡ true → walk s cs ≡ s
walk-all s test [] f h = refl
walk-all s test (c ∷ cs) f h =
    let parts = and_parts (test c) (list_all test cs) h in
    ap (λ t. walk t cs) (f c parts.0) ∙ walk-all s test cs f parts.1

digit-no-letter : (c : ℕ) → is_digit c ≡ true → is_letter c ≡ false
unfolding is_digit is_letter
digit-no-letter c h = grind (arith, nat_tests)

begin-letter : (c : ℕ) → is_letter c ≡ true → begin_of c ≡ S.Plain
unfolding begin_of
begin-letter c h = yes (is_letter c) S.Plain _ h

begin-digit : (c : ℕ) → is_digit c ≡ true → begin_of c ≡ S.Number
unfolding begin_of
begin-digit c h = no (is_letter c) S.Plain _ (digit-no-letter c h) ∙ yes (is_digit c) S.Number _ h

leads-plain : (w : List ℕ) → IsPlain w → walk S.Start w ≡ S.Plain
leads-plain [] h = absurd h
leads-plain (c ∷ cs) h =
    ap (λ s. walk s cs) (begin-letter c h.0) ∙ walk-all S.Plain (λ d. is_letter d || is_digit d) cs (λ d g. yes (is_letter d || is_digit d) S.Plain S.Dead g) h.1

pub leads-digits : (w : List ℕ) → IsDigits w → walk S.Start w ≡ S.Number
leads-digits [] h = absurd h
leads-digits (c ∷ cs) h =
    ap (λ s. walk s cs) (begin-digit c h.0) ∙ walk-all S.Number is_digit cs (λ d g. yes (is_digit d) S.Number _ g) h.1

leads-fraction : (w : List ℕ) → IsDigits w → walk S.Point w ≡ S.Fraction
leads-fraction [] h = absurd h
leads-fraction (c ∷ cs) h =
    ap (λ s. walk s cs) (yes (is_digit c) S.Fraction S.Dead h.0) ∙ walk-all S.Fraction is_digit cs (λ d g. yes (is_digit d) S.Fraction S.Dead g) h.1

pub number-point : next_of S.Number 46 ≡ S.Point
unfolding is_digit
number-point = refl

leads-number : (w : List ℕ) → IsNumber w → kind_of (walk S.Start w) ≡ Some (Some T.Number)
leads-number w (inl h) = ap kind_of (leads-digits w h)
leads-number w (inr h) =
    ap (λ v. kind_of (walk S.Start v)) h.4 ∙ ap kind_of (walk-append S.Start h.0 (46 ∷ h.1)) ∙ ap (λ s. kind_of (walk (next_of s 46) h.1)) (leads-digits h.0 h.2)
    ∙ ap (λ s. kind_of (walk s h.1)) number-point ∙ ap kind_of (leads-fraction h.1 h.3)

begin-quote : begin_of 34 ≡ S.Quoted
unfolding begin_of is_letter is_digit is_gap is_single
begin-quote = refl

end-quote : next_of S.Quoted 34 ≡ S.Done T.Quoted
unfolding is_in_quotes
end-quote = refl

leads-quoted : (w : List ℕ) → IsQuoted w → walk S.Start w ≡ S.Done T.Quoted
leads-quoted w h =
    ap (walk S.Start) h.2 ∙ ap (λ s. walk s (h.0 ++ (34 ∷ []))) begin-quote ∙ walk-append S.Quoted h.0 (34 ∷ [])
    ∙ ap (λ s. next_of s 34) (walk-all S.Quoted is_in_quotes h.0 (λ d g. yes (is_in_quotes d) S.Quoted _ g) h.1) ∙ end-quote

begin-words : begin_of 39 ≡ S.Words
unfolding begin_of is_letter is_digit is_gap is_single
begin-words = refl

end-words : next_of S.Words 39 ≡ S.Done T.Words
unfolding is_in_words
end-words = refl

escape-words : next_of S.Words 92 ≡ S.Escape
unfolding is_in_words
escape-words = refl

leads-sign : (g : Sign) → is_sign g ≡ true → walk S.Words (spelling g) ≡ S.Words
leads-sign (Itself c) h = yes (is_in_words c) S.Words _ h
leads-sign (Escaped c) h = ap (λ s. next_of s c) escape-words ∙ yes (is_escape c) S.Words S.Dead h

leads-signs : (gs : List Sign) → list_all is_sign gs ≡ true → walk S.Words (flat_map spelling gs) ≡ S.Words
leads-signs [] h = refl
leads-signs (g ∷ gs) h =
    let parts = and_parts (is_sign g) (list_all is_sign gs) h in
    walk-append S.Words (spelling g) (flat_map spelling gs) ∙ ap (λ s. walk s (flat_map spelling gs)) (leads-sign g parts.0) ∙ leads-signs gs parts.1

leads-words : (w : List ℕ) → IsWords w → walk S.Start w ≡ S.Done T.Words
leads-words w h =
    ap (walk S.Start) h.2 ∙ ap (λ s. walk s (flat_map spelling h.0 ++ (39 ∷ []))) begin-words ∙ walk-append S.Words (flat_map spelling h.0) (39 ∷ [])
    ∙ ap (λ s. next_of s 39) (leads-signs h.0 h.1) ∙ end-words

-- the last of several characters that a test names, or one of the others
named : (P : ℕ → Type 0) (b : Bool) (c n : ℕ) → (b ≡ true → P c) → P n → (b || c == n) ≡ true → P c
named P b c n f p h = elim (or_cases b (c == n) h) [ inl g ↦ f g | inr g ↦ subst P (sym (eqb-true c n g)) p ]

only : (P : ℕ → Type 0) (c n : ℕ) → P n → (c == n) ≡ true → P c
only P c n p h = subst P (sym (eqb-true c n h)) p

begin-single : (c : ℕ) → is_single c ≡ true → begin_of c ≡ S.Done T.Mark
unfolding begin_of is_letter is_digit is_gap is_single
begin-single c =
    let P : ℕ → Type 0 = λ n. begin_of n ≡ S.Done T.Mark in
    named P _ c 47 (named P _ c 35 (named P _ c 124 (named P _ c 46 (named P _ c 42 (named P _ c 43 (named P _ c 61 (named P _ c 33 (named P _ c 125 (named P _ c 123
    (named P _ c 41 (named P _ c 40 (named P _ c 44 (named P _ c 58 (only P c 59 refl) refl) refl) refl) refl) refl) refl) refl) refl) refl) refl) refl) refl) refl) refl

-- the point
pub begin-dot : begin_of 46 ≡ S.Done T.Mark
unfolding begin_of is_letter is_digit is_gap is_single
begin-dot = refl

pub minus-mark : IsMark (45 ∷ [])
unfolding is_single
minus-mark = refl

pub less-mark : IsMark (60 ∷ [])
unfolding is_single
less-mark = refl

pub greater-mark : IsMark (62 ∷ [])
unfolding is_single
greater-mark = refl

pub dot-mark : IsMark (46 ∷ [])
unfolding is_single
dot-mark = refl

begin-gap : (c : ℕ) → is_gap c ≡ true → begin_of c ≡ S.Gap
unfolding begin_of is_letter is_digit is_gap
begin-gap c =
    let P : ℕ → Type 0 = λ n. begin_of n ≡ S.Gap in
    named P _ c 13 (named P _ c 10 (named P _ c 9 (only P c 32 refl) refl) refl) refl

begin-minus : begin_of 45 ≡ S.Minus
unfolding begin_of is_letter is_digit is_gap is_single
begin-minus = refl

begin-less : begin_of 60 ≡ S.Less
unfolding begin_of is_letter is_digit is_gap is_single
begin-less = refl

begin-greater : begin_of 62 ≡ S.Greater
unfolding begin_of is_letter is_digit is_gap is_single
begin-greater = refl

abbrev IsMarkState : State → Type 0
IsMarkState s = kind_of s ≡ Some (Some T.Mark)

leads-two : (c d : ℕ) → IsMark (c ∷ d ∷ []) → IsMarkState (next_of (begin_of c) d)
leads-two c d h =
    let P : ℕ → Type 0 = λ n. IsMarkState (next_of (begin_of n) d) in
    elim (or_cases _ (c == 62 && d == 61) h) as (λ _. IsMarkState (next_of (begin_of c) d)) [
      | inr g ↦ (let parts = and_parts (c == 62) (d == 61) g in
          only P c 62 (ap (λ s. kind_of (next_of s d)) begin-greater ∙ only (λ n. IsMarkState (next_of S.Greater n)) d 61 refl parts.1) parts.0)
      | inl g ↦ elim (or_cases (c == 45 && d == 62) (c == 60 && (d == 45 || d == 61 || d == 62)) g) as (λ _. IsMarkState (next_of (begin_of c) d)) [
        | inl k ↦ (let parts = and_parts (c == 45) (d == 62) k in
            only P c 45 (ap (λ s. kind_of (next_of s d)) begin-minus ∙ only (λ n. IsMarkState (next_of S.Minus n)) d 62 refl parts.1) parts.0)
        | inr k ↦ (let parts = and_parts (c == 60) (d == 45 || d == 61 || d == 62) k in
            only P c 60 (ap (λ s. kind_of (next_of s d)) begin-less ∙ named (λ n. IsMarkState (next_of S.Less n)) _ d 62 (named (λ n. IsMarkState (next_of S.Less n)) _ d 61 (only (λ n. IsMarkState (next_of S.Less n)) d 45 refl) refl) refl parts.1) parts.0)
      ]
    ]

leads-mark : (w : List ℕ) → IsMark w → IsMarkState (walk S.Start w)
leads-mark [] h = absurd h
leads-mark (c ∷ []) h =
    let P : ℕ → Type 0 = λ n. IsMarkState (begin_of n) in
    named P _ c 62 (named P _ c 60 (named P _ c 45 (λ g. ap kind_of (begin-single c g)) (ap kind_of begin-minus)) (ap kind_of begin-less)) (ap kind_of begin-greater) h
leads-mark (c ∷ d ∷ []) h = leads-two c d h
leads-mark (c ∷ d ∷ e ∷ more) h = absurd h

leads-gap : (w : List ℕ) → IsGap w → kind_of (walk S.Start w) ≡ Some None
leads-gap w (inl h) = ap (λ v. kind_of (walk S.Start v)) h.2 ∙ ap kind_of (begin-gap h.0 h.1)
leads-gap w (inr h) =
    ap (λ v. kind_of (walk S.Start v)) h.2 ∙ ap (λ s. kind_of (walk (next_of s 45) h.0)) begin-minus
    ∙ ap kind_of (walk-all S.Comment is_in_line h.0 (λ d g. yes (is_in_line d) S.Comment S.Dead g) h.1)

-- a piece leads to a state that has its sort
pub accepts : (s : Option TokenSort) (w : List ℕ) → IsPieceOf s w → kind_of (walk S.Start w) ≡ Some s
accepts None w h = leads-gap w h
accepts (Some T.Plain) w h = ap kind_of (leads-plain w h)
accepts (Some T.Quoted) w h = ap kind_of (leads-quoted w h)
accepts (Some T.Words) w h = ap kind_of (leads-words w h)
accepts (Some T.Number) w h = leads-number w h
accepts (Some T.Mark) w h = leads-mark w h

-- ---- each state tells its form

abbrev pub Shape : State → List ℕ → Type 0
Shape S.Start w = w ≡ []
Shape S.Plain w = IsPlain w
Shape S.Number w = IsDigits w
Shape S.Point w = (front : List ℕ) × IsDigits front × (w ≡ front ++ (46 ∷ []))
Shape S.Fraction w = (a : List ℕ) × (b : List ℕ) × IsDigits a × IsDigits b × (w ≡ a ++ (46 ∷ b))
Shape S.Quoted w = (name : List ℕ) × (list_all is_in_quotes name ≡ true) × (w ≡ 34 ∷ name)
Shape S.Words w = (signs : List Sign) × (list_all is_sign signs ≡ true) × (w ≡ 39 ∷ flat_map spelling signs)
Shape S.Escape w = (signs : List Sign) × (list_all is_sign signs ≡ true) × (w ≡ 39 ∷ (flat_map spelling signs ++ (92 ∷ [])))
Shape S.Minus w = w ≡ 45 ∷ []
Shape S.Less w = w ≡ 60 ∷ []
Shape S.Greater w = w ≡ 62 ∷ []
Shape S.Comment w = (line : List ℕ) × (list_all is_in_line line ≡ true) × (w ≡ 45 ∷ (45 ∷ line))
Shape S.Gap w = (c : ℕ) × (is_gap c ≡ true) × (w ≡ c ∷ [])
Shape (S.Done s) w = IsToken s w
Shape S.Dead w = Unit {0}

-- a property of a choice, by the test
chosen : {A : Type 0} (P : A → Type 0) (b : Bool) (x y : A) → (b ≡ true → P x) → (b ≡ false → P y) → P (cond b x y)
chosen P true x y f g = f refl
chosen P false x y f g = g refl

all-more : {X : Type 0} (test : X → Bool) (xs : List X) (x : X) → list_all test xs ≡ true → test x ≡ true → list_all test (xs ++ (x ∷ [])) ≡ true
all-more test xs x h g = list_all-append test xs (x ∷ []) ∙ and_from (list_all test xs) (test x && true) h (and_from (test x) true g refl)

plain-more : (w : List ℕ) (c : ℕ) → IsPlain w → (is_letter c || is_digit c) ≡ true → IsPlain (w ++ (c ∷ []))
plain-more [] c h g = absurd h
plain-more (d ∷ ds) c h g = (h.0, all-more (λ e. is_letter e || is_digit e) ds c h.1 g)

digits-more : (w : List ℕ) (c : ℕ) → IsDigits w → is_digit c ≡ true → IsDigits (w ++ (c ∷ []))
digits-more [] c h g = absurd h
digits-more (d ∷ ds) c h g = (h.0, all-more is_digit ds c h.1 g)

single-mark : (c : ℕ) → is_single c ≡ true → IsMark (c ∷ [])
single-mark c h = ap (λ b. b || c == 45 || c == 60 || c == 62) h

shape-begin : (c : ℕ) → Shape (begin_of c) (c ∷ [])
unfolding begin_of
shape-begin c =
    let P : State → Type 0 = λ s. Shape s (c ∷ []) in
    chosen P (is_letter c) S.Plain _ (λ h. (h, refl)) (λ _. chosen P (is_digit c) S.Number _ (λ h. (h, refl)) (λ _. chosen P (is_gap c) S.Gap _ (λ h. (c, h, refl))
    (λ _. chosen P (is_single c) (S.Done T.Mark) _ (λ h. single-mark c h)
    (λ _. chosen P (c == 34) S.Quoted _ (λ h. ([], refl, ap (λ d. d ∷ []) (eqb-true c 34 h)))
    (λ _. chosen P (c == 39) S.Words _ (λ h. ([], refl, ap (λ d. d ∷ []) (eqb-true c 39 h)))
    (λ _. chosen P (c == 45) S.Minus _ (λ h. ap (λ d. d ∷ []) (eqb-true c 45 h))
    (λ _. chosen P (c == 60) S.Less _ (λ h. ap (λ d. d ∷ []) (eqb-true c 60 h))
    (λ _. chosen P (c == 62) S.Greater S.Dead (λ h. ap (λ d. d ∷ []) (eqb-true c 62 h)) (λ _. tt)))))))))

shape-plain : (w : List ℕ) (c : ℕ) → IsPlain w → Shape (next_of S.Plain c) (w ++ (c ∷ []))
shape-plain w c h = chosen (λ s. Shape s (w ++ (c ∷ []))) (is_letter c || is_digit c) S.Plain S.Dead (λ g. plain-more w c h g) (λ _. tt)

shape-number : (w : List ℕ) (c : ℕ) → IsDigits w → Shape (next_of S.Number c) (w ++ (c ∷ []))
shape-number w c h = let P : State → Type 0 = λ s. Shape s (w ++ (c ∷ [])) in
    chosen P (is_digit c) S.Number _ (λ g. digits-more w c h g) (λ _. chosen P (c == 46) S.Point S.Dead (λ g. (w, h, ap (λ d. w ++ (d ∷ [])) (eqb-true c 46 g))) (λ _. tt))

shape-point : (w : List ℕ) (c : ℕ) → Shape S.Point w → Shape (next_of S.Point c) (w ++ (c ∷ []))
shape-point w c h = chosen (λ s. Shape s (w ++ (c ∷ []))) (is_digit c) S.Fraction S.Dead
    (λ g. (h.0, c ∷ [], h.1, (g, refl), ap (λ v. v ++ (c ∷ [])) h.2 ∙ append_assoc h.0 (46 ∷ []) (c ∷ []))) (λ _. tt)

shape-fraction : (w : List ℕ) (c : ℕ) → Shape S.Fraction w → Shape (next_of S.Fraction c) (w ++ (c ∷ []))
shape-fraction w c h = chosen (λ s. Shape s (w ++ (c ∷ []))) (is_digit c) S.Fraction S.Dead
    (λ g. (h.0, h.1 ++ (c ∷ []), h.2, digits-more h.1 c h.3 g, ap (λ v. v ++ (c ∷ [])) h.4 ∙ append_assoc h.0 (46 ∷ h.1) (c ∷ []))) (λ _. tt)

shape-quoted : (w : List ℕ) (c : ℕ) → Shape S.Quoted w → Shape (next_of S.Quoted c) (w ++ (c ∷ []))
shape-quoted w c h = let P : State → Type 0 = λ s. Shape s (w ++ (c ∷ [])) in
    chosen P (is_in_quotes c) S.Quoted _ (λ g. (h.0 ++ (c ∷ []), all-more is_in_quotes h.0 c h.1 g, ap (λ v. v ++ (c ∷ [])) h.2))
    (λ _. chosen P (c == 34) (S.Done T.Quoted) S.Dead (λ g. (h.0, h.1, ap (λ v. v ++ (c ∷ [])) h.2 ∙ ap (λ d. 34 ∷ (h.0 ++ (d ∷ []))) (eqb-true c 34 g))) (λ _. tt))

more-signs : (gs : List Sign) (g : Sign) → flat_map spelling gs ++ spelling g ≡ flat_map spelling (gs ++ (g ∷ []))
more-signs gs g = ap (λ l. flat_map spelling gs ++ l) (sym (append-nil (spelling g))) ∙ sym (flat_map-append spelling gs (g ∷ []))

shape-words : (w : List ℕ) (c : ℕ) → Shape S.Words w → Shape (next_of S.Words c) (w ++ (c ∷ []))
shape-words w c h = let P : State → Type 0 = λ s. Shape s (w ++ (c ∷ [])) in
    let spelt : w ++ (c ∷ []) ≡ 39 ∷ (flat_map spelling h.0 ++ (c ∷ [])) = ap (λ v. v ++ (c ∷ [])) h.2 in
    chosen P (is_in_words c) S.Words _ (λ g. (h.0 ++ (Itself c ∷ []), all-more is_sign h.0 (Itself c) h.1 g, spelt ∙ ap (λ l. 39 ∷ l) (more-signs h.0 (Itself c))))
    (λ _. chosen P (c == 39) (S.Done T.Words) _ (λ g. (h.0, h.1, spelt ∙ ap (λ d. 39 ∷ (flat_map spelling h.0 ++ (d ∷ []))) (eqb-true c 39 g)))
    (λ _. chosen P (c == 92) S.Escape S.Dead (λ g. (h.0, h.1, spelt ∙ ap (λ d. 39 ∷ (flat_map spelling h.0 ++ (d ∷ []))) (eqb-true c 92 g))) (λ _. tt)))

shape-escape : (w : List ℕ) (c : ℕ) → Shape S.Escape w → Shape (next_of S.Escape c) (w ++ (c ∷ []))
shape-escape w c h = chosen (λ s. Shape s (w ++ (c ∷ []))) (is_escape c) S.Words S.Dead
    (λ g. (
      h.0 ++ (Escaped c ∷ []),
      all-more is_sign h.0 (Escaped c) h.1 g,
      ap (λ v. v ++ (c ∷ [])) h.2 ∙ ap (λ l. 39 ∷ l) (append_assoc (flat_map spelling h.0) (92 ∷ []) (c ∷ []) ∙ more-signs h.0 (Escaped c)),
    )) (λ _. tt)

two-mark : (a c n : ℕ) → IsMark (a ∷ n ∷ []) → c ≡ n → IsMark (a ∷ c ∷ [])
two-mark a c n m e = subst (λ d. IsMark (a ∷ d ∷ [])) (sym e) m

shape-minus : (w : List ℕ) (c : ℕ) → w ≡ 45 ∷ [] → Shape (next_of S.Minus c) (w ++ (c ∷ []))
shape-minus w c h = let P : State → Type 0 = λ s. Shape s (w ++ (c ∷ [])) in
    chosen P (c == 45) S.Comment _ (λ g. ([], refl, ap (λ v. v ++ (c ∷ [])) h ∙ ap (λ d. 45 ∷ (d ∷ [])) (eqb-true c 45 g)))
    (λ _. chosen P (c == 62) (S.Done T.Mark) S.Dead (λ g. subst (λ v. IsMark (v ++ (c ∷ []))) (sym h) (two-mark 45 c 62 refl (eqb-true c 62 g))) (λ _. tt))

shape-less : (w : List ℕ) (c : ℕ) → w ≡ 60 ∷ [] → Shape (next_of S.Less c) (w ++ (c ∷ []))
shape-less w c h = chosen (λ s. Shape s (w ++ (c ∷ []))) (c == 45 || c == 61 || c == 62) (S.Done T.Mark) S.Dead
    (λ g. subst (λ v. IsMark (v ++ (c ∷ []))) (sym h) (named (λ n. IsMark (60 ∷ n ∷ [])) _ c 62 (named (λ n. IsMark (60 ∷ n ∷ [])) _ c 61 (only (λ n. IsMark (60 ∷ n ∷ [])) c 45 refl) refl) refl g)) (λ _. tt)

shape-greater : (w : List ℕ) (c : ℕ) → w ≡ 62 ∷ [] → Shape (next_of S.Greater c) (w ++ (c ∷ []))
shape-greater w c h = chosen (λ s. Shape s (w ++ (c ∷ []))) (c == 61) (S.Done T.Mark) S.Dead
    (λ g. subst (λ v. IsMark (v ++ (c ∷ []))) (sym h) (two-mark 62 c 61 refl (eqb-true c 61 g))) (λ _. tt)

shape-comment : (w : List ℕ) (c : ℕ) → Shape S.Comment w → Shape (next_of S.Comment c) (w ++ (c ∷ []))
shape-comment w c h = chosen (λ s. Shape s (w ++ (c ∷ []))) (is_in_line c) S.Comment S.Dead
    (λ g. (h.0 ++ (c ∷ []), all-more is_in_line h.0 c h.1 g, ap (λ v. v ++ (c ∷ [])) h.2)) (λ _. tt)

shape-next : (s : State) (w : List ℕ) (c : ℕ) → Shape s w → Shape (next_of s c) (w ++ (c ∷ []))
shape-next S.Start w c h = subst (λ v. Shape (begin_of c) (v ++ (c ∷ []))) (sym h) (shape-begin c)
shape-next S.Plain w c h = shape-plain w c h
shape-next S.Number w c h = shape-number w c h
shape-next S.Point w c h = shape-point w c h
shape-next S.Fraction w c h = shape-fraction w c h
shape-next S.Quoted w c h = shape-quoted w c h
shape-next S.Words w c h = shape-words w c h
shape-next S.Escape w c h = shape-escape w c h
shape-next S.Minus w c h = shape-minus w c h
shape-next S.Less w c h = shape-less w c h
shape-next S.Greater w c h = shape-greater w c h
shape-next S.Comment w c h = shape-comment w c h
shape-next S.Gap w c h = tt
shape-next (S.Done s) w c h = tt
shape-next S.Dead w c h = tt

shape-on : (s : State) (w u : List ℕ) → Shape s w → Shape (walk s u) (w ++ u)
shape-on s w [] h = subst (Shape s) (sym (append-nil w)) h
shape-on s w (c ∷ u) h = subst (Shape (walk (next_of s c) u)) (append_assoc w (c ∷ []) u) (shape-on (next_of s c) (w ++ (c ∷ [])) u (shape-next s w c h))

pub shaped : (w : List ℕ) → Shape (walk S.Start w) w
shaped w = shape-on S.Start [] w refl

-- ---- what has become a piece is no open text, name or escape again

abbrev pub IsClosed : State → Type 0
IsClosed S.Start = ⊥
IsClosed S.Quoted = ⊥
IsClosed S.Words = ⊥
IsClosed S.Escape = ⊥
IsClosed s = Unit {0}

closed-next : (s : State) (c : ℕ) → IsClosed s → IsClosed (next_of s c)
closed-next S.Start c h = absurd h
closed-next S.Plain c h = chosen IsClosed (is_letter c || is_digit c) S.Plain S.Dead (λ _. tt) (λ _. tt)
closed-next S.Number c h = chosen IsClosed (is_digit c) S.Number _ (λ _. tt) (λ _. chosen IsClosed (c == 46) S.Point S.Dead (λ _. tt) (λ _. tt))
closed-next S.Point c h = chosen IsClosed (is_digit c) S.Fraction S.Dead (λ _. tt) (λ _. tt)
closed-next S.Fraction c h = chosen IsClosed (is_digit c) S.Fraction S.Dead (λ _. tt) (λ _. tt)
closed-next S.Quoted c h = absurd h
closed-next S.Words c h = absurd h
closed-next S.Escape c h = absurd h
closed-next S.Minus c h = chosen IsClosed (c == 45) S.Comment _ (λ _. tt) (λ _. chosen IsClosed (c == 62) (S.Done T.Mark) S.Dead (λ _. tt) (λ _. tt))
closed-next S.Less c h = chosen IsClosed (c == 45 || c == 61 || c == 62) (S.Done T.Mark) S.Dead (λ _. tt) (λ _. tt)
closed-next S.Greater c h = chosen IsClosed (c == 61) (S.Done T.Mark) S.Dead (λ _. tt) (λ _. tt)
closed-next S.Comment c h = chosen IsClosed (is_in_line c) S.Comment S.Dead (λ _. tt) (λ _. tt)
closed-next S.Gap c h = tt
closed-next (S.Done s) c h = tt
closed-next S.Dead c h = tt

pub closed-walk : (s : State) (u : List ℕ) → IsClosed s → IsClosed (walk s u)
closed-walk s [] h = h
closed-walk s (c ∷ u) h = closed-walk (next_of s c) u (closed-next s c h)

pub closed-kind : (s : State) (k : Option TokenSort) → kind_of s ≡ Some k → IsClosed s
closed-kind S.Start k h = absurd cc
closed-kind S.Plain k h = tt
closed-kind S.Number k h = tt
closed-kind S.Point k h = tt
closed-kind S.Fraction k h = tt
closed-kind S.Quoted k h = absurd cc
closed-kind S.Words k h = absurd cc
closed-kind S.Escape k h = absurd cc
closed-kind S.Minus k h = tt
closed-kind S.Less k h = tt
closed-kind S.Greater k h = tt
closed-kind S.Comment k h = tt
closed-kind S.Gap k h = tt
closed-kind (S.Done s) k h = tt
closed-kind S.Dead k h = tt
