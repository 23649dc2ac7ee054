-- Tokens and gaps before a blank or a line feed: none goes on with it.
use Rattle.std.proofs.Common.{◌≡◌, ℕ, ◌==◌, ◌⊎◌, inl, inr, List, [], ◌∷◌, ◌++◌, None, Some, true, false, refl, sym, ap, subst, ◌∙◌}
use Rattle.std.specs.Prelude.{Bool, if◌then◌else◌}
use Rattle.std.proofs.lemmas.Bool.{eqb-true}
use Rattle.atl_tree.specs.declared.token.TokenSort.{TokenSort}
use Rattle.atl_tree.specs.declared.state.State.{State}
use Rattle.atl_tree.specs.declared.state.State.TheVariants as S
use Rattle.atl_tree.specs.Pieces.{IsToken, is_letter, is_digit, is_gap, is_single}
use Rattle.atl_tree.specs.Cutting.{IsLongest}
use Rattle.atl_tree.specs.Machine.{begin_of, next_of}
use Rattle.atl_tree.specs.Tokens.{body_of, begin_byte}
use Rattle.atl_tree.proofs.Walks.{walk, kind_of, walk-dead, accepts}
use Rattle.atl_tree.proofs.Cuts.{Ends, Blocked, blocked, longest}

abbrev pub Break : ℕ → Type 0
Break g = (g ≡ 32) ⊎ (g ≡ 10)

-- no token goes on with a break
ends_blank : (s : State) (k : TokenSort) → kind_of s ≡ Some (Some k) → next_of s 32 ≡ S.Dead
unfolding is_letter is_digit
ends_blank S.Start k h = absurd cc
ends_blank S.Plain k h = refl
ends_blank S.Number k h = refl
ends_blank S.Point k h = absurd cc
ends_blank S.Fraction k h = refl
ends_blank S.Quoted k h = absurd cc
ends_blank S.Words k h = absurd cc
ends_blank S.Escape k h = absurd cc
ends_blank S.Minus k h = refl
ends_blank S.Less k h = refl
ends_blank S.Greater k h = refl
ends_blank S.Comment k h = absurd cc
ends_blank S.Gap k h = absurd cc
ends_blank (S.Done s) k h = refl
ends_blank S.Dead k h = refl

ends_line : (s : State) (k : TokenSort) → kind_of s ≡ Some (Some k) → next_of s 10 ≡ S.Dead
unfolding is_letter is_digit
ends_line S.Start k h = absurd cc
ends_line S.Plain k h = refl
ends_line S.Number k h = refl
ends_line S.Point k h = absurd cc
ends_line S.Fraction k h = refl
ends_line S.Quoted k h = absurd cc
ends_line S.Words k h = absurd cc
ends_line S.Escape k h = absurd cc
ends_line S.Minus k h = refl
ends_line S.Less k h = refl
ends_line S.Greater k h = refl
ends_line S.Comment k h = absurd cc
ends_line S.Gap k h = absurd cc
ends_line (S.Done s) k h = refl
ends_line S.Dead k h = refl

ends : (s : State) (k : TokenSort) (g : ℕ) → kind_of s ≡ Some (Some k) → Break g → next_of s g ≡ S.Dead
ends s k g h (inl e) = ap (next_of s) e ∙ ends_blank s k h
ends s k g h (inr e) = ap (next_of s) e ∙ ends_line s k h

blank_begins : begin_of 32 ≡ S.Gap
unfolding begin_of is_letter is_digit is_gap
blank_begins = refl

line_begins : begin_of 10 ≡ S.Gap
unfolding begin_of is_letter is_digit is_gap
line_begins = refl

break_begins : (g : ℕ) → Break g → begin_of g ≡ S.Gap
break_begins g (inl e) = ap begin_of e ∙ blank_begins
break_begins g (inr e) = ap begin_of e ∙ line_begins

blank_is_gap : is_gap 32 ≡ true
unfolding is_gap
blank_is_gap = refl

line_is_gap : is_gap 10 ≡ true
unfolding is_gap
line_is_gap = refl

pub break_is_gap : (g : ℕ) → Break g → is_gap g ≡ true
break_is_gap g (inl e) = ap is_gap e ∙ blank_is_gap
break_is_gap g (inr e) = ap is_gap e ∙ line_is_gap

gap_ends : (rest : List ℕ) → Ends S.Gap rest
gap_ends [] = tt
gap_ends (c ∷ cs) = refl

pub token_longest : (s : TokenSort) (w : List ℕ) (g : ℕ) (rest : List ℕ) → IsToken s w → Break g → IsLongest w (g ∷ rest)
token_longest s w g rest h b = longest w (g ∷ rest) (blocked (walk S.Start w) (g ∷ rest) (ends (walk S.Start w) s g (accepts (Some s) w h) b))

pub gap_longest : (g : ℕ) (rest : List ℕ) → Break g → IsLongest (g ∷ []) rest
gap_longest g rest b = longest (g ∷ []) rest (subst (λ s. Blocked s rest) (sym (break_begins g b)) (blocked S.Gap rest (gap_ends rest)))

mark_is_dead : begin_of 0xFEFF ≡ S.Dead
unfolding begin_of is_letter is_digit is_gap is_single
mark_is_dead = refl

-- no token begins with a byte order mark
pub unmarked : (s : TokenSort) (w rest : List ℕ) → IsToken s w → (body_of (w ++ rest) ≡ w ++ rest) × (begin_byte (w ++ rest) ≡ 0)
unmarked s [] rest h = absurd (let a : kind_of (walk S.Start []) ≡ Some (Some s) = accepts (Some s) [] h in cc)
unmarked s (c ∷ w) rest h = on (c == 0xFEFF) refl
  where
    on : (b : Bool) → (c == 0xFEFF) ≡ b → ((if b then w ++ rest else c ∷ (w ++ rest)) ≡ c ∷ (w ++ rest)) × (◌≡◌ {A = ℕ} (if b then 3 else 0) 0)
    on true e =
        let some : kind_of (walk (begin_of c) w) ≡ Some (Some s) = accepts (Some s) (c ∷ w) h in
        let none : kind_of (walk (begin_of c) w) ≡ None = ap (λ d. kind_of (walk (begin_of d) w)) (eqb-true c 0xFEFF e) ∙ ap (λ d. kind_of (walk d w)) mark_is_dead ∙ ap kind_of (walk-dead w) in
        absurd cc
    on false e = (refl, refl)
