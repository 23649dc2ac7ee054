-- Where reading finds an expression too deep, one can be written that goes on so.
use Rattle.std.proofs.Common.{◌≡◌, ℕ, suc, List, [], ◌∷◌, refl, sym, ap, ◌∙◌, subst}
use Rattle.std.specs.Prelude.{Bool, true, false, nat_le, if◌then◌else◌}
use Rattle.atl_base.specs.declared.place.Place.{Place}
use Rattle.atl_tree.specs.declared.name.Name.{Name}
use Rattle.atl_tree.specs.declared.kind.KindNode.{KindNode}
use Rattle.atl_tree.specs.declared.expr.Expr.{Expr}
use Rattle.atl_tree.specs.declared.expr.BinaryOp.TheVariants as O
use Rattle.ocl_parse.specs.declared.sign.Ender.{Ender}
use Rattle.ocl_parse.specs.declared.sign.Ender.TheVariants as E
use Rattle.ocl_parse.specs.declared.sign.Sign.TheVariants as S
use Rattle.ocl_parse.specs.declared.symbol.Symbol.{Symbol}
use Rattle.ocl_parse.specs.declared.symbol.Symbol.TheVariants as T
use Rattle.ocl_parse.specs.declared.frame.Callee.{Callee}
use Rattle.ocl_parse.specs.declared.frame.Frame.{Frame}
use Rattle.ocl_parse.specs.declared.frame.Frame.TheVariants as F
use Rattle.ocl_parse.specs.declared.frame.Next.{Next}
use Rattle.ocl_parse.specs.declared.frame.Next.TheVariants as N
use Rattle.ocl_parse.specs.Signs.{is_iterator, is_iterate}
use Rattle.ocl_parse.specs.Symbols.{Lexeme}
use Rattle.ocl_parse.specs.Depth.{deep, is_shallow}
use Rattle.ocl_parse.specs.Trees.{name, level, binary, unary, variable, feature, within}
use Rattle.ocl_parse.specs.Machine.{Step, Goes, Stops, Refuses, TooDeep, before, closed, at, have, word, kind_closed, kind_given, at_let, operand, argued, unargued, first, argument, step, last, End, Read, Expected, Deep, after, ended, run}
use Rattle.ocl_parse.proofs.Ordered.{InOrder, StepInOrder, step_ordered}
use Rattle.ocl_parse.proofs.Completes.{put, closing, first_ends, completes}
use Rattle.ocl_parse.proofs.Halts.{IsExpected, IsDeep, over_shallow, Ends, HaltsAt, place_at, too_deep}

-- the name before which reading stops begins an argument too deep
abbrev pub IsStuck : List Frame → Next → Type 0
IsStuck gs (N.First c x) = is_shallow true (suc (deep gs)) ≡ false
IsStuck gs n = ⊥

-- both begin with the same symbol
abbrev pub Meets : List Lexeme → List Lexeme → Type 0
Meets (t ∷ rest) (u ∷ more) = t ≡ u
Meets rest more = ⊥

-- symbols that end what is open, and with the depth break at the place, as the rest does
pub record Deeper (gs : List Frame) (n : Next) (rest : List Lexeme) (p : Place) : Type 0 where
  pub more : List Lexeme
  pub tree : Expr
  pub loose : run false gs n more ≡ Read tree []
  pub meets : (IsStuck gs n → ⊥) → Meets rest more
  pub here : HaltsAt gs n more (Deep p)

abbrev pub IsTooDeep : Step → Type 0
IsTooDeep (TooDeep p) = Unit {0}
IsTooDeep u = ⊥

abbrev pub GoesOn : Step → Type 0
GoesOn (Goes gs m) = Unit {0}
GoesOn u = ⊥

-- what goes on behind an operand is never too deep
closed_never : (fs : List Frame) (e : Expr) (k : List Frame → Expr → Step) → ((gs : List Frame) (a : Expr) → IsTooDeep (k gs a) → ⊥) → IsTooDeep (closed fs e k) → ⊥
closed_never [] e k g h = g [] e h
closed_never (F.Left a p o ∷ fs) e k g h = closed_never fs (binary a p o e) k g h
closed_never (F.Unary o p ∷ fs) e k g h = closed_never fs (unary p o e) k g h
closed_never (F.Within p n t a ∷ fs) e k g h = closed_never fs (within p n t a e) k g h
closed_never (f ∷ fs) e k g h = g (f ∷ fs) e h

before_never : (l : ℕ) (fs : List Frame) (e : Expr) (k : List Frame → Expr → Step) → ((gs : List Frame) (a : Expr) → IsTooDeep (k gs a) → ⊥) → IsTooDeep (before l fs e k) → ⊥
before_never l [] e k g h = g [] e h
before_never l (F.Left a p o ∷ fs) e k g h = pick (nat_le l (level o)) (λ x. before_never l fs (binary a p o e) k g x) h
  where
    pick : (t : Bool) → (IsTooDeep (before l fs (binary a p o e) k) → ⊥) → IsTooDeep (if t then before l fs (binary a p o e) k else k (F.Left a p o ∷ fs) e) → ⊥
    pick true x h = x h
    pick false x h = g (F.Left a p o ∷ fs) e h
before_never l (F.Unary o p ∷ fs) e k g h = before_never l fs (unary p o e) k g h
before_never l (f ∷ fs) e k g h = g (f ∷ fs) e h

at_never : (c : Ender) (gs : List Frame) (a : Expr) → IsTooDeep (at c gs a) → ⊥
at_never E.Close (F.Round ∷ gs) a h = h
at_never E.Close (F.Arguments c es ∷ gs) a h = h
at_never E.Close (F.Body c x ∷ gs) a h = h
at_never E.Close (F.Fold c x y t s ∷ gs) a h = h
at_never E.Close gs a h = h
at_never E.CloseBrace (F.Elements w p es ∷ gs) a h = h
at_never E.CloseBrace gs a h = h
at_never E.Comma (F.Arguments c es ∷ gs) a h = h
at_never E.Comma (F.Elements w p es ∷ gs) a h = h
at_never E.Comma gs a h = h
at_never E.Bar (F.Start c x y t ∷ gs) a h = h
at_never E.Bar gs a h = h
at_never E.Then (F.Condition p ∷ gs) a h = h
at_never E.Then gs a h = h
at_never E.Else (F.Then p c ∷ gs) a h = h
at_never E.Else gs a h = h
at_never E.Endif (F.Else p c x ∷ gs) a h = h
at_never E.Endif gs a h = h
at_never E.In (F.Value p n t ∷ gs) a h = h
at_never E.In gs a h = h

have_never : (fs : List Frame) (e : Expr) (s : Symbol) (p : Place) → IsTooDeep (have fs e s p) → ⊥
have_never fs e (T.Fixed (S.Operator o)) p h = before_never (level o) fs e (λ gs a. Goes (F.Left a p o ∷ gs) N.Operand) (λ gs a x. x) h
have_never fs e (T.Fixed S.Dot) p h = h
have_never fs e (T.Fixed S.Arrow) p h = h
have_never fs e (T.Fixed (S.End c)) p h = closed_never fs e (at c) (at_never c) h
have_never fs e s p h = h

word_never : (fs : List Frame) (n : Name) (s : Symbol) (p : Place) → IsTooDeep (word fs n s p) → ⊥
word_never fs n (T.Fixed S.Bang) p h = h
word_never fs n s p h = have_never fs (variable n) s p h

-- an operand that begins too deep goes on where the depth does not count
let_goes : (fs : List Frame) (p : Place) → IsTooDeep (at_let true fs p) → GoesOn (at_let false fs p)
let_goes [] p h = tt
let_goes (F.Left a q o ∷ fs) p h = absurd h
let_goes (F.Unary o q ∷ fs) p h = absurd h
let_goes (f ∷ fs) p h = tt

operand_goes : (fs : List Frame) (s : Symbol) (p : Place) → IsTooDeep (operand true fs s p) → GoesOn (operand false fs s p)
operand_goes fs (T.Number n) p h = tt
operand_goes fs (T.Words s) p h = tt
operand_goes fs (T.Name s) p h = tt
operand_goes fs (T.Fixed (S.Constant c)) p h = tt
operand_goes fs (T.Fixed (S.Basic w)) p h = tt
operand_goes fs (T.Fixed (S.Coll w)) p h = tt
operand_goes fs (T.Fixed (S.Operator O.Minus)) p h = tt
operand_goes fs (T.Fixed S.Not) p h = tt
operand_goes fs (T.Fixed S.Open) p h = tt
operand_goes fs (T.Fixed S.If) p h = tt
operand_goes fs (T.Fixed S.Hash) p h = tt
operand_goes fs (T.Fixed S.Let) p h = let_goes fs p h
operand_goes fs s p h = absurd h

name_goes : (t : Bool) (fs : List Frame) (c : Callee) (s : List ℕ) (p : Place) → IsTooDeep (if t then Goes fs (N.First c (name p s)) else operand true (F.Arguments c [] ∷ fs) (T.Name s) p) → GoesOn (if t then Goes fs (N.First c (name p s)) else operand false (F.Arguments c [] ∷ fs) (T.Name s) p)
name_goes true fs c s p h = absurd h
name_goes false fs c s p h = operand_goes (F.Arguments c [] ∷ fs) (T.Name s) p h

argument_goes : (fs : List Frame) (c : Callee) (s : Symbol) (p : Place) → IsTooDeep (argument true fs c s p) → GoesOn (argument false fs c s p)
argument_goes fs c (T.Fixed (S.End E.Close)) p h = absurd h
argument_goes fs c (T.Name s) p h = name_goes c.arrow fs c s p h
argument_goes fs c s p h = operand_goes (F.Arguments c [] ∷ fs) s p h

kind_never : (fs : List Frame) (k : KindNode) → IsTooDeep (kind_closed fs k) → ⊥
kind_never (F.CollKind w q ∷ fs) k h = h
kind_never fs k h = h

given_never : (fs : List Frame) (k : KindNode) → IsTooDeep (kind_given fs k) → ⊥
given_never (F.LetKind q n ∷ fs) k h = h
given_never (F.OutcomeKind c x y ∷ fs) k h = h
given_never fs k h = h

abbrev pub IsFirst : Next → Type 0
IsFirst (N.First c n) = Unit {0}
IsFirst m = ⊥

pub goes : (fs : List Frame) (m : Next) (s : Symbol) (p : Place) → (IsFirst m → ⊥) → IsTooDeep (step true fs m s p) → GoesOn (step false fs m s p)
goes fs N.Operand s p f h = operand_goes fs s p h
goes fs (N.Argument c) s p f h = argument_goes fs c s p h
goes fs (N.First c n) s p f h = absurd (f tt)
goes fs (N.Word n) s p f h = absurd (word_never fs n s p h)
goes fs (N.ClassName n) (T.Name s) p f h = absurd h
goes fs (N.ClassName n) s p f h = absurd h
goes fs (N.Literal q) (T.Name s) p f h = absurd h
goes fs (N.Literal q) s p f h = absurd h
goes fs (N.Brace w q) (T.Fixed S.OpenBrace) p f h = absurd h
goes fs (N.Brace w q) s p f h = absurd h
goes fs (N.Element w q) (T.Fixed (S.End E.CloseBrace)) p f h = absurd h
goes fs (N.Element w q) s p f h = operand_goes (F.Elements w q [] ∷ fs) s p h
goes fs (N.LetName q) (T.Name s) p f h = absurd h
goes fs (N.LetName q) s p f h = absurd h
goes fs (N.LetColon q n) (T.Fixed S.Colon) p f h = absurd h
goes fs (N.LetColon q n) s p f h = absurd h
goes fs (N.OutcomeName c x) (T.Name s) p f h = absurd h
goes fs (N.OutcomeName c x) s p f h = absurd h
goes fs (N.OutcomeColon c x y) (T.Fixed S.Colon) p f h = absurd h
goes fs (N.OutcomeColon c x y) s p f h = absurd h
goes fs N.Kind (T.Name s) p f h = absurd h
goes fs N.Kind (T.Fixed (S.Basic w)) p f h = absurd h
goes fs N.Kind (T.Fixed (S.Coll w)) p f h = absurd h
goes fs N.Kind s p f h = absurd h
goes fs (N.KindOpen w q) (T.Fixed S.Open) p f h = absurd h
goes fs (N.KindOpen w q) s p f h = absurd h
goes fs (N.KindBang n) (T.Fixed S.Bang) p f h = absurd h
goes fs (N.KindBang n) s p f h = absurd h
goes fs (N.KindClass n) (T.Name s) p f h = absurd h
goes fs (N.KindClass n) s p f h = absurd h
goes fs (N.HaveKind k) (T.Fixed (S.End E.Close)) p f h = absurd (kind_never fs k h)
goes fs (N.HaveKind k) (T.Fixed (S.Operator O.Eq)) p f h = absurd (given_never fs k h)
goes fs (N.HaveKind k) s p f h = absurd h
goes fs (N.Feature a) (T.Name s) p f h = absurd h
goes fs (N.Feature a) s p f h = absurd h
goes fs (N.Named a n) (T.Fixed S.Open) p f h = absurd h
goes fs (N.Named a n) s p f h = absurd (have_never fs (feature a n) s p h)
goes fs (N.ArrowName a) (T.Name s) p f h = absurd h
goes fs (N.ArrowName a) s p f h = absurd h
goes fs (N.ArrowOpen a n) (T.Fixed S.Open) p f h = absurd h
goes fs (N.ArrowOpen a n) s p f h = absurd h
goes fs (N.Have e) s p f h = absurd (have_never fs e s p h)

-- an ending step whose answer is too deep is too deep
is_deep : (u : Step) (rest : List Lexeme) (p : Place) → Ends u → after u rest ended ≡ Deep p → IsTooDeep u
is_deep (Goes gs m) rest p e h = absurd e
is_deep (Stops gs a) rest p e h = absurd (over_shallow gs a rest (subst IsDeep (sym h) tt))
is_deep Refuses rest p e h = absurd (subst IsExpected h tt)
is_deep (TooDeep q) rest p e h = tt

-- the name before which reading stops begins an argument too deep
abbrev pub At : List Frame → Name → Place → Type 0
At gs x p = (is_shallow true (suc (deep gs)) ≡ false) × (x.place ≡ p)

unargued_at : (gs : List Frame) (c : Callee) (x : Name) (rest : List Lexeme) (p : Place) → after (unargued true gs c x) rest ended ≡ Deep p → At gs x p
unargued_at gs c x rest p h = on (is_shallow true (suc (deep gs))) h
  where
    on : (t : Bool) → after (if t then Refuses else TooDeep x.place) rest ended ≡ Deep p → (t ≡ false) × (x.place ≡ p)
    on true h = absurd (subst IsExpected h tt)
    on false h = (refl, ap (place_at x.place) h)

bar_at : (t : Bool) (gs : List Frame) (c : Callee) (x : Name) (u : Step) (rest : List Lexeme) (p : Place) → GoesOn u → Ends (if t then u else unargued true gs c x) → after (if t then u else unargued true gs c x) rest ended ≡ Deep p → At gs x p
bar_at true gs c x (Goes hs m) rest p g e h = absurd e
bar_at true gs c x (Stops hs a) rest p g e h = absurd g
bar_at true gs c x Refuses rest p g e h = absurd g
bar_at true gs c x (TooDeep q) rest p g e h = absurd g
bar_at false gs c x u rest p g e h = unargued_at gs c x rest p h

argued_at : (gs : List Frame) (c : Callee) (x : Name) (s : Symbol) (q : Place) (rest : List Lexeme) (p : Place) → Ends (argued true gs c x s q) → after (argued true gs c x s q) rest ended ≡ Deep p → At gs x p
argued_at gs c x s q rest p e h = on (is_shallow true (suc (deep gs))) e h
  where
    on : (t : Bool) → Ends (if t then word (F.Arguments c [] ∷ gs) x s q else TooDeep x.place) → after (if t then word (F.Arguments c [] ∷ gs) x s q else TooDeep x.place) rest ended ≡ Deep p → (t ≡ false) × (x.place ≡ p)
    on true e h = absurd (word_never (F.Arguments c [] ∷ gs) x s q (is_deep (word (F.Arguments c [] ∷ gs) x s q) rest p e h))
    on false e h = (refl, ap (place_at x.place) h)

pub first_at : (gs : List Frame) (c : Callee) (x : Name) (s : Symbol) (q : Place) (rest : List Lexeme) (p : Place) → Ends (first true gs c x s q) → after (first true gs c x s q) rest ended ≡ Deep p → At gs x p
first_at gs c x (T.Fixed (S.End E.Bar)) q rest p e h = bar_at (is_iterator c.name.text) gs c x (Goes (F.Body c x ∷ gs) N.Operand) rest p tt e h
first_at gs c x (T.Fixed S.Semicolon) q rest p e h = bar_at (is_iterate c.name.text) gs c x (Goes gs (N.OutcomeName c x)) rest p tt e h
first_at gs c x s q rest p e h = argued_at gs c x s q rest p e h

halted_at : (gs : List Frame) (c : Callee) (x : Name) (rest : List Lexeme) (p : Place) → HaltsAt gs (N.First c x) rest (Deep p) → At gs x p
halted_at gs c x [] p k = unargued_at gs c x [] p k
halted_at gs c x (t ∷ r) p k = first_at gs c x t.symbol t.place (t ∷ r) p k.0 k.1

first_deeper : (gs : List Frame) (c : Callee) (x : Name) (rest : List Lexeme) (p : Place) → InOrder gs (N.First c x) → At gs x p → Deeper gs (N.First c x) rest p
first_deeper gs c x rest p o d =
    let y = first_ends gs c x o in
    let close = put (S.End E.Close) in
    let breaks : argued true gs c x close.symbol close.place ≡ TooDeep x.place = rw d.0 refl in
    record {
      more = close ∷ closing gs;
      tree = y.0;
      loose = y.1;
      meets = λ z. absurd (z d.0);
      here = (subst Ends (sym breaks) tt, ap (λ v. after v (close ∷ closing gs) ended) breaks ∙ ap Deep d.1);
    }

-- at the end of a text no other state is too deep
at_end : (gs : List Frame) (n : Next) (p : Place) → (IsFirst n → ⊥) → after (last true gs n) [] ended ≡ Deep p → ⊥
at_end gs (N.Have e) p f k = over_shallow gs e [] (subst IsDeep (sym k) tt)
at_end gs (N.Word n) p f k = over_shallow gs (variable n) [] (subst IsDeep (sym k) tt)
at_end gs (N.Named a n) p f k = over_shallow gs (feature a n) [] (subst IsDeep (sym k) tt)
at_end gs (N.First c n) p f k = f tt
at_end gs n p f k = subst IsExpected k tt

on_symbol : (gs : List Frame) (n : Next) (t : Lexeme) (r : List Lexeme) (p : Place) → InOrder gs n → (IsFirst n → ⊥) → HaltsAt gs n (t ∷ r) (Deep p) → Deeper gs n (t ∷ r) p
on_symbol gs n t r p o f k = on (step false gs n t.symbol t.place) refl (goes gs n t.symbol t.place f (is_deep (step true gs n t.symbol t.place) (t ∷ r) p k.0 k.1))
  where
    on : (u : Step) → step false gs n t.symbol t.place ≡ u → GoesOn u → Deeper gs n (t ∷ r) p
    on (Goes hs m) h g =
        let c = completes hs m (subst StepInOrder h (step_ordered false gs n t.symbol t.place o)) in
        record {
          more = t ∷ c.more;
          tree = c.ends.0;
          loose = ap (λ v. after v (t ∷ c.more) (λ ks l. run false ks l c.more)) h ∙ c.ends.1;
          meets = λ z. refl;
          here = (k.0, too_deep (step true gs n t.symbol t.place) (t ∷ r) (t ∷ c.more) ended p k.0 k.1);
        }
    on (Stops hs a) h g = absurd g
    on Refuses h g = absurd g
    on (TooDeep q) h g = absurd g

elsewhere : (gs : List Frame) (n : Next) (rest : List Lexeme) (p : Place) → InOrder gs n → (IsFirst n → ⊥) → HaltsAt gs n rest (Deep p) → Deeper gs n rest p
elsewhere gs n [] p o f k = absurd (at_end gs n p f k)
elsewhere gs n (t ∷ r) p o f k = on_symbol gs n t r p o f k

pub deeper : (gs : List Frame) (n : Next) (rest : List Lexeme) (p : Place) → InOrder gs n → HaltsAt gs n rest (Deep p) → Deeper gs n rest p
deeper gs (N.First c x) rest p o k = first_deeper gs c x rest p o (halted_at gs c x rest p k)
deeper gs n rest p o k = elsewhere gs n rest p o (λ z. z) k

-- where the end of a text is too deep
pub stuck : (gs : List Frame) (n : Next) (p : Place) → after (last true gs n) [] ended ≡ Deep p → IsStuck gs n
stuck gs (N.First c x) p k = (unargued_at gs c x [] p k).0
stuck gs n p k = absurd (at_end gs n p (λ z. z) k)

-- from there, reading goes on with a variable alone
abbrev pub OnlyDeep : Step → Type 0
OnlyDeep (Goes hs k) = IsStuck hs k → ⊥
OnlyDeep (TooDeep p) = Unit {0}
OnlyDeep u = ⊥

unargued_only : (gs : List Frame) (c : Callee) (x : Name) → is_shallow true (suc (deep gs)) ≡ false → OnlyDeep (unargued true gs c x)
unargued_only gs c x d = subst (λ t. OnlyDeep (if t then Refuses else TooDeep x.place)) (sym d) tt

argued_only : (gs : List Frame) (c : Callee) (x : Name) (s : Symbol) (q : Place) → is_shallow true (suc (deep gs)) ≡ false → OnlyDeep (argued true gs c x s q)
argued_only gs c x s q d = subst (λ t. OnlyDeep (if t then word (F.Arguments c [] ∷ gs) x s q else TooDeep x.place)) (sym d) tt

bar_only : (t : Bool) (u v : Step) → OnlyDeep u → OnlyDeep v → OnlyDeep (if t then u else v)
bar_only true u v h k = h
bar_only false u v h k = k

first_only : (gs : List Frame) (c : Callee) (x : Name) (s : Symbol) (q : Place) → is_shallow true (suc (deep gs)) ≡ false → OnlyDeep (first true gs c x s q)
first_only gs c x (T.Fixed (S.End E.Bar)) q d = bar_only (is_iterator c.name.text) (Goes (F.Body c x ∷ gs) N.Operand) (unargued true gs c x) (λ z. z) (unargued_only gs c x d)
first_only gs c x (T.Fixed S.Semicolon) q d = bar_only (is_iterate c.name.text) (Goes gs (N.OutcomeName c x)) (unargued true gs c x) (λ z. z) (unargued_only gs c x d)
first_only gs c x s q d = argued_only gs c x s q d

pub stuck_only : (gs : List Frame) (n : Next) (s : Symbol) (q : Place) → IsStuck gs n → OnlyDeep (step true gs n s q)
stuck_only gs (N.First c x) s q d = first_only gs c x s q d
stuck_only gs n s q d = absurd d

-- it refuses nothing
only_deep : (u : Step) (rest r : List Lexeme) → Ends u → OnlyDeep u → after u rest ended ≡ Expected r → ⊥
only_deep (Goes hs k) rest r e o h = e
only_deep (Stops hs a) rest r e o h = o
only_deep Refuses rest r e o h = o
only_deep (TooDeep p) rest r e o h = subst IsDeep h tt

pub stuck_last : (gs : List Frame) (n : Next) → IsStuck gs n → (p : Place) × (after (last true gs n) [] ended ≡ Deep p)
stuck_last gs (N.First c x) d = (x.place, subst (λ t. after (if t then Refuses else TooDeep x.place) [] ended ≡ Deep x.place) (sym d) refl)
stuck_last gs n d = absurd d

expected_not : (x : End) (r : List Lexeme) (p : Place) → x ≡ Expected r → x ≡ Deep p → ⊥
expected_not x r p h k = subst IsDeep (sym k ∙ h) tt

pub stuck_halts : (gs : List Frame) (n : Next) (rest r : List Lexeme) → IsStuck gs n → HaltsAt gs n rest (Expected r) → ⊥
stuck_halts gs n [] r d k = let x = stuck_last gs n d in expected_not (after (last true gs n) [] ended) r x.0 k x.1
stuck_halts gs n (t ∷ rest) r d k = only_deep (step true gs n t.symbol t.place) (t ∷ rest) r k.0 (stuck_only gs n t.symbol t.place d) k.1
