-- Where the first expression that stands too deep begins, there reading finds it too deep, and not before.
use Rattle.std.proofs.Common.{◌≡◌, ◌⊎◌, inl, inr, ⊎_elim, ℕ, zero, suc, ◌+◌, List, [], ◌∷◌, ◌++◌, length, refl, sym, ap, ◌∙◌, subst, arith, append_assoc, length-append}
use Rattle.std.specs.Prelude.{Bool, true, false, if◌then◌else◌, Option, Some}
use Rattle.std.specs.Prelude.{None as Nowhere}
use Rattle.atl_base.specs.declared.place.Place.{Place}
use Rattle.atl_tree.specs.declared.name.Name.{Name}
use Rattle.atl_tree.specs.declared.kind.CollWord.{CollWord}
use Rattle.atl_tree.specs.declared.expr.Expr.{Expr}
use Rattle.atl_tree.specs.declared.expr.ExprKind.TheVariants as K
use Rattle.atl_tree.specs.declared.expr.UnaryOp.TheVariants as U
use Rattle.atl_tree.specs.declared.expr.BinaryOp.TheVariants as O
use Rattle.ocl_parse.specs.declared.sign.Ender.TheVariants as E
use Rattle.ocl_parse.specs.declared.sign.Sign.TheVariants as S
use Rattle.ocl_parse.specs.declared.symbol.Symbol.{Symbol}
use Rattle.ocl_parse.specs.declared.symbol.Symbol.TheVariants as T
use Rattle.ocl_parse.specs.declared.frame.Frame.{Frame}
use Rattle.ocl_parse.specs.declared.frame.Frame.TheVariants as F
use Rattle.ocl_parse.specs.declared.frame.Next.{Next}
use Rattle.ocl_parse.specs.declared.frame.Next.TheVariants as N
use Rattle.ocl_parse.specs.Symbols.{Lexeme, lexeme}
use Rattle.ocl_parse.specs.Depth.{deep, is_shallow}
use Rattle.ocl_parse.specs.Trees.{expr, name, level, constant, callee}
use Rattle.ocl_parse.specs.Grammar.{fixed, named, kind_spelt, kind_of, Written, Number, Words, Lone, Literal, Variable, OfClass, OfBasic, Elements, If, Round, Let, Unary, Binary, Read, Call, Loop, Iterate, Arguments, None, One, More, dot_or_arrow, spelt, listed, tree_of, trees, Fits, FitAll}
use Rattle.ocl_parse.specs.TooDeep.{here, or_else, behind, size, deep_after, deep_among}
use Rattle.ocl_parse.specs.Machine.{Goes, Expected, Deep, after, run}
use Rattle.ocl_parse.specs.Laws.{Matches}
use Rattle.ocl_parse.proofs.Accepts.{Admits, IsSafe, Safe, low, admits_dot, admits_more, stays, starts, starts_deep, let_here, kinds, follow_dot, named_opens, calls, iterates, folds, reads, reads_all, reads_elements}

abbrev pub IsThere : Option ℕ → Type 0
IsThere (Some k) = Unit {0}
IsThere Nowhere = ⊥

abbrev number_or : ℕ → Option ℕ → ℕ
number_or d (Some k) = k
number_or d Nowhere = d

-- the first of two is the first one's, or there the second's
pub split : (a b : Option ℕ) (k : ℕ) → or_else a b ≡ Some k → (a ≡ Some k) ⊎ ((a ≡ Nowhere) × (b ≡ Some k))
split (Some p) b k h = inl h
split Nowhere b k h = inr (refl, h)

pub neither : (a b : Option ℕ) → or_else a b ≡ Nowhere → (a ≡ Nowhere) × (b ≡ Nowhere)
neither (Some p) b h = absurd (subst IsThere h tt)
neither Nowhere b h = (refl, h)

-- the number of one that is counted from further on
abbrev pub Counted : ℕ → Option ℕ → ℕ → Type 0
Counted n o k = (j : ℕ) × (o ≡ Some j) × (n + j ≡ k)

pub counted : (n : ℕ) (o : Option ℕ) (k : ℕ) → behind n o ≡ Some k → Counted n o k
counted n (Some j) k h = (j, refl, ap (number_or 0) h)
counted n Nowhere k h = absurd (subst IsThere (sym h) tt)

pub uncounted : (n : ℕ) (o : Option ℕ) → behind n o ≡ Nowhere → o ≡ Nowhere
uncounted n (Some j) h = absurd (subst IsThere h tt)
uncounted n Nowhere h = refl

shallow_here : (d : ℕ) → here d ≡ Nowhere → is_shallow true d ≡ true
shallow_here d h = on (is_shallow true d) h
  where
    on : (t : Bool) → (if t then Nowhere else Some zero) ≡ Nowhere → t ≡ true
    on true h = refl
    on false h = absurd (subst IsThere h tt)

deep_here : (d k : ℕ) → here d ≡ Some k → (is_shallow true d ≡ false) × (zero ≡ k)
deep_here d k h = on (is_shallow true d) h
  where
    on : (t : Bool) → (if t then Nowhere else Some zero) ≡ Some k → (t ≡ false) × (zero ≡ k)
    on true h = absurd (subst IsThere (sym h) tt)
    on false h = (refl, ap (number_or 0) h)

-- where no expression stands too deep, it fits with the depth
mutual
  pub fits : (w : Written) (l d : ℕ) → Fits false l d w → deep_after d w ≡ Nowhere → Fits true l d w
  fits (Number p n) l d f h = shallow_here d h
  fits (Words p s) l d f h = shallow_here d h
  fits (Lone p c) l d f h = shallow_here d h
  fits (Literal p n) l d f h = shallow_here d h
  fits (Variable n) l d f h = shallow_here d h
  fits (OfClass m p c) l d f h = shallow_here d h
  fits (OfBasic p w) l d f h = shallow_here d h
  fits (Elements p w q es r) l d f h =
      let n = neither (here d) (behind 2 (deep_among (suc d) es)) h in
      (shallow_here d n.0, fit_all es (suc d) f.1 (uncounted 2 (deep_among (suc d) es) n.1))
  fits (If p c q a r e s) l d f h =
      let oc = deep_after (suc d) c in
      let oa = deep_after (suc d) a in
      let oe = deep_after (suc d) e in
      let n = neither (here d) (or_else (behind 1 oc) (or_else (behind (2 + size c) oa) (behind (3 + size c + size a) oe))) h in
      let m = neither (behind 1 oc) (or_else (behind (2 + size c) oa) (behind (3 + size c + size a) oe)) n.1 in
      let k = neither (behind (2 + size c) oa) (behind (3 + size c + size a) oe) m.1 in
      (shallow_here d n.0, fits c 0 (suc d) f.1 (uncounted 1 oc m.0), fits a 0 (suc d) f.2 (uncounted (2 + size c) oa k.0), fits e 0 (suc d) f.3 (uncounted (3 + size c + size a) oe k.1))
  fits (Round p w q) l d f h =
      let n = neither (here d) (behind 1 (deep_after (suc d) w)) h in
      (shallow_here d n.0, fits w 0 (suc d) f.1 (uncounted 1 (deep_after (suc d) w) n.1))
  fits (Let p v q k r e s w) l d f h =
      let oe = deep_after (suc d) e in
      let ow = deep_after (suc d) w in
      let x = 4 + length (kind_spelt k) in
      let y = 5 + length (kind_spelt k) + size e in
      let n = neither (here d) (or_else (behind x oe) (behind y ow)) h in
      let m = neither (behind x oe) (behind y ow) n.1 in
      (f.0, shallow_here d n.0, fits e 0 (suc d) f.2 (uncounted x oe m.0), fits w 0 (suc d) f.3 (uncounted y ow m.1))
  fits (Unary p o w) l d f h =
      let n = neither (here d) (behind 1 (deep_after (suc d) w)) h in
      (f.0, shallow_here d n.0, fits w 5 (suc d) f.2 (uncounted 1 (deep_after (suc d) w) n.1))
  fits (Binary a p o w) l d f h =
      let n = neither (deep_after d a) (behind (1 + size a) (deep_after d w)) h in
      (f.0, fits a (level o) d f.1 n.0, fits w (suc (level o)) d f.2 (uncounted (1 + size a) (deep_after d w) n.1))
  fits (Read a p n) l d f h = fits a 6 d f h
  fits (Call a arrow p v q es r) l d f h =
      let n = neither (deep_after d a) (behind (3 + size a) (deep_among (suc d) es)) h in
      (fits a 6 d f.0 n.0, fit_all es (suc d) f.1 (uncounted (3 + size a) (deep_among (suc d) es) n.1))
  fits (Loop a p v q x r e s) l d f h =
      let n = neither (deep_after d a) (behind (5 + size a) (deep_after (suc d) e)) h in
      (f.0, fits a 6 d f.1 n.0, fits e 0 (suc d) f.2 (uncounted (5 + size a) (deep_after (suc d) e) n.1))
  fits (Iterate a p v q x r y s k t i u e z) l d f h =
      let oi = deep_after (suc d) i in
      let oe = deep_after (suc d) e in
      let x = 8 + size a + length (kind_spelt k) in
      let y = 9 + size a + length (kind_spelt k) + size i in
      let n = neither (deep_after d a) (or_else (behind x oi) (behind y oe)) h in
      let m = neither (behind x oi) (behind y oe) n.1 in
      (f.0, fits a 6 d f.1 n.0, fits i 0 (suc d) f.2 (uncounted x oi m.0), fits e 0 (suc d) f.3 (uncounted y oe m.1))

  fit_all : (es : Arguments) (d : ℕ) → FitAll false d es → deep_among d es ≡ Nowhere → FitAll true d es
  fit_all None d f h = tt
  fit_all (One e) d f h = fits e 0 d f h
  fit_all (More es p e) d f h =
      let n = neither (deep_among d es) (behind (1 + length (listed es)) (deep_after d e)) h in
      (f.0, fit_all es d f.1 n.0, fits e 0 d f.2 (uncounted (1 + length (listed es)) (deep_after d e) n.1))

-- the reading waits for an expression behind so many symbols, and the one that begins there is too deep, whatever stands
-- behind the symbol after it
pub record Broken (fs : List Frame) (n : Next) (ts : List Lexeme) (k : ℕ) : Type 0 where
  pub front : List Lexeme
  pub t : Lexeme
  pub tail : List Lexeme
  pub whole : ts ≡ front ++ (t ∷ tail)
  pub count : length front ≡ k
  pub breaks : (r : List Lexeme) → Matches r tail → run true fs n (front ++ (t ∷ r)) ≡ Deep t.place
  pub waits : run true fs n front ≡ Expected []

assoc : (pre mid front l : List Lexeme) → (pre ++ (mid ++ front)) ++ l ≡ pre ++ (mid ++ (front ++ l))
assoc pre mid front l = append_assoc pre (mid ++ front) l ∙ ap (λ x. pre ++ x) (append_assoc mid front l)

-- what is read before it
ahead : (pre mid : List Lexeme) (fs gs : List Frame) (n m : Next) (ts : List Lexeme) (k j : ℕ) → ((l : List Lexeme) → run true fs n (pre ++ (mid ++ l)) ≡ run true gs m l) → length pre + (length mid + j) ≡ k → Broken gs m ts j → Broken fs n (pre ++ (mid ++ ts)) k
ahead pre mid fs gs n m ts k j h e x = record {
  front = pre ++ (mid ++ x.front);
  t = x.t;
  tail = x.tail;
  whole = ap (λ l. pre ++ (mid ++ l)) x.whole ∙ sym (assoc pre mid x.front (x.t ∷ x.tail));
  count = length-append pre (mid ++ x.front) ∙ ap (λ i. length pre + i) (length-append mid x.front ∙ ap (λ i. length mid + i) x.count) ∙ e;
  breaks = λ r a. ap (run true fs n) (assoc pre mid x.front (x.t ∷ r)) ∙ h (x.front ++ (x.t ∷ r)) ∙ x.breaks r a;
  waits = h x.front ∙ x.waits;
}

recount : (fs : List Frame) (n : Next) (ts : List Lexeme) (j k : ℕ) → j ≡ k → Broken fs n ts j → Broken fs n ts k
recount fs n ts j k e x = subst (Broken fs n ts) e x

-- an expression that begins too deep
at_start : (fs : List Frame) (t : Lexeme) (r : List Lexeme) (k : ℕ) → here (deep fs) ≡ Some k → (is_shallow true (deep fs) ≡ false → (s : List Lexeme) → run true fs N.Operand (t ∷ s) ≡ Deep t.place) → Broken fs N.Operand (t ∷ r) k
at_start fs t r k h g =
    let d = deep_here (deep fs) k h in
    record { front = []; t = t; tail = r; whole = refl; count = d.1; breaks = λ s a. g d.0 s; waits = refl }

let_deep : (fs : List Frame) (p : Place) → Admits 0 fs → is_shallow true (deep fs) ≡ false → (s : List Lexeme) → run true fs N.Operand (fixed p S.Let ∷ s) ≡ Deep p
let_deep [] p a d s = starts_deep true [] p (Goes [] (N.LetName p)) (fixed p S.Let) s d
let_deep (F.Left x q o ∷ fs) p a d s = absurd (omega (arith, a))
let_deep (F.Unary o q ∷ fs) p a d s = absurd (omega (arith, a))
let_deep (f ∷ fs) p a d s = starts_deep true (f ∷ fs) p (Goes (f ∷ fs) (N.LetName p)) (fixed p S.Let) s d

-- an argument and an element begin with no closing sign, and behind a name that begins one stands nothing that would make it
-- a variable of an iterator
abbrev pub Opening : Symbol → List Lexeme → Type 0
Opening (T.Fixed (S.End E.Close)) l = ⊥
Opening (T.Fixed (S.End E.CloseBrace)) l = ⊥
Opening (T.Name s) l = IsSafe l
Opening s l = Unit {0}

abbrev pub Opens : List Lexeme → Type 0
Opens [] = Unit {0}
Opens (t ∷ l) = Opening t.symbol l

open_dot : (arrow : Bool) (p : Place) (r : List Lexeme) → IsSafe (fixed p (dot_or_arrow arrow) ∷ r)
open_dot true p r = tt
open_dot false p r = tt

pub opens_with : (w : Written) (r : List Lexeme) → IsSafe r → Opens (spelt w ++ r)
opens_with (Number p m) r h = tt
opens_with (Words p s) r h = tt
opens_with (Lone p c) r h = tt
opens_with (Literal p m) r h = tt
opens_with (Variable x) r h = h
opens_with (OfClass m p c) r h = tt
opens_with (OfBasic p w) r h = tt
opens_with (Elements p w q es s) r h = tt
opens_with (If p c q x s y t) r h = tt
opens_with (Round p w q) r h = tt
opens_with (Let p m q k s e t w) r h = tt
opens_with (Unary p U.Not w) r h = tt
opens_with (Unary p U.Neg w) r h = tt
opens_with (Binary x p o y) r h = rw (append_assoc (spelt x) (fixed p (S.Operator o) ∷ spelt y) r) (opens_with x (fixed p (S.Operator o) ∷ (spelt y ++ r)) tt)
opens_with (Read x p m) r h = rw (append_assoc (spelt x) (fixed p S.Dot ∷ named m ∷ []) r) (opens_with x (fixed p S.Dot ∷ named m ∷ r) tt)
opens_with (Call x w p m q es s) r h =
    let tail = named m ∷ fixed q S.Open ∷ (listed es ++ (fixed s (S.End E.Close) ∷ [])) in
    rw (append_assoc (spelt x) (fixed p (dot_or_arrow w) ∷ tail) r) (opens_with x (fixed p (dot_or_arrow w) ∷ (tail ++ r)) (open_dot w p (tail ++ r)))
opens_with (Loop x p m q v s e t) r h =
    let tail = fixed p S.Arrow ∷ named m ∷ fixed q S.Open ∷ named v ∷ fixed s (S.End E.Bar) ∷ (spelt e ++ (fixed t (S.End E.Close) ∷ [])) in
    rw (append_assoc (spelt x) tail r) (opens_with x (tail ++ r) tt)
opens_with (Iterate x p m q v s y t k u i z e j) r h =
    let tail = fixed p S.Arrow ∷ named m ∷ fixed q S.Open ∷ named v ∷ fixed s S.Semicolon ∷ named y ∷ fixed t S.Colon
    ∷ (kind_spelt k ++ (fixed u (S.Operator O.Eq) ∷ (spelt i ++ (fixed z (S.End E.Bar) ∷ (spelt e ++ (fixed j (S.End E.Close) ∷ [])))))) in
    rw (append_assoc (spelt x) tail r) (opens_with x (tail ++ r) tt)

-- only what stands first behind it matters
agreeing : (r tail : List Lexeme) → Matches r tail → IsSafe tail → IsSafe r
agreeing [] tail a h = tt
agreeing (t ∷ r) [] a h = absurd a
agreeing (t ∷ r) (u ∷ tail) a h = subst (λ x. Safe x.symbol) (sym a) h

reopens : (s : Symbol) (l m : List Lexeme) → (IsSafe l → IsSafe m) → Opening s l → Opening s m
reopens (T.Fixed (S.End E.Close)) l m g h = absurd h
reopens (T.Fixed (S.End E.CloseBrace)) l m g h = absurd h
reopens (T.Name s) l m g h = g h
reopens s l m g h = tt

opens_before : (front : List Lexeme) (t : Lexeme) (tail r : List Lexeme) → Matches r tail → Opens (front ++ (t ∷ tail)) → Opens (front ++ (t ∷ r))
opens_before [] t tail r a h = reopens t.symbol tail r (agreeing r tail a) h
opens_before (u ∷ []) t tail r a h = reopens u.symbol (t ∷ tail) (t ∷ r) (λ x. x) h
opens_before (u ∷ v ∷ front) t tail r a h = reopens u.symbol (v ∷ (front ++ (t ∷ tail))) (v ∷ (front ++ (t ∷ r))) (λ x. x) h

opens_front : (front : List Lexeme) (t : Lexeme) (tail : List Lexeme) → Opens (front ++ (t ∷ tail)) → Opens front
opens_front [] t tail h = tt
opens_front (u ∷ []) t tail h = reopens u.symbol (t ∷ tail) [] (λ x. tt) h
opens_front (u ∷ v ∷ front) t tail h = reopens u.symbol (v ∷ (front ++ (t ∷ tail))) (v ∷ front) (λ x. x) h

into_call : (fs : List Frame) (e : Expr) (arrow : Bool) (n : Name) (ts : List Lexeme) → Opens ts → run true fs (N.Argument (callee e arrow n)) ts ≡ run true (F.Arguments (callee e arrow n) [] ∷ fs) N.Operand ts
into_call fs e arrow n [] h = refl
into_call fs e arrow n (t ∷ l) h = on t.symbol t.place h
  where
    on : (s : Symbol) (p : Place) → Opening s l → run true fs (N.Argument (callee e arrow n)) (lexeme p s ∷ l) ≡ run true (F.Arguments (callee e arrow n) [] ∷ fs) N.Operand (lexeme p s ∷ l)
    on (T.Fixed (S.End E.Close)) p h = absurd h
    on (T.Fixed (S.End E.CloseBrace)) p h = absurd h
    on (T.Name s) p h = named_opens true fs e arrow n (name p s) l h
    on s p h = refl

into_elements : (fs : List Frame) (c : CollWord) (a : Place) (ts : List Lexeme) → Opens ts → run true fs (N.Element c a) ts ≡ run true (F.Elements c a [] ∷ fs) N.Operand ts
into_elements fs c a [] h = refl
into_elements fs c a (t ∷ l) h = on t.symbol t.place h
  where
    on : (s : Symbol) (p : Place) → Opening s l → run true fs (N.Element c a) (lexeme p s ∷ l) ≡ run true (F.Elements c a [] ∷ fs) N.Operand (lexeme p s ∷ l)
    on (T.Fixed (S.End E.Close)) p h = absurd h
    on (T.Fixed (S.End E.CloseBrace)) p h = absurd h
    on s p h = refl

-- another state that goes on alike
enters : (fs gs : List Frame) (n m : Next) (ts : List Lexeme) (k : ℕ) → ((l : List Lexeme) → Opens l → run true fs n l ≡ run true gs m l) → Opens ts → Broken gs m ts k → Broken fs n ts k
enters fs gs n m ts k g o x =
    let whole : Opens (x.front ++ (x.t ∷ x.tail)) = subst Opens x.whole o in
    record {
      front = x.front;
      t = x.t;
      tail = x.tail;
      whole = x.whole;
      count = x.count;
      breaks = λ r a. g (x.front ++ (x.t ∷ r)) (opens_before x.front x.t x.tail r a whole) ∙ x.breaks r a;
      waits = g x.front (opens_front x.front x.t x.tail whole) ∙ x.waits;
    }

mutual
  pub tries : (w : Written) (l : ℕ) (fs : List Frame) (r : List Lexeme) (k : ℕ) → Fits false l (deep fs) w → Admits l fs → deep_after (deep fs) w ≡ Some k → Broken fs N.Operand (spelt w ++ r) k
  tries (Number p n) l fs r k f a h = at_start fs (lexeme p (T.Number n)) r k h (λ d s. starts_deep true fs p (Goes fs (N.Have (expr p (K.Number n)))) (lexeme p (T.Number n)) s d)
  tries (Words p z) l fs r k f a h = at_start fs (lexeme p (T.Words z)) r k h (λ d s. starts_deep true fs p (Goes fs (N.Have (expr p (K.Words z)))) (lexeme p (T.Words z)) s d)
  tries (Lone p c) l fs r k f a h = at_start fs (fixed p (S.Constant c)) r k h (λ d s. starts_deep true fs p (Goes fs (N.Have (expr p (constant c)))) (fixed p (S.Constant c)) s d)
  tries (Literal p n) l fs r k f a h = at_start fs (fixed p S.Hash) (named n ∷ r) k h (λ d s. starts_deep true fs p (Goes fs (N.Literal p)) (fixed p S.Hash) s d)
  tries (Variable n) l fs r k f a h = at_start fs (named n) r k h (λ d s. starts_deep true fs n.place (Goes fs (N.Word n)) (named n) s d)
  tries (OfClass m p c) l fs r k f a h = at_start fs (named m) (fixed p S.Bang ∷ named c ∷ r) k h (λ d s. starts_deep true fs m.place (Goes fs (N.Word m)) (named m) s d)
  tries (OfBasic p w) l fs r k f a h = at_start fs (fixed p (S.Basic w)) r k h (λ d s. starts_deep true fs p (Goes fs (N.Have (expr p (K.Basic w)))) (fixed p (S.Basic w)) s d)
  tries (Elements p w q es z) l fs r k f a h =
      let o = deep_among (suc (deep fs)) es in
      let ts = listed es ++ (fixed z (S.End E.CloseBrace) ∷ r) in
      rw (append_assoc (listed es) (fixed z (S.End E.CloseBrace) ∷ []) r)
      (⊎_elim
      (λ e. at_start fs (fixed p (S.Coll w)) (fixed q S.OpenBrace ∷ ts) k e (λ d s. starts_deep true fs p (Goes fs (N.Brace w p)) (fixed p (S.Coll w)) s d))
      (λ e. let j = counted 2 o k e.1 in
      ahead [] (fixed p (S.Coll w) ∷ fixed q S.OpenBrace ∷ []) fs fs N.Operand (N.Element w p) ts k j.0
      (λ x. starts true fs p (Goes fs (N.Brace w p)) (fixed p (S.Coll w)) (fixed q S.OpenBrace ∷ x) (shallow_here (deep fs) e.0)) (omega (arith, j.2))
      (tries_elements es fs w p (fixed z (S.End E.CloseBrace) ∷ r) j.0 f.1 tt j.1))
      (split (here (deep fs)) (behind 2 o) k h))
  tries (If p c q u z y t) l fs r k f a h =
      let d = suc (deep fs) in
      let oc = deep_after d c in
      let ou = deep_after d u in
      let oy = deep_after d y in
      let end = fixed t (S.End E.Endif) ∷ [] in
      let other = fixed z (S.End E.Else) ∷ (spelt y ++ end) in
      let last = spelt y ++ (fixed t (S.End E.Endif) ∷ r) in
      let mid = spelt u ++ (fixed z (S.End E.Else) ∷ last) in
      let ts = spelt c ++ (fixed q (S.End E.Then) ∷ mid) in
      let goes : here (deep fs) ≡ Nowhere → (x : List Lexeme) → run true fs N.Operand (fixed p S.If ∷ x) ≡ run true (F.Condition p ∷ fs) N.Operand x =
      λ s x. starts true fs p (Goes (F.Condition p ∷ fs) N.Operand) (fixed p S.If) x (shallow_here (deep fs) s) in
      let second : (j i : ℕ) → oc ≡ Nowhere → length (spelt c) + (1 + i) ≡ j → Broken (F.Then p (tree_of c) ∷ fs) N.Operand mid i → Broken (F.Condition p ∷ fs) N.Operand ts j =
      λ j i g. ahead (spelt c) (fixed q (S.End E.Then) ∷ []) (F.Condition p ∷ fs) (F.Then p (tree_of c) ∷ fs) N.Operand N.Operand mid j i (λ x. reads true c 0 (F.Condition p ∷ fs) (fixed q (S.End E.Then) ∷ x) (fits c 0 d f.1 g) tt tt) in
      rw (append_assoc (spelt c) (fixed q (S.End E.Then) ∷ (spelt u ++ other)) r)
      (rw (append_assoc (spelt u) other r)
      (rw (append_assoc (spelt y) end r)
      (⊎_elim
      (λ e. at_start fs (fixed p S.If) ts k e (λ d s. starts_deep true fs p (Goes (F.Condition p ∷ fs) N.Operand) (fixed p S.If) s d))
      (λ e. ⊎_elim
      (λ g. let j = counted 1 oc k g in
      ahead [] (fixed p S.If ∷ []) fs (F.Condition p ∷ fs) N.Operand N.Operand ts k j.0 (goes e.0) (omega (arith, j.2)) (tries c 0 (F.Condition p ∷ fs) (fixed q (S.End E.Then) ∷ mid) j.0 f.1 tt j.1))
      (λ g. ⊎_elim
      (λ i. let j = counted (2 + size c) ou k i in
      ahead [] (fixed p S.If ∷ []) fs (F.Condition p ∷ fs) N.Operand N.Operand ts k (length (spelt c) + (1 + j.0)) (goes e.0) (omega (arith, j.2))
      (second (length (spelt c) + (1 + j.0)) j.0 (uncounted 1 oc g.0) (omega arith)
      (tries u 0 (F.Then p (tree_of c) ∷ fs) (fixed z (S.End E.Else) ∷ last) j.0 f.2 tt j.1)))
      (λ i. let j = counted (3 + size c + size u) oy k i.1 in
      ahead [] (fixed p S.If ∷ []) fs (F.Condition p ∷ fs) N.Operand N.Operand ts k (length (spelt c) + (1 + (length (spelt u) + (1 + j.0)))) (goes e.0) (omega (arith, j.2))
      (second (length (spelt c) + (1 + (length (spelt u) + (1 + j.0)))) (length (spelt u) + (1 + j.0)) (uncounted 1 oc g.0) (omega arith)
      (ahead (spelt u) (fixed z (S.End E.Else) ∷ []) (F.Then p (tree_of c) ∷ fs) (F.Else p (tree_of c) (tree_of u) ∷ fs) N.Operand N.Operand last (length (spelt u) + (1 + j.0)) j.0
      (λ x. reads true u 0 (F.Then p (tree_of c) ∷ fs) (fixed z (S.End E.Else) ∷ x) (fits u 0 d f.2 (uncounted (2 + size c) ou i.0)) tt tt) (omega arith)
      (tries y 0 (F.Else p (tree_of c) (tree_of u) ∷ fs) (fixed t (S.End E.Endif) ∷ r) j.0 f.3 tt j.1))))
      (split (behind (2 + size c) ou) (behind (3 + size c + size u) oy) k g.1))
      (split (behind 1 oc) (or_else (behind (2 + size c) ou) (behind (3 + size c + size u) oy)) k e.1))
      (split (here (deep fs)) (or_else (behind 1 oc) (or_else (behind (2 + size c) ou) (behind (3 + size c + size u) oy))) k h))))
  tries (Round p w q) l fs r k f a h =
      let o = deep_after (suc (deep fs)) w in
      let ts = spelt w ++ (fixed q (S.End E.Close) ∷ r) in
      rw (append_assoc (spelt w) (fixed q (S.End E.Close) ∷ []) r)
      (⊎_elim
      (λ e. at_start fs (fixed p S.Open) ts k e (λ d s. starts_deep true fs p (Goes (F.Round ∷ fs) N.Operand) (fixed p S.Open) s d))
      (λ e. let j = counted 1 o k e.1 in
      ahead [] (fixed p S.Open ∷ []) fs (F.Round ∷ fs) N.Operand N.Operand ts k j.0
      (λ x. starts true fs p (Goes (F.Round ∷ fs) N.Operand) (fixed p S.Open) x (shallow_here (deep fs) e.0)) (omega (arith, j.2))
      (tries w 0 (F.Round ∷ fs) (fixed q (S.End E.Close) ∷ r) j.0 f.1 tt j.1))
      (split (here (deep fs)) (behind 1 o) k h))
  tries (Let p n q c z v t w) l fs r k f a h =
      let d = suc (deep fs) in
      let ov = deep_after d v in
      let ow = deep_after d w in
      let nv = 4 + length (kind_spelt c) in
      let nw = 5 + length (kind_spelt c) + size v in
      let a0 : Admits 0 fs = subst (λ k. Admits k fs) f.0 a in
      let inner = fixed t (S.End E.In) ∷ spelt w in
      let last = spelt w ++ r in
      let value = spelt v ++ (fixed t (S.End E.In) ∷ last) in
      let given = kind_spelt c ++ (fixed z (S.Operator O.Eq) ∷ value) in
      let first : (j : ℕ) → here (deep fs) ≡ Nowhere → 0 + (3 + j) ≡ k → Broken (F.LetKind p n ∷ fs) N.Kind given j → Broken fs N.Operand (fixed p S.Let ∷ named n ∷ fixed q S.Colon ∷ given) k =
      λ j s. ahead [] (fixed p S.Let ∷ named n ∷ fixed q S.Colon ∷ []) fs (F.LetKind p n ∷ fs) N.Operand N.Kind given k j (λ x. let_here true fs p (named n ∷ fixed q S.Colon ∷ x) (shallow_here (deep fs) s) a0) in
      let second : (j i : ℕ) → length (kind_spelt c) + (1 + i) ≡ j → Broken (F.Value p n (kind_of c) ∷ fs) N.Operand value i → Broken (F.LetKind p n ∷ fs) N.Kind given j =
      λ j i. ahead (kind_spelt c) (fixed z (S.Operator O.Eq) ∷ []) (F.LetKind p n ∷ fs) (F.Value p n (kind_of c) ∷ fs) N.Kind N.Operand value j i (λ x. kinds true c (F.LetKind p n ∷ fs) (fixed z (S.Operator O.Eq) ∷ x)) in
      rw (append_assoc (kind_spelt c) (fixed z (S.Operator O.Eq) ∷ (spelt v ++ inner)) r)
      (rw (append_assoc (spelt v) inner r)
      (⊎_elim
      (λ e. at_start fs (fixed p S.Let) (named n ∷ fixed q S.Colon ∷ given) k e (let_deep fs p a0))
      (λ e. ⊎_elim
      (λ g. let j = counted nv ov k g in
      first (length (kind_spelt c) + (1 + j.0)) e.0 (omega (arith, j.2))
      (second (length (kind_spelt c) + (1 + j.0)) j.0 (omega arith)
      (tries v 0 (F.Value p n (kind_of c) ∷ fs) (fixed t (S.End E.In) ∷ last) j.0 f.2 tt j.1)))
      (λ g. let j = counted nw ow k g.1 in
      first (length (kind_spelt c) + (1 + (length (spelt v) + (1 + j.0)))) e.0 (omega (arith, j.2))
      (second (length (kind_spelt c) + (1 + (length (spelt v) + (1 + j.0)))) (length (spelt v) + (1 + j.0)) (omega arith)
      (ahead (spelt v) (fixed t (S.End E.In) ∷ []) (F.Value p n (kind_of c) ∷ fs) (F.Within p n (kind_of c) (tree_of v) ∷ fs) N.Operand N.Operand last (length (spelt v) + (1 + j.0)) j.0
      (λ x. reads true v 0 (F.Value p n (kind_of c) ∷ fs) (fixed t (S.End E.In) ∷ x) (fits v 0 d f.2 (uncounted nv ov g.0)) tt tt) (omega arith)
      (tries w 0 (F.Within p n (kind_of c) (tree_of v) ∷ fs) r j.0 f.3 tt j.1))))
      (split (behind nv ov) (behind nw ow) k e.1))
      (split (here (deep fs)) (or_else (behind nv ov) (behind nw ow)) k h)))
  tries (Unary p U.Not w) l fs r k f a h =
      let o = deep_after (suc (deep fs)) w in
      ⊎_elim
      (λ e. at_start fs (fixed p S.Not) (spelt w ++ r) k e (λ d s. starts_deep true fs p (Goes (F.Unary U.Not p ∷ fs) N.Operand) (fixed p S.Not) s d))
      (λ e. let j = counted 1 o k e.1 in
      ahead [] (fixed p S.Not ∷ []) fs (F.Unary U.Not p ∷ fs) N.Operand N.Operand (spelt w ++ r) k j.0
      (λ x. starts true fs p (Goes (F.Unary U.Not p ∷ fs) N.Operand) (fixed p S.Not) x (shallow_here (deep fs) e.0)) (omega (arith, j.2))
      (tries w 5 (F.Unary U.Not p ∷ fs) r j.0 f.2 (omega arith) j.1))
      (split (here (deep fs)) (behind 1 o) k h)
  tries (Unary p U.Neg w) l fs r k f a h =
      let o = deep_after (suc (deep fs)) w in
      let minus = fixed p (S.Operator O.Minus) in
      ⊎_elim
      (λ e. at_start fs minus (spelt w ++ r) k e (λ d s. starts_deep true fs p (Goes (F.Unary U.Neg p ∷ fs) N.Operand) minus s d))
      (λ e. let j = counted 1 o k e.1 in
      ahead [] (minus ∷ []) fs (F.Unary U.Neg p ∷ fs) N.Operand N.Operand (spelt w ++ r) k j.0
      (λ x. starts true fs p (Goes (F.Unary U.Neg p ∷ fs) N.Operand) minus x (shallow_here (deep fs) e.0)) (omega (arith, j.2))
      (tries w 5 (F.Unary U.Neg p ∷ fs) r j.0 f.2 (omega arith) j.1))
      (split (here (deep fs)) (behind 1 o) k h)
  tries (Binary u p o y) l fs r k f a h =
      let a1 : Admits (level o) fs = admits_more l (level o) fs f.0 a in
      let ou = deep_after (deep fs) u in
      let oy = deep_after (deep fs) y in
      let sign = fixed p (S.Operator o) in
      rw (append_assoc (spelt u) (sign ∷ spelt y) r)
      (⊎_elim
      (λ e. tries u (level o) fs (sign ∷ (spelt y ++ r)) k f.1 a1 e)
      (λ e. let j = counted (1 + size u) oy k e.1 in
      ahead (spelt u) (sign ∷ []) fs (F.Left (tree_of u) p o ∷ fs) N.Operand N.Operand (spelt y ++ r) k j.0
      (λ x. reads true u (level o) fs (sign ∷ x) (fits u (level o) (deep fs) f.1 e.0) a1 (omega arith)
      ∙ ap (λ v. after v (sign ∷ x) (λ gs m. run true gs m x)) (stays (level o) fs (tree_of u) (λ gs z. Goes (F.Left z p o ∷ gs) N.Operand) (let lt = low o in omega (arith, lt)) a1)) (omega (arith, j.2))
      (tries y (suc (level o)) (F.Left (tree_of u) p o ∷ fs) r j.0 f.2 (omega arith) j.1))
      (split ou (behind (1 + size u) oy) k h))
  tries (Read u p n) l fs r k f a h =
      rw (append_assoc (spelt u) (fixed p S.Dot ∷ named n ∷ []) r) (tries u 6 fs (fixed p S.Dot ∷ named n ∷ r) k f (admits_dot fs) h)
  tries (Call u arrow p n q es z) l fs r k f a h =
      let mid = fixed p (dot_or_arrow arrow) ∷ named n ∷ fixed q S.Open ∷ [] in
      let ts = listed es ++ (fixed z (S.End E.Close) ∷ r) in
      let ou = deep_after (deep fs) u in
      let oe = deep_among (suc (deep fs)) es in
      rw (append_assoc (spelt u) (mid ++ (listed es ++ (fixed z (S.End E.Close) ∷ []))) r)
      (rw (append_assoc (listed es) (fixed z (S.End E.Close) ∷ []) r)
      (⊎_elim
      (λ e. tries u 6 fs (mid ++ ts) k f.0 (admits_dot fs) e)
      (λ e. let j = counted (3 + size u) oe k e.1 in
      ahead (spelt u) mid fs fs N.Operand (N.Argument (callee (tree_of u) arrow n)) ts k j.0
      (λ x. reads true u 6 fs (mid ++ x) (fits u 6 (deep fs) f.0 e.0) (admits_dot fs) (follow_dot true arrow) ∙ calls true fs (tree_of u) arrow p n q x) (omega (arith, j.2))
      (tries_all es fs (tree_of u) arrow n (fixed z (S.End E.Close) ∷ r) j.0 f.1 tt j.1))
      (split ou (behind (3 + size u) oe) k h)))
  tries (Loop u p n q v z y t) l fs r k f a h =
      let mid = fixed p S.Arrow ∷ named n ∷ fixed q S.Open ∷ named v ∷ fixed z (S.End E.Bar) ∷ [] in
      let end = fixed t (S.End E.Close) ∷ [] in
      let ts = spelt y ++ (fixed t (S.End E.Close) ∷ r) in
      let ou = deep_after (deep fs) u in
      let oy = deep_after (suc (deep fs)) y in
      rw (append_assoc (spelt u) (mid ++ (spelt y ++ end)) r)
      (rw (append_assoc (spelt y) end r)
      (⊎_elim
      (λ e. tries u 6 fs (mid ++ ts) k f.1 (admits_dot fs) e)
      (λ e. let j = counted (5 + size u) oy k e.1 in
      ahead (spelt u) mid fs (F.Body (callee (tree_of u) true n) v ∷ fs) N.Operand N.Operand ts k j.0
      (λ x. reads true u 6 fs (mid ++ x) (fits u 6 (deep fs) f.1 e.0) (admits_dot fs) (omega arith) ∙ iterates true fs (tree_of u) p n q v z x f.0) (omega (arith, j.2))
      (tries y 0 (F.Body (callee (tree_of u) true n) v ∷ fs) (fixed t (S.End E.Close) ∷ r) j.0 f.2 tt j.1))
      (split ou (behind (5 + size u) oy) k h)))
  tries (Iterate u p n q v s y t b z i j o w) l fs r k f a h =
      let d = suc (deep fs) in
      let c = callee (tree_of u) true n in
      let mid = fixed p S.Arrow ∷ named n ∷ fixed q S.Open ∷ named v ∷ fixed s S.Semicolon ∷ named y ∷ fixed t S.Colon ∷ [] in
      let end = fixed w (S.End E.Close) ∷ [] in
      let turn = fixed j (S.End E.Bar) ∷ (spelt o ++ end) in
      let start = fixed z (S.Operator O.Eq) ∷ (spelt i ++ turn) in
      let last = spelt o ++ (fixed w (S.End E.Close) ∷ r) in
      let from = spelt i ++ (fixed j (S.End E.Bar) ∷ last) in
      let given = kind_spelt b ++ (fixed z (S.Operator O.Eq) ∷ from) in
      let ou = deep_after (deep fs) u in
      let oi = deep_after d i in
      let oo = deep_after d o in
      let ni = 8 + size u + length (kind_spelt b) in
      let no = 9 + size u + length (kind_spelt b) + size i in
      let first : (m : ℕ) → ou ≡ Nowhere → length (spelt u) + (7 + m) ≡ k → Broken (F.OutcomeKind c v y ∷ fs) N.Kind given m → Broken fs N.Operand (spelt u ++ (mid ++ given)) k =
      λ m g. ahead (spelt u) mid fs (F.OutcomeKind c v y ∷ fs) N.Operand N.Kind given k m (λ x. reads true u 6 fs (mid ++ x) (fits u 6 (deep fs) f.1 g) (admits_dot fs) (omega arith) ∙ folds true fs (tree_of u) p n q v s y t x f.0) in
      let second : (m e : ℕ) → length (kind_spelt b) + (1 + e) ≡ m → Broken (F.Start c v y (kind_of b) ∷ fs) N.Operand from e → Broken (F.OutcomeKind c v y ∷ fs) N.Kind given m =
      λ m e. ahead (kind_spelt b) (fixed z (S.Operator O.Eq) ∷ []) (F.OutcomeKind c v y ∷ fs) (F.Start c v y (kind_of b) ∷ fs) N.Kind N.Operand from m e (λ x. kinds true b (F.OutcomeKind c v y ∷ fs) (fixed z (S.Operator O.Eq) ∷ x)) in
      rw (append_assoc (spelt u) (mid ++ (kind_spelt b ++ start)) r)
      (rw (append_assoc (kind_spelt b) start r)
      (rw (append_assoc (spelt i) turn r)
      (rw (append_assoc (spelt o) end r)
      (⊎_elim
      (λ e. tries u 6 fs (mid ++ given) k f.1 (admits_dot fs) e)
      (λ e. ⊎_elim
      (λ g. let m = counted ni oi k g in
      first (length (kind_spelt b) + (1 + m.0)) e.0 (omega (arith, m.2))
      (second (length (kind_spelt b) + (1 + m.0)) m.0 (omega arith)
      (tries i 0 (F.Start c v y (kind_of b) ∷ fs) (fixed j (S.End E.Bar) ∷ last) m.0 f.2 tt m.1)))
      (λ g. let m = counted no oo k g.1 in
      first (length (kind_spelt b) + (1 + (length (spelt i) + (1 + m.0)))) e.0 (omega (arith, m.2))
      (second (length (kind_spelt b) + (1 + (length (spelt i) + (1 + m.0)))) (length (spelt i) + (1 + m.0)) (omega arith)
      (ahead (spelt i) (fixed j (S.End E.Bar) ∷ []) (F.Start c v y (kind_of b) ∷ fs) (F.Fold c v y (kind_of b) (tree_of i) ∷ fs) N.Operand N.Operand last (length (spelt i) + (1 + m.0)) m.0
      (λ x. reads true i 0 (F.Start c v y (kind_of b) ∷ fs) (fixed j (S.End E.Bar) ∷ x) (fits i 0 d f.2 (uncounted ni oi g.0)) tt tt) (omega arith)
      (tries o 0 (F.Fold c v y (kind_of b) (tree_of i) ∷ fs) (fixed w (S.End E.Close) ∷ r) m.0 f.3 tt m.1))))
      (split (behind ni oi) (behind no oo) k e.1))
      (split ou (or_else (behind ni oi) (behind no oo)) k h)))))

  tries_all : (es : Arguments) (fs : List Frame) (u : Expr) (arrow : Bool) (n : Name) (r : List Lexeme) (k : ℕ) → FitAll false (suc (deep fs)) es → IsSafe r → deep_among (suc (deep fs)) es ≡ Some k → Broken fs (N.Argument (callee u arrow n)) (listed es ++ r) k
  tries_all None fs u arrow n r k f s h = absurd (subst IsThere (sym h) tt)
  tries_all (One e) fs u arrow n r k f s h =
      enters fs (F.Arguments (callee u arrow n) [] ∷ fs) (N.Argument (callee u arrow n)) N.Operand (spelt e ++ r) k (into_call fs u arrow n) (opens_with e r s)
      (tries e 0 (F.Arguments (callee u arrow n) [] ∷ fs) r k f tt h)
  tries_all (More es p e) fs u arrow n r k f s h =
      let oe = deep_after (suc (deep fs)) e in
      rw (append_assoc (listed es) (fixed p (S.End E.Comma) ∷ spelt e) r)
      (⊎_elim
      (λ g. tries_all es fs u arrow n (fixed p (S.End E.Comma) ∷ (spelt e ++ r)) k f.1 tt g)
      (λ g. let y = reads_all true es fs u arrow n (fit_all es (suc (deep fs)) f.1 g.0) f.0 in
      let j = counted (1 + length (listed es)) oe k g.1 in
      ahead (listed es) (fixed p (S.End E.Comma) ∷ []) fs (F.Arguments (callee u arrow n) (trees es) ∷ fs) (N.Argument (callee u arrow n)) N.Operand (spelt e ++ r) k j.0
      (λ x. y.by (fixed p (S.End E.Comma) ∷ x) tt tt ∙ ap (λ l. run true (F.Arguments (callee u arrow n) l ∷ fs) N.Operand x) y.all) (omega (arith, j.2))
      (tries e 0 (F.Arguments (callee u arrow n) (trees es) ∷ fs) r j.0 f.2 tt j.1))
      (split (deep_among (suc (deep fs)) es) (behind (1 + length (listed es)) oe) k h))

  tries_elements : (es : Arguments) (fs : List Frame) (c : CollWord) (a : Place) (r : List Lexeme) (k : ℕ) → FitAll false (suc (deep fs)) es → IsSafe r → deep_among (suc (deep fs)) es ≡ Some k → Broken fs (N.Element c a) (listed es ++ r) k
  tries_elements None fs c a r k f s h = absurd (subst IsThere (sym h) tt)
  tries_elements (One e) fs c a r k f s h =
      enters fs (F.Elements c a [] ∷ fs) (N.Element c a) N.Operand (spelt e ++ r) k (into_elements fs c a) (opens_with e r s) (tries e 0 (F.Elements c a [] ∷ fs) r k f tt h)
  tries_elements (More es p e) fs c a r k f s h =
      let oe = deep_after (suc (deep fs)) e in
      rw (append_assoc (listed es) (fixed p (S.End E.Comma) ∷ spelt e) r)
      (⊎_elim
      (λ g. tries_elements es fs c a (fixed p (S.End E.Comma) ∷ (spelt e ++ r)) k f.1 tt g)
      (λ g. let y = reads_elements true es fs c a (fit_all es (suc (deep fs)) f.1 g.0) f.0 in
      let j = counted (1 + length (listed es)) oe k g.1 in
      ahead (listed es) (fixed p (S.End E.Comma) ∷ []) fs (F.Elements c a (trees es) ∷ fs) (N.Element c a) N.Operand (spelt e ++ r) k j.0
      (λ x. y.by (fixed p (S.End E.Comma) ∷ x) tt ∙ ap (λ l. run true (F.Elements c a l ∷ fs) N.Operand x) y.all) (omega (arith, j.2))
      (tries e 0 (F.Elements c a (trees es) ∷ fs) r j.0 f.2 tt j.1))
      (split (deep_among (suc (deep fs)) es) (behind (1 + length (listed es)) oe) k h))
