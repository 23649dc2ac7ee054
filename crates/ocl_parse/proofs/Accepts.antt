-- What is written is read.
use Rattle.std.proofs.Common.{◌≡◌, ℕ, suc, ◌<◌, ◌≤◌, List, [], ◌∷◌, ◌++◌, refl, sym, ap, ◌∙◌, subst, arith, append_assoc}
use Rattle.std.proofs.lemmas.Bool.Decides.{nat_tests}
use Rattle.std.specs.Prelude.{Bool, true, false, nat_le}
use Rattle.atl_base.specs.declared.place.Place.{Place}
use Rattle.atl_tree.specs.declared.name.Name.{Name}
use Rattle.atl_tree.specs.declared.kind.CollWord.{CollWord}
use Rattle.atl_tree.specs.declared.kind.KindNode.{KindNode}
use Rattle.atl_tree.specs.declared.expr.Expr.{Expr}
use Rattle.atl_tree.specs.declared.expr.ExprKind.TheVariants as K
use Rattle.atl_tree.specs.declared.expr.UnaryOp.{UnaryOp}
use Rattle.atl_tree.specs.declared.expr.UnaryOp.TheVariants as U
use Rattle.atl_tree.specs.declared.expr.BinaryOp.{BinaryOp}
use Rattle.atl_tree.specs.declared.expr.BinaryOp.TheVariants as O
use Rattle.ocl_parse.specs.declared.sign.Ender.TheVariants as E
use Rattle.ocl_parse.specs.declared.sign.Sign.TheVariants as S
use Rattle.ocl_parse.specs.declared.symbol.Symbol.{Symbol}
use Rattle.ocl_parse.specs.declared.symbol.Symbol.TheVariants as T
use Rattle.ocl_parse.specs.declared.frame.Callee.{Callee}
use Rattle.ocl_parse.specs.declared.frame.Frame.{Frame}
use Rattle.ocl_parse.specs.declared.frame.Frame.TheVariants as F
use Rattle.ocl_parse.specs.declared.frame.Next.TheVariants as N
use Rattle.ocl_parse.specs.Signs.{is_iterator, is_iterate}
use Rattle.ocl_parse.specs.Symbols.{Lexeme, lexeme}
use Rattle.ocl_parse.specs.Depth.{deep, is_shallow}
use Rattle.ocl_parse.specs.Trees.{expr, level, constant, binary, unary, variable, feature, callee, call, collection, within}
use Rattle.ocl_parse.specs.Grammar.{fixed, named, Kind, Basic, Class, Coll, kind_spelt, kind_of, Written, Number, Words, Lone, Literal, Variable, OfClass, OfBasic, Elements, If, Round, Let, Unary, Binary, Read, Call, Loop, Iterate, Arguments, None, One, More, dot_or_arrow, spelt, listed, tree_of, trees, AreSome, Begins, Fits, FitAll}
use Rattle.ocl_parse.specs.Machine.{Step, Goes, TooDeep, before, begins, argued, step, Deep, after, run}

-- what follows an expression of level l takes nothing of it
abbrev pub Follow : ℕ → Symbol → Type 0
Follow l (T.Fixed (S.Operator o)) = level o ≤ l
Follow l (T.Fixed S.Dot) = 6 ≤ l
Follow l (T.Fixed S.Arrow) = 6 ≤ l
Follow l (T.Fixed S.Open) = ⊥
Follow l (T.Fixed S.Bang) = ⊥
Follow l s = Unit {0}

abbrev pub Follows : ℕ → List Lexeme → Type 0
Follows l [] = Unit {0}
Follows l (t ∷ ts) = Follow l t.symbol

-- what follows a name does not make it a variable of an iterator
abbrev pub Safe : Symbol → Type 0
Safe (T.Fixed (S.End E.Bar)) = ⊥
Safe (T.Fixed S.Semicolon) = ⊥
Safe s = Unit {0}

abbrev pub IsSafe : List Lexeme → Type 0
IsSafe [] = Unit {0}
IsSafe (t ∷ ts) = Safe t.symbol

-- an expression of level l may stand here
abbrev pub Admits : ℕ → List Frame → Type 0
Admits l (F.Left a p o ∷ fs) = level o < l
Admits l (F.Unary o p ∷ fs) = 5 ≤ l
Admits l fs = Unit {0}

pub low : (o : BinaryOp) → level o < 5
low O.And = omega arith
low O.Or = omega arith
low O.Xor = omega arith
low O.Implies = omega arith
low O.Eq = omega arith
low O.Ne = omega arith
low O.Lt = omega arith
low O.Gt = omega arith
low O.Le = omega arith
low O.Ge = omega arith
low O.Plus = omega arith
low O.Minus = omega arith
low O.Times = omega arith
low O.Div = omega arith
low O.Mod = omega arith

pub positive : (o : BinaryOp) → 0 < level o
positive O.And = omega arith
positive O.Or = omega arith
positive O.Xor = omega arith
positive O.Implies = omega arith
positive O.Eq = omega arith
positive O.Ne = omega arith
positive O.Lt = omega arith
positive O.Gt = omega arith
positive O.Le = omega arith
positive O.Ge = omega arith
positive O.Plus = omega arith
positive O.Minus = omega arith
positive O.Times = omega arith
positive O.Div = omega arith
positive O.Mod = omega arith

pub admits_dot : (fs : List Frame) → Admits 6 fs
admits_dot [] = tt
admits_dot (F.Left a p o ∷ fs) = let lt = low o in omega (arith, lt)
admits_dot (F.Unary o p ∷ fs) = omega arith
admits_dot (f ∷ fs) = tt

pub admits_more : (l k : ℕ) (fs : List Frame) → l ≤ k → Admits l fs → Admits k fs
admits_more l k [] le h = tt
admits_more l k (F.Left a p o ∷ fs) le h = omega (arith, le, h)
admits_more l k (F.Unary o p ∷ fs) le h = omega (arith, le, h)
admits_more l k (f ∷ fs) le h = tt

follow_more : (l k : ℕ) (r : List Lexeme) → l ≤ k → Follows l r → Follows k r
follow_more l k [] le h = tt
follow_more l k (t ∷ r) le h = more t.symbol h
  where
    more : (s : Symbol) → Follow l s → Follow k s
    more (T.Fixed (S.Operator o)) f = omega (arith, le, f)
    more (T.Fixed S.Dot) f = omega (arith, le, f)
    more (T.Fixed S.Arrow) f = omega (arith, le, f)
    more (T.Fixed S.Open) f = f
    more (T.Fixed S.Bang) f = f
    more s f = tt

-- an operator stays behind one that binds more strongly
pub stays : (l : ℕ) (fs : List Frame) (e : Expr) (k : List Frame → Expr → Step) → l ≤ 4 → Admits l fs → before l fs e k ≡ k fs e
stays l [] e k le h = refl
stays l (F.Left a p o ∷ fs) e k le h = let no : nat_le l (level o) ≡ false = grind (arith, nat_tests) in rw no refl
stays l (F.Unary o p ∷ fs) e k le h = absurd (omega (arith, le, h))
stays l (f ∷ fs) e k le h = refl

-- it ends before one that does not
goes : (l : ℕ) (a : Expr) (p : Place) (o : BinaryOp) (fs : List Frame) (e : Expr) (k : List Frame → Expr → Step) → l ≤ level o → before l (F.Left a p o ∷ fs) e k ≡ before l fs (binary a p o e) k
goes l a p o fs e k h = let yes : nat_le l (level o) ≡ true = grind (arith, nat_tests) in rw yes refl

module _ (b : Bool) where
  -- an expression that begins here is not too deep
  pub starts : (fs : List Frame) (p : Place) (next : Step) (t : Lexeme) (r : List Lexeme) → Begins b (deep fs) → after (begins b fs p next) (t ∷ r) (λ gs m. run b gs m r) ≡ after next (t ∷ r) (λ gs m. run b gs m r)
  starts fs p next t r h = rw h refl

  worded : (fs : List Frame) (n : Name) (l : ℕ) (r : List Lexeme) → Follows l r → run b fs (N.Word n) r ≡ run b fs (N.Have (variable n)) r
  worded fs n l [] h = refl
  worded fs n l (t ∷ r) h = ap (λ u. after u (t ∷ r) (λ gs m. run b gs m r)) (same t.symbol h)
    where
      same : (s : Symbol) → Follow l s → step b fs (N.Word n) s t.place ≡ step b fs (N.Have (variable n)) s t.place
      same (T.Fixed S.Bang) f = absurd f
      same s f = refl

  featured : (fs : List Frame) (a : Expr) (n : Name) (l : ℕ) (r : List Lexeme) → Follows l r → run b fs (N.Named a n) r ≡ run b fs (N.Have (feature a n)) r
  featured fs a n l [] h = refl
  featured fs a n l (t ∷ r) h = ap (λ u. after u (t ∷ r) (λ gs m. run b gs m r)) (same t.symbol h)
    where
      same : (s : Symbol) → Follow l s → step b fs (N.Named a n) s t.place ≡ step b fs (N.Have (feature a n)) s t.place
      same (T.Fixed S.Open) f = absurd f
      same s f = refl

  left : (l : ℕ) (a : Expr) (p : Place) (o : BinaryOp) (fs : List Frame) (e : Expr) (r : List Lexeme) → l ≤ level o → Follows l r → run b (F.Left a p o ∷ fs) (N.Have e) r ≡ run b fs (N.Have (binary a p o e)) r
  left l a p o fs e [] le h = refl
  left l a p o fs e (t ∷ r) le h = same t.symbol h
    where
      same : (s : Symbol) → Follow l s → after (step b (F.Left a p o ∷ fs) (N.Have e) s t.place) (t ∷ r) (λ gs m. run b gs m r) ≡ after (step b fs (N.Have (binary a p o e)) s t.place) (t ∷ r) (λ gs m. run b gs m r)
      same (T.Fixed (S.Operator q)) f = ap (λ u. after u (t ∷ r) (λ gs m. run b gs m r)) (goes (level q) a p o fs e (λ gs x. Goes (F.Left x t.place q ∷ gs) N.Operand) (omega (arith, le, f)))
      same (T.Fixed S.Dot) f = absurd (let lt = low o in omega (arith, le, f, lt))
      same (T.Fixed S.Arrow) f = absurd (let lt = low o in omega (arith, le, f, lt))
      same s f = refl

  unaried : (l : ℕ) (p : Place) (o : UnaryOp) (fs : List Frame) (e : Expr) (r : List Lexeme) → l ≤ 5 → Follows l r → run b (F.Unary o p ∷ fs) (N.Have e) r ≡ run b fs (N.Have (unary p o e)) r
  unaried l p o fs e [] le h = refl
  unaried l p o fs e (t ∷ r) le h = same t.symbol h
    where
      same : (s : Symbol) → Follow l s → after (step b (F.Unary o p ∷ fs) (N.Have e) s t.place) (t ∷ r) (λ gs m. run b gs m r) ≡ after (step b fs (N.Have (unary p o e)) s t.place) (t ∷ r) (λ gs m. run b gs m r)
      same (T.Fixed S.Dot) f = absurd (omega (arith, le, f))
      same (T.Fixed S.Arrow) f = absurd (omega (arith, le, f))
      same s f = refl

  body : (p : Place) (n : Name) (k : KindNode) (v : Expr) (fs : List Frame) (e : Expr) (r : List Lexeme) → Follows 0 r → run b (F.Within p n k v ∷ fs) (N.Have e) r ≡ run b fs (N.Have (within p n k v e)) r
  body p n k v fs e [] h = refl
  body p n k v fs e (t ∷ r) h = same t.symbol h
    where
      same : (s : Symbol) → Follow 0 s → after (step b (F.Within p n k v ∷ fs) (N.Have e) s t.place) (t ∷ r) (λ gs m. run b gs m r) ≡ after (step b fs (N.Have (within p n k v e)) s t.place) (t ∷ r) (λ gs m. run b gs m r)
      same (T.Fixed (S.Operator q)) f = absurd (let lt = positive q in omega (arith, f, lt))
      same (T.Fixed S.Dot) f = absurd (omega (arith, f))
      same (T.Fixed S.Arrow) f = absurd (omega (arith, f))
      same s f = refl

  pub let_here : (fs : List Frame) (p : Place) (ts : List Lexeme) → Begins b (deep fs) → Admits 0 fs → run b fs N.Operand (fixed p S.Let ∷ ts) ≡ run b fs (N.LetName p) ts
  let_here [] p ts d h = starts [] p (Goes [] (N.LetName p)) (fixed p S.Let) ts d
  let_here (F.Left a q o ∷ fs) p ts d h = absurd (omega (arith, h))
  let_here (F.Unary o q ∷ fs) p ts d h = absurd (omega (arith, h))
  let_here (f ∷ fs) p ts d h = starts (f ∷ fs) p (Goes (f ∷ fs) (N.LetName p)) (fixed p S.Let) ts d

  pub kinds : (k : Kind) (fs : List Frame) (r : List Lexeme) → run b fs N.Kind (kind_spelt k ++ r) ≡ run b fs (N.HaveKind (kind_of k)) r
  kinds (Basic p w) fs r = refl
  kinds (Class m p c) fs r = refl
  kinds (Coll p w q k s) fs r = rw (append_assoc (kind_spelt k) (fixed s (S.End E.Close) ∷ []) r) (kinds k (F.CollKind w p ∷ fs) (fixed s (S.End E.Close) ∷ r))

  -- the same where it does
  pub starts_deep : (fs : List Frame) (p : Place) (next : Step) (t : Lexeme) (r : List Lexeme) → is_shallow b (deep fs) ≡ false → after (begins b fs p next) (t ∷ r) (λ gs m. run b gs m r) ≡ Deep p
  starts_deep fs p next t r h = rw h refl

  -- a name that is no variable of an iterator begins an argument
  firsts : (fs : List Frame) (c : Callee) (x : Name) (r : List Lexeme) → Begins b (suc (deep fs)) → IsSafe r → run b fs (N.First c x) r ≡ run b (F.Arguments c [] ∷ fs) (N.Word x) r
  firsts fs c x [] d h = rw d refl
  firsts fs c x (t ∷ r) d h = ap (λ u. after u (t ∷ r) (λ gs m. run b gs m r)) (same t.symbol h)
    where
      argues : (s : Symbol) → argued b fs c x s t.place ≡ step b (F.Arguments c [] ∷ fs) (N.Word x) s t.place
      argues s = rw d refl

      same : (s : Symbol) → Safe s → step b fs (N.First c x) s t.place ≡ step b (F.Arguments c [] ∷ fs) (N.Word x) s t.place
      same (T.Fixed (S.End E.Bar)) f = absurd f
      same (T.Fixed S.Semicolon) f = absurd f
      same s f = argues s

  -- and so one that begins it too deep
  pub firsts_deep : (fs : List Frame) (c : Callee) (x : Name) (r : List Lexeme) → is_shallow b (suc (deep fs)) ≡ false → IsSafe r → run b fs (N.First c x) r ≡ Deep x.place
  firsts_deep fs c x [] d h = rw d refl
  firsts_deep fs c x (t ∷ r) d h = ap (λ u. after u (t ∷ r) (λ gs m. run b gs m r)) (same t.symbol h)
    where
      argues : (s : Symbol) → argued b fs c x s t.place ≡ TooDeep x.place
      argues s = rw d refl

      same : (s : Symbol) → Safe s → step b fs (N.First c x) s t.place ≡ TooDeep x.place
      same (T.Fixed (S.End E.Bar)) f = absurd f
      same (T.Fixed S.Semicolon) f = absurd f
      same s f = argues s

  pub named_opens : (fs : List Frame) (a : Expr) (arrow : Bool) (n x : Name) (r : List Lexeme) → IsSafe r → run b fs (N.Argument (callee a arrow n)) (named x ∷ r) ≡ run b (F.Arguments (callee a arrow n) [] ∷ fs) N.Operand (named x ∷ r)
  named_opens fs a false n x r h = refl
  named_opens fs a true n x r h = on (is_shallow b (suc (deep fs))) refl
    where
      word_next : Step
      word_next = Goes (F.Arguments (callee a true n) [] ∷ fs) (N.Word x)

      on : (t : Bool) → is_shallow b (suc (deep fs)) ≡ t → run b fs (N.First (callee a true n) x) r ≡ run b (F.Arguments (callee a true n) [] ∷ fs) N.Operand (named x ∷ r)
      on true d = firsts fs (callee a true n) x r d h ∙ sym (starts (F.Arguments (callee a true n) [] ∷ fs) x.place word_next (named x) r d)
      on false d = firsts_deep fs (callee a true n) x r d h ∙ sym (starts_deep (F.Arguments (callee a true n) [] ∷ fs) x.place word_next (named x) r d)

  pub safe_dot : (arrow : Bool) → Safe (T.Fixed (dot_or_arrow arrow))
  safe_dot true = tt
  safe_dot false = tt

  pub follow_dot : (arrow : Bool) → Follow 6 (T.Fixed (dot_or_arrow arrow))
  follow_dot true = omega arith
  follow_dot false = omega arith

  -- an argument does not begin with a closing parenthesis
  pub opens : (w : Written) (fs : List Frame) (a : Expr) (arrow : Bool) (n : Name) (r : List Lexeme) → IsSafe r → run b fs (N.Argument (callee a arrow n)) (spelt w ++ r) ≡ run b (F.Arguments (callee a arrow n) [] ∷ fs) N.Operand (spelt w ++ r)
  opens (Number p m) fs a arrow n r h = refl
  opens (Words p s) fs a arrow n r h = refl
  opens (Lone p c) fs a arrow n r h = refl
  opens (Literal p m) fs a arrow n r h = refl
  opens (Variable x) fs a arrow n r h = named_opens fs a arrow n x r h
  opens (OfClass m p c) fs a arrow n r h = named_opens fs a arrow n m (fixed p S.Bang ∷ named c ∷ r) tt
  opens (OfBasic p w) fs a arrow n r h = refl
  opens (Elements p w q es s) fs a arrow n r h = refl
  opens (If p c q x s y t) fs a arrow n r h = refl
  opens (Round p w q) fs a arrow n r h = refl
  opens (Let p m q k s e t w) fs a arrow n r h = refl
  opens (Unary p U.Not w) fs a arrow n r h = refl
  opens (Unary p U.Neg w) fs a arrow n r h = refl
  opens (Binary x p o y) fs a arrow n r h =
      rw (append_assoc (spelt x) (fixed p (S.Operator o) ∷ spelt y) r) (opens x fs a arrow n (fixed p (S.Operator o) ∷ (spelt y ++ r)) tt)
  opens (Read x p m) fs a arrow n r h =
      rw (append_assoc (spelt x) (fixed p S.Dot ∷ named m ∷ []) r) (opens x fs a arrow n (fixed p S.Dot ∷ named m ∷ r) tt)
  opens (Call x w p m q es s) fs a arrow n r h =
      let tail = named m ∷ fixed q S.Open ∷ (listed es ++ (fixed s (S.End E.Close) ∷ [])) in
      rw (append_assoc (spelt x) (fixed p (dot_or_arrow w) ∷ tail) r) (opens x fs a arrow n (fixed p (dot_or_arrow w) ∷ (tail ++ r)) (safe_dot w))
  opens (Loop x p m q v s e t) fs a arrow n r h =
      let tail = fixed p S.Arrow ∷ named m ∷ fixed q S.Open ∷ named v ∷ fixed s (S.End E.Bar) ∷ (spelt e ++ (fixed t (S.End E.Close) ∷ [])) in
      rw (append_assoc (spelt x) tail r) (opens x fs a arrow n (tail ++ r) tt)
  opens (Iterate x p m q v s y t k u i z e j) fs a arrow n r h =
      let tail = fixed p S.Arrow ∷ named m ∷ fixed q S.Open ∷ named v ∷ fixed s S.Semicolon ∷ named y ∷ fixed t S.Colon
      ∷ (kind_spelt k ++ (fixed u (S.Operator O.Eq) ∷ (spelt i ++ (fixed z (S.End E.Bar) ∷ (spelt e ++ (fixed j (S.End E.Close) ∷ [])))))) in
      rw (append_assoc (spelt x) tail r) (opens x fs a arrow n (tail ++ r) tt)

  -- nor does an element
  pub opens_element : (w : Written) (fs : List Frame) (c : CollWord) (a : Place) (r : List Lexeme) → run b fs (N.Element c a) (spelt w ++ r) ≡ run b (F.Elements c a [] ∷ fs) N.Operand (spelt w ++ r)
  opens_element (Number p m) fs c a r = refl
  opens_element (Words p s) fs c a r = refl
  opens_element (Lone p k) fs c a r = refl
  opens_element (Literal p m) fs c a r = refl
  opens_element (Variable x) fs c a r = refl
  opens_element (OfClass m p k) fs c a r = refl
  opens_element (OfBasic p w) fs c a r = refl
  opens_element (Elements p w q es s) fs c a r = refl
  opens_element (If p k q x s y t) fs c a r = refl
  opens_element (Round p w q) fs c a r = refl
  opens_element (Let p m q k s e t w) fs c a r = refl
  opens_element (Unary p U.Not w) fs c a r = refl
  opens_element (Unary p U.Neg w) fs c a r = refl
  opens_element (Binary x p o y) fs c a r =
      rw (append_assoc (spelt x) (fixed p (S.Operator o) ∷ spelt y) r) (opens_element x fs c a (fixed p (S.Operator o) ∷ (spelt y ++ r)))
  opens_element (Read x p m) fs c a r =
      rw (append_assoc (spelt x) (fixed p S.Dot ∷ named m ∷ []) r) (opens_element x fs c a (fixed p S.Dot ∷ named m ∷ r))
  opens_element (Call x w p m q es s) fs c a r =
      let tail = fixed p (dot_or_arrow w) ∷ named m ∷ fixed q S.Open ∷ (listed es ++ (fixed s (S.End E.Close) ∷ [])) in
      rw (append_assoc (spelt x) tail r) (opens_element x fs c a (tail ++ r))
  opens_element (Loop x p m q v s e t) fs c a r =
      let tail = fixed p S.Arrow ∷ named m ∷ fixed q S.Open ∷ named v ∷ fixed s (S.End E.Bar) ∷ (spelt e ++ (fixed t (S.End E.Close) ∷ [])) in
      rw (append_assoc (spelt x) tail r) (opens_element x fs c a (tail ++ r))
  opens_element (Iterate x p m q v s y t k u i z e j) fs c a r =
      let tail = fixed p S.Arrow ∷ named m ∷ fixed q S.Open ∷ named v ∷ fixed s S.Semicolon ∷ named y ∷ fixed t S.Colon
      ∷ (kind_spelt k ++ (fixed u (S.Operator O.Eq) ∷ (spelt i ++ (fixed z (S.End E.Bar) ∷ (spelt e ++ (fixed j (S.End E.Close) ∷ [])))))) in
      rw (append_assoc (spelt x) tail r) (opens_element x fs c a (tail ++ r))

  -- some arguments were read, all but the last one put away
  pub record ReadAll (es : Arguments) (fs : List Frame) (c : Callee) : Type 0 where
    pub front : List Expr
    pub last : Expr
    pub all : front ++ (last ∷ []) ≡ trees es
    pub by : (r : List Lexeme) → Follows 0 r → IsSafe r → run b fs (N.Argument c) (listed es ++ r) ≡ run b (F.Arguments c front ∷ fs) (N.Have last) r

  called : (es : Arguments) (fs : List Frame) (c : Callee) (t : Place) (r : List Lexeme) → (AreSome es → ReadAll es fs c) → run b fs (N.Argument c) (listed es ++ (fixed t (S.End E.Close) ∷ r)) ≡ run b fs (N.Have (call c (trees es))) r
  called None fs c t r h = refl
  called (One e) fs c t r h = let g = h tt in g.by (fixed t (S.End E.Close) ∷ r) tt tt ∙ ap (λ l. run b fs (N.Have (call c l)) r) g.all
  called (More es p e) fs c t r h = let g = h tt in g.by (fixed t (S.End E.Close) ∷ r) tt tt ∙ ap (λ l. run b fs (N.Have (call c l)) r) g.all

  -- and so some elements
  pub record ReadElements (es : Arguments) (fs : List Frame) (c : CollWord) (a : Place) : Type 0 where
    pub front : List Expr
    pub last : Expr
    pub all : front ++ (last ∷ []) ≡ trees es
    pub by : (r : List Lexeme) → Follows 0 r → run b fs (N.Element c a) (listed es ++ r) ≡ run b (F.Elements c a front ∷ fs) (N.Have last) r

  collected : (es : Arguments) (fs : List Frame) (c : CollWord) (a t : Place) (r : List Lexeme) → (AreSome es → ReadElements es fs c a) → run b fs (N.Element c a) (listed es ++ (fixed t (S.End E.CloseBrace) ∷ r)) ≡ run b fs (N.Have (collection c a (trees es))) r
  collected None fs c a t r h = refl
  collected (One e) fs c a t r h = let g = h tt in g.by (fixed t (S.End E.CloseBrace) ∷ r) tt ∙ ap (λ l. run b fs (N.Have (collection c a l)) r) g.all
  collected (More es p e) fs c a t r h = let g = h tt in g.by (fixed t (S.End E.CloseBrace) ∷ r) tt ∙ ap (λ l. run b fs (N.Have (collection c a l)) r) g.all

  pub calls : (fs : List Frame) (e : Expr) (arrow : Bool) (p : Place) (n : Name) (q : Place) (r : List Lexeme) → run b fs (N.Have e) (fixed p (dot_or_arrow arrow) ∷ named n ∷ fixed q S.Open ∷ r) ≡ run b fs (N.Argument (callee e arrow n)) r
  calls fs e true p n q r = refl
  calls fs e false p n q r = refl

  pub iterates : (fs : List Frame) (e : Expr) (p : Place) (n : Name) (q : Place) (x : Name) (t : Place) (r : List Lexeme) → is_iterator n.text ≡ true
      → run b fs (N.Have e) (fixed p S.Arrow ∷ named n ∷ fixed q S.Open ∷ named x ∷ fixed t (S.End E.Bar) ∷ r) ≡ run b (F.Body (callee e true n) x ∷ fs) N.Operand r
  iterates fs e p n q x t r h = rw h refl

  pub folds : (fs : List Frame) (e : Expr) (p : Place) (n : Name) (q : Place) (x : Name) (t : Place) (y : Name) (s : Place) (r : List Lexeme) → is_iterate n.text ≡ true
      → run b fs (N.Have e) (fixed p S.Arrow ∷ named n ∷ fixed q S.Open ∷ named x ∷ fixed t S.Semicolon ∷ named y ∷ fixed s S.Colon ∷ r) ≡ run b (F.OutcomeKind (callee e true n) x y ∷ fs) N.Kind r
  folds fs e p n q x t y s r h = rw h refl

  mutual
    pub reads : (w : Written) (l : ℕ) (fs : List Frame) (r : List Lexeme) → Fits b l (deep fs) w → Admits l fs → Follows l r → run b fs N.Operand (spelt w ++ r) ≡ run b fs (N.Have (tree_of w)) r
    reads (Number p n) l fs r f a h = starts fs p (Goes fs (N.Have (expr p (K.Number n)))) (lexeme p (T.Number n)) r f
    reads (Words p s) l fs r f a h = starts fs p (Goes fs (N.Have (expr p (K.Words s)))) (lexeme p (T.Words s)) r f
    reads (Lone p c) l fs r f a h = starts fs p (Goes fs (N.Have (expr p (constant c)))) (fixed p (S.Constant c)) r f
    reads (Literal p n) l fs r f a h = starts fs p (Goes fs (N.Literal p)) (fixed p S.Hash) (named n ∷ r) f
    reads (Variable n) l fs r f a h = starts fs n.place (Goes fs (N.Word n)) (named n) r f ∙ worded fs n l r h
    reads (OfClass m p c) l fs r f a h = starts fs m.place (Goes fs (N.Word m)) (named m) (fixed p S.Bang ∷ named c ∷ r) f
    reads (OfBasic p w) l fs r f a h = starts fs p (Goes fs (N.Have (expr p (K.Basic w)))) (fixed p (S.Basic w)) r f
    reads (Elements p w q es s) l fs r f a h =
        rw (append_assoc (listed es) (fixed s (S.End E.CloseBrace) ∷ []) r)
        (starts fs p (Goes fs (N.Brace w p)) (fixed p (S.Coll w)) (fixed q S.OpenBrace ∷ (listed es ++ (fixed s (S.End E.CloseBrace) ∷ r))) f.0
        ∙ collected es fs w p s r (reads_elements es fs w p f.1))
    reads (If p c q x s y t) l fs r f a h =
        let end = fixed t (S.End E.Endif) ∷ [] in
        let other = fixed s (S.End E.Else) ∷ (spelt y ++ end) in
        rw (append_assoc (spelt c) (fixed q (S.End E.Then) ∷ (spelt x ++ other)) r)
        (rw (append_assoc (spelt x) other r)
        (rw (append_assoc (spelt y) end r)
        (starts fs p (Goes (F.Condition p ∷ fs) N.Operand) (fixed p S.If) (spelt c ++ (fixed q (S.End E.Then) ∷ (spelt x ++ (fixed s (S.End E.Else) ∷ (spelt y ++ (fixed t (S.End E.Endif) ∷ r)))))) f.0
        ∙ reads c 0 (F.Condition p ∷ fs) (fixed q (S.End E.Then) ∷ (spelt x ++ (fixed s (S.End E.Else) ∷ (spelt y ++ (fixed t (S.End E.Endif) ∷ r))))) f.1 tt tt
        ∙ reads x 0 (F.Then p (tree_of c) ∷ fs) (fixed s (S.End E.Else) ∷ (spelt y ++ (fixed t (S.End E.Endif) ∷ r))) f.2 tt tt
        ∙ reads y 0 (F.Else p (tree_of c) (tree_of x) ∷ fs) (fixed t (S.End E.Endif) ∷ r) f.3 tt tt)))
    reads (Round p w q) l fs r f a h =
        rw (append_assoc (spelt w) (fixed q (S.End E.Close) ∷ []) r)
        (starts fs p (Goes (F.Round ∷ fs) N.Operand) (fixed p S.Open) (spelt w ++ (fixed q (S.End E.Close) ∷ r)) f.0
        ∙ reads w 0 (F.Round ∷ fs) (fixed q (S.End E.Close) ∷ r) f.1 tt tt)
    reads (Let p n q k s e t w) l fs r f a h =
        let a0 : Admits 0 fs = subst (λ k. Admits k fs) f.0 a in
        let h0 : Follows 0 r = subst (λ k. Follows k r) f.0 h in
        let inner = fixed t (S.End E.In) ∷ spelt w in
        rw (append_assoc (kind_spelt k) (fixed s (S.Operator O.Eq) ∷ (spelt e ++ inner)) r)
        (rw (append_assoc (spelt e) inner r)
        (let_here fs p (named n ∷ fixed q S.Colon ∷ (kind_spelt k ++ (fixed s (S.Operator O.Eq) ∷ (spelt e ++ (fixed t (S.End E.In) ∷ (spelt w ++ r)))))) f.1 a0
        ∙ kinds k (F.LetKind p n ∷ fs) (fixed s (S.Operator O.Eq) ∷ (spelt e ++ (fixed t (S.End E.In) ∷ (spelt w ++ r))))
        ∙ reads e 0 (F.Value p n (kind_of k) ∷ fs) (fixed t (S.End E.In) ∷ (spelt w ++ r)) f.2 tt tt
        ∙ reads w 0 (F.Within p n (kind_of k) (tree_of e) ∷ fs) r f.3 tt h0
        ∙ body p n (kind_of k) (tree_of e) fs (tree_of w) r h0))
    reads (Unary p U.Not w) l fs r f a h =
        let le : l ≤ 5 = f.0 in
        starts fs p (Goes (F.Unary U.Not p ∷ fs) N.Operand) (fixed p S.Not) (spelt w ++ r) f.1
        ∙ reads w 5 (F.Unary U.Not p ∷ fs) r f.2 (omega arith) (follow_more l 5 r le h)
        ∙ unaried l p U.Not fs (tree_of w) r le h
    reads (Unary p U.Neg w) l fs r f a h =
        let le : l ≤ 5 = f.0 in
        starts fs p (Goes (F.Unary U.Neg p ∷ fs) N.Operand) (fixed p (S.Operator O.Minus)) (spelt w ++ r) f.1
        ∙ reads w 5 (F.Unary U.Neg p ∷ fs) r f.2 (omega arith) (follow_more l 5 r le h)
        ∙ unaried l p U.Neg fs (tree_of w) r le h
    reads (Binary x p o y) l fs r f a h =
        let a1 : Admits (level o) fs = admits_more l (level o) fs f.0 a in
        let le : l ≤ level o = f.0 in
        rw (append_assoc (spelt x) (fixed p (S.Operator o) ∷ spelt y) r)
        (reads x (level o) fs (fixed p (S.Operator o) ∷ (spelt y ++ r)) f.1 a1 (omega arith)
        ∙ ap (λ u. after u (fixed p (S.Operator o) ∷ (spelt y ++ r)) (λ gs m. run b gs m (spelt y ++ r))) (stays (level o) fs (tree_of x) (λ gs e. Goes (F.Left e p o ∷ gs) N.Operand) (let lt = low o in omega (arith, lt)) a1)
        ∙ reads y (suc (level o)) (F.Left (tree_of x) p o ∷ fs) r f.2 (omega arith) (follow_more l (suc (level o)) r (omega (arith, le)) h)
        ∙ left l (tree_of x) p o fs (tree_of y) r f.0 h)
    reads (Read x p n) l fs r f a h =
        rw (append_assoc (spelt x) (fixed p S.Dot ∷ named n ∷ []) r)
        (reads x 6 fs (fixed p S.Dot ∷ named n ∷ r) f (admits_dot fs) (omega arith)
        ∙ featured fs (tree_of x) n l r h)
    reads (Call x arrow p n q es s) l fs r f a h =
        let tail = fixed p (dot_or_arrow arrow) ∷ named n ∷ fixed q S.Open ∷ (listed es ++ (fixed s (S.End E.Close) ∷ [])) in
        rw (append_assoc (spelt x) tail r)
        (rw (append_assoc (listed es) (fixed s (S.End E.Close) ∷ []) r)
        (reads x 6 fs (fixed p (dot_or_arrow arrow) ∷ named n ∷ fixed q S.Open ∷ (listed es ++ (fixed s (S.End E.Close) ∷ r))) f.0 (admits_dot fs) (follow_dot arrow)
        ∙ calls fs (tree_of x) arrow p n q (listed es ++ (fixed s (S.End E.Close) ∷ r))
        ∙ called es fs (callee (tree_of x) arrow n) s r (reads_all es fs (tree_of x) arrow n f.1)))
    reads (Loop x p n q v s e t) l fs r f a h =
        let end = fixed t (S.End E.Close) ∷ [] in
        rw (append_assoc (spelt x) (fixed p S.Arrow ∷ named n ∷ fixed q S.Open ∷ named v ∷ fixed s (S.End E.Bar) ∷ (spelt e ++ end)) r)
        (rw (append_assoc (spelt e) end r)
        (reads x 6 fs (fixed p S.Arrow ∷ named n ∷ fixed q S.Open ∷ named v ∷ fixed s (S.End E.Bar) ∷ (spelt e ++ (fixed t (S.End E.Close) ∷ r))) f.1 (admits_dot fs) (omega arith)
        ∙ iterates fs (tree_of x) p n q v s (spelt e ++ (fixed t (S.End E.Close) ∷ r)) f.0
        ∙ reads e 0 (F.Body (callee (tree_of x) true n) v ∷ fs) (fixed t (S.End E.Close) ∷ r) f.2 tt tt))
    reads (Iterate x p n q v s y t k u i z e j) l fs r f a h =
        let end = fixed j (S.End E.Close) ∷ [] in
        let turn = fixed z (S.End E.Bar) ∷ (spelt e ++ end) in
        let start = fixed u (S.Operator O.Eq) ∷ (spelt i ++ turn) in
        let c = callee (tree_of x) true n in
        rw (append_assoc (spelt x) (fixed p S.Arrow ∷ named n ∷ fixed q S.Open ∷ named v ∷ fixed s S.Semicolon ∷ named y ∷ fixed t S.Colon ∷ (kind_spelt k ++ start)) r)
        (rw (append_assoc (kind_spelt k) start r)
        (rw (append_assoc (spelt i) turn r)
        (rw (append_assoc (spelt e) end r)
        (reads x 6 fs (fixed p S.Arrow ∷ named n ∷ fixed q S.Open ∷ named v ∷ fixed s S.Semicolon ∷ named y ∷ fixed t S.Colon ∷ (kind_spelt k ++ (fixed u (S.Operator O.Eq) ∷ (spelt i ++ (fixed z (S.End E.Bar) ∷ (spelt e ++ (fixed j (S.End E.Close) ∷ r))))))) f.1 (admits_dot fs) (omega arith)
        ∙ folds fs (tree_of x) p n q v s y t (kind_spelt k ++ (fixed u (S.Operator O.Eq) ∷ (spelt i ++ (fixed z (S.End E.Bar) ∷ (spelt e ++ (fixed j (S.End E.Close) ∷ r)))))) f.0
        ∙ kinds k (F.OutcomeKind c v y ∷ fs) (fixed u (S.Operator O.Eq) ∷ (spelt i ++ (fixed z (S.End E.Bar) ∷ (spelt e ++ (fixed j (S.End E.Close) ∷ r)))))
        ∙ reads i 0 (F.Start c v y (kind_of k) ∷ fs) (fixed z (S.End E.Bar) ∷ (spelt e ++ (fixed j (S.End E.Close) ∷ r))) f.2 tt tt
        ∙ reads e 0 (F.Fold c v y (kind_of k) (tree_of i) ∷ fs) (fixed j (S.End E.Close) ∷ r) f.3 tt tt))))

    pub reads_all : (es : Arguments) (fs : List Frame) (x : Expr) (arrow : Bool) (n : Name) → FitAll b (suc (deep fs)) es → AreSome es → ReadAll es fs (callee x arrow n)
    reads_all None fs x arrow n f g = absurd g
    reads_all (One e) fs x arrow n f g = record { front = []; last = tree_of e; all = refl; by = λ r h s. opens e fs x arrow n r s ∙ reads e 0 (F.Arguments (callee x arrow n) [] ∷ fs) r f tt h }
    reads_all (More es p e) fs x arrow n f g =
        let h = reads_all es fs x arrow n f.1 f.0 in
        record {
          front = trees es;
          last = tree_of e;
          all = refl;
          by = λ r k s.
              rw (append_assoc (listed es) (fixed p (S.End E.Comma) ∷ spelt e) r)
              (h.by (fixed p (S.End E.Comma) ∷ (spelt e ++ r)) tt tt ∙ ap (λ l. run b (F.Arguments (callee x arrow n) l ∷ fs) N.Operand (spelt e ++ r)) h.all ∙ reads e 0 (F.Arguments (callee x arrow n) (trees es) ∷ fs) r f.2 tt k);
        }

    pub reads_elements : (es : Arguments) (fs : List Frame) (c : CollWord) (a : Place) → FitAll b (suc (deep fs)) es → AreSome es → ReadElements es fs c a
    reads_elements None fs c a f g = absurd g
    reads_elements (One e) fs c a f g = record { front = []; last = tree_of e; all = refl; by = λ r h. opens_element e fs c a r ∙ reads e 0 (F.Elements c a [] ∷ fs) r f tt h }
    reads_elements (More es p e) fs c a f g =
        let h = reads_elements es fs c a f.1 f.0 in
        record {
          front = trees es;
          last = tree_of e;
          all = refl;
          by = λ r k.
              rw (append_assoc (listed es) (fixed p (S.End E.Comma) ∷ spelt e) r)
              (h.by (fixed p (S.End E.Comma) ∷ (spelt e ++ r)) tt ∙ ap (λ l. run b (F.Elements c a l ∷ fs) N.Operand (spelt e ++ r)) h.all ∙ reads e 0 (F.Elements c a (trees es) ∷ fs) r f.2 tt k);
        }
