-- Reading comes to a state, and ends there.
use Rattle.std.proofs.Common.{◌≡◌, List, [], ◌∷◌, ◌++◌, refl, sym, ap, ◌∙◌, subst}
use Rattle.std.specs.Prelude.{Bool, true, false}
use Rattle.atl_base.specs.declared.place.Place.{Place}
use Rattle.atl_tree.specs.declared.expr.Expr.{Expr}
use Rattle.ocl_parse.specs.declared.frame.Frame.{Frame}
use Rattle.ocl_parse.specs.declared.frame.Frame.TheVariants as F
use Rattle.ocl_parse.specs.declared.frame.Next.{Next}
use Rattle.ocl_parse.specs.Symbols.{Lexeme}
use Rattle.ocl_parse.specs.Trees.{binary, unary, within}
use Rattle.ocl_parse.specs.Machine.{Step, Goes, Stops, Refuses, TooDeep, step, last, End, Read, Expected, Deep, over, after, ended, run}
use Rattle.ocl_parse.proofs.Ordered.{InOrder, StepInOrder, step_ordered}
use Rattle.ocl_parse.proofs.Agrees.{Agrees, agrees}

-- what an answer leaves
abbrev pub rest_of : End → List Lexeme
rest_of (Read e r) = r
rest_of (Expected r) = r
rest_of (Deep p) = []

abbrev pub IsSome : List Lexeme → Type 0
IsSome [] = ⊥
IsSome (t ∷ r) = Unit {0}

abbrev pub IsRead : End → Type 0
IsRead (Read e r) = Unit {0}
IsRead x = ⊥

abbrev pub IsExpected : End → Type 0
IsExpected (Expected r) = Unit {0}
IsExpected x = ⊥

abbrev pub IsDeep : End → Type 0
IsDeep (Deep p) = Unit {0}
IsDeep x = ⊥

pub over_rest : (fs : List Frame) (e : Expr) (rest : List Lexeme) → rest_of (over fs e rest) ≡ rest
over_rest [] e rest = refl
over_rest (F.Left a p o ∷ fs) e rest = over_rest fs (binary a p o e) rest
over_rest (F.Unary o p ∷ fs) e rest = over_rest fs (unary p o e) rest
over_rest (F.Within p n t a ∷ fs) e rest = over_rest fs (within p n t a e) rest
over_rest (f ∷ fs) e rest = refl

pub over_shallow : (fs : List Frame) (e : Expr) (rest : List Lexeme) → IsDeep (over fs e rest) → ⊥
over_shallow [] e rest h = h
over_shallow (F.Left a p o ∷ fs) e rest h = over_shallow fs (binary a p o e) rest h
over_shallow (F.Unary o p ∷ fs) e rest h = over_shallow fs (unary p o e) rest h
over_shallow (F.Within p n t a ∷ fs) e rest h = over_shallow fs (within p n t a e) rest h
over_shallow (f ∷ fs) e rest h = h

-- a step that ends the reading
abbrev pub Ends : Step → Type 0
Ends (Goes gs m) = ⊥
Ends u = Unit {0}

-- the reading comes to a state and ends there
abbrev pub HaltsAt : List Frame → Next → List Lexeme → End → Type 0
HaltsAt gs n [] end = after (last true gs n) [] ended ≡ end
HaltsAt gs n (t ∷ r) end = Ends (step true gs n t.symbol t.place) × (after (step true gs n t.symbol t.place) (t ∷ r) ended ≡ end)

-- reading the symbols leads from one state to the other
abbrev pub Along : List Frame → Next → List Lexeme → List Frame → Next → Type 0
Along fs m [] gs n = (fs ≡ gs) × (m ≡ n)
Along fs m (t ∷ ts) gs n = (hs : List Frame) × (k : Next) × (step true fs m t.symbol t.place ≡ Goes hs k) × Along hs k ts gs n

pub record Halt (fs : List Frame) (m : Next) (ts : List Lexeme) (end : End) : Type 0 where
  pub front : List Lexeme
  pub rest : List Lexeme
  pub whole : ts ≡ front ++ rest
  pub gs : List Frame
  pub n : Next
  pub ordered : InOrder gs n
  pub leads : (b : Bool) (more : List Lexeme) → run b fs m (front ++ more) ≡ run b gs n more
  pub along : Along fs m front gs n
  pub here : HaltsAt gs n rest end

pub halts : (ts : List Lexeme) (fs : List Frame) (m : Next) → InOrder fs m → Halt fs m ts (run true fs m ts)
halts [] fs m o = record { front = []; rest = []; whole = refl; gs = fs; n = m; ordered = o; leads = λ b more. refl; along = (refl, refl); here = refl }
halts (t ∷ ts) fs m o = on (λ gs n. halts ts gs n) (step true fs m t.symbol t.place) refl
  where
    at_once : (u : Step) → step true fs m t.symbol t.place ≡ u → Ends u → after u (t ∷ ts) ended ≡ after u (t ∷ ts) (λ gs n. run true gs n ts) → Halt fs m (t ∷ ts) (after u (t ∷ ts) (λ gs n. run true gs n ts))
    at_once u h e k = record {
      front = [];
      rest = t ∷ ts;
      whole = refl;
      gs = fs;
      n = m;
      ordered = o;
      leads = λ b more. refl;
      along = (refl, refl);
      here = (subst Ends (sym h) e, ap (λ v. after v (t ∷ ts) ended) h ∙ k);
    }

    both : (gs : List Frame) (n : Next) → step true fs m t.symbol t.place ≡ Goes gs n → (b : Bool) → step b fs m t.symbol t.place ≡ Goes gs n
    both gs n h true = h
    both gs n h false = subst (λ v. Agrees v (step false fs m t.symbol t.place)) h (agrees fs m t.symbol t.place)

    on : ((gs : List Frame) (n : Next) → InOrder gs n → Halt gs n ts (run true gs n ts)) → (u : Step) → step true fs m t.symbol t.place ≡ u → Halt fs m (t ∷ ts) (after u (t ∷ ts) (λ gs n. run true gs n ts))
    on again (Goes gs n) h =
        let x = again gs n (subst StepInOrder h (step_ordered true fs m t.symbol t.place o)) in
        record {
          front = t ∷ x.front;
          rest = x.rest;
          whole = ap (λ l. t ∷ l) x.whole;
          gs = x.gs;
          n = x.n;
          ordered = x.ordered;
          leads = λ b more. ap (λ v. after v (t ∷ (x.front ++ more)) (λ hs k. run b hs k (x.front ++ more))) (both gs n h b) ∙ x.leads b more;
          along = (gs, n, h, x.along);
          here = x.here;
        }
    on again (Stops gs e) h = at_once (Stops gs e) h tt refl
    on again Refuses h = at_once Refuses h tt refl
    on again (TooDeep p) h = at_once (TooDeep p) h tt refl

-- what a place is taken for
abbrev pub place_at : Place → End → Place
place_at d (Deep p) = p
place_at d x = d

pub deep_not : (x : End) (e : Expr) (r : List Lexeme) (p : Place) → x ≡ Read e r → x ≡ Deep p → ⊥
deep_not x e r p h k = subst IsRead (sym h ∙ k) tt

-- a step that is too deep is so whatever follows
pub too_deep : (u : Step) (r s : List Lexeme) (k : List Frame → Next → End) (p : Place) → Ends u → after u r ended ≡ Deep p → after u s k ≡ Deep p
too_deep (Goes gs m) r s k p e h = absurd e
too_deep (Stops gs a) r s k p e h = absurd (over_shallow gs a r (subst IsDeep (sym h) tt))
too_deep Refuses r s k p e h = absurd (subst IsExpected h tt)
too_deep (TooDeep q) r s k p e h = h
