-- The numbers of objects: they rise by one in preorder, and each object stands in preorder at its number.
use Rattle.std.proofs.Common.{◌≡◌, ℕ, suc, ◌+◌, List, [], ◌∷◌, ◌++◌, length, map, refl, ap, subst, ◌∙◌, arith, get_or, ◌<◌, Option, Some}
use Rattle.std.specs.Prelude.{slice_get, Contains, IsSome}
use Rattle.std.proofs.lemmas.List.{get_or-map}
use Rattle.atl_base.specs.declared.numbers.ObjId.{ObjId}
use Rattle.model_store.specs.Contents.{Contents, is_object_no, object_at}
use Rattle.model_store.specs.Order.{preorder}
use Rattle.xmi_models.specs.Faults.{objects}
use Rattle.xmi_round_trip.specs.Renumbered.{number}
use Rattle.xmi_round_trip.proofs.Filed.{numbers_from}
use Rattle.std.proofs.lemmas.Bool.{eq-eqb, eqb-true}
use Rattle.std.proofs.lemmas.Option.{get_or_from_slice_get}
use Rattle.model_store.specs.declared.parts.Object.{Object}
use Rattle.model_store.proofs.Counted.{placed_at, placed_within}
use Rattle.model_store.proofs.Slots.{same_object}
use Rattle.model_store.proofs.Updates.{found_within}
use Rattle.xmi_round_trip.proofs.Lists.{some_there}

-- ## Numbers

-- the first, or this
abbrev head_or : ObjId → List ObjId → ObjId
head_or d [] = d
head_or d (o ∷ os) = o

-- all but the first
abbrev tail_of : List ObjId → List ObjId
tail_of [] = []
tail_of (o ∷ os) = os

module _ (m : Contents) where
  -- these objects have the numbers from k on
  abbrev pub IsFrom : ℕ → List ObjId → Type 0
  IsFrom k os = map (number m) os ≡ numbers_from k (length os)

  -- the first has the number k
  pub first_from : (k : ℕ) (o : ObjId) (os : List ObjId) → IsFrom k (o ∷ os) → number m o ≡ record { 0 = k }
  first_from k o os h = ap (head_or o) h

  -- the others have those behind it
  pub next_from : (k : ℕ) (o : ObjId) (os : List ObjId) → IsFrom k (o ∷ os) → IsFrom (suc k) os
  next_from k o os h = ap tail_of h

  -- those behind some of them
  pub later_from : (xs ys : List ObjId) (k : ℕ) → IsFrom k (xs ++ ys) → IsFrom (k + length xs) ys
  later_from [] ys k h =
      let same : k ≡ k + 0 = omega arith in
      subst (λ j. IsFrom j ys) same h
  later_from (x ∷ xs) ys k h =
      let same : suc k + length xs ≡ k + suc (length xs) = omega arith in
      subst (λ j. IsFrom j ys) same (later_from xs ys (suc k) (next_from k x (xs ++ ys) h))

-- ## Places

-- what is there has a place
pub there_within : (objects : List (Option Object)) (o : ObjId) → IsSome (object_at objects o) → o.0 < length objects
there_within objects o h = let x = some_there (object_at objects o) h in found_within objects o.0 x.0 x.1

-- an object stands at its number
pub placed : (m : Contents) (o : ObjId) → Contains (preorder m) o → slice_get (preorder m) (number m o).0 ≡ Some o
placed m o h = placed_at (is_object_no o) o (eq-eqb o.0 o.0 refl) (λ q e. same_object q o (eqb-true q.0 o.0 e)) (preorder m) h

-- which is one of the places
pub placed_low : (m : Contents) (o : ObjId) → Contains (preorder m) o → (number m o).0 < length (preorder m)
placed_low m o h = placed_within (is_object_no o) o (eq-eqb o.0 o.0 refl) (λ q e. same_object q o (eqb-true q.0 o.0 e)) (preorder m) h

-- so what is made of it stands there among what is made of all
pub mapped_at : {X : Type 0} (m : Contents) (made : ObjId → X) (o : ObjId) (d : X) → Contains (preorder m) o → get_or (map made (preorder m)) (number m o).0 d ≡ made o
mapped_at m made o d h =
    get_or-map made (preorder m) (number m o).0 o d (placed_low m o h)
    ∙ ap made (get_or_from_slice_get (preorder m) (number m o).0 o o (placed m o h))
