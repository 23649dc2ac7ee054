-- Lists that stand in others in one piece, and where an element stands in them.
use Rattle.std.proofs.Common.{◌≡◌, ℕ, suc, ◌+◌, ◌<◌, ◌≤◌, ◌⊎◌, false, cond, not, List, [], ◌∷◌, ◌++◌, length, map, take, refl, sym, ap, ap₂, subst, ◌∙◌, ⊎_elim, arith, append_assoc, length-append, take-take, Option, None}
use Rattle.std.specs.Prelude.{◌==◌, Contains, IsSome, is_some, count_by, flat_map}
use Rattle.std.specs.List.{position_or_len}
use Rattle.std.proofs.lemmas.Bool.{cases_order, eq-eqb, ne_eqb}
use Rattle.std.proofs.lemmas.List.{length_push}
use Rattle.std.proofs.lemmas.List.Elements.{Contains-append_right}
use Rattle.std.proofs.lemmas.List.Sums.{count_by_more_yes, sum_by-take-le}
use Rattle.atl_base.specs.declared.numbers.ObjId.{ObjId}
use Rattle.ecore_meta.specs.Valid.{AllDiffer}
use Rattle.model_store.specs.declared.parts.Object.{Object}
use Rattle.model_store.specs.Contents.{is_object_no, object_at, object_count}
use Rattle.model_store.proofs.Counted.{at_most}
use Rattle.model_store.proofs.Slots.{same_object}
use Rattle.model_store.proofs.Thinned.{Contains_first, Contains_none, Contains_cases}
use Rattle.xmi_round_trip.proofs.Filed.{numbers_from}
use Rattle.xmi_round_trip.proofs.Differing.{differ_head, differ_tail}
use Rattle.xmi_round_trip.proofs.Numbers.{there_within}

-- ## Pieces

-- a list stands in another in one piece
pub record IsPiece {X : Type 0} (part whole : List X) : Type 0 where
  pub before : List X
  pub after : List X
  pub is : whole ≡ before ++ (part ++ after)

module _ {X : Type 0} where
  -- of a list with one more before it
  pub piece_later : (x : X) (part whole : List X) → IsPiece part whole → IsPiece part (x ∷ whole)
  piece_later x part whole p = record { before = x ∷ p.before; after = p.after; is = ap (λ l. x ∷ l) p.is }

  -- a piece of a piece
  pub piece_within : (a b c : List X) → IsPiece a b → IsPiece b c → IsPiece a c
  piece_within a b c p q = record {
    before = q.before ++ p.before;
    after = p.after ++ q.after;
    is = q.is ∙ ap (λ l. q.before ++ (l ++ q.after)) p.is ∙ simp append_assoc;
  }

  -- a piece is no longer than the whole
  pub piece_short : (part whole : List X) → IsPiece part whole → length part ≤ length whole
  piece_short part whole p = omega (arith, ap length p.is, length-append p.before (part ++ p.after), length-append part p.after)

module _ {X Y : Type 0} (f : X → List Y) where
  -- the list of each element stands in the whole in one piece
  pub joined_piece : (xs : List X) (x : X) → Contains xs x → IsPiece (f x) (flat_map f xs)
  joined_piece [] x h = absurd (Contains_none x h)
  joined_piece (z ∷ xs) x h = ⊎_elim
      (λ (e : z ≡ x). subst (λ w. IsPiece (f w) (flat_map f (z ∷ xs))) e (record { before = []; after = flat_map f xs; is = refl }))
      (λ (g : Contains xs x).
      let p = joined_piece xs x g in
      record { before = f z ++ p.before; after = p.after; is = ap (λ l. f z ++ l) p.is ∙ sym (append_assoc (f z) p.before (f x ++ p.after)) })
      (Contains_cases z x xs h)

-- ## Places

-- the place of an object in a list
abbrev pub number_in : List ObjId → ObjId → ObjId
number_in ps o = record { 0 = position_or_len (is_object_no o) ps }

-- the object of a number, before others
abbrev numbered : ℕ → List ObjId → List ObjId
numbered k os = record { 0 = k } ∷ os

-- of objects that differ, each stands first where it stands
pub first_place : (o : ObjId) (before after : List ObjId) → AllDiffer (before ++ o ∷ after) → position_or_len (is_object_no o) (before ++ o ∷ after) ≡ length before
first_place o [] after h = ap (λ b. cond (not b) (1 + position_or_len (is_object_no o) after) 0) (eq-eqb o.0 o.0 refl)
first_place o (b ∷ bs) after h =
    let other : (b.0 == o.0) ≡ false = ne_eqb b.0 o.0 (λ e. differ_head b (bs ++ o ∷ after) h
    (subst (Contains (bs ++ o ∷ after)) (sym (same_object b o e)) (Contains-append_right bs (o ∷ after) o (Contains_first o after)))) in
    ap (λ c. cond (not c) (1 + position_or_len (is_object_no o) (bs ++ o ∷ after)) 0) other
    ∙ (let r : position_or_len (is_object_no o) (bs ++ o ∷ after) ≡ length bs = first_place o bs after (differ_tail b (bs ++ o ∷ after) h) in omega (arith, r))

-- the places of a piece rise by one
pub piece_numbers : (ps before part after : List ObjId) → AllDiffer ps → ps ≡ before ++ (part ++ after) → map (number_in ps) part ≡ numbers_from (length before) (length part)
piece_numbers ps before [] after h e = refl
piece_numbers ps before (o ∷ part) after h e =
    let here : position_or_len (is_object_no o) ps ≡ length before = ap (position_or_len (is_object_no o)) e ∙ first_place o before (part ++ after) (subst AllDiffer e h) in
    let next : ps ≡ (before ++ o ∷ []) ++ (part ++ after) = e ∙ sym (append_assoc before (o ∷ []) (part ++ after)) in
    let rest : map (number_in ps) part ≡ numbers_from (length (before ++ o ∷ [])) (length part) = piece_numbers ps (before ++ o ∷ []) part after h next in
    let size : length (before ++ o ∷ []) ≡ suc (length before) = omega (arith, length_push before o) in
    ap₂ numbered here (rest ∙ ap (λ k. numbers_from k (length part)) size)

-- ## How many

-- different objects that are there are no more than all that are there
module _ (objects : List (Option Object)) where
  -- how many there are before it
  abbrev rank : ObjId → ℕ
  rank o = count_by is_some (take o.0 objects)

  -- what counts at a place
  abbrev weight : Option Object → ℕ
  weight place = cond (is_some place) 1 0

  -- one more up to its place
  counted : (o : ObjId) → IsSome (object_at objects o) → count_by is_some (take (o.0 + 1) objects) ≡ rank o + 1
  counted o h = count_by_more_yes is_some objects o.0 None (there_within objects o h) h

  -- so there are more in the whole
  below : (o : ObjId) → IsSome (object_at objects o) → rank o < object_count objects
  below o h = omega (arith, counted o h, sum_by-take-le weight objects (o.0 + 1))

  -- and more before what stands later
  rising : (o p : ObjId) → IsSome (object_at objects o) → o.0 < p.0 → rank o < rank p
  rising o p h l =
      let cut : take (o.0 + 1) (take p.0 objects) ≡ take (o.0 + 1) objects = take-take (o.0 + 1) p.0 objects (omega (arith, l)) in
      let less : count_by is_some (take (o.0 + 1) (take p.0 objects)) ≤ rank p = sum_by-take-le weight (take p.0 objects) (o.0 + 1) in
      omega (arith, counted o h, ap (count_by is_some) cut, less)

  -- so their ranks differ, and are less than that number
  pub places_few : (ps : List ObjId) → AllDiffer ps → ((o : ObjId) → Contains ps o → IsSome (object_at objects o)) → length ps ≤ object_count objects
  places_few ps differ there = at_most rank (object_count objects) (record { 0 = 0 }) ps differ
      (λ x y a b e. ⊎_elim
      (λ (s : x.0 ≡ y.0). same_object x y s)
      (λ (o : (x.0 < y.0) ⊎ (y.0 < x.0)). ⊎_elim
      (λ (l : x.0 < y.0). absurd (omega (arith, rising x y (there x a) l, e)))
      (λ (l : y.0 < x.0). absurd (omega (arith, rising y x (there y b) l, e))) o)
      (cases_order x.0 y.0))
      (λ x a. below x (there x a))
