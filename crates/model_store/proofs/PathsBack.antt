-- The path of an object names it.
use Rattle.std.proofs.Common.{◌≡◌, ℕ, zero, suc, ◌<◌, ◌^◌, Bool, true, false, List, [], ◌∷◌, ◌++◌, length, map, refl, ap, ◌∙◌, cond, Option, Some, None}
use Rattle.std.specs.Prelude.{IsSome, flat_map}
use Rattle.std.specs.List.{list_any, slice_split, onto_first}
use Rattle.std.specs.Option.{option_map_or}
use Rattle.std.proofs.lemmas.Bool.{or_parts, true≢false}
use Rattle.std.proofs.lemmas.List.{append-nil}
use Rattle.atl_base.specs.declared.numbers.FeatId.{FeatId}
use Rattle.atl_base.specs.declared.numbers.ObjId.{ObjId}
use Rattle.ecore_meta.specs.Valid.{IsMetamodel}
use Rattle.model_store.specs.declared.path.Step.{Step}
use Rattle.model_store.specs.Contents.{Contents, object_at, holder}
use Rattle.model_store.specs.Order.{HasNoCycle}
use Rattle.model_store.specs.Paths.{is_slash, parts_of, step_text, steps_within, top_within, path, content_named, descend, at_parts, object_of_path}
use Rattle.model_store.specs.Valid.{IsModel}
use Rattle.model_store.proofs.PathRoots.{top_is_root, digits, root_back, root_no_slash}
use Rattle.model_store.proofs.PathSteps.{step, part, step_back, step_no_slash}

-- ## Cutting at the slashes

module _ {X : Type 0} (p : X → Bool) where
  uncut_at : (b : Bool) (x : X) (xs : List X) (parts : List (List X)) → b ≡ false → parts ≡ xs ∷ [] → cond b ([] ∷ parts) (onto_first x parts) ≡ (x ∷ xs) ∷ []
  uncut_at true x xs parts e h = absurd (true≢false e)
  uncut_at false x xs parts e h = ap (onto_first x) h

  uncut : (xs : List X) → list_any p xs ≡ false → slice_split p xs ≡ xs ∷ []
  uncut [] e = refl
  uncut (x ∷ xs) e = let h = or_parts (p x) (list_any p xs) e in uncut_at (p x) x xs (slice_split p xs) h.0 (uncut xs h.1)

  cut_at : (b : Bool) (x : X) (xs : List X) (parts rest : List (List X)) → b ≡ false → parts ≡ xs ∷ rest → cond b ([] ∷ parts) (onto_first x parts) ≡ (x ∷ xs) ∷ rest
  cut_at true x xs parts rest e h = absurd (true≢false e)
  cut_at false x xs parts rest e h = ap (onto_first x) h

  cut_once : (xs : List X) (y : X) (ys : List X) → list_any p xs ≡ false → p y ≡ true → slice_split p (xs ++ y ∷ ys) ≡ xs ∷ slice_split p ys
  cut_once [] y ys e h = ap (λ b. cond b ([] ∷ slice_split p ys) (onto_first y (slice_split p ys))) h
  cut_once (x ∷ xs) y ys e h =
      let k = or_parts (p x) (list_any p xs) e in
      cut_at (p x) x xs (slice_split p (xs ++ y ∷ ys)) (slice_split p ys) k.0 (cut_once xs y ys k.1 h)

module _ (m : Contents) where
  -- each step leads from a container to its content
  abbrev AreHeld : List Step → Type 0
  AreHeld [] = Unit {0}
  AreHeld (s ∷ steps) = (holder m s.to ≡ Some (s.from, s.feature)) × AreHeld steps

  held_append : (steps more : List Step) → AreHeld steps → AreHeld more → AreHeld (steps ++ more)
  held_append [] more h k = k
  held_append (s ∷ steps) more h k = (h.0, held_append steps more h.1 k)

  held_steps : (n : ℕ) (o : ObjId) → AreHeld (steps_within n m o)
  unfolding steps_within
  held_steps zero o = tt
  held_steps (suc n) o = on (holder m o) refl (λ r. held_steps n r)
    where
      on : (x : Option (ObjId × FeatId)) → holder m o ≡ x → ((r : ObjId) → AreHeld (steps_within n m r)) → AreHeld (option_map_or (λ at. steps_within n m at.0 ++ step at.0 at.1 o ∷ []) x [])
      on None e above = tt
      on (Some at) e above = held_append (steps_within n m at.0) (step at.0 at.1 o ∷ []) (above at.0) (e, tt)

  -- ## Going down

  descend_append : (x : Option ObjId) (parts more : List (List ℕ)) → descend m x (parts ++ more) ≡ descend m (descend m x parts) more
  descend_append None parts more = refl
  descend_append (Some o) [] more = refl
  descend_append (Some o) (p ∷ parts) more = descend_append (content_named m o p) parts more

  map_append : (steps : List Step) (s : Step) → map (part m) (steps ++ s ∷ []) ≡ map (part m) steps ++ part m s ∷ []
  map_append [] s = refl
  map_append (x ∷ steps) s = ap (λ l. part m x ∷ l) (map_append steps s)

  one_more : (x : Option ObjId) (o : ObjId) (text : List ℕ) → x ≡ Some o → descend m x (text ∷ []) ≡ descend m (content_named m o text) []
  one_more x o text e = ap (λ y. descend m y (text ∷ [])) e

module _ (m : Contents) (valid : IsMetamodel m.meta) (model : IsModel m) (few : length m.objects < 2 ^ 32) where
  -- down the steps is where one came from
  back_down : (n : ℕ) (o : ObjId) → descend m (Some (top_within n m o)) (map (part m) (steps_within n m o)) ≡ Some o
  unfolding steps_within top_within
  back_down zero o = refl
  back_down (suc n) o = on (holder m o) refl (λ r. back_down n r)
    where
      on : (x : Option (ObjId × FeatId)) → holder m o ≡ x → ((r : ObjId) → descend m (Some (top_within n m r)) (map (part m) (steps_within n m r)) ≡ Some r)
          → descend m (Some (option_map_or (λ at. top_within n m at.0) x o)) (map (part m) (option_map_or (λ at. steps_within n m at.0 ++ step at.0 at.1 o ∷ []) x [])) ≡ Some o
      on None e above = refl
      on (Some at) e above =
          let s : Step = step at.0 at.1 o in
          ap (descend m (Some (top_within n m at.0))) (map_append m (steps_within n m at.0) s)
          ∙ descend_append m (Some (top_within n m at.0)) (map (part m) (steps_within n m at.0)) (part m s ∷ [])
          ∙ one_more m (descend m (Some (top_within n m at.0)) (map (part m) (steps_within n m at.0))) at.0 (part m s) (above at.0)
          ∙ ap (λ x. descend m x []) (step_back m valid model few o at.0 at.1 e)

  cut_steps : (xs : List ℕ) (steps : List Step) → list_any is_slash xs ≡ false → AreHeld m steps → parts_of (xs ++ flat_map (step_text m) steps) ≡ xs ∷ map (part m) steps
  cut_steps xs [] e h = ap parts_of (append-nil xs) ∙ uncut is_slash xs e
  cut_steps xs (s ∷ steps) e h =
      cut_once is_slash xs 47 (part m s ++ flat_map (step_text m) steps) e refl
      ∙ ap (λ l. xs ∷ l) (cut_steps (part m s) steps (step_no_slash m valid model few s.to s.from s.feature h.0) h.1)

  pub path_back : HasNoCycle m → (o : ObjId) → IsSome (object_at m.objects o) → object_of_path m (path m o) ≡ Some o
  unfolding path
  path_back acyclic o there =
      let n : ℕ = suc (length m.objects) in
      let t : ObjId = top_within n m o in
      let steps : List Step = steps_within n m o in
      let root = top_is_root m valid model acyclic o there in
      ap (λ ps. at_parts m ([] ∷ ps)) (cut_steps (digits m valid model few t root) steps (root_no_slash m valid model few t root) (held_steps m n o))
      ∙ ap (λ x. descend m x (map (part m) steps)) (root_back m valid model few t root)
      ∙ back_down n o
