-- From an object up to what contains it, level by level.
use Rattle.std.proofs.Common.{◌≡◌, ℕ, zero, suc, ◌+◌, ◌-◌, ◌<◌, ◌≤◌, List, [], ◌∷◌, ◌++◌, reverse, sym, ap, ◌∙◌, arith, append_assoc, Option, Some, None}
use Rattle.std.specs.Option.{option_map_or}
use Rattle.std.proofs.lemmas.List.{reverse-append}
use Rattle.atl_base.specs.declared.numbers.FeatId.{FeatId}
use Rattle.atl_base.specs.declared.numbers.ObjId.{ObjId}
use Rattle.model_store.specs.declared.path.Step.{Step}
use Rattle.model_store.specs.Contents.{Contents, holder}
use Rattle.model_store.specs.Paths.{steps_within, top_within}

module _ (m : Contents) (n level : ℕ) (o : ObjId) where
  pub top_more : (at : ObjId × FeatId) → level < n → holder m o ≡ Some at → top_within (n - level) m o ≡ top_within (n - (level + 1)) m at.0
  unfolding top_within
  top_more at h e =
      let one : n - level ≡ suc (n - (level + 1)) = omega arith in
      ap (λ k. top_within k m o) one ∙ ap (λ x. option_map_or (λ at. top_within (n - (level + 1)) m at.0) x o) e

  pub top_stops : level < n → holder m o ≡ None → top_within (n - level) m o ≡ o
  unfolding top_within
  top_stops h e =
      let one : n - level ≡ suc (n - (level + 1)) = omega arith in
      ap (λ k. top_within k m o) one ∙ ap (λ x. option_map_or (λ at. top_within (n - (level + 1)) m at.0) x o) e

  pub top_ends : n ≤ level → top_within (n - level) m o ≡ o
  unfolding top_within
  top_ends h = let none : n - level ≡ zero = omega arith in ap (λ k. top_within k m o) none

  -- the step from a container
  abbrev pub step_from : ObjId × FeatId → Step
  step_from at = record { from = at.0; feature = at.1; to = o }

  steps_at : (x : Option (ObjId × FeatId)) → level < n → holder m o ≡ x → steps_within (n - level) m o ≡ option_map_or (λ at. steps_within (n - (level + 1)) m at.0 ++ step_from at ∷ []) x []
  unfolding steps_within
  steps_at x h e =
      let one : n - level ≡ suc (n - (level + 1)) = omega arith in
      ap (λ k. steps_within k m o) one ∙ ap (λ x. option_map_or (λ at. steps_within (n - (level + 1)) m at.0 ++ step_from at ∷ []) x []) e

  pub steps_more : (at : ObjId × FeatId) (steps longer : List Step) → level < n → holder m o ≡ Some at → longer ≡ steps ++ step_from at ∷ []
      → steps_within (n - (level + 1)) m at.0 ++ reverse longer ≡ steps_within (n - level) m o ++ reverse steps
  steps_more at steps longer h e l =
      let above : List Step = steps_within (n - (level + 1)) m at.0 in
      ap (λ xs. above ++ reverse xs) l
      ∙ ap (λ xs. above ++ xs) (reverse-append steps (step_from at ∷ []))
      ∙ sym (append_assoc above (step_from at ∷ []) (reverse steps))
      ∙ ap (λ xs. xs ++ reverse steps) (sym (steps_at (Some at) h e))

  pub steps_stop : (steps : List Step) → level < n → holder m o ≡ None → steps_within (n - level) m o ++ reverse steps ≡ reverse steps
  steps_stop steps h e = ap (λ xs. xs ++ reverse steps) (steps_at None h e)

  pub steps_end : (steps : List Step) → n ≤ level → steps_within (n - level) m o ++ reverse steps ≡ reverse steps
  unfolding steps_within
  steps_end steps h = let none : n - level ≡ zero = omega arith in ap (λ k. steps_within k m o ++ reverse steps) none
