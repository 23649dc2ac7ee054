use Rattle.std.proofs.Common.{◌≡◌, ℕ, ◌+◌, ◌++◌, ◌∷◌, [], ◌<◌, List, length, take, map, get_or, sym, ap, ◌∙◌}
use Rattle.std.proofs.lemmas.List.{take_more, map-append}
use Rattle.atl_base.specs.declared.numbers.FeatId.{FeatId}
use Rattle.model_store.specs.declared.parts.Cellv.{Cellv}
use Rattle.model_store.proofs.attributes.blank.Goals as goal

abbrev nothing : FeatId → List Cellv
nothing f = []

more : (fs : List FeatId) (i : ℕ) → i < length fs → map nothing (take i fs) ++ [] ∷ [] ≡ map nothing (take (i + 1) fs)
more fs i h =
    let first : FeatId = record { 0 = 0 } in
    sym (ap (map nothing) (take_more fs i first h) ∙ map-append nothing (take i fs) (get_or fs i first ∷ []))

pub loop-feature-preserved : goal.loop-feature-preserved
loop-feature-preserved c =
    c.in_ok-push.ensures.items
    ∙ ap (λ cells. c.loop-feature.slots.items ++ cells ∷ []) (c.new-in-loop-feature.ensures ∙ c.new.ensures)
    ∙ ap (λ slots. slots ++ [] ∷ []) c.loop-feature.invariant
    ∙ more c.features_seen-features.result.now c.loop-feature._feature-index c.loop-feature-test.true
