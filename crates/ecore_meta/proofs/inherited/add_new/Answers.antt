use Rattle.std.proofs.Common.{◌<◌, List, [], ◌∷◌, ◌++◌, take, length, get_or, refl, sym, ap, ◌∙◌, append_assoc, rules}
use Rattle.std.proofs.lemmas.List.{take_more}
use Rattle.atl_base.specs.declared.numbers.FeatId.{FeatId}
use Rattle.ecore_meta.specs.Inheritance.{distinct}
use Rattle.ecore_meta.proofs.Distinct.{distinct_more}
use Rattle.ecore_meta.proofs.inherited.add_new.Goals as goal

pub loop-feature-preserved : goal.loop-feature-preserved
loop-feature-preserved c =
    let none : FeatId = record { 0 = 0 } in
    let features : List FeatId = c.args.features.now in
    let inside : c.loop-feature.feature-index < length features = search rules in
    λ before e.
    distinct_more (get_or features c.loop-feature.feature-index none) _ (λ g. refl) (before ++ take c.loop-feature.feature-index features) _ _ (c.loop-feature.invariant before e) c.in_ok-insert.ensures.keys
    ∙ ap distinct (append_assoc before (take c.loop-feature.feature-index features) (get_or features c.loop-feature.feature-index none ∷ []) ∙ ap (λ l. before ++ l) (sym (take_more features c.loop-feature.feature-index none inside)))
