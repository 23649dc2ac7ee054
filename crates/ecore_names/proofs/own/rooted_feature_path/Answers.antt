use Rattle.std.proofs.Common.{◌≡◌, sym, subst}
use Rattle.std.specs.Prelude.{MatchOption, None, Some}
use Rattle.ecore_names.specs.Targets.{feature_path}
use Rattle.xmi_text.proofs.Fragments.{one_part, two_parts, three_parts, four_parts}
use Rattle.ecore_names.proofs.own.rooted_feature_path.Goals as goal

pub returns-then-at-text : goal.returns-then-at-text
returns-then-at-text c = one_part _ _ c.place_of-at.ensures.place c.if-at-text.true

pub returns-then-end-behind : goal.returns-then-end-behind
returns-then-end-behind c = two_parts _ _ _ c.place_of-at.ensures.place c.if-at-text.false c.place_of-end.ensures.place c.if-end-behind.true

pub returns-then-third-feature : goal.returns-then-third-feature
returns-then-third-feature c =
    four_parts _ _ _ _ c.place_of-at.ensures.place c.if-at-text.false c.place_of-end.ensures.place c.if-end-behind.false c.place_of-third.ensures.place c.if-third-feature.true

pub returns : goal.returns
returns c =
    subst (λ o. MatchOption c.named_feature.result (o ≡ None) (λ p. o ≡ Some (feature_path p)))
    (sym (three_parts _ _ _ _ c.place_of-at.ensures.place c.if-at-text.false c.place_of-end.ensures.place c.if-end-behind.false c.place_of-third.ensures.place c.if-third-feature.false)) c.named_feature.ensures
