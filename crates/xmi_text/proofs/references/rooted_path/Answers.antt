use Rattle.std.proofs.Common.{◌≡◌, sym, subst}
use Rattle.std.specs.Prelude.{MatchOption, None, Some}
use Rattle.xmi_text.specs.Fragments.{path}
use Rattle.xmi_text.proofs.Fragments.{short, long, fits}
use Rattle.xmi_text.proofs.references.rooted_path.Goals as goal

pub returns-then-at-text : goal.returns-then-at-text
returns-then-at-text c = short _ _ c.place_of-at.ensures.place c.if-at-text.true

pub returns-then-end-name : goal.returns-then-end-name
returns-then-end-name c = long _ _ _ c.place_of-at.ensures.place c.if-at-text.false c.place_of-end.ensures.place c.if-end-name.true

pub returns : goal.returns
returns c =
    subst (λ o. MatchOption c.named_path.result (o ≡ None) (λ p. o ≡ Some (path p.holder.now p.name.now)))
    (sym (fits _ _ _ c.place_of-at.ensures.place c.if-at-text.false c.place_of-end.ensures.place c.if-end-name.false)) c.named_path.ensures
