use Rattle.std.proofs.Common.{◌≡◌, ◌<◌, List, [], ◌++◌, take, length, get_or, ap, subst, ◌∙◌, rules}
use Rattle.std.proofs.lemmas.List.{get_or_default}
use Rattle.std.proofs.lemmas.List.Elements.{Contains-get_or}
use Rattle.std.specs.List.{Contains, flat_map}
use Rattle.atl_base.specs.declared.numbers.ClassId.{ClassId}
use Rattle.atl_base.specs.declared.numbers.FeatId.{FeatId}
use Rattle.ecore_meta.specs.Inheritance.{distinct}
use Rattle.ecore_meta.proofs.Distinct.{flat_map-take_more}
use Rattle.ecore_meta.proofs.inherited.features_seen.Goals as goal

pub bounds-lists-sup : goal.bounds-lists-sup
bounds-lists-sup c =
    let none : ClassId = record { 0 = 0 } in
    let supers : List ClassId = c.as_slice-sup-items.result.now in
    let inside : c.loop-sup.sup-index < length supers = search rules in
    c.requires (get_or supers c.loop-sup.sup-index none)
    (subst (λ (l : List ClassId). Contains l (get_or supers c.loop-sup.sup-index none)) c.as_slice-sup-items.ensures (Contains-get_or supers c.loop-sup.sup-index none inside))

pub loop-sup-preserved : goal.loop-sup-preserved
loop-sup-preserved c =
    let none : ClassId = record { 0 = 0 } in
    let supers : List ClassId = c.as_slice-sup-items.result.now in
    let lists : List (List FeatId) = c.args.lists.now in
    let seen : ClassId → List FeatId = λ s. get_or lists s.0 [] in
    let here : ClassId = get_or supers c.loop-sup.sup-index none in
    let inside : c.loop-sup.sup-index < length supers = search rules in
    let within : here.0 < length lists = c.requires here (subst (λ (l : List ClassId). Contains l here) c.as_slice-sup-items.ensures (Contains-get_or supers c.loop-sup.sup-index none inside)) in
    let read : c.as_slice.result.now ≡ seen here = c.as_slice.ensures ∙ c.index-lists-sup.is ∙ get_or_default lists here.0 _ [] within in
    c.in_ok-add_new.ensures (flat_map seen (take c.loop-sup.sup-index supers)) c.loop-sup.invariant
    ∙ ap (λ (l : List FeatId). distinct (flat_map seen (take c.loop-sup.sup-index supers) ++ l)) read
    ∙ ap distinct (flat_map-take_more seen supers c.loop-sup.sup-index none inside)
