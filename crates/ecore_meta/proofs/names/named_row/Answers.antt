use Rattle.std.proofs.Common.{◌<◌, length, get_or, rules}
use Rattle.std.proofs.lemmas.List.Elements.{Contains-get_or}
use Rattle.atl_base.specs.declared.numbers.FeatId.{FeatId}
use Rattle.ecore_meta.proofs.NameLaws.{IsRow-more}
use Rattle.ecore_meta.proofs.names.named_row.Goals as goal

pub bounds-places-feature : goal.bounds-places-feature
bounds-places-feature c =
    let none : FeatId = record { 0 = 0 } in
    let inside : c.loop-feature.feature-index < length c.args.seen.now = search rules in
    c.requires.within (get_or c.args.seen.now c.loop-feature.feature-index none) (Contains-get_or c.args.seen.now c.loop-feature.feature-index none inside)

pub loop-feature-preserved : goal.loop-feature-preserved
loop-feature-preserved c =
    let none : FeatId = record { 0 = 0 } in
    let inside : c.loop-feature.feature-index < length c.args.seen.now = search rules in
    IsRow-more c.args.places.now c.args.seen.now c.loop-feature.feature-index none inside c.requires.differ c.loop-feature.row c.insert.new.self c.in_ok-insert.ensures.updates c.loop-feature.invariant
