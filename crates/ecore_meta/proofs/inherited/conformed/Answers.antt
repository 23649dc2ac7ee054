use Rattle.std.proofs.Common.{◌≡◌, ℕ, ◌<◌, ◌≤◌, List, [], ◌∷◌, ◌++◌, take, length, get_or, sym, ap, subst, ◌∙◌, rules}
use Rattle.std.specs.Prelude.{◌↔◌}
use Rattle.std.proofs.lemmas.List.{get_or_default, take_all}
use Rattle.std.proofs.lemmas.List.Elements.{Contains-get_or}
use Rattle.std.specs.List.{Contains, flat_map}
use Rattle.std.specs.List.Sorted.{IsStrictlyIncreasing}
use Rattle.atl_base.specs.declared.numbers.ClassId.{ClassId}
use Rattle.ecore_meta.proofs.Distinct.{flat_map-take_more}
use Rattle.ecore_meta.proofs.TableLaws.{Contains-sorted, rising_sorted}
use Rattle.ecore_meta.proofs.inherited.conformed.Goals as goal

pub bounds-lists-sup : goal.bounds-lists-sup
bounds-lists-sup c =
    let none : ClassId = record { 0 = 0 } in
    let inside : c.loop-sup.sup-index < length c.args.supers.now = search rules in
    c.requires (get_or c.args.supers.now c.loop-sup.sup-index none) (Contains-get_or c.args.supers.now c.loop-sup.sup-index none inside)

pub loop-sup-preserved : goal.loop-sup-preserved
loop-sup-preserved c =
    let none : ClassId = record { 0 = 0 } in
    let supers : List ClassId = c.args.supers.now in
    let lists : List (List ℕ) = c.args.lists.now in
    let row : ClassId → List ℕ = λ s. get_or lists s.0 [] in
    let here : ClassId = get_or supers c.loop-sup.sup-index none in
    let inside : c.loop-sup.sup-index < length supers = search rules in
    let within : here.0 < length lists = c.requires here (Contains-get_or supers c.loop-sup.sup-index none inside) in
    let read : c.as_slice.result.now ≡ row here = c.as_slice.ensures ∙ c.index-lists-sup.is ∙ get_or_default lists here.0 c.index-lists-sup.result [] within in
    c.in_ok-extend_from_slice.ensures.items
    ∙ ap (λ (l : List ℕ). l ++ c.as_slice.result.now) c.loop-sup.invariant
    ∙ ap (λ (l : List ℕ). c.args.class ∷ (flat_map row (take c.loop-sup.sup-index supers) ++ l)) read
    ∙ ap (λ (l : List ℕ). c.args.class ∷ l) (flat_map-take_more row supers c.loop-sup.sup-index none inside)

pub returns-clause-rising : goal.returns-clause-rising
returns-clause-rising c =
    subst IsStrictlyIncreasing (sym c.from_vec.ensures) (rising_sorted c.sort.new.self.items c.dedup.new.self.items c.in_ok-sort.ensures.sorted c.dedup.ensures.filtered)

pub returns-clause-each : goal.returns-clause-each
returns-clause-each c =
    let supers : List ClassId = c.args.supers.now in
    let row : ClassId → List ℕ = λ s. get_or c.args.lists.now s.0 [] in
    let done : length supers ≤ c.loop-sup.sup-index = search rules in
    let all : c.loop-sup.list.items ≡ c.args.class ∷ flat_map row supers =
    c.loop-sup.invariant ∙ ap (λ (l : List ClassId). c.args.class ∷ flat_map row l) (take_all c.loop-sup.sup-index supers done) in
    λ d. subst (λ (l : List ℕ). Contains l d ↔ Contains (c.args.class ∷ flat_map row supers) d) (sym c.from_vec.ensures)
    (subst (λ (l : List ℕ). Contains c.dedup.new.self.items d ↔ Contains l d) all
    (Contains-sorted c.loop-sup.list.items c.sort.new.self.items c.dedup.new.self.items d c.in_ok-sort.ensures.permutation c.dedup.ensures.filtered))
