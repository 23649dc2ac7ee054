use Rattle.std.proofs.Common.{◌≡◌, ◌≢◌, ◌<◌, List, length, sym, subst, ◌∙◌, rules, Option, Some, None}
use Rattle.std.specs.Prelude.{IfSome, IfNone, Contains}
use Rattle.std.specs.HashMap.{get_by_text}
use Rattle.atl_base.specs.declared.numbers.FeatId.{FeatId}
use Rattle.ecore_meta.specs.declared.parts.Parts.{Parts}
use Rattle.ecore_meta.specs.Inheritance.{features, name_of}
use Rattle.ecore_meta.specs.Tables.{Row, AreNamed}
use Rattle.ecore_meta.proofs.LookUps.{feature_some, feature_none, no_feature, features_within}
use Rattle.ecore_meta.proofs.metamodel.Metamodel.feature_of.Goals as goal

pub returns-in_err-first-clause-none : goal.returns-in_err-first-clause-none
returns-in_err-first-clause-none c =
    let class = c.args.class in
    let m : Parts = c.self.inside.parts in
    let same : m ≡ c.args.self.now = c.self.view_is in
    let t = c.self.invariant in
    let inside : class.0 < length m.classes = subst (λ (m : Parts). class.0 < length m.classes) (sym same) c.requires in
    let absent : get_by_text c.self.inside.firsts c.args.name.now ≡ None = search rules in
    let none : (f : FeatId) → Contains (features m.classes class) f → name_of m.features f ≢ c.args.name.now =
    no_feature m.features c.self.inside.firsts (features m.classes class) c.args.name.now t.names (λ f k. features_within m t.valid c.self.inside.seen.items t.lists class f inside k) absent in
    subst (λ (r : Option FeatId). IfNone r ((f : FeatId) → Contains (features c.args.self.now.classes class) f → name_of c.args.self.now.features f ≢ c.args.name.now)) (sym c.from_residual.ensures)
    (subst (λ (m : Parts). (f : FeatId) → Contains (features m.classes class) f → name_of m.features f ≢ c.args.name.now) same none)

pub returns-clause-some : goal.returns-clause-some
returns-clause-some c =
    let class = c.args.class in
    let m : Parts = c.self.inside.parts in
    let same : m ≡ c.args.self.now = c.self.view_is in
    let t = c.self.invariant in
    let inside : class.0 < length m.classes = subst (λ (m : Parts). class.0 < length m.classes) (sym same) c.requires in
    let leads : get_by_text c.self.inside.firsts c.args.name.now ≡ Some c.in_ok-first.first.now = search rules in
    let rows : List Row = c.self.inside.named.items in
    let named : AreNamed m.features c.self.inside.firsts (features m.classes class) c.index.result.now =
    subst (AreNamed m.features c.self.inside.firsts (features m.classes class)) (sym c.index.ensures) (t.named.each class.0 c.index.result.now inside) in
    subst (λ (m : Parts). IfSome c.copied.result (λ f. Contains (features m.classes class) f × (name_of m.features f ≡ c.args.name.now))) same
    (feature_some m.features c.self.inside.firsts (features m.classes class) c.index.result.now t.names named c.args.name.now c.in_ok-first.first.now leads
    c.copied.result (c.copied.ensures ∙ c.get-2.ensures.value))

pub returns-clause-none : goal.returns-clause-none
returns-clause-none c =
    let class = c.args.class in
    let m : Parts = c.self.inside.parts in
    let same : m ≡ c.args.self.now = c.self.view_is in
    let t = c.self.invariant in
    let inside : class.0 < length m.classes = subst (λ (m : Parts). class.0 < length m.classes) (sym same) c.requires in
    let leads : get_by_text c.self.inside.firsts c.args.name.now ≡ Some c.in_ok-first.first.now = search rules in
    let named : AreNamed m.features c.self.inside.firsts (features m.classes class) c.index.result.now =
    subst (AreNamed m.features c.self.inside.firsts (features m.classes class)) (sym c.index.ensures) (t.named.each class.0 c.index.result.now inside) in
    subst (λ (m : Parts). IfNone c.copied.result ((f : FeatId) → Contains (features m.classes class) f → name_of m.features f ≢ c.args.name.now)) same
    (feature_none m.features c.self.inside.firsts (features m.classes class) c.index.result.now t.names named c.args.name.now c.in_ok-first.first.now leads
    c.copied.result (c.copied.ensures ∙ c.get-2.ensures.value))
