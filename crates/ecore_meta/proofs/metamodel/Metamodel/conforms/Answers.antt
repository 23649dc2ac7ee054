use Rattle.std.proofs.Common.{◌≡◌, Bool, ℕ, ◌<◌, List, [], length, get_or, sym, subst, ◌∙◌, arith}
use Rattle.std.specs.Prelude.{◌↔◌, IsTrue, is_ok}
use Rattle.std.proofs.lemmas.List.{get_or_default}
use Rattle.std.specs.List.Sorted.{IsBinarySearchResult}
use Rattle.std.specs.Ordering.{nat_cmp}
use Rattle.ecore_meta.specs.declared.parts.Parts.{Parts}
use Rattle.ecore_meta.specs.Inheritance.{Conforms}
use Rattle.ecore_meta.proofs.LookUps.{conforms_is}
use Rattle.ecore_meta.proofs.metamodel.Metamodel.conforms.Goals as goal

pub returns : goal.returns
returns c =
    let sub = c.args.sub in
    let sup = c.args.sup in
    let same : c.self.inside.parts ≡ c.args.self.now = c.self.view_is in
    let tables : List (List ℕ) = c.self.inside.conformed.items in
    let lengths : length tables ≡ length c.self.inside.parts.classes = c.self.invariant.conforming.lengths in
    let inside : sub.0 < length c.self.inside.parts.classes = subst (λ (m : Parts). sub.0 < length m.classes) (sym same) c.requires.sub in
    let row : c.as_slice-conformed.result.now ≡ get_or tables sub.0 [] =
    c.as_slice-conformed.ensures ∙ c.index.ensures ∙ get_or_default tables sub.0 c.index.result.now [] (omega arith) in
    let found : IsBinarySearchResult (λ y. nat_cmp y sup.0) (get_or tables sub.0 []) c.binary_search.result =
    subst (λ (l : List ℕ). IsBinarySearchResult (λ y. nat_cmp y sup.0) l c.binary_search.result) row c.binary_search.ensures.position in
    subst (λ (b : Bool). IsTrue b ↔ Conforms c.args.self.now.classes sub sup) (sym c.is_ok.ensures.value)
    (subst (λ (m : Parts). IsTrue (is_ok c.binary_search.result) ↔ Conforms m.classes sub sup) same
    (conforms_is c.self.inside.parts.classes tables sub.0 sup.0 c.binary_search.result c.self.invariant.conforming inside found))
