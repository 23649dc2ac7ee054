use Rattle.std.proofs.Common.{◌≡◌, ℕ, ◌<◌, List, [], length, get_or, sym, subst, ◌∙◌, arith}
use Rattle.std.specs.Prelude.{◌↔◌, Contains}
use Rattle.std.specs.List.Sorted.{IsStrictlyIncreasing}
use Rattle.std.proofs.lemmas.List.{get_or_default}
use Rattle.ecore_meta.specs.declared.parts.Parts.{Parts}
use Rattle.ecore_meta.specs.Inheritance.{Conforms}
use Rattle.ecore_meta.proofs.metamodel.Metamodel.conformed.Goals as goal

pub returns : goal.returns
returns c =
    let class = c.args.class in
    let same : c.self.inside.parts ≡ c.args.self.now = c.self.view_is in
    let tables : List (List ℕ) = c.self.inside.conformed.items in
    let lengths : length tables ≡ length c.self.inside.parts.classes = c.self.invariant.conforming.lengths in
    let inside : class.0 < length c.self.inside.parts.classes = subst (λ (m : Parts). class.0 < length m.classes) (sym same) c.requires in
    let row : c.as_slice.result.now ≡ get_or tables class.0 [] =
    c.as_slice.ensures ∙ c.index.ensures ∙ get_or_default tables class.0 c.index.result.now [] (omega arith) in
    record {
      each = λ d. subst (λ (l : List ℕ). Contains l d.0 ↔ Conforms c.args.self.now.classes class d) (sym row)
          (subst (λ (m : Parts). Contains (get_or tables class.0 []) d.0 ↔ Conforms m.classes class d) same (c.self.invariant.conforming.each class.0 d.0 inside));
      rising = subst IsStrictlyIncreasing (sym row) (c.self.invariant.conforming.rising class.0 inside);
    }
