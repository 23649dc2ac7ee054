use Rattle.std.proofs.Common.{◌≡◌, ap, map, sym, ◌∙◌}
use Rattle.std.proofs.lemmas.List.Sorted.{IsNonDecreasingBy-from_sort}
use Rattle.model_store.specs.declared.roots.RootStep.TheVariants.{TakenIn}
use Rattle.model_store.specs.Drafts.{settled}
use Rattle.model_store.proofs.RisingRoots.{settled_all, without_permuted}
use Rattle.model_store.proofs.roots.many_taken.Goals as goal

pub returns : goal.returns
returns c =
    let numbers = c.in-Some.numbers.items in
    let sorted = c.sort_unstable.new.self.items in
    let told : map (λ n. TakenIn (record { 0 = n })) numbers ≡ c.args.steps.now = rw c.in-Some.is at c.in_ok-numbers.ensures in (
      IsNonDecreasingBy-from_sort (λ n. n) sorted c.sort_unstable.ensures.sorted,
      λ roots. ap (λ steps. settled steps roots) (sym told) ∙ settled_all numbers roots ∙ without_permuted numbers sorted c.sort_unstable.ensures.permutation roots,
    )
