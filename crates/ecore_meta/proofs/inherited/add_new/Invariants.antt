use Rattle.std.proofs.Common.{◌≡◌, List, ◌++◌, take}
use Rattle.atl_base.specs.declared.numbers.FeatId.{FeatId}
use Rattle.ecore_meta.specs.Inheritance.{distinct}
use Rattle.ecore_meta.proofs.inherited.add_new.Given as goal

-- the features so far have been added
abbrev pub invariant-loop-feature : goal.invariant-loop-feature
invariant-loop-feature l = (before : List FeatId) → l.fn.seen.keys ≡ distinct before → l.seen.keys ≡ distinct (before ++ take l.feature-index l.features)
