use Rattle.std.proofs.Common.{◌≡◌, length, Some}
use denote.Text.{Utf8}
use denote.Shadow.{shadow}
use Rattle.model_store.specs.Paths.{parts_of, descend}
use Rattle.model_store.proofs.fragments.descend.Given as goal

-- the steps that are left lead to the same object
abbrev pub invariant-down : goal.invariant-down
invariant-down l = record {
  text : shadow (Utf8 l.rest);
  same : descend l.model (Some l.o) (parts_of l.rest) ≡ descend l.model (Some l.fn.top) (parts_of l.fn.steps);
}

abbrev pub decreases-down : goal.decreases-down
decreases-down l = length l.rest
