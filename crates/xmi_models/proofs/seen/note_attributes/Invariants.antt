use Rattle.std.proofs.Common.{◌≡◌, ℕ, take}
use Rattle.std.specs.Prelude.{◌==◌, ◌&&◌, ◌||◌, false}
use Rattle.std.specs.Option.{option_map_or}
use Rattle.std.specs.List.{list_any}
use Rattle.xmi_models.specs.Faults.{attribute_feature}
use Rattle.xmi_models.specs.Entries.{part_in}
use Rattle.xmi_models.specs.SeenFeatures.{is_given}
use Rattle.xmi_models.proofs.seen.note_attributes.Given as goal

-- what the attributes so far give is noted
abbrev pub invariant-loop-i : goal.invariant-loop-i
invariant-loop-i l = (o f : ℕ) → is_given l.seen o f ≡ (is_given l.fn.seen o f
    || (l.object == o && list_any (λ a. option_map_or (λ g. g.0 == f) (attribute_feature l.meta (part_in l.part) a) false) (take l.i l.attributes)))
