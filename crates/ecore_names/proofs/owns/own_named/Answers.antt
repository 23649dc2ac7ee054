use Rattle.std.proofs.Common.{map, sym, ap, ◌∙◌}
use Rattle.std.specs.Prelude.{slice_get}
use Rattle.ecore_outline.specs.Entries.{entries_of}
use Rattle.xmi_text.specs.Options.{then_}
use Rattle.ecore_names.specs.Targets.{own_of}
use Rattle.ecore_names.proofs.OwnRows.{own_named_is}
use Rattle.ecore_names.proofs.owns.own_named.Goals as goal

pub returns : goal.returns
returns c =
    c.own_at.ensures
    ∙ ap (λ l. then_ c.first_place-place.result (slice_get (map own_of l))) c.deref.ensures.value
    ∙ ap (λ o. then_ o (slice_get (map own_of c.args.table.now.owns.items))) c.first_place-place.ensures
    ∙ sym (own_named_is c.args.class c.args.name.now (entries_of c.args.entries.now) c.args.table.now c.requires)
