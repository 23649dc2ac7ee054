use Rattle.std.proofs.Common.{map, sym, ap, ◌∙◌}
use Rattle.std.specs.Prelude.{slice_get}
use Rattle.ecore_outline.specs.Entries.{entries_of}
use Rattle.xmi_text.specs.Options.{then_}
use Rattle.ecore_names.proofs.LiteralKeys.{first_literal_is}
use Rattle.ecore_names.proofs.literals.first_text.Goals as goal

pub returns : goal.returns
returns c =
    c.text_at.ensures
    ∙ ap (λ l. then_ c.first_place-place.result (slice_get (map (λ x. x.now) l))) c.deref.ensures.value
    ∙ ap (λ o. then_ o (slice_get (map (λ x. x.now) c.args.table.now.texts.items))) c.first_place-place.ensures
    ∙ sym (first_literal_is c.args.enumeration (entries_of c.args.entries.now) c.args.table.now c.requires)
