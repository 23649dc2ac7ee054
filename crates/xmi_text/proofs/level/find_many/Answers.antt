use Rattle.std.proofs.Common.{sym, ap, ◌∙◌}
use Rattle.std.specs.Prelude.{bytes_eq, slice_get}
use Rattle.xmi_text.specs.Options.{then_}
use Rattle.xmi_text.specs.Keys.{is_key, prefix_key}
use Rattle.xmi_text.proofs.Positions.{position_map, first_at}
use Rattle.xmi_text.proofs.level.find_many.Goals as goal

pub returns : goal.returns
returns c =
    let q = c.args.prefix.now in
    let ds = c.args.declared.now in
    c.declared_at.ensures
    ∙ ap (λ o. then_ o (slice_get ds)) (c.first_place-place.ensures ∙ c.requires 0 q ∙ position_map (is_key 0 q) prefix_key 0 ds)
    ∙ sym (first_at (λ d. bytes_eq d.prefix q) ds)
