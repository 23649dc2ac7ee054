use Rattle.std.proofs.Common.{ap, ◌∙◌}
use Rattle.std.specs.Prelude.{is_some}
use Rattle.std.specs.List.{list_any}
use Rattle.xmi_text.specs.Keys.{is_key, keys_of}
use Rattle.xmi_text.proofs.Positions.{position_any}
use Rattle.xmi_names.proofs.tables.skipped_places.Goals as goal

pub returns : goal.returns
returns c = λ n q l.
    let same = ap keys_of c.deref.ensures.value in
    ap is_some (c.in_ok-places.ensures n q)
    ∙ position_any (is_key n q) 0 (keys_of c.deref.result.now)
    ∙ ap (list_any (is_key n q)) same
    ∙ c.in_ok-keys.ensures n q l
