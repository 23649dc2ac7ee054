use Rattle.std.proofs.Common.{◌++◌, sym, ap, ◌∙◌}
use Rattle.std.specs.Prelude.{filter_map}
use Rattle.xmi_models.specs.Faults.{attribute_value, bad_value, second_object}
use Rattle.xmi_models.specs.Entries.{entry_of}
use Rattle.xmi_models.specs.FoundFaults.{first_value}
use Rattle.xmi_models.proofs.FirstFault.{first_right}
use Rattle.xmi_models.proofs.Walking.{if_ok}
use Rattle.xmi_models.proofs.value_fault.first_bad.Goals as goal

pub returns : goal.returns
returns c = λ before seen.
    let m = c.args.meta.now in
    let e = entry_of c.args.entry.now in
    let given = filter_map (attribute_value m e.part) e.tag.attributes in
    if_ok c.bad_text.result
    (λ t h. first_right t (second_object m before e.part) (given ++ bad_value m before e)
    (sym c.in_default.is ∙ c.second_child.ensures before seen)
    (first_right t given (bad_value m before e)
    (sym c.in_default-2.is ∙ c.in_ok-text.ensures ∙ ap (λ list. first_value (filter_map (attribute_value m e.part) list)) c.as_slice-attributes.ensures)
    h))
    (c.bad_text.ensures before seen)
