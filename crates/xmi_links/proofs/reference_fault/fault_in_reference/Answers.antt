use Rattle.std.proofs.Common.{Some, None, Option, sym, ap, ◌∙◌}
use Rattle.std.specs.Prelude.{find}
use Rattle.std.specs.Option.{option_map_or}
use Rattle.atl_base.specs.XmlText.{IsXmlText}
use Rattle.xmi_models.specs.Entries.{part_in}
use Rattle.xmi_models.specs.Faults.{Fault}
use Rattle.xmi_links.specs.declared.references.Token.{Token as CodeToken}
use Rattle.xmi_links.specs.References.{Token, is_wrong, value_told}
use Rattle.xmi_links.specs.Found.{named_in, token_in}
use Rattle.xmi_links.proofs.Finding.{found_of, none_of, found_holds}
use Rattle.xmi_links.proofs.reference_fault.fault_in_reference.Goals as goal

pub told-requires : goal.told-requires
told-requires c =
    let wrong = λ (t : CodeToken). is_wrong c.args.sketch.now c.args.kind (part_in c.args.part) c.args.reference.now.feature (named_in t.named) in
    found_holds token_in (λ t. IsXmlText t.text) wrong c.args.reference.now.tokens.items c.in-Some.token.now c.requires (c.in-Some.ensures ∙ ap (find wrong) c.deref.ensures.value)

pub returns-in_ok-value-in-Some : goal.returns-in_ok-value-in-Some
returns-in_ok-value-in-Some c =
    let m = c.args.sketch.now in
    let f = c.args.reference.now.feature in
    let wrong = λ (t : Token). is_wrong m c.args.kind (part_in c.args.part) f t.named in
    let says : Token → Option Fault = λ t. Some (c.args.kind, value_told m c.args.kind f t.text) in
    ap (λ value. let r : Option Fault = Some (c.args.kind, value) in r) c.in_ok-value-in-Some.ensures
    ∙ sym (ap (λ (t : Option Token). option_map_or says t None)
    (found_of token_in wrong c.args.reference.now.tokens.items c.in-Some.token.now (c.in-Some.ensures ∙ ap (find (λ (t : CodeToken). wrong (token_in t))) c.deref.ensures.value)))

pub returns-in-None : goal.returns-in-None
returns-in-None c =
    let m = c.args.sketch.now in
    let f = c.args.reference.now.feature in
    let wrong = λ (t : Token). is_wrong m c.args.kind (part_in c.args.part) f t.named in
    let says : Token → Option Fault = λ t. Some (c.args.kind, value_told m c.args.kind f t.text) in
    sym (ap (λ (t : Option Token). option_map_or says t None)
    (none_of token_in wrong c.args.reference.now.tokens.items (c.in-None.ensures ∙ ap (find (λ (t : CodeToken). wrong (token_in t))) c.deref.ensures.value)))
