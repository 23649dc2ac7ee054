use Rattle.std.proofs.Common.{[], ap, ◌∙◌}
use Rattle.std.specs.Prelude.{bytes_eq, is_some, slice_get}
use Rattle.std.specs.Option.{option_map_or}
use Rattle.std.specs.List.{list_any}
use Rattle.ecore_meta.specs.declared.parts.Literal.{Literal}
use Rattle.ecore_meta.specs.declared.parts.Parts.{Parts}
use Rattle.xmi_names.proofs.TableLaws.{literal_found}
use Rattle.xmi_names.proofs.vocabulary.Vocabulary.has_literal.Goals as goal

pub returns : goal.returns
returns c =
    let text = c.args.text.now in
    c.is_some.ensures
    ∙ ap is_some (c.first_place.ensures ∙ c.self.invariant.literals c.args.enumeration text)
    ∙ literal_found text c.args.enumeration c.self.inside.meta.now.enums
    ∙ ap (λ (p : Parts). list_any (λ (l : Literal). bytes_eq l.text text) (option_map_or (λ d. d.literals) (slice_get p.enums c.args.enumeration) [])) c.self.view_is
