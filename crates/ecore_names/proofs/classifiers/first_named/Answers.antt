use Rattle.std.proofs.Common.{sym, ap, ◌∙◌}
use Rattle.std.specs.List.{position_from}
use Rattle.ecore_outline.specs.Entries.{entries_of}
use Rattle.ecore_names.specs.Targets.{path_of}
use Rattle.xmi_text.specs.Options.{earlier}
use Rattle.ecore_names.specs.Classifiers.{classifiers_in, is_numbered}
use Rattle.ecore_names.proofs.Classified.{any_is, either_is}
use Rattle.ecore_names.proofs.classifiers.first_named.Goals as goal

pub returns-then-is_any : goal.returns-then-is_any
returns-then-is_any c =
    c.first_place.ensures
    ∙ any_is (path_of c.args.path.now) (entries_of c.args.entries.now) c.args.table.now c.requires (sym c.is_any.ensures ∙ c.if-is_any.true)

pub returns : goal.returns
returns c =
    let p = path_of c.args.path.now in
    let F = entries_of c.args.entries.now in
    c.earlier.ensures
    ∙ ap (λ o. earlier o c.by_holder-held.result) c.by_number-numbered.ensures
    ∙ ap (earlier (position_from (is_numbered p) 0 (classifiers_in F))) c.by_holder-held.ensures
    ∙ either_is p F (sym c.is_any.ensures ∙ c.if-is_any.false)
