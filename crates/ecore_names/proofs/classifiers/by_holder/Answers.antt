use Rattle.std.proofs.Common.{sym, ◌∙◌}
use Rattle.ecore_outline.specs.Entries.{entries_of}
use Rattle.ecore_names.specs.Targets.{path_of}
use Rattle.ecore_names.proofs.Classified.{no_holder, holder_is}
use Rattle.ecore_names.proofs.classifiers.by_holder.Goals as goal

pub returns-in-Some : goal.returns-in-Some
returns-in-Some c =
    let p = path_of c.args.path.now in
    let F = entries_of c.args.entries.now in
    c.first_place.ensures
    ∙ holder_is p c.requires.holder F c.args.table.now c.requires.tables c.in-Some.alias (sym (c.requires.tables.holders 0 p.holder) ∙ sym c.first_place-alias.ensures ∙ c.in-Some.is)

pub returns-in-None : goal.returns-in-None
returns-in-None c =
    let p = path_of c.args.path.now in
    let F = entries_of c.args.entries.now in
    sym (no_holder p c.requires.holder F (sym (c.requires.tables.holders 0 p.holder) ∙ sym c.first_place-alias.ensures ∙ c.in-None.is))
