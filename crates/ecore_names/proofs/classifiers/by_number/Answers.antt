use Rattle.std.proofs.Common.{◌≡◌, ◌≤◌, length, sym, ap, ◌∙◌, arith}
use Rattle.std.proofs.lemmas.List.{length-map}
use Rattle.ecore_meta.specs.Valid.{number_of}
use Rattle.ecore_outline.specs.Entries.{entry_of, entries_of}
use Rattle.xmi_text.specs.Keys.{has_place}
use Rattle.ecore_names.specs.Targets.{path_of}
use Rattle.ecore_names.specs.Classifiers.{classifiers_in}
use Rattle.ecore_names.proofs.Classified.{no_number, too_great, number_is}
use Rattle.ecore_names.proofs.classifiers.by_number.Goals as goal

pub returns-then-not-is_number : goal.returns-then-not-is_number
returns-then-not-is_number c =
    sym (no_number (path_of c.args.path.now) (classifiers_in (entries_of c.args.entries.now)) (sym c.is_number.ensures ∙ c.if-not-is_number.true))

pub returns-then-wanted-entries : goal.returns-then-wanted-entries
returns-then-wanted-entries c =
    let great : length (entries_of c.args.entries.now) ≤ number_of c.args.path.now.holder.now = omega (arith, length-map c.args.entries.now entry_of, c.number-wanted.ensures, c.if-wanted-entries.true) in
    sym (too_great (path_of c.args.path.now) (entries_of c.args.entries.now) great)

pub returns : goal.returns
returns c =
    let same : c.number-wanted.result ≡ number_of c.args.path.now.holder.now = omega (arith, c.number-wanted.ensures, c.if-wanted-entries.false) in
    c.first_place.ensures
    ∙ ap (λ n. has_place c.args.table.now.numbers n c.args.path.now.name.now) same
    ∙ number_is (path_of c.args.path.now) (entries_of c.args.entries.now) c.args.table.now c.requires (sym c.is_number.ensures ∙ c.if-not-is_number.false)
