use Rattle.std.proofs.Common.{[], ◌∷◌, ◌++◌, map, sym, ap, ◌∙◌}
use Rattle.std.specs.Prelude.{Bool, if◌then◌else◌}
use Rattle.std.proofs.lemmas.List.{append-nil, map_push}
use Rattle.ecore_outline.specs.Entries.{entry_of}
use Rattle.ecore_names.specs.Targets.{stand_of}
use Rattle.ecore_names.specs.Classifiers.{classifier_here, row_in}
use Rattle.ecore_names.specs.FileTables.{row_of, rows_of}
use Rattle.ecore_names.proofs.classifiers.push_classifier.Goals as goal

pub returns-then-not-is_classifier : goal.returns-then-not-is_classifier
returns-then-not-is_classifier c = λ keys h.
    let here = classifier_here (stand_of c.args.stand.now) (entry_of c.args.entry.now) in
    sym (append-nil (rows_of c.args.rows.now.items))
    ∙ ap (λ (b : Bool). rows_of c.args.rows.now.items ++ map (row_in keys) (if b then here ∷ [] else [])) (sym c.if-not-is_classifier.true ∙ c.is_classifier.ensures)

pub returns : goal.returns
returns c = λ keys h.
    let here = classifier_here (stand_of c.args.stand.now) (entry_of c.args.entry.now) in
    ap rows_of c.in_ok-push.ensures.items
    ∙ map_push row_of c.args.rows.now.items c.classifier_here-row.result
    ∙ ap (λ r. rows_of c.args.rows.now.items ++ (r ∷ [])) (c.classifier_here-row.ensures keys h)
    ∙ ap (λ (b : Bool). rows_of c.args.rows.now.items ++ map (row_in keys) (if b then here ∷ [] else [])) (sym c.if-not-is_classifier.false ∙ c.is_classifier.ensures)
