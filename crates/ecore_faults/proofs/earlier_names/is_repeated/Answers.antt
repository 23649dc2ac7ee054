use Rattle.std.proofs.Common.{[], ◌∙◌}
use Rattle.std.specs.Prelude.{◌-◌, ◌&&◌}
use Rattle.std.specs.List.{list_any}
use Rattle.ecore_outline.specs.Outline.{is_classifier_role, is_enum_role, count}
use Rattle.ecore_outline.specs.Enumerations.{is_literal_role, literals_of}
use Rattle.ecore_faults.specs.Faults.{is_same_classifier, is_same_literal}
use Rattle.ecore_outline.specs.Entries.{entry_of}
use Rattle.ecore_faults.proofs.SeenBefore.{package_before, classifier_before, literal_before, first_of_three, second_of_three, third_of_three}
use Rattle.ecore_faults.proofs.earlier_names.is_repeated.Goals as goal

pub returns-then-of_package : goal.returns-then-of_package
returns-then-of_package c = λ before h n.
    let e = entry_of c.args.entry.now in
    c.if-of_package.true
    ∙ first_of_three _ _ (is_classifier_role e.role && list_any (is_same_classifier [] e) before) (is_literal_role e.role && list_any (is_same_literal [] e) (literals_of before (count is_enum_role before - 1)))
    (c.repeats_package-of_package.ensures ∙ package_before before e c.args.seen.now h) c.if-of_package.true

pub returns-then-of_classifier : goal.returns-then-of_classifier
returns-then-of_classifier c = λ before h n.
    let e = entry_of c.args.entry.now in
    c.if-of_classifier.true
    ∙ second_of_three _ _ _ _ (is_literal_role e.role && list_any (is_same_literal [] e) (literals_of before (count is_enum_role before - 1)))
    (c.repeats_package-of_package.ensures ∙ package_before before e c.args.seen.now h) c.if-of_package.false
    (c.repeats_classifier-of_classifier.ensures ∙ classifier_before before e c.args.seen.now h) c.if-of_classifier.true

pub returns-else-of_classifier : goal.returns-else-of_classifier
returns-else-of_classifier c = λ before h n.
    let e = entry_of c.args.entry.now in
    third_of_three _ _ _ _ _ _ (c.repeats_package-of_package.ensures ∙ package_before before e c.args.seen.now h) c.if-of_package.false
    (c.repeats_classifier-of_classifier.ensures ∙ classifier_before before e c.args.seen.now h) c.if-of_classifier.false
    (c.repeats_literal-of_literal.ensures ∙ literal_before before e c.args.seen.now h c.args.enums n)
