use Rattle.std.proofs.Common.{◌≡◌, ◌+◌, ◌∷◌, ◌++◌, map, drop, sym, ap, ◌∙◌, arith}
use Rattle.std.proofs.lemmas.List.{drop_more}
use Rattle.ecore_outline.specs.declared.outline.Entry.{Entry as CodeEntry}
use Rattle.ecore_outline.specs.Outline.{is_package_role, is_class_role, is_enum_role}
use Rattle.ecore_outline.specs.Entries.{entry_of, entries_of}
use Rattle.ecore_names.specs.References.{first_stand}
use Rattle.ecore_names.specs.Targets.{stand_of}
use Rattle.ecore_names.specs.Classifiers.{classifiers_from, row_in, holders_in, alias_of}
use Rattle.ecore_names.specs.FileTables.{rows_of}
use Rattle.ecore_names.proofs.Classified.{row_step, alias_step, one_more}
use Rattle.ecore_names.proofs.classifiers.classifiers.Goals as goal

pub loop-i-init : goal.loop-i-init
loop-i-init c =
    let keys = holders_in (entries_of c.args.entries.now) in
    record {
      told = ap (λ l. rows_of l ++ map (row_in keys) (classifiers_from first_stand (entries_of c.args.entries.now))) c.new-rows.ensures.items;
      alias = c.alias_of-alias.ensures keys c.requires;
      packages = omega arith;
      classes = omega arith;
      enums = omega arith;
    }

pub loop-i-preserved : goal.loop-i-preserved
loop-i-preserved c =
    let keys = holders_in (entries_of c.args.entries.now) in
    let s = stand_of c.loop-i.stand in
    let e = entry_of c.index-entries-i.result in
    let rest = drop (c.loop-i.i + 1) c.args.entries.now in
    let cut : entries_of (drop c.loop-i.i c.args.entries.now) ≡ e ∷ entries_of rest =
    ap entries_of (drop_more c.args.entries.now c.loop-i.i c.index-entries-i.result c.loop-i-test.true) ∙ ap (λ (x : CodeEntry). entry_of x ∷ entries_of rest) (sym c.index-entries-i.is) in
    let further = c.past-stand.ensures in
    record {
      told = row_step keys s e (entries_of rest) (rows_of c.loop-i.rows.items) _ (stand_of c.past-stand.result) (c.in_ok-push_classifier.ensures keys c.loop-i.invariant.alias) further
          ∙ ap (λ es. rows_of c.loop-i.rows.items ++ map (row_in keys) (classifiers_from s es)) (sym cut)
          ∙ c.loop-i.invariant.told;
      alias = c.alias_past-alias.ensures keys c.requires ∙ alias_step keys s e c.loop-i.alias c.loop-i.invariant.alias ∙ ap (λ t. alias_of keys t.holder) (sym further);
      packages = omega (arith, ap (λ t. t.packages) further, one_more (is_package_role e.role) c.loop-i.stand.packages, c.loop-i.invariant.packages);
      classes = omega (arith, ap (λ t. t.classes) further, one_more (is_class_role e.role) c.loop-i.stand.classes, c.loop-i.invariant.classes);
      enums = omega (arith, ap (λ t. t.enums) further, one_more (is_enum_role e.role) c.loop-i.stand.enums, c.loop-i.invariant.enums);
    }
