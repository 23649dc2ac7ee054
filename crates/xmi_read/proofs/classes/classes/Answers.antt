use Rattle.std.proofs.Common.{◌≤◌, ◌++◌, ◌∷◌, [], length, refl, sym, ap, ◌∙◌, subst, arith}
use Rattle.std.specs.Prelude.{All}
use Rattle.std.proofs.lemmas.List.{length-map}
use Rattle.ecore_outline.specs.Entries.{entry_of, entries_of}
use Rattle.ecore_rows.specs.CodeRows.{class_row_of, class_rows_of, feature_row_of}
use Rattle.xmi_read.specs.Parts.{classes_from}
use Rattle.xmi_read.proofs.ClassLoop.{supers_at, rising_first, own_is, own_within, rising_past, are_past, told_past}
use Rattle.xmi_read.proofs.RowsFit.{class_fits, features_small, supers_small}
use Rattle.xmi_read.proofs.classes.classes.Goals as goal

pub loop-i-init : goal.loop-i-init
loop-i-init c = record {
  told = ap (λ l. l ++ classes_from (entries_of c.args.file.now) 0 (class_rows_of c.args.rows.now)) c.new-list.ensures;
  begin = omega arith;
  rising = rising_first (entries_of c.args.file.now) c.args.features.now c.requires.features;
  own = λ class l. refl;
}

pub own_of-requires : goal.own_of-requires
own_of-requires c =
    let small : length (entries_of c.args.file.now) ≤ 4294967294 = omega (arith, c.requires.size, length-map c.args.file.now entry_of) in
    omega (arith, features_small (entries_of c.args.file.now) small, ap length c.requires.features, length-map c.args.features.now feature_row_of)

pub class_of-requires-clause-holder : goal.class_of-requires-clause-holder
class_of-requires-clause-holder c =
    let small : length (entries_of c.args.file.now) ≤ 4294967294 = omega (arith, c.requires.size, length-map c.args.file.now entry_of) in
    class_fits (entries_of c.args.file.now) small c.args.rows.now c.requires.rows c.loop-i.i c.index-rows-i.result c.loop-i-test.true c.index-rows-i.is

pub class_of-requires-clause-supers : goal.class_of-requires-clause-supers
class_of-requires-clause-supers c =
    let small : length (entries_of c.args.file.now) ≤ 4294967294 = omega (arith, c.requires.size, length-map c.args.file.now entry_of) in
    let are = supers_at (entries_of c.args.file.now) c.args.rows.now c.args.supers.now c.requires.rows c.requires.supers c.loop-i.i c.index-rows-i.result c.index-supers-i.result c.loop-i-test.true c.index-rows-i.is c.index-supers-i.is in
    subst (All (λ n. n ≤ 4294967294)) (sym (c.as_slice.ensures ∙ are)) (supers_small (entries_of c.args.file.now) small (class_row_of c.index-rows-i.result).supers)

pub loop-i-preserved : goal.loop-i-preserved
loop-i-preserved c =
    let file = entries_of c.args.file.now in
    let inv = c.loop-i.invariant in
    let are = supers_at file c.args.rows.now c.args.supers.now c.requires.rows c.requires.supers c.loop-i.i c.index-rows-i.result c.index-supers-i.result c.loop-i-test.true c.index-rows-i.is c.index-supers-i.is in
    let own = own_is file c.args.features.now c.requires.features c.loop-i.i c.loop-i.begin inv.begin inv.rising inv.own c.in_ok-own.own c.in_ok-own.ensures in
    record {
      told = told_past file c.args.rows.now c.loop-i.i c.index-rows-i.result c.loop-i.list c.push.new.self c.as_slice.result.now c.in_ok-own.own
          c.loop-i-test.true c.index-rows-i.is (c.in_ok-push.ensures.ok ∙ ap (λ k. c.loop-i.list ++ (k ∷ [])) c.in_ok-class_of.ensures) (c.as_slice.ensures ∙ are) own inv.told;
      begin = omega (arith, c.len.ensures, own_within file c.args.features.now c.requires.features c.loop-i.i c.loop-i.begin inv.begin inv.rising inv.own c.in_ok-own.own c.in_ok-own.ensures);
      rising = rising_past file c.args.features.now c.requires.features c.loop-i.i c.loop-i.begin inv.begin inv.rising inv.own c.in_ok-own.own c.in_ok-own.ensures c.len.result c.len.ensures;
      own = are_past file c.args.features.now c.requires.features c.loop-i.i c.loop-i.begin inv.begin inv.rising inv.own c.in_ok-own.own c.in_ok-own.ensures c.len.result c.len.ensures;
    }
