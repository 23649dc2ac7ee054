use Rattle.std.proofs.Common.{◌≤◌, length, arith}
use Rattle.std.proofs.lemmas.List.{length-map}
use Rattle.ecore_outline.specs.Entries.{entry_of, entries_of}
use Rattle.xmi_read.proofs.RowsFit.{feature_fits}
use Rattle.xmi_read.proofs.features.features.Goals as goal

pub feature_of-requires-clause-owner : goal.feature_of-requires-clause-owner
feature_of-requires-clause-owner c =
    let small : length (entries_of c.args.file.now) ≤ 4294967294 = omega (arith, c.requires.size, length-map c.args.file.now entry_of) in
    (feature_fits (entries_of c.args.file.now) small c.requires.texts c.args.rows.now c.requires.rows c.loop-i.i c.index-rows-i.result c.loop-i-test.true c.index-rows-i.is).owner

pub feature_of-requires-clause-small : goal.feature_of-requires-clause-small
feature_of-requires-clause-small c =
    let small : length (entries_of c.args.file.now) ≤ 4294967294 = omega (arith, c.requires.size, length-map c.args.file.now entry_of) in
    (feature_fits (entries_of c.args.file.now) small c.requires.texts c.args.rows.now c.requires.rows c.loop-i.i c.index-rows-i.result c.loop-i-test.true c.index-rows-i.is).type

pub feature_of-requires-clause-text : goal.feature_of-requires-clause-text
feature_of-requires-clause-text c =
    let small : length (entries_of c.args.file.now) ≤ 4294967294 = omega (arith, c.requires.size, length-map c.args.file.now entry_of) in
    (feature_fits (entries_of c.args.file.now) small c.requires.texts c.args.rows.now c.requires.rows c.loop-i.i c.index-rows-i.result c.loop-i-test.true c.index-rows-i.is).default
