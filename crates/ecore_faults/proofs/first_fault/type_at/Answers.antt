use Rattle.std.proofs.Common.{length, refl}
use Rattle.std.proofs.lemmas.Option.{slice_get_read, slice_get_past}
use Rattle.ecore_outline.specs.Entries.{entry_of, entries_of}
use Rattle.ecore_faults.proofs.Places.{typed_there, there_is_one}
use Rattle.ecore_faults.proofs.first_fault.type_at.Goals as goal

pub returns-then-feature-features : goal.returns-then-feature-features
returns-then-feature-features c = λ r.
    typed_there (entries_of c.args.file.now) (entries_of c.args.before.now) (entry_of c.args.entry.now) (entries_of c.args.behind.now) c.requires.whole r
    c.args.features.now c.requires.features c.args.feature c.index-features-feature.result c.requires.feature
    (slice_get_read c.args.features.now (length c.args.features.now) c.args.feature c.index-features-feature.result refl c.if-feature-features.true c.index-features-feature.is)

pub returns : goal.returns
returns c = λ r.
    absurd (there_is_one (entries_of c.args.file.now) (entries_of c.args.before.now) (entry_of c.args.entry.now) (entries_of c.args.behind.now) c.requires.whole r
    c.args.features.now c.requires.features c.args.feature c.requires.feature
    (slice_get_past c.args.features.now c.args.feature c.if-feature-features.false))
