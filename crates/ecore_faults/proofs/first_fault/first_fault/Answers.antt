use Rattle.std.proofs.Common.{◌+◌, take, sym, ap, ◌∙◌, subst, arith}
use Rattle.std.specs.Prelude.{Some, None}
use Rattle.ecore_outline.specs.Outline.{is_class_role, is_enum_role, is_feature_role}
use Rattle.ecore_outline.specs.Entries.{entry_of, entries_of}
use Rattle.ecore_faults.specs.Tables.{AreCounted}
use Rattle.ecore_faults.specs.Seen.{AreSeen}
use Rattle.ecore_faults.specs.FoundFaults.{fault_of, fault_in}
use Rattle.ecore_faults.proofs.Places.{whole_here, fault_here, found_here, none_here, next_part, counted_short}
use Rattle.ecore_faults.proofs.SeenBefore.{seen_more}
use Rattle.ecore_faults.proofs.first_fault.first_fault.Goals as goal

pub fault_at-requires-clause-whole : goal.fault_at-requires-clause-whole
fault_at-requires-clause-whole c = ap entries_of (sym c.entries-entries.ensures) ∙ whole_here c.entries-entries.result.now c.loop-i.i c.index-entries-i.result c.loop-i-test.true c.index-entries-i.is

pub fault_at-requires-clause-repeated : goal.fault_at-requires-clause-repeated
fault_at-requires-clause-repeated c = c.is_repeated-repeated.ensures (entries_of (take c.loop-i.i c.entries-entries.result.now)) c.loop-i.invariant.seen c.loop-i.invariant.counts.enums

pub returns-in-Some : goal.returns-in-Some
returns-in-Some c =
    let F = entries_of c.args.file.now in
    let e = c.index-entries-i.result in
    let here = fault_here F c.entries-entries.result.now c.loop-i.i e (Some (fault_of c.in-Some.fault)) c.index-entries-i.is (ap fault_in (sym c.in-Some.is) ∙ c.in_ok-fault.ensures) in
    ap (λ x. Some (fault_of c.in-Some.fault, (entry_of x).site.element.place)) c.index-entries-i.is
    ∙ sym (found_here F c.entries-entries.result.now c.loop-i.i e (fault_of c.in-Some.fault) c.loop-i-test.true here)
    ∙ c.loop-i.invariant.told

pub loop-i-preserved : goal.loop-i-preserved
loop-i-preserved c =
    let F = entries_of c.args.file.now in
    let E = c.entries-entries.result.now in
    let e = c.index-entries-i.result in
    let here = fault_here F E c.loop-i.i e None c.index-entries-i.is (ap fault_in (sym c.in_default.is) ∙ c.in_ok-fault.ensures) in
    let further = next_part E c.loop-i.i e c.loop-i-test.true c.index-entries-i.is in
    let counts : AreCounted F c.past-counts.result (entries_of (take (c.loop-i.i + 1) E)) =
    subst (AreCounted F c.past-counts.result) (sym further) (c.past-counts.ensures F (entries_of (take c.loop-i.i E)) c.loop-i.invariant.counts) in
    let names = c.in_ok-note_names.ensures in
    record {
      told = sym (none_here F E c.loop-i.i e c.loop-i-test.true here) ∙ c.loop-i.invariant.told;
      counts = counts;
      seen = subst (λ part. AreSeen part c.note_names.new.seen) (sym further)
          (seen_more (entries_of (take c.loop-i.i E)) (entry_of e) c.loop-i.seen c.note_names.new.seen c.loop-i.counts.enums c.loop-i.invariant.counts.enums names.uris names.prefixes names.classifiers names.names names.texts c.loop-i.invariant.seen);
      classes = omega (arith, counts.classes, counted_short is_class_role E (c.loop-i.i + 1));
      enums = omega (arith, counts.enums, counted_short is_enum_role E (c.loop-i.i + 1));
      features = omega (arith, counts.features, counted_short is_feature_role E (c.loop-i.i + 1));
    }
