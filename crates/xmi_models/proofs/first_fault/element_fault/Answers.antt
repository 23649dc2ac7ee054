use Rattle.std.proofs.Common.{◌≡◌, take, sym, ap, subst, ◌∙◌, arith}
use Rattle.std.specs.Prelude.{Option, None}
use Rattle.xmi_models.specs.Faults.{Fault, fault_at}
use Rattle.xmi_models.specs.Entries.{entry_of, entries_of}
use Rattle.xmi_models.specs.FoundFaults.{fault_in}
use Rattle.xmi_models.specs.SeenFeatures.{AreSeen}
use Rattle.xmi_models.proofs.FirstFault.{few, next_part, next_number, none_here}
use Rattle.xmi_models.proofs.first_fault.element_fault.Goals as goal

pub past-number-requires : goal.past-number-requires
past-number-requires c = omega (arith, few c.args.file.now c.loop-i.i, c.loop-i.invariant.number)

pub loop-i-preserved : goal.loop-i-preserved
loop-i-preserved c =
    let m = c.args.meta.now in
    let F = c.args.file.now in
    let i = c.loop-i.i in
    let e = c.index-file-i.result in
    let before = entries_of (take i F) in
    let none : ◌≡◌ {A = Option Fault} None (fault_at m before (entry_of e)) =
    ap fault_in (sym c.in_default.is) ∙ c.in_ok-fault.ensures before c.loop-i.invariant.seen c.loop-i.invariant.number in
    record {
      told = none_here F i m e c.loop-i-test.true c.index-file-i.is none ∙ c.loop-i.invariant.told;
      seen = subst (λ part. AreSeen m part c.note_entry.new.seen) (sym (next_part F i e c.loop-i-test.true c.index-file-i.is))
          (c.in_ok-note_entry.ensures before c.loop-i.invariant.seen c.loop-i.invariant.number);
      number = next_number F i e c.loop-i.number c.past-number.result c.loop-i-test.true c.index-file-i.is c.loop-i.invariant.number c.past-number.ensures;
    }
