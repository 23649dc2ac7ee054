use Rattle.std.proofs.Common.{◌≡◌, ◌+◌, ◌++◌, [], List, Option, drop, sym, subst, ap, refl, ◌∙◌, arith}
use Rattle.std.specs.Prelude.{suc, if◌then◌else◌}
use Rattle.std.proofs.lemmas.List.{append-nil, drop_all}
use Rattle.xmi_models.specs.Outline.{is_object, objects_in}
use Rattle.xmi_models.specs.declared.part.Entry.{Entry as CodeEntry}
use Rattle.xmi_models.specs.Faults.{objects}
use Rattle.xmi_models.specs.Entries.{entries_of, entry_of}
use Rattle.xmi_models.specs.declared.fault.FoundFault.{FoundFault}
use Rattle.xmi_links.specs.References.{links_from, reference_fault_from}
use Rattle.xmi_links.specs.Found.{links_in}
use Rattle.xmi_links.specs.Linking.{IsStep}
use Rattle.xmi_links.proofs.Following.{counted_next}
use Rattle.xmi_links.proofs.Steps.{left}
use Rattle.xmi_links.proofs.links.links_of.Goals as goal

pub loop-i-init : goal.loop-i-init
loop-i-init c = record {
  number = omega arith;
  told = λ who are. (
    [],
    c.no_ends.ensures c.args.sketch.now.meta,
    refl,
    ap (λ l. links_in l ++ links_from c.args.sketch.now who 0 (objects (entries_of c.args.file.now))) c.new.ensures.items,
  );
}

pub returns-in-Some : goal.returns-in-Some
returns-in-Some c = λ who are.
    let m = c.args.sketch.now in
    let rest = entries_of (drop (c.loop-i.i + 1) c.args.file.now) in
    let e = entry_of c.index-file-i.result in
    let n = c.loop-i.number in
    let here = left entry_of c.args.file.now c.loop-i.i c.index-file-i.result c.loop-i-test.true c.index-file-i.is in
    let told = c.loop-i.invariant.told who are in
    let step = subst (λ (w : Option FoundFault). IsStep m who told.0 n (if is_object e.part then suc n else n) e rest c.loop-i.found w c.push_entry.new.found) c.in-Some.is (c.in_ok-wrong.ensures who told.0 rest are told.1) in
    sym told.2 ∙ ap (λ es. reference_fault_from m who n told.0 (objects es)) here ∙ step

pub loop-i-preserved : goal.loop-i-preserved
loop-i-preserved c =
    let m = c.args.sketch.now in
    let rest = entries_of (drop (c.loop-i.i + 1) c.args.file.now) in
    let e = entry_of c.index-file-i.result in
    let n = c.loop-i.number in
    let next = if is_object e.part then suc n else n in
    let here = left entry_of c.args.file.now c.loop-i.i c.index-file-i.result c.loop-i-test.true c.index-file-i.is in
    record {
      number = ap (λ k. k + objects_in rest) c.past-number.ensures ∙ counted_next n e rest ∙ ap (λ es. n + objects_in es) (sym here) ∙ c.loop-i.invariant.number;
      told = λ who are.
          let told = c.loop-i.invariant.told who are in
          let step = subst (λ (w : Option FoundFault). IsStep m who told.0 n next e rest c.loop-i.found w c.push_entry.new.found) c.in_default.is (c.in_ok-wrong.ensures who told.0 rest are told.1) in (
            step.0,
            step.1,
            ap (λ k. reference_fault_from m who k step.0 (objects rest)) c.past-number.ensures
                ∙ sym step.2 ∙ ap (λ es. reference_fault_from m who n told.0 (objects es)) (sym here) ∙ told.2,
            ap (λ k. links_in c.push_entry.new.found.links.items ++ links_from m who k (objects rest)) c.past-number.ensures
                ∙ step.3 ∙ ap (λ es. links_in c.loop-i.found.links.items ++ links_from m who n (objects es)) (sym here) ∙ told.3,
          );
    }

pub returns : goal.returns
returns c = λ who are.
    let m = c.args.sketch.now in
    let told = c.loop-i.invariant.told who are in
    let none : drop c.loop-i.i c.args.file.now ≡ [] = drop_all c.loop-i.i c.args.file.now c.loop-i-test.false in (
      sym told.2 ∙ ap (λ (es : List CodeEntry). reference_fault_from m who c.loop-i.number told.0 (objects (entries_of es))) none,
      sym (append-nil (links_in c.loop-i.found.links.items))
          ∙ ap (λ (es : List CodeEntry). links_in c.loop-i.found.links.items ++ links_from m who c.loop-i.number (objects (entries_of es))) (sym none)
          ∙ told.3,
    )
