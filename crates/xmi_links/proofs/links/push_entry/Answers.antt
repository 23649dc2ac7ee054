use Rattle.std.proofs.Common.{◌≡◌, None, Option, sym, subst, ap, ◌∙◌}
use Rattle.atl_base.specs.declared.numbers.ObjId.{ObjId}
use Rattle.xmi_models.specs.Entries.{entry_of}
use Rattle.xmi_models.specs.Faults.{Fault}
use Rattle.xmi_models.specs.FoundFaults.{fault_in}
use Rattle.xmi_links.specs.Found.{links_in}
use Rattle.xmi_links.specs.Linking.{IsLinkedAt}
use Rattle.xmi_links.proofs.Following.{after, fault_here, none_here, links_here}
use Rattle.xmi_links.proofs.links.push_entry.Goals as goal

pub returns-in-Some : goal.returns-in-Some
returns-in-Some c = λ who before rest are ends.
    let m = c.args.sketch.now in
    let e = entry_of c.args.entry.now in
    let n = c.args.number in
    let linked : IsLinkedAt m who before (record { 0 = n }) e c.args.found.now (fault_in c.in_ok-fault.field-0) c.push_element.new.found =
    subst (λ (o : ObjId). IsLinkedAt m who before o e c.args.found.now (fault_in c.in_ok-fault.field-0) c.push_element.new.found) c.object_no.ensures (c.in_ok-fault.ensures who before are ends) in
    fault_here m who before n e rest c.if-not-is_object.ensures _ (sym (ap fault_in c.in-Some.is) ∙ linked.0)

pub returns-in-None : goal.returns-in-None
returns-in-None c = λ who before rest are ends.
    let m = c.args.sketch.now in
    let e = entry_of c.args.entry.now in
    let n = c.args.number in
    let linked : IsLinkedAt m who before (record { 0 = n }) e c.args.found.now (fault_in c.in_ok-fault.field-0) c.push_element.new.found =
    subst (λ (o : ObjId). IsLinkedAt m who before o e c.args.found.now (fault_in c.in_ok-fault.field-0) c.push_element.new.found) c.object_no.ensures (c.in_ok-fault.ensures who before are ends) in
    let none : ◌≡◌ {A = Option Fault} (fault_in c.in_ok-fault.field-0) None = ap fault_in c.in-None.is in
    let followed = linked.1 none in (
      after m who before n e rest,
      followed.ends,
      none_here m who before n e rest c.if-not-is_object.ensures (sym none ∙ linked.0),
      links_here m who before n e rest c.if-not-is_object.ensures (links_in c.args.found.now.links.items) (links_in c.push_element.new.found.links.items) followed.links,
    )
