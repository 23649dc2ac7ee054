use Rattle.std.proofs.Common.{◌+◌, ◌++◌, get_or, take, drop, sym, subst}
use Rattle.std.specs.Prelude.{true, false, flat_map}
use Rattle.std.proofs.lemmas.List.{get_or_default}
use Rattle.xmi_links.specs.declared.links.Link.{Link as CodeLink}
use Rattle.xmi_links.specs.References.{both_ways}
use Rattle.xmi_links.specs.Found.{IsGiven, link_in, links_in}
use Rattle.xmi_links.proofs.EndTables.{given_then, given_stop}
use Rattle.xmi_links.proofs.Steps.{single_more, whole_cut}
use Rattle.xmi_links.proofs.links.give_all.Goals as goal

abbrev none : CodeLink
none = record { from = record { 0 = 0 }; by = record { 0 = 0 }; to = record { 0 = 0 } }

pub returns-then-branch : goal.returns-then-branch
returns-then-branch c =
    let meta = c.args.meta.now in
    let here : CodeLink = get_or c.args.links.now c.loop-i.i none in
    let before = flat_map (both_ways meta) (links_in (take c.loop-i.i c.args.links.now)) in
    let rest = flat_map (both_ways meta) (links_in (drop (c.loop-i.i + 1) c.args.links.now)) in
    let clash : IsGiven meta c.loop-i.ends (both_ways meta (link_in here)) true c.clashes.new.ends =
    subst (λ b. IsGiven meta c.loop-i.ends (both_ways meta (link_in here)) b c.clashes.new.ends) c.if-branch.true c.in_ok-clashes.ensures in
    subst (λ l. IsGiven meta c.args.ends.now l true c.clashes.new.ends)
    (sym (whole_cut (both_ways meta) link_in c.args.links.now c.loop-i.i here c.loop-i-test.true (get_or_default c.args.links.now c.loop-i.i none here c.loop-i-test.true)))
    (given_stop meta c.args.ends.now c.clashes.new.ends (before ++ both_ways meta (link_in here)) rest
    (given_then meta c.args.ends.now c.loop-i.ends c.clashes.new.ends before (both_ways meta (link_in here)) true c.loop-i.invariant clash))

pub loop-i-preserved : goal.loop-i-preserved
loop-i-preserved c =
    let meta = c.args.meta.now in
    let here : CodeLink = get_or c.args.links.now c.loop-i.i none in
    let before = flat_map (both_ways meta) (links_in (take c.loop-i.i c.args.links.now)) in
    let clash : IsGiven meta c.loop-i.ends (both_ways meta (link_in here)) false c.clashes.new.ends =
    subst (λ b. IsGiven meta c.loop-i.ends (both_ways meta (link_in here)) b c.clashes.new.ends) c.if-branch.false c.in_ok-clashes.ensures in
    subst (λ l. IsGiven meta c.args.ends.now l false c.clashes.new.ends)
    (sym (single_more (both_ways meta) link_in c.args.links.now c.loop-i.i here c.loop-i-test.true (get_or_default c.args.links.now c.loop-i.i none here c.loop-i-test.true)))
    (given_then meta c.args.ends.now c.loop-i.ends c.clashes.new.ends before (both_ways meta (link_in here)) false c.loop-i.invariant clash)
