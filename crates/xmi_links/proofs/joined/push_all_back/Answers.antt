use Rattle.std.proofs.Common.{◌≡◌, List, get_or, sym, ap, subst, ◌∙◌}
use Rattle.std.proofs.lemmas.List.{get_or_default, drop_all}
use Rattle.ecore_meta.specs.declared.parts.Parts.{Parts}
use Rattle.model_store.specs.Contents.{Contents}
use Rattle.xmi_links.specs.declared.links.Link.{Link as CodeLink}
use Rattle.xmi_links.specs.References.{Link}
use Rattle.xmi_links.specs.Found.{link_in, links_in}
use Rattle.xmi_links.specs.Stages.{IsReached, IsReference, Referred, all_back, back_by}
use Rattle.xmi_links.proofs.Finding.{holds_at}
use Rattle.xmi_links.proofs.Steps.{left}
use Rattle.xmi_links.proofs.joined.push_all_back.Goals as goal

abbrev none : CodeLink
none = record { from = record { 0 = 0 }; by = record { 0 = 0 }; to = record { 0 = 0 } }

pub loop-i-preserved : goal.loop-i-preserved
loop-i-preserved c = λ file R valid references at.
    let meta : Parts = c.args.meta.now in
    let here : CodeLink = get_or c.args.links.now c.loop-i.i none in
    let is : here ≡ get_or c.args.links.now c.loop-i.i here = get_or_default c.args.links.now c.loop-i.i none here c.loop-i-test.true in
    let before = c.loop-i.invariant file R valid references at in
    let same : c.loop-i.sketch.meta ≡ meta = ap (λ (m : Contents). m.meta) before.1.reached in
    let step = c.in_ok-push_back.ensures file before.0 valid same (holds_at link_in (IsReference meta) c.args.links.now c.loop-i.i here references c.loop-i-test.true is) before.1 in (
      back_by meta (link_in here) before.0,
      step,
      ap (λ (ls : List Link). all_back meta ls before.0) (sym (left link_in c.args.links.now c.loop-i.i here c.loop-i-test.true is)) ∙ before.2,
    )

pub returns : goal.returns
returns c = λ file R valid references at.
    let meta : Parts = c.args.meta.now in
    let before = c.loop-i.invariant file R valid references at in
    let all : before.0 ≡ all_back meta (links_in c.args.links.now) R =
    ap (λ (ls : List CodeLink). all_back meta (links_in ls) before.0) (sym (drop_all c.loop-i.i c.args.links.now c.loop-i-test.false)) ∙ before.2 in
    subst (λ (S : Referred). IsReached meta file S c.loop-i.sketch c.loop-i.pairs) all before.1
