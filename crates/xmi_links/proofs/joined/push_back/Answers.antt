use Rattle.std.proofs.Common.{◌≡◌, sym, ap, subst, ◌∙◌}
use Rattle.std.specs.Prelude.{Bool, Option, if◌then◌else◌}
use Rattle.std.specs.Option.{option_map_or}
use Rattle.atl_base.specs.declared.numbers.FeatId.{FeatId}
use Rattle.ecore_meta.specs.Valid.{IsMetamodel}
use Rattle.ecore_meta.specs.declared.parts.Parts.{Parts}
use Rattle.model_store.specs.Contents.{contains}
use Rattle.xmi_links.specs.References.{Link, link}
use Rattle.xmi_links.specs.Found.{link_in}
use Rattle.xmi_links.specs.Stages.{IsCross, IsReached, Referred, back_by, with_link}
use Rattle.xmi_links.proofs.Crossing.{turned_cross}
use Rattle.xmi_links.proofs.Steps.{on_ok}
use Rattle.xmi_links.proofs.joined.push_back.Goals as goal

pub returns : goal.returns
returns c = on_ok c.push_once.result
    (λ h file R valid same reference at.
    let meta : Parts = c.args.meta.now in
    let by : FeatId = c.in-Some.by in
    let turned : Link = link c.args.link.to by c.args.link.from in
    let comes : IsReached meta file (with_link turned R) c.push_once.new.sketch c.push_once.new.pairs =
    subst (λ (m : Parts). IsMetamodel m → IsCross m by → IsReached m file R c.args.sketch.now c.args.pairs.now → IsReached m file (with_link turned R) c.push_once.new.sketch c.push_once.new.pairs) same
    (h file R) valid (turned_cross meta valid c.args.link.by by (sym c.in-Some.ensures) reference (sym c.if-contains.ensures)) at in
    let is : with_link turned R ≡ back_by meta (link_in c.args.link) R =
    ap (λ (b : Bool). let S : Referred = if b then R else with_link turned R in S) c.if-contains.ensures
    ∙ ap (λ (g : Option FeatId). option_map_or (λ g. if contains meta g then R else with_link (link c.args.link.to g c.args.link.from) R) g R) c.in-Some.ensures in
    subst (λ (S : Referred). IsReached meta file S c.push_once.new.sketch c.push_once.new.pairs) is comes)
    c.push_once.ensures
