use Rattle.std.proofs.Common.{sym, subst}
use Rattle.std.specs.Prelude.{Bool, if◌then◌else◌}
use Rattle.ecore_meta.specs.Valid.{IsMetamodel}
use Rattle.ecore_meta.specs.declared.parts.Parts.{Parts}
use Rattle.xmi_links.specs.Found.{link_in}
use Rattle.xmi_links.specs.Stages.{IsCross, IsReached, with_link}
use Rattle.xmi_links.proofs.Steps.{on_ok}
use Rattle.xmi_links.proofs.joined.push_named.Goals as goal

pub returns-then-is_contained_by : goal.returns-then-is_contained_by
returns-then-is_contained_by c = λ file R valid same reference at.
    subst (λ (b : Bool). IsReached c.args.meta.now file (if b then R else with_link (link_in c.args.link) R) c.args.sketch.now c.args.pairs.now) c.if-is_contained_by.ensures at

pub returns : goal.returns
returns c = on_ok c.push_once.result
    (λ h file R valid same reference at.
    subst (λ (b : Bool). IsReached c.args.meta.now file (if b then R else with_link (link_in c.args.link) R) c.push_once.new.sketch c.push_once.new.pairs) c.if-is_contained_by.ensures
    (subst (λ (meta : Parts). IsMetamodel meta → IsCross meta c.args.link.by → IsReached meta file R c.args.sketch.now c.args.pairs.now → IsReached meta file (with_link (link_in c.args.link) R) c.push_once.new.sketch c.push_once.new.pairs) same
    (h file R) valid (sym c.if-is_contained_by.ensures, reference.0, reference.1) at))
    c.push_once.ensures
