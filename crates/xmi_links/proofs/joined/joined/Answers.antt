use Rattle.std.proofs.Common.{◌∙◌}
use Rattle.ecore_meta.specs.declared.parts.Parts.{Parts}
use Rattle.xmi_models.specs.Entries.{entries_of}
use Rattle.xmi_links.specs.Found.{links_in}
use Rattle.xmi_links.specs.Stages.{IsReached, all_back, all_named, nothing}
use Rattle.xmi_links.proofs.Containing.{contained_all}
use Rattle.xmi_links.proofs.Joining.{joined_is}
use Rattle.xmi_links.proofs.joined.joined.Goals as goal

pub returns : goal.returns
returns c =
    let meta : Parts = c.args.meta.now in
    let file = entries_of c.args.file.now in
    let links = links_in c.args.links.now in
    let valid = c.parts.ensures.valid in
    let begun : IsReached meta file nothing c.push_containers.new.sketch c.no_pairs-pairs.result =
    record {
      reached = c.in_ok-push_containers.ensures valid c.requires.drafted ∙ contained_all meta valid file;
      known = λ o f p cross. c.no_pairs-pairs.ensures o.0 f.0 p;
    } in
    let named : IsReached meta file (all_named meta links nothing) c.push_all_named.new.sketch c.push_all_named.new.pairs =
    c.in_ok-push_all_named.ensures file nothing valid c.requires.references begun in
    let back : IsReached meta file (all_back meta links (all_named meta links nothing)) c.push_all_back.new.sketch c.push_all_back.new.pairs =
    c.in_ok-push_all_back.ensures file (all_named meta links nothing) valid c.requires.references named in
    back.reached ∙ joined_is meta file links
