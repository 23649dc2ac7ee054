use Rattle.std.proofs.Common.{[], List, get_or, map, ap, ◌∙◌}
use Rattle.std.specs.Prelude.{filter_map}
use Rattle.std.proofs.lemmas.List.{get_or_default, map-append}
use Rattle.std.proofs.lemmas.List.Elements.{filter_map-append}
use Rattle.xmi_links.specs.declared.tokens.Named.TheVariants as code
use Rattle.xmi_links.specs.declared.references.Token.{Token as CodeToken}
use Rattle.xmi_links.specs.References.{Token, link, object_named}
use Rattle.xmi_links.specs.Found.{links_in, token_in}
use Rattle.xmi_links.proofs.Steps.{grown}
use Rattle.xmi_links.proofs.links.links_of_tokens.Goals as goal

abbrev none : CodeToken
none = record { text = record { ref_ptr = (0, 0); now = [] }; named = code.Object (record { 0 = 0 }) }

pub loop-i-preserved : goal.loop-i-preserved
loop-i-preserved c =
    let named = λ (t : Token). object_named t.named in
    let says = link c.args.from c.args.by in
    let F = λ (ts : List CodeToken). map says (filter_map named (map token_in ts)) in
    let here : CodeToken = get_or c.args.tokens.now c.loop-i.i none in
    grown F
    (λ xs ys. ap (λ l. map says (filter_map named l)) (map-append token_in xs ys) ∙ ap (map says) (filter_map-append named (map token_in xs) (map token_in ys)) ∙ map-append says (filter_map named (map token_in xs)) (filter_map named (map token_in ys)))
    c.args.tokens.now c.loop-i.i here c.loop-i-test.true (get_or_default c.args.tokens.now c.loop-i.i none here c.loop-i-test.true)
    [] (links_in c.loop-i.links.items) (links_in c.push_token.new.links.items) c.loop-i.invariant c.in_ok-push_token.ensures
