use Rattle.std.proofs.Common.{◌++◌, ◌∷◌, []}
use Rattle.std.proofs.lemmas.List.{map_push}
use Rattle.std.proofs.lemmas.List.Elements.{All-push, All-same}
use Rattle.std.proofs.Common.{ap, ◌∙◌}
use Rattle.xmi_links.specs.declared.references.Reference.{Reference as CodeReference}
use Rattle.xmi_links.specs.Found.{AreTexts, reference_in, references_in}
use Rattle.xmi_links.proofs.references.push_reference.Goals as goal

pub returns-in_ok-push-in-Some-clause-texts : goal.returns-in_ok-push-in-Some-clause-texts
returns-in_ok-push-in-Some-clause-texts c = λ h.
    let r : CodeReference = record { source = c.args.source; feature = c.in-Some.feature; tokens = c.in_ok-tokens-in-Some.tokens } in
    let old = references_in c.args.references.now.items in
    All-same AreTexts (references_in c.push.new.self.items) (old ++ reference_in r ∷ [])
    (ap references_in c.in_ok-push-in-Some.ensures.items ∙ map_push reference_in c.args.references.now.items r)
    (All-push AreTexts old (reference_in r) h c.in_ok-tokens-in-Some.ensures.texts)
