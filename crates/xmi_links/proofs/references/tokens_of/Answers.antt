use Rattle.std.proofs.Common.{List, ℕ, Bor, map, sym, ap, ◌∙◌}
use Rattle.xmi_text.proofs.Lists.{map-map}
use Rattle.xmi_links.specs.References.{token_of}
use Rattle.xmi_links.proofs.Steps.{if_ok}
use Rattle.xmi_links.proofs.references.tokens_of.Goals as goal

pub returns-clause-tokens : goal.returns-clause-tokens
returns-clause-tokens c = if_ok c.named_words.result
    (λ tokens h who are. h who are
    ∙ sym (map-map (token_of c.args.sketch.now who) (λ (w : Bor (List ℕ)). w.now) c.deref.result.now)
    ∙ ap (λ (ws : List (Bor (List ℕ))). map (token_of c.args.sketch.now who) (map (λ (w : Bor (List ℕ)). w.now) ws)) c.deref.ensures.value
    ∙ ap (map (token_of c.args.sketch.now who)) c.in_ok-words.ensures)
    c.named_words.ensures.tokens
