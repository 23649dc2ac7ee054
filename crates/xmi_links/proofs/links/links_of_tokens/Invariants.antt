use Rattle.std.proofs.Common.{◌≡◌, take, map}
use Rattle.std.specs.Prelude.{filter_map}
use Rattle.xmi_links.specs.References.{link, object_named}
use Rattle.xmi_links.specs.Found.{links_in, token_in}
use Rattle.xmi_links.proofs.links.links_of_tokens.Given as goal

-- the links so far
abbrev pub invariant-loop-i : goal.invariant-loop-i
invariant-loop-i l = links_in l.links.items ≡ map (link l.from l.by) (filter_map (λ t. object_named t.named) (map token_in (take l.i l.tokens)))
