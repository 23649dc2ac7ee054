use Rattle.std.proofs.Common.{◌≡◌, ap, ◌∙◌}
use Rattle.doc_text.specs.Declarations.{first_of}
use Rattle.doc_text.proofs.Declared.{place_within}
use Rattle.doc_text.proofs.pairs.Pairs.first_of.Goals as goal

pub returns-clause-within : goal.returns-clause-within
returns-clause-within c =
    let whole : c.self.inside.items ≡ c.args.self.now = cc in
    place_within c.args.prefix.now c.args.self.now c.place_in.result (c.place_in.ensures ∙ c.self.invariant c.args.prefix.now ∙ ap (first_of c.args.prefix.now) whole)
