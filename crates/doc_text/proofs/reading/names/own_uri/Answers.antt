use Rattle.std.proofs.Common.{get_or, ap, sym, ◌∙◌, Some}
use Rattle.doc_text.specs.Declarations.{first_of}
use Rattle.doc_text.proofs.Declared.{uri_of_first, uri_undeclared}
use Rattle.doc_text.proofs.reading.names.own_uri.Goals as goal

pub returns-in-Some : goal.returns-in-Some
returns-in-Some c = λ outer.
    let pairs = c.args.pairs.now in
    uri_of_first c.args.prefix.now pairs c.index-as_slice-place.result c.in-Some.place outer (c.in-Some.ensures.place ∙ ap (λ p. first_of p pairs) c.as_str.ensures.text)
    ∙ ap (λ l. Some (get_or l c.in-Some.place c.index-as_slice-place.result).value) (sym c.as_slice.ensures)

pub returns-in-None : goal.returns-in-None
returns-in-None c = λ outer.
    uri_undeclared c.args.prefix.now c.args.pairs.now outer (c.in-None.ensures.place ∙ ap (λ p. first_of p c.args.pairs.now) c.as_str.ensures.text)
