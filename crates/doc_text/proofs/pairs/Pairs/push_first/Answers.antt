use Rattle.std.proofs.Common.{◌≡◌, ap, sym, ◌∙◌, Some, string_bytes}
use Rattle.std.specs.Prelude.{if◌then◌else◌, bytes_eq}
use Rattle.doc_text.specs.Declarations.{first_of}
use Rattle.doc_text.proofs.Declared.{declared_more, taken_again}
use Rattle.doc_text.proofs.pairs.Pairs.push_first.Goals as goal

pub invariant_of-self-in-Ok : goal.invariant_of-self-in-Ok
invariant_of-self-in-Ok c = λ q.
    let prefix = string_bytes c.args.prefix in
    let items = c.self.inside.items in
    let whole : c.args.self.now ≡ items = cc in
    c.in-Ok.ensures.ok q ∙ ap (λ r. if bytes_eq prefix q then Some c.len-place.result else r) (c.self.invariant q)
    ∙ declared_more q prefix items c.args.pair c.len-place.result c.requires.declares.0 (sym c.requires.declares.1) (sym (ap (first_of prefix) whole) ∙ c.requires.first) c.len-place.ensures
    ∙ ap (first_of q) (sym c.in_ok-push.ensures.ok)

pub invariant_of-self-in-Err : goal.invariant_of-self-in-Err
invariant_of-self-in-Err c = λ q.
    c.in-Err.ensures.err q ∙ c.self.invariant q
    ∙ ap (first_of q) (sym (taken_again c.push.new.self c.pop.new.self c.self.inside.items c.args.pair c.pop.result c.in_ok-push.ensures.ok c.pop.ensures))

pub returns-in-Err-clause-err : goal.returns-in-Err-clause-err
returns-in-Err-clause-err c =
    let whole : c.self.inside.items ≡ c.args.self.now = cc in
    taken_again c.push.new.self c.pop.new.self c.self.inside.items c.args.pair c.pop.result c.in_ok-push.ensures.ok c.pop.ensures ∙ whole
