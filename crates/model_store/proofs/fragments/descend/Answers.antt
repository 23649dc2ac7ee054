use Rattle.std.proofs.Common.{sym, ap, ◌∙◌, lit<, rules}
use Rattle.std.proofs.lemmas.Option.{MatchOption-at_none}
use Rattle.model_store.specs.Paths.{descend, parts_of}
use Rattle.model_store.proofs.Cuts.{down, bottom}
use Rattle.model_store.proofs.fragments.descend.Goals as goal

pub returns-in_err-o : goal.returns-in_err-o
returns-in_err-o c =
    let m = c.args.model.now in
    let cut = c.in-Some.ensures.byte (lit< tt) (λ w o h. h) in
    c.from_residual.ensures
    ∙ ap (λ x. descend m x (parts_of c.in-Some.more.now)) c.in_err-o.ensures
    ∙ sym (down m c.down.o c.down.rest.now c.in-Some.part.now c.in-Some.more.now cut.2 cut.0 cut.1)
    ∙ c.down.invariant.same

pub down-preserved : goal.down-preserved
down-preserved c =
    let m = c.args.model.now in
    let cut = c.in-Some.ensures.byte (lit< tt) (λ w o h. h) in
    record {
      text = search rules;
      same = ap (λ x. descend m x (parts_of c.in-Some.more.now)) c.in_ok-o.ensures
          ∙ sym (down m c.down.o c.down.rest.now c.in-Some.part.now c.in-Some.more.now cut.2 cut.0 cut.1)
          ∙ c.down.invariant.same;
    }

pub returns : goal.returns
returns c =
    let past = MatchOption-at_none _ _ c.in_default.is (c.split_once.ensures.byte (lit< tt) (λ w o h. h)) in
    c.content_named-2.ensures ∙ sym (bottom c.args.model.now c.down.o c.down.rest.now past) ∙ c.down.invariant.same
