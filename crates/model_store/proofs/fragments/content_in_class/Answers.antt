use Rattle.std.proofs.Common.{sym, ap, ◌∙◌, lit<}
use Rattle.std.specs.Option.{option_and_then}
use Rattle.model_store.specs.Paths.{content_feature, single_content}
use Rattle.model_store.proofs.Cuts.{single_step}
use Rattle.model_store.proofs.fragments.content_in_class.Goals as goal

pub returns-in_ok-content_feature-in-None : goal.returns-in_ok-content_feature-in-None
returns-in_ok-content_feature-in-None c =
    let m = c.args.model.now in
    let past = c.in-None.ensures.byte (lit< tt) (λ w o h. h) in
    c.single_content.ensures
    ∙ ap (option_and_then (single_content m c.args.o)) (c.in_ok-content_feature-in-None.ensures ∙ ap (λ meta. content_feature meta c.args.class c.args.text.now) (c.deref-in-None.ensures ∙ c.meta-in-None.ensures))
    ∙ sym (single_step m c.args.o c.args.text.now c.args.class past)
