use Rattle.std.proofs.Common.{sym, ap, ◌∙◌}
use Rattle.std.specs.Prelude.{bytes_eq, find}
use Rattle.std.specs.Option.{option_copied}
use Rattle.doc_text.specs.declared.tree.Prefix.{Prefix}
use Rattle.xmi_text.specs.Scopes.{declared_of}
use Rattle.xmi_models.specs.Scopes.{scope_of}
use Rattle.xmi_models.proofs.Scopes.{own_found, outer_found}
use Rattle.xmi_models.proofs.scope.+declared.Goals as goal

pub returns-in-Some : goal.returns-in-Some
returns-in-Some t c =
    let p = λ (d : Prefix). bytes_eq d.prefix c.args.prefix.now in
    sym (ap (λ s. find p (scope_of s)) c.in-Within.is
    ∙ own_found p (declared_of c.in-Within.own) (scope_of c.in-Within.outer.now) c.in-Some.found.now (sym c.declared_in.ensures ∙ ap option_copied c.in-Some.is))

pub returns-in-None : goal.returns-in-None
returns-in-None t c =
    let p = λ (d : Prefix). bytes_eq d.prefix c.args.prefix.now in
    c.declared.ensures
    ∙ sym (ap (λ s. find p (scope_of s)) c.in-Within.is
    ∙ outer_found p (declared_of c.in-Within.own) (scope_of c.in-Within.outer.now) (sym c.declared_in.ensures ∙ ap option_copied c.in-None.is))
