use Rattle.std.proofs.Common.{sym, ap, ◌∙◌}
use Rattle.std.specs.Prelude.{if◌then◌else◌}
use Rattle.xmi_models.specs.Outline.{Around, Root, class_named, part_of}
use Rattle.xmi_models.specs.Scopes.{scope_of}
use Rattle.xmi_models.specs.Entries.{tag_of, where_in}
use Rattle.xmi_models.proofs.outline.part_of.Goals as goal

pub returns-else-is_around : goal.returns-else-is_around
returns-else-is_around c =
    let t = tag_of c.args.element.now in
    c.root_part.ensures (scope_of c.args.scope.now)
    ∙ sym (ap (λ w. part_of c.args.meta.now (where_in w) (scope_of c.args.scope.now) t) c.in-AtRoot.is
    ∙ ap (λ b. if b then Around else Root (class_named c.args.meta.now t.space t.name)) (sym c.is_around.ensures ∙ c.if-is_around.false))

pub returns-in-InAround : goal.returns-in-InAround
returns-in-InAround c =
    c.root_part-in-InAround.ensures (scope_of c.args.scope.now)
    ∙ sym (ap (λ w. part_of c.args.meta.now (where_in w) (scope_of c.args.scope.now) (tag_of c.args.element.now)) c.in-InAround.is)
