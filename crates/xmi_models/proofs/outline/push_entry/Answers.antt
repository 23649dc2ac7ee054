use Rattle.std.proofs.Common.{◌+◌, sym, ap, ◌∙◌, add-zero, arith}
use Rattle.std.specs.Prelude.{if◌then◌else◌}
use Rattle.std.proofs.lemmas.List.{length-map}
use Rattle.xmi_models.specs.Outline.{objects_in}
use Rattle.xmi_models.specs.Entries.{entry_of, entries_of}
use Rattle.xmi_models.proofs.Walking.{counted_short, counted_push}
use Rattle.xmi_models.proofs.outline.push_entry.Goals as goal

pub overflow_add-out : goal.overflow_add-out
overflow_add-out c =
    omega (arith, counted_short (entries_of c.args.out.now.entries.items), length-map c.args.out.now.entries.items entry_of, c.requires)

pub returns-then-is_object-clause-counted : goal.returns-then-is_object-clause-counted
returns-then-is_object-clause-counted c =
    ap (λ n. n + 1) c.requires
    ∙ ap (λ b. objects_in (entries_of c.args.out.now.entries.items) + (if b then 1 else 0)) (sym c.if-is_object.true ∙ c.is_object.ensures)
    ∙ sym (ap (λ l. objects_in (entries_of l)) c.in_ok-push.ensures.items ∙ counted_push c.args.out.now.entries.items (record { part = c.args.part; element = c.args.element }))

pub returns-else-is_object-clause-counted : goal.returns-else-is_object-clause-counted
returns-else-is_object-clause-counted c =
    c.requires
    ∙ sym (add-zero (objects_in (entries_of c.args.out.now.entries.items)))
    ∙ ap (λ b. objects_in (entries_of c.args.out.now.entries.items) + (if b then 1 else 0)) (sym c.if-is_object.false ∙ c.is_object.ensures)
    ∙ sym (ap (λ l. objects_in (entries_of l)) c.in_ok-push.ensures.items ∙ counted_push c.args.out.now.entries.items (record { part = c.args.part; element = c.args.element }))
