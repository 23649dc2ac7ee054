use Rattle.std.proofs.Common.{◌++◌, ◌+◌, sym, ap, ◌∙◌, append_assoc, add-one}
use Rattle.xmi_models.specs.Faults.{objects}
use Rattle.xmi_models.specs.Entries.{entry_of, object_no}
use Rattle.xmi_links.specs.Found.{element_ids, ids_from, ids_in}
use Rattle.xmi_links.proofs.Counting.{one_more, none_more, counted_more, counted_same}
use Rattle.xmi_links.proofs.ids.push_entry_ids.Goals as goal

pub returns-then-is_object-clause-ids : goal.returns-then-is_object-clause-ids
returns-then-is_object-clause-ids c = λ rest.
    let m = c.args.sketch.now in
    let n = c.args.number in
    let e = entry_of c.args.entry.now in
    let old = ids_in c.args.ids.now.items in
    ap (λ l. l ++ ids_from m (n + 1) (objects rest)) (c.in_ok-push_ids.ensures ∙ ap (λ o. old ++ element_ids m o e) c.object_no.ensures)
    ∙ append_assoc old (element_ids m (object_no n) e) (ids_from m (n + 1) (objects rest))
    ∙ ap (λ k. old ++ (element_ids m (object_no n) e ++ ids_from m k (objects rest))) (add-one n)
    ∙ ap (λ es. old ++ ids_from m n es) (sym (one_more e rest (sym c.if-is_object.true ∙ c.is_object.ensures)))

pub returns-then-is_object-clause-number : goal.returns-then-is_object-clause-number
returns-then-is_object-clause-number c = λ rest. counted_more (entry_of c.args.entry.now) rest c.args.number (sym c.if-is_object.true ∙ c.is_object.ensures)

pub returns-clause-ids : goal.returns-clause-ids
returns-clause-ids c = λ rest. ap (λ es. ids_in c.args.ids.now.items ++ ids_from c.args.sketch.now c.args.number es) (sym (none_more (entry_of c.args.entry.now) rest (sym c.if-is_object.false ∙ c.is_object.ensures)))

pub returns-clause-number : goal.returns-clause-number
returns-clause-number c = λ rest. counted_same (entry_of c.args.entry.now) rest c.args.number (sym c.if-is_object.false ∙ c.is_object.ensures)
