use Rattle.std.proofs.Common.{◌+◌, ◌++◌, ◌∷◌, Some, None, map, drop, refl, sym, ap, ◌∙◌, append-nil}
use Rattle.std.proofs.lemmas.List.{drop_more}
use Rattle.xmi_text.specs.Scopes.{declared_of}
use Rattle.xmi_models.specs.Outline.{walk_all, walk_child}
use Rattle.xmi_models.specs.Scopes.{scope_of}
use Rattle.xmi_models.specs.Entries.{entries_of, part_in, where_in, maybe_where}
use Rattle.xmi_models.proofs.Walking.{on_ok, on_ok_both, pushed, child_pushed, passed_over, text_over}
use Rattle.xmi_models.proofs.outline.+walk.Goals as goal

pub push_child-returns-then-is_passed-clause-entries : goal.push_child-returns-then-is_passed-clause-entries
push_child-returns-then-is_passed-clause-entries t c = λ bs.
    let m = c.args.meta.now in
    let w = where_in c.args.at in
    let s = scope_of c.args.scope.now in
    let n = c.args.out.now.objects in
    let old = entries_of c.args.out.now.entries.items in
    sym (ap (λ k. old ++ walk_all m w s n (walk_child m k ∷ bs)) c.in-Sub.is
    ∙ ap (λ l. old ++ l) (passed_over m w s n c.in-Sub.element bs (sym c.is_passed.ensures ∙ c.if-is_passed.true)))

pub push_child-returns-else-is_passed-clause-entries : goal.push_child-returns-else-is_passed-clause-entries
push_child-returns-else-is_passed-clause-entries t c =
    let m = c.args.meta.now in
    let w = where_in c.args.at in
    let s = scope_of c.args.scope.now in
    let n = c.args.out.now.objects in
    let old = entries_of c.args.out.now.entries.items in
    on_ok_both c.push_element.result
    (λ is counted bs. child_pushed m w s n c.push_element.new.out.objects c.in-Sub.element old (entries_of c.push_element.new.out.entries.items) c.requires counted is (sym c.is_passed.ensures ∙ c.if-is_passed.false) bs
    ∙ ap (λ k. old ++ walk_all m w s n (walk_child m k ∷ bs)) (sym c.in-Sub.is))
    c.push_element.ensures.entries c.push_element.ensures.counted

pub push_child-returns-in-Words-clause-entries : goal.push_child-returns-in-Words-clause-entries
push_child-returns-in-Words-clause-entries t c = λ bs.
    let m = c.args.meta.now in
    let w = where_in c.args.at in
    let s = scope_of c.args.scope.now in
    let n = c.args.out.now.objects in
    let old = entries_of c.args.out.now.entries.items in
    sym (ap (λ k. old ++ walk_all m w s n (walk_child m k ∷ bs)) c.in-Words.is ∙ ap (λ l. old ++ l) (text_over m w s n c.in-Words.field-0 bs))

pub push_element-returns-in-Some-clause-entries : goal.push_element-returns-in-Some-clause-entries
push_element-returns-in-Some-clause-entries t c =
    on_ok c.push_children.result
    (λ is. is ∙ pushed c.args.meta.now c.args.element.now (where_in c.args.at) (scope_of c.args.outer.now) c.args.out.now.objects c.push_entry.new.out.objects
    (declared_of c.declared_by.result) c.as_slice.result.now (part_in c.part_of-part.result) (Some (where_in c.in-Some.inner)) (entries_of c.args.out.now.entries.items) (entries_of c.push_entry.new.out.entries.items)
    c.declared_by.ensures c.as_slice.ensures c.part_of-part.ensures (sym (ap maybe_where c.in-Some.is) ∙ c.inside.ensures) c.in_ok-push_entry.ensures.entries c.in_ok-push_entry.ensures.objects)
    c.push_children.ensures.entries

pub push_element-returns-in-None-clause-entries : goal.push_element-returns-in-None-clause-entries
push_element-returns-in-None-clause-entries t c =
    sym (append-nil (entries_of c.push_entry.new.out.entries.items))
    ∙ pushed c.args.meta.now c.args.element.now (where_in c.args.at) (scope_of c.args.outer.now) c.args.out.now.objects c.push_entry.new.out.objects
    (declared_of c.declared_by.result) c.args.element.now.children (part_in c.part_of-part.result) None (entries_of c.args.out.now.entries.items) (entries_of c.push_entry.new.out.entries.items)
    c.declared_by.ensures refl c.part_of-part.ensures (sym (ap maybe_where c.in-None.is) ∙ c.inside.ensures) c.in_ok-push_entry.ensures.entries c.in_ok-push_entry.ensures.objects

pub push_children-loop-i-preserved : goal.push_children-loop-i-preserved
push_children-loop-i-preserved t c =
    let m = c.args.meta.now in
    let w = where_in c.args.at in
    let s = scope_of c.args.scope.now in
    let cs = c.args.children.now in
    let i = c.loop-i.i in
    let here = c.index-children-i.result in
    record {
      told = c.in_ok-push_child.ensures.entries (map (walk_child m) (drop (i + 1) cs))
          ∙ ap (λ l. entries_of c.loop-i.out.entries.items ++ walk_all m w s c.loop-i.out.objects (map (walk_child m) l))
          (ap (λ x. x ∷ drop (i + 1) cs) c.index-children-i.is ∙ sym (drop_more cs i here c.loop-i-test.true))
          ∙ c.loop-i.invariant.told;
      counted = c.in_ok-push_child.ensures.counted;
    }
