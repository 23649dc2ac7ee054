use Rattle.std.proofs.Common.{◌≡◌, ◌++◌, map, drop}
use Rattle.xmi_models.specs.Outline.{walk_all, walk_child}
use Rattle.xmi_models.specs.Scopes.{scope_of}
use Rattle.xmi_models.specs.Entries.{IsCounted, entries_of, where_in}
use Rattle.xmi_models.proofs.outline.+walk.Given as goal

-- what is to come from the children that are left completes the outline
abbrev pub invariant-push_children-loop-i : goal.invariant-push_children-loop-i
invariant-push_children-loop-i l = record {
  told : entries_of l.out.entries.items ++ walk_all l.meta (where_in l.at) (scope_of l.scope) l.out.objects (map (walk_child l.meta) (drop l.i l.children))
      ≡ entries_of l.fn.out.entries.items ++ walk_all l.meta (where_in l.at) (scope_of l.scope) l.fn.out.objects (map (walk_child l.meta) l.children);
  counted : IsCounted l.out;
}
